pub mod Parts
pub mod WideLaws
pub mod CompareLaws
pub mod NarrowLaws
pub mod WideKeyLaws
pub mod WideWordLaws
pub mod CodeLaws
pub mod ExponentLaws
