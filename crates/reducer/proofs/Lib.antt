pub mod BeginLaws
pub mod TailLaws
pub mod DivideLaws
pub mod FirstLaws
pub mod LeadLaws
pub mod StepLaws
pub mod ReduceLaws
