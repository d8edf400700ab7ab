-- `multiple::multiple::put_multiple` meets its contract: the two loops put the keys and the coefficients of the multiple.
use Rattle.multiple.proofs.ProductLaws.{scalable, multiplied}
use Rattle.multiple.proofs.multiple.put_multiple.Goals as goal

pub put_scaled-requires : goal.put_scaled-requires
put_scaled-requires c = scalable c.requires

pub returns : goal.returns
returns c =
    multiplied c.requires _ c.put_products.ensures c.put_scaled.ensures
