-- `listing::entry::listing` meets its contract.
use Rattle.listing.proofs.OutcomeLaws.{too_few, written}
use Rattle.listing.proofs.entry.listing.Goals as goal

pub returns-then-out-lt-LISTING_BYTES : goal.returns-then-out-lt-LISTING_BYTES
returns-then-out-lt-LISTING_BYTES c = too_few _ _ c.if-out-lt-LISTING_BYTES.true c.into.ensures

pub returns : goal.returns
returns c = written c.args.script.now c.if-out-lt-LISTING_BYTES.false c.put_listing.ensures
