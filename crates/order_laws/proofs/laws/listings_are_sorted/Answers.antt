use Rattle.order_laws.proofs.Replies.{trees-sorted}
use Rattle.order_laws.proofs.laws.listings_are_sorted.Goals as goal

pub returns : goal.returns
returns c = trees-sorted
