use Rattle.order_laws.proofs.Replies.{trees-answer}
use Rattle.order_laws.proofs.laws.listings_answer_in_order.Goals as goal

pub returns : goal.returns
returns c = trees-answer
