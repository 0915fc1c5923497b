use Rattle.algebra_laws.proofs.Replies.{replies-answer}
use Rattle.algebra_laws.proofs.listing.listings_answer_queries.Goals as goal

pub returns : goal.returns
returns c = replies-answer
