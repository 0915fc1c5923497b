use Rattle.algebra_laws.proofs.Trees.{trees-list}
use Rattle.algebra_laws.proofs.listing.listings_answer_outcomes.Goals as goal

pub returns : goal.returns
returns c = λ tables tree env. trees-list tables tree env
