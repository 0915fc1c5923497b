use Rattle.operator_laws.proofs.LawLemmas.{kept-rows, inner_join-rows, left_join-rows}
use Rattle.operator_laws.proofs.operators.joins_are_filters_of_products.Goals as goal

pub returns : goal.returns
returns c = record { filter = kept-rows; inner = inner_join-rows; left = left_join-rows }
