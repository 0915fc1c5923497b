use Rattle.denote.specs.From.{kept_row}
use Rattle.denote.specs.Select.{shown_row}
use Rattle.operator_laws.proofs.LawLemmas.{each-orderless, through-same, product-same, inner_join-same}
use Rattle.operator_laws.proofs.Rows.{IfBoth-self, Each-self, left_join-agree, only-same, set_function-agree, count-agree, grouped-agree, set_operation-same}
use Rattle.operator_laws.proofs.Same.{IsSameValue-refl}
use Rattle.operator_laws.specs.Same.{Agree, AgreeOnGroups}
use Rattle.operator_laws.proofs.order.order_of_rows_never_matters.Goals as goal

pub returns : goal.returns
returns c = record {
  filter = λ condition env. each-orderless (kept_row condition env);
  list = λ items env. each-orderless (shown_row items env);
  part = λ made o p orderless same. through-same made o p orderless same;
  product = product-same;
  inner = inner_join-same;
  left = λ on env width l m r s h k. left_join-agree on on env width l m r s (λ env. IsSameValue-refl (on env)) h k;
  distinct = only-same;
  function = λ function is_distinct argument. set_function-agree function is_distinct argument argument (λ env. IsSameValue-refl (argument env));
  count = count-agree;
  groups = λ columns functions having h. grouped-agree columns functions functions having having (Each-self AgreeOnGroups functions h) (IfBoth-self Agree having (λ condition env. IsSameValue-refl (condition env)));
  operator = set_operation-same;
}
