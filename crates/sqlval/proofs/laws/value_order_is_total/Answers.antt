use Rattle.std.proofs.Common.{◌∙◌, ap, sym}
use Rattle.std.proofs.lemmas.Cmp.{tied_itself}
use Rattle.sqlval.specs.Comparison.{value_order}
use Rattle.sqlval.proofs.ValueOrderLaws.{value_order_total, value_order-level}
use Rattle.sqlval.proofs.laws.value_order_is_total.Goals as goal

pub returns-clause-total : goal.returns-clause-total
returns-clause-total c = value_order_total

pub returns-clause-level : goal.returns-clause-level
returns-clause-level c = λ x y. (value_order-level x y, λ same. ap (λ v. value_order x v) (sym same) ∙ tied_itself value_order_total x)
