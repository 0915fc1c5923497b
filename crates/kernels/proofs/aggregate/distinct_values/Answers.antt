use Rattle.std.proofs.Common.{◌≡◌, ◌∙◌, ap, map}
use Rattle.std.proofs.lemmas.Result.{IfOk-weaker}
use Rattle.denote.specs.Bag.{distinct, distinct_by, is_alike}
use Rattle.denote.specs.Expression.{cell}
use Rattle.kernels.proofs.Singles.{singles-distinct}
use Rattle.kernels.proofs.aggregate.distinct_values.Goals as goal

pub returns : goal.returns
returns c =
    IfOk-weaker c.first_values.result (λ found. found ≡ map (λ row. cell row 0) c.in_ok-rows-2.rows) (λ found. found ≡ distinct_by is_alike c.args.values)
    (λ found h. h ∙ ap (map (λ row. cell row 0)) (c.in_ok-rows-2.ensures ∙ ap distinct c.in_ok-rows.ensures) ∙ singles-distinct c.args.values) c.first_values.ensures
