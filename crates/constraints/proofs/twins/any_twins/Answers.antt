use Rattle.std.proofs.Common.{◌∙◌, ap, rules, List}
use Rattle.std.specs.Borrow.{Bor}
use Rattle.std.proofs.lemmas.Fn.{always_returns_same}
use Rattle.sqlval.specs.Value.{Row}
use Rattle.denote.specs.Database.{has_twins}
use Rattle.constraints.specs.Keys.{has_neighbours, rows_lent}
use Rattle.constraints.proofs.Sorted.{before, keys_rank, sorted-twins}
use Rattle.constraints.proofs.twins.any_twins.Goals as goal

pub returns : goal.returns
returns c =
    let row : Bor Row → Row = λ (r : Bor Row). r.now in
    let columns = c.args.columns.now in
    c.any_neighbours.ensures
    ∙ ap (λ (l : List (Bor Row)). has_neighbours columns (rows_lent l)) c.as_slice.ensures.value
    ∙ sorted-twins columns row _ _
    (c.in_ok-sort_by.ensures.sorted (before columns row) (keys_rank columns row) (always_returns_same _ _ _ (λ a r k q. (search rules, search rules))))
    (c.in_ok-sort_by.ensures.stable (before columns row) (keys_rank columns row) (always_returns_same _ _ _ (λ a r k q. (search rules, search rules))))
    ∙ ap (has_twins columns) c.in_ok-sorted.ensures
