use Rattle.std.proofs.Common.{rules, ◌≡◌, ◌∙◌, ◌<◌, sym, ap, List, [], drop, length}
use Rattle.std.proofs.lemmas.List.{nil_from_length}
use Rattle.std.specs.Cmp.Lexicographic.{slice_cmp}
use Rattle.sqlval.specs.declared.value.Value.{Value}
use Rattle.sqlval.specs.Comparison.{value_order}
use Rattle.sqlval.specs.Matching.{key_of}
use Rattle.index_lookups.proofs.CodeOrder.{past_key}
use Rattle.index_lookups.proofs.keys.compare_key.Goals as goal

pub returns-in_default : goal.returns-in_default
returns-in_default c =
    let columns = c.args.columns.now in
    let row = c.args.row.now in
    let at = c.loop-column.column-index in
    let below : at < length columns = search rules in
    let none : c.loop-column.left.now ≡ [] = nil_from_length c.loop-column.left.now (search rules) in
    sym (past_key columns row at below)
    ∙ ap (λ (left : List Value). slice_cmp value_order (key_of (drop at columns) row) left) (sym none)
    ∙ c.loop-column.invariant
