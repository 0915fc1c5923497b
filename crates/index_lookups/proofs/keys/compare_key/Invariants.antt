use Rattle.std.proofs.Common.{◌≡◌, drop}
use Rattle.std.specs.Cmp.Lexicographic.{slice_cmp}
use Rattle.sqlval.specs.Comparison.{value_order}
use Rattle.sqlval.specs.Matching.{key_of}
use Rattle.index_lookups.proofs.keys.compare_key.Given as goal

abbrev pub invariant-loop-column : goal.invariant-loop-column
invariant-loop-column l = slice_cmp value_order (key_of (drop l.column-index l.columns) l.row) l.left ≡ slice_cmp value_order (key_of l.columns l.row) l.key
