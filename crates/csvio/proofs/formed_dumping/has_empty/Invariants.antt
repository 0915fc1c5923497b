use Rattle.std.proofs.Common.{◌≡◌, drop}
use Rattle.std.specs.List.{list_any}
use Rattle.csvio.specs.Formed.{is_empty_text}
use Rattle.csvio.proofs.formed_dumping.has_empty.Given as goal

abbrev pub invariant-loop-value : goal.invariant-loop-value
invariant-loop-value l = list_any is_empty_text (drop l.value-index l.row) ≡ list_any is_empty_text l.row
