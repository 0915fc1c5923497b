use Rattle.std.proofs.Common.{◌≡◌, drop}
use Rattle.csvio.specs.Formed.{has_empty_text}
use Rattle.csvio.proofs.formed_dumping.has_empty_text.Given as goal

abbrev pub invariant-loop-row : goal.invariant-loop-row
invariant-loop-row l = has_empty_text (drop l.row-index l.rows) ≡ has_empty_text l.rows
