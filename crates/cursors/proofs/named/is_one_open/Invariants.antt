use Rattle.std.proofs.Common.{◌≡◌, drop}
use Rattle.std.specs.List.{list_any}
use Rattle.cursors.specs.ByName.{is_open}
use Rattle.cursors.proofs.named.is_one_open.Given as goal

abbrev pub invariant-loop-entry : goal.invariant-loop-entry
invariant-loop-entry l = list_any is_open (drop l.entry-index l.declared) ≡ list_any is_open l.declared
