use Rattle.std.proofs.Common.{◌≡◌, drop}
use Rattle.std.specs.List.{position_from}
use Rattle.sqlval.specs.Schema.{same_name}
use Rattle.cursors.specs.declared.held.Declared.{Declared}
use Rattle.cursors.specs.Apart.{place_named}
use Rattle.cursors.proofs.named.place_of.Given as goal

abbrev pub invariant-loop-at : goal.invariant-loop-at
invariant-loop-at l = position_from (λ (d : Declared). same_name d.name l.name) l.at (drop l.at l.declared) ≡ place_named l.name l.declared
