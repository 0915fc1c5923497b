use Rattle.std.proofs.Common.{◌≡◌, List, ℕ, drop}
use Rattle.std.specs.List.{list_any}
use Rattle.sqlval.specs.Schema.{same_name}
use Rattle.csvio.proofs.header.is_among.Given as goal

abbrev pub invariant-loop-other : goal.invariant-loop-other
invariant-loop-other l =
    list_any (λ (other : List ℕ). same_name other l.name) (drop l.other-index l.names)
    ≡ list_any (λ (other : List ℕ). same_name other l.name) l.names
