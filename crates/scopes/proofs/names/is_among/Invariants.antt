use Rattle.std.proofs.Common.{◌≡◌, drop}
use Rattle.std.specs.List.{list_any}
use Rattle.sqlval.specs.Schema.{same_name}
use Rattle.scopes.proofs.names.is_among.Given as goal

-- the answer is that for what is left
abbrev pub invariant-loop-other : goal.invariant-loop-other
invariant-loop-other l = list_any (λ other. same_name other l.name) (drop l.other-index l.names) ≡ list_any (λ other. same_name other l.name) l.names
