use Rattle.std.proofs.Common.{◌≡◌, drop}
use Rattle.typing.specs.References.{types_match}
use Rattle.table_types.proofs.references.types_match.Given as goal

-- what is left decides
abbrev pub invariant-loop-place : goal.invariant-loop-place
invariant-loop-place l = types_match l.columns l.others (drop l.place-index l.places) l.left ≡ types_match l.columns l.others l.places l.referenced
