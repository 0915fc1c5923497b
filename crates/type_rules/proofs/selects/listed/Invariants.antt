use Rattle.std.proofs.Common.{◌≡◌, map}
use Rattle.typing.specs.Select.{typed_item}
use Rattle.type_rules.proofs.selects.listed.Given as goal

-- the items so far
abbrev pub invariant-loop-item : goal.invariant-loop-item
invariant-loop-item l = l.list ≡ map typed_item l.yielded
