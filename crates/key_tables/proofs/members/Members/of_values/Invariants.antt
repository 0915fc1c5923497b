use Rattle.std.proofs.Common.{take}
use Rattle.key_tables.specs.Among.{AreMembers}
use Rattle.key_tables.proofs.members.Members.of_values.Given as goal

abbrev pub invariant-loop-value : goal.invariant-loop-value
invariant-loop-value l = AreMembers l.members (take l.value-index l.values)
