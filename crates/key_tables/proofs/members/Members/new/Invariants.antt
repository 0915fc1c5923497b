use Rattle.std.proofs.Common.{take}
use Rattle.denote.specs.Condition.{first_column}
use Rattle.key_tables.specs.Among.{AreMembers}
use Rattle.key_tables.proofs.members.Members.new.Given as goal

abbrev pub invariant-loop-row : goal.invariant-loop-row
invariant-loop-row l = AreMembers l.members (first_column (take l.row-index l.rows))
