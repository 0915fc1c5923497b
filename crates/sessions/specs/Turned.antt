-- What the calls of the cursor without a name reply, whatever the core holds.
use Rattle.std.specs.Prelude.{ℕ, ◌≤◌, length}
use Rattle.replies.specs.declared.reply.Reply.{Reply}
use Rattle.replies.specs.declared.reply.Reply.TheVariants as says

-- it is done, or refused
abbrev pub TellsOpening : Reply → Type 0
TellsOpening says.Done = Unit {0}
TellsOpening (says.Refused refusal) = Unit {0}
TellsOpening _ = ⊥

-- rows, of which there are so many at most; or it is refused
abbrev pub TellsRows : ℕ → Reply → Type 0
TellsRows count (says.Rows rows) = length rows ≤ count
TellsRows count (says.Refused refusal) = Unit {0}
TellsRows count _ = ⊥
