-- Which replies say that the device refused, and when they come.
use Rattle.std.specs.Prelude.{ℕ, ◌+◌, ◌-◌, ◌^◌, ◌≤◌, min, count_by, Bool, true, false, List, Option, Some, None}
use Rattle.refusals.specs.declared.refusal.Refusal.{Refusal}
use Rattle.refusals.specs.declared.refusal.Refusal.TheVariants.{Disk}
use Rattle.replies.specs.declared.reply.Reply.{Reply}
use Rattle.replies.specs.declared.reply.Reply.TheVariants as says

-- X0002
abbrev pub is_disk : Refusal → Bool
is_disk Disk = true
is_disk _ = false

abbrev pub tells_disk : Reply → Bool
tells_disk (says.Refused refusal) = is_disk refusal
tells_disk _ = false

-- of a piece's reply, where it has one
abbrev pub shows_disk : Option Reply → Bool
shows_disk (Some reply) = tells_disk reply
shows_disk None = false

-- how many replies of a script do
abbrev pub disk_count : List (Option Reply) → ℕ
disk_count = count_by shows_disk

-- Each X0002 among these replies has a refused call of its own: the count of refused calls rose by
-- as many from the one to the other, or stands at its greatest.
abbrev pub TellDevice : List (Option Reply) → ℕ → ℕ → Type 0
TellDevice replies before after = min (disk_count replies + before) (2 ^ 64 - 1) ≤ after
