-- Which replies say that a file is damaged.
use Rattle.std.specs.Prelude.{Bool, true, false, List, Option, Some, None}
use Rattle.std.specs.List.{list_any}
use Rattle.refusals.specs.declared.refusal.Refusal.{Refusal}
use Rattle.refusals.specs.declared.refusal.Refusal.TheVariants.{Damaged}
use Rattle.replies.specs.declared.reply.Reply.{Reply}
use Rattle.replies.specs.declared.reply.Reply.TheVariants as says

-- X0004
abbrev pub is_damage : Refusal → Bool
is_damage Damaged = true
is_damage _ = false

abbrev pub tells_damage : Reply → Bool
tells_damage (says.Refused refusal) = is_damage refusal
tells_damage _ = false

-- of a piece's reply, where it has one
abbrev pub shows_damage : Option Reply → Bool
shows_damage (Some reply) = tells_damage reply
shows_damage None = false

-- some reply of a script does
abbrev pub has_damage : List (Option Reply) → Bool
has_damage = list_any shows_damage
