-- What is kept of sessions, by their numbers.
use Rattle.std.specs.Prelude.{ℕ, List, replicate, map, slice_get, Option, None, Some}
use Rattle.std.specs.Option.{option_map}
use Rattle.cursors.specs.ByName.{declared_of, opened_of, unnamed_of}
use Rattle.sessions.specs.declared.slots.Slot.{Slot}
use Rattle.transactions.specs.Shown.{Kept, Slots}

abbrev pub Held : Type 0
Held = List (Option Slot)

abbrev pub in_place : Option (Option Slot) → Option Slot
in_place None = None
in_place (Some held) = held

-- what is kept under this number, if the session stands
abbrev pub held_at : Held → ℕ → Option Slot
held_at held s = in_place (slice_get held s)

-- no session stands
abbrev pub no_slots : Held
no_slots = replicate 64 None

-- what that is of a session
abbrev pub kept_of : Slot → Kept
kept_of slot = record {
  mode = slot.mode;
  declared = declared_of slot.cursors;
  cursors = λ contents. opened_of slot.cursors contents;
  unnamed = λ contents. unnamed_of slot.cursors contents;
}

abbrev pub kept_if : Option Slot → Option Kept
kept_if slot = option_map kept_of slot

abbrev pub kept_in : Held → Slots
kept_in held = map kept_if held
