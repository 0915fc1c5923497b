-- What holds of the cursors of a session between calls.
use Rattle.std.specs.Prelude.{ℕ, Option, None, Some}
use Rattle.std.specs.FinMap.{get}
use Rattle.replies.specs.declared.reply.Reply.{Reply}
use Rattle.session_definitions.specs.Asked.{Asked}
use Rattle.session_definitions.specs.Rules.{Rules}
use Rattle.store.specs.Stored.{Found, Stored}
use Rattle.transactions.specs.Moves.{MovesBy}
use Rattle.transactions.specs.Shown.{read_by, settled}
use Rattle.cursors.specs.declared.held.Cursors.{Cursors}
use Rattle.cursors.specs.ByName.{IsShut, StandsOver}
use Rattle.sessions.specs.declared.slots.Slot.{Slot}
use Rattle.sessions.specs.Numbers.{kept_of}

-- in a transaction those that are open fit what it reads
abbrev pub FitsIn : Stored → Option ℕ → ℕ → Option Found → Cursors → Type 0
FitsIn st w s None cursors = Unit {0}
FitsIn st w s (Some f) cursors = StandsOver cursors (read_by st w s f)

-- and without one none is open
abbrev pub HoldsIn : Stored → Option ℕ → ℕ → Option Found → Cursors → Type 0
HoldsIn st w s None cursors = IsShut cursors
HoldsIn st w s (Some f) cursors = StandsOver cursors (read_by st w s f)

abbrev pub Holds : Stored → Option ℕ → ℕ → Cursors → Type 0
Holds st w s cursors = HoldsIn st w s (get st.readers s) cursors

-- What a call leaves: it is a step of the world, once the cursors of a session whose transaction
-- has ended are closed; and those of one that has a transaction fit it.
pub record Leaves (rules : Rules) (s : ℕ) (asked : Asked) (reply : Reply)
    (st : Stored) (w : Option ℕ) (slot : Slot) (new : Stored) (v : Option ℕ) (slot_new : Slot) : Type 0 where
  pub moves : MovesBy rules s asked reply st w (kept_of slot) new v (settled (get new.readers s) (kept_of slot_new))
  pub fits : FitsIn new v s (get new.readers s) slot_new.cursors
