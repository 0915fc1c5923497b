-- Where a script stands between its pieces: words of the proof, of which none stands in the
-- contract of `run`.
use Rattle.std.specs.Prelude.{◌≡◌, ◌≢◌, ◌<◌, ◌≤◌, ◌||◌, ℕ, ◌+◌, Bool, true, false, List, [], ◌∷◌, ◌++◌, get_or, length, slice_set, Option, Some, None, Ok, Err}
use Rattle.std.specs.Option.{ForSome}
use Rattle.std.specs.Ordering.{nat_cmp}
use Rattle.std.specs.FinMap.{FinMap, insert, empty}
use Rattle.std.specs.Io.KnownBytes.{Appends, Consumes, IsAtEnd}
use Rattle.refusals.specs.declared.refusal.Refusal.{Refusal}
use Rattle.replies.specs.declared.reply.Reply.{Reply}
use Rattle.replies.specs.Writes.{Writes}
use Rattle.script_pieces.specs.declared.cutter.Cutter.{Cutter}
use Rattle.script_pieces.specs.Pieces.{ArePieces, AreEnded, IsFirstPiece}
use Rattle.script_pieces.specs.PieceMeaning.{Request, Asks}
use Rattle.script_pieces.specs.Cutter.{HasRead}
use Rattle.session_definitions.specs.Rules.{Rules}
use Rattle.session_definitions.specs.Run.{MakesSession}
use Rattle.session_definitions.specs.Script.{Scene, Performs, ArePlayed, first_scene, has_refusal, is_refused, printed_replies}
use Rattle.session_definitions.specs.World.{World, is_live}
use Rattle.store.specs.Errors.{HasRisen}
use Rattle.sessions.specs.declared.core_of.SessionId.{SessionId}
use Rattle.sessions.specs.OfCore.{number_of}
use Rattle.scripts.specs.declared.script.ScriptFault.{ScriptFault}
use Rattle.scripts.specs.declared.script.ScriptFault.TheVariants.{Memory, Reader, Writer}
use Rattle.scripts.specs.declared.script.Sessions.{Sessions}
use Rattle.scripts.specs.Settled.{Places}
use Rattle.scripts.specs.Device.{TellDevice, shows_disk}
use Rattle.scripts.specs.ToldLimits.{Ever, UpTo, TellsLimits, TellLimits}
use Rattle.scripts.specs.Played.{ArePiecesSoFar, AreWrittenButLast}
use Rattle.scripts.specs.Shown.{Prints, AreReplied}

-- ---- the sessions of a script

-- the sessions that were made, by their numbers in the script; the first place is that of this
-- number
abbrev pub standing_from : ℕ → Places → FinMap nat_cmp ℕ
standing_from k [] = empty
standing_from k (None ∷ places) = standing_from (k + 1) places
standing_from k (Some session ∷ places) = insert (standing_from (k + 1) places) k (number_of session)

-- their numbers in the core, in the order of their numbers in the script
abbrev pub numbers_of : Places → List ℕ
numbers_of [] = []
numbers_of (None ∷ places) = numbers_of places
numbers_of (Some session ∷ places) = number_of session ∷ numbers_of places

-- none of them is this one
abbrev pub Misses : ℕ → List ℕ → Type 0
Misses s [] = Unit {0}
Misses s (k ∷ ks) = (k ≢ s) × Misses s ks

-- each of them stands, and no two are one
abbrev pub AreLive : World → List ℕ → Type 0
AreLive w [] = Unit {0}
AreLive w (s ∷ ss) = (is_live w s ≡ true) × Misses s ss × AreLive w ss

abbrev pub scene_of : World → Sessions → Scene
scene_of w sessions = record { world = w; chosen = sessions.chosen + 1; standing = standing_from 1 sessions.standing }

-- the sessions that were made stand, and one of the 64 is chosen
pub record IsReady (w : World) (sessions : Sessions) : Type 0 where
  pub live : AreLive w (numbers_of sessions.standing)
  pub within : sessions.chosen < 64

-- The session that is chosen stood already, or was made.
pub data FindsSession (old : World) (before : Sessions) (session : SessionId) (new : World) (after : Sessions) : Type 0 where
  stood : get_or before.standing before.chosen None ≡ Some session → new ≡ old → after ≡ before
      → FindsSession old before session new after
  made : before.chosen < length before.standing → get_or before.standing before.chosen None ≡ None
      → MakesSession old (Ok (number_of session)) new
      → after ≡ record before { standing = slice_set before.standing before.chosen (Some session) }
      → FindsSession old before session new after

-- It did not stand, and was not made.
pub record FindsNone (old : World) (before : Sessions) (refusal : Refusal) (new : World) (after : Sessions) : Type 0 where
  pub empty : get_or before.standing before.chosen None ≡ None
  pub refused : MakesSession old (Err refusal) new
  pub same : after ≡ before

-- ---- a piece

-- A piece was carried out, and its reply written: all of it where the writer did not refuse. The
-- device had refused m calls before, and has refused n then. Where rules are known, what the piece
-- asks for was done by them.
pub record IsCarriedOut (known : Option Rules) (piece : List ℕ) (old : World) (before : Sessions) (new : World) (after : Sessions) (held holds : Option (List ℕ)) (m n : ℕ) (is_done : Bool) : Type 0 where
  pub request : Request
  pub asks : Asks piece request
  pub reply : Option Reply
  pub prints : Prints request reply
  pub performs : ForSome known (λ rules. IsReady old before
      → Performs rules (scene_of old before) request reply (scene_of new after) × IsReady new after)
  pub answer : after.refused ≡ (before.refused || is_refused reply)
  pub written : Writes held holds is_done (printed_replies (reply ∷ []))
  pub device : shows_disk reply ≡ true → HasRisen m n
  pub counts : m ≤ n
  pub limits : TellsLimits Ever piece reply
  pub within : ForSome known (λ _. TellsLimits (UpTo new.commits) piece reply)

-- ---- the pieces so far

-- it ends with its semicolon, whatever follows
abbrev pub IsEndedPiece : List ℕ → Type 0
IsEndedPiece piece = (rest : List ℕ) → IsFirstPiece (piece ++ rest) piece rest

abbrev pub AreEndedPieces : List (List ℕ) → Type 0
AreEndedPieces [] = Unit {0}
AreEndedPieces (piece ∷ pieces) = IsEndedPiece piece × AreEndedPieces pieces

abbrev pub joined : List (List ℕ) → List ℕ
joined [] = []
joined (piece ∷ pieces) = piece ++ joined pieces

-- the input has these pieces, and the cutter has read what stands behind them
pub record HasCut (input : List ℕ) (pieces : List (List ℕ)) (cutter : Cutter) : Type 0 where
  pub bytes : List ℕ
  pub whole : input ≡ joined pieces ++ bytes
  pub ended : AreEndedPieces pieces
  pub has_read : HasRead bytes cutter

-- What a script begins with: the rules that are known, if any; the world; what the reader gives and
-- the writer holds; and how many calls the device has refused.
pub record Start : Type 0 where
  pub known : Option Rules
  pub world : World
  pub given : Option (List ℕ)
  pub held : Option (List ℕ)
  pub refused : ℕ

-- These pieces were carried out, and of the text that they print `unwritten` was not written, which
-- is the last one's. Where rules are known, it was done by them. The device has refused `count`
-- calls.
pub record HasPlayed (start : Start) (pieces : List (List ℕ)) (unwritten : List ℕ) (w : World) (sessions : Sessions) (holds : Option (List ℕ)) (count : ℕ) : Type 0 where
  pub replies : List (Option Reply)
  pub replied : AreReplied pieces replies
  pub carried_out : ForSome start.known (λ rules. ArePlayed rules (first_scene start.world) pieces replies (scene_of w sessions))
  pub ready : ForSome start.known (λ _. IsReady w sessions)
  pub answer : sessions.refused ≡ has_refusal replies
  pub written : List ℕ
  pub text : printed_replies replies ≡ written ++ unwritten
  pub taken : Appends start.held holds written
  pub at_last : AreWrittenButLast replies written
  pub device : TellDevice replies start.refused count
  pub limits : TellLimits Ever pieces replies
  pub within : ForSome start.known (λ _. TellLimits (UpTo w.commits) pieces replies)

-- the pieces that end in this input were carried out, and all that they print was written
pub record IsPlaying (start : Start) (input : List ℕ) (w : World) (cutter : Cutter) (sessions : Sessions) (holds : Option (List ℕ)) (count : ℕ) : Type 0 where
  pub pieces : List (List ℕ)
  pub cut : HasCut input pieces cutter
  pub played : HasPlayed start pieces [] w sessions holds count

-- the writer refused at one of the pieces, and those behind it were not carried out
pub record HasStopped (start : Start) (cuts : List (List ℕ) → Type 0) (w : World) (sessions : Sessions) (holds : Option (List ℕ)) (count : ℕ) : Type 0 where
  pub done : List (List ℕ)
  pub later : List (List ℕ)
  pub cut : cuts (done ++ later)
  pub unwritten : List ℕ
  pub played : HasPlayed start done unwritten w sessions holds count

-- All pieces of the input were carried out, of which the last may lack its semicolon.
pub record HasFinished (start : Start) (input : List ℕ) (is_done : Bool) (w : World) (sessions : Sessions) (holds : Option (List ℕ)) (count : ℕ) : Type 0 where
  pub pieces : List (List ℕ)
  pub cut : ArePieces input pieces
  pub unwritten : List ℕ
  pub complete : is_done ≡ true → unwritten ≡ []
  pub played : HasPlayed start pieces unwritten w sessions holds count

-- ---- the whole input, of which the reader has `left`

-- what was read has these pieces, which were carried out
pub record HasPrinted (start : Start) (cuts : List ℕ → List (List ℕ) → Type 0) (left : Option (List ℕ)) (w : World) (sessions : Sessions) (holds : Option (List ℕ)) (count : ℕ) : Type 0 where
  pub input : List ℕ
  pub read : Consumes start.given left input
  pub pieces : List (List ℕ)
  pub cut : cuts input pieces
  pub played : HasPlayed start pieces [] w sessions holds count

-- the pieces that end in what was read were carried out, and the input may go on
pub record IsReading (start : Start) (left : Option (List ℕ)) (w : World) (cutter : Cutter) (sessions : Sessions) (holds : Option (List ℕ)) (count : ℕ) : Type 0 where
  pub input : List ℕ
  pub read : Consumes start.given left input
  pub playing : IsPlaying start input w cutter sessions holds count

-- the writer refused at one of the pieces
pub record HasBroken (start : Start) (left : Option (List ℕ)) (w : World) (sessions : Sessions) (holds : Option (List ℕ)) (count : ℕ) : Type 0 where
  pub input : List ℕ
  pub read : Consumes start.given left input
  pub stopped : HasStopped start (ArePiecesSoFar left input) w sessions holds count

-- the input was read to its end, and all its pieces were carried out
pub record HasEnded (start : Start) (left : Option (List ℕ)) (w : World) (sessions : Sessions) (holds : Option (List ℕ)) (count : ℕ) : Type 0 where
  pub all : IsAtEnd left
  pub printed : HasPrinted start ArePieces left w sessions holds count

-- whether the input may go on after a turn
abbrev pub AfterTurn : Bool → Start → Option (List ℕ) → World → Cutter → Sessions → Option (List ℕ) → ℕ → Type 0
AfterTurn true start left w cutter sessions holds count = IsReading start left w cutter sessions holds count
AfterTurn false start left w cutter sessions holds count = HasEnded start left w sessions holds count

-- what a fault leaves before the sessions end
abbrev pub HasFailed : Start → ScriptFault → Option (List ℕ) → World → Sessions → Option (List ℕ) → ℕ → Type 0
HasFailed start Memory left w sessions holds count = ⊥
HasFailed start (Reader error) left w sessions holds count = HasPrinted start AreEnded left w sessions holds count
HasFailed start (Writer error) left w sessions holds count = HasBroken start left w sessions holds count
