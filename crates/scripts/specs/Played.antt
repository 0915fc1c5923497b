-- What a script does, from the bytes that it reads to those that it writes. All of this is our own
-- choice.
use Rattle.std.specs.Prelude.{◌≡◌, ◌⊎◌, ℕ, Bool, List, [], ◌∷◌, ◌++◌, Option}
use Rattle.std.specs.Io.KnownBytes.{Appends, Consumes, IsAtEnd, Keeps}
use Rattle.replies.specs.declared.reply.Reply.{Reply}
use Rattle.replies.specs.Writes.{IsNoInterruption}
use Rattle.script_pieces.specs.Pieces.{ArePieces, AreEnded}
use Rattle.session_definitions.specs.Rules.{Rules}
use Rattle.session_definitions.specs.Script.{IsPlayed, IsStopped, has_refusal, printed_replies}
use Rattle.session_definitions.specs.World.{World}
use Rattle.scripts.specs.declared.script.ScriptFault.{ScriptFault}
use Rattle.scripts.specs.declared.script.ScriptFault.TheVariants.{Memory, Reader, Writer}
use Rattle.scripts.specs.Device.{TellDevice}
use Rattle.scripts.specs.ToldLimits.{UpTo, TellLimits}

-- Of a reader the bytes that it had, and those that it has left; of a writer the bytes that it
-- held, and those that it holds: each where its type tells them.
pub record Streams : Type 0 where
  pub given : Option (List ℕ)
  pub left : Option (List ℕ)
  pub held : Option (List ℕ)
  pub holds : Option (List ℕ)

abbrev pub between : Option (List ℕ) → Option (List ℕ) → Option (List ℕ) → Option (List ℕ) → Streams
between given left held holds = record { given = given; left = left; held = held; holds = holds }

-- What was read has these pieces, as `cuts` says; their calls were made in order, and the text that
-- they print was written.
pub record IsPrinted (rules : Rules) (cuts : List ℕ → List (List ℕ) → Type 0) (streams : Streams) (old new : World) : Type 0 where
  pub input : List ℕ
  pub read : Consumes streams.given streams.left input
  pub pieces : List (List ℕ)
  pub cut : cuts input pieces
  pub printed : List ℕ
  pub played : IsPlayed rules old pieces printed new
  pub written : Appends streams.held streams.holds printed

-- The input was read to its end, all its pieces were carried out, and the answer tells whether a
-- reply was a refusal.
pub record IsWhole (rules : Rules) (streams : Streams) (old : World) (refused : Bool) (new : World) : Type 0 where
  pub all : IsAtEnd streams.left
  pub printed : IsPrinted rules ArePieces streams old new
  pub answer : refused ≡ has_refusal printed.played.replies

-- the pieces of what was read: those that ended, or of an input that was read to its end all
abbrev pub ArePiecesSoFar : Option (List ℕ) → List ℕ → List (List ℕ) → Type 0
ArePiecesSoFar left input pieces = AreEnded input pieces ⊎ (IsAtEnd left × ArePieces input pieces)

-- what the replies before the last one print was written
abbrev pub AreWrittenButLast : List (Option Reply) → List ℕ → Type 0
AreWrittenButLast replies written = (front : List (Option Reply)) (reply : Option Reply) → replies ≡ front ++ reply ∷ []
    → (more : List ℕ) × (written ≡ printed_replies front ++ more)

-- The writer refused: a beginning of the text was written, and no piece was carried out after the
-- one whose reply was not written whole.
pub record IsCutShort (rules : Rules) (streams : Streams) (old new : World) : Type 0 where
  pub input : List ℕ
  pub read : Consumes streams.given streams.left input
  pub pieces : List (List ℕ)
  pub cut : ArePiecesSoFar streams.left input pieces
  pub written : List ℕ
  pub stopped : IsStopped rules old pieces written new
  pub taken : Appends streams.held streams.holds written
  pub at_last : AreWrittenButLast stopped.replies written

-- nothing was read, called or written
pub record IsUntouched (streams : Streams) (old new : World) : Type 0 where
  pub reader : Keeps streams.given streams.left
  pub writer : Keeps streams.held streams.holds
  pub world : new ≡ old

-- What a fault leaves. Where the reader refused, the pieces are those that ended before.
abbrev pub EndsEarly : Rules → Streams → World → ScriptFault → World → Type 0
EndsEarly rules streams old Memory new = IsUntouched streams old new
EndsEarly rules streams old (Reader error) new = IsPrinted rules AreEnded streams old new
EndsEarly rules streams old (Writer error) new = IsCutShort rules streams old new

-- the pieces that were carried out before a fault, and their replies
abbrev pub pieces_before : (rules : Rules) (streams : Streams) (old : World) (fault : ScriptFault) (new : World)
    → EndsEarly rules streams old fault new → List (List ℕ)
pieces_before rules streams old Memory new early = []
pieces_before rules streams old (Reader error) new early = early.pieces
pieces_before rules streams old (Writer error) new early = early.stopped.done

abbrev pub replies_before : (rules : Rules) (streams : Streams) (old : World) (fault : ScriptFault) (new : World)
    → EndsEarly rules streams old fault new → List (Option Reply)
replies_before rules streams old Memory new early = []
replies_before rules streams old (Reader error) new early = early.played.replies
replies_before rules streams old (Writer error) new early = early.stopped.replies

-- ---- over a store, whose device had refused `before` calls, and has refused `after` then

-- All was carried out, X0002 told only where the device refused a call, and a limit of the store
-- only of what may reach it after no more commits than there are at the end.
pub record RunsWhole (rules : Rules) (streams : Streams) (old : World) (before : ℕ) (refused : Bool) (new : World) (after : ℕ) : Type 0 where
  pub all : IsWhole rules streams old refused new
  pub device : TellDevice all.printed.played.replies before after
  pub limits : TellLimits (UpTo new.commits) all.printed.pieces all.printed.played.replies

-- A fault ended it; X0002 was told only where the device refused a call, and a limit of the store
-- only of what may reach it after no more commits than there are at the end.
pub record RunsInPart (rules : Rules) (streams : Streams) (old : World) (before : ℕ) (fault : ScriptFault) (new : World) (after : ℕ) : Type 0 where
  pub some : EndsEarly rules streams old fault new
  pub device : TellDevice (replies_before rules streams old fault new some) before after
  pub limits : TellLimits (UpTo new.commits) (pieces_before rules streams old fault new some) (replies_before rules streams old fault new some)

-- no script ends since a read or a write was interrupted: it is tried again
abbrev pub IsNotInterrupted : ScriptFault → Type 0
IsNotInterrupted Memory = Unit {0}
IsNotInterrupted (Reader error) = IsNoInterruption error
IsNotInterrupted (Writer error) = IsNoInterruption error
