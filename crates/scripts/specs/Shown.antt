-- What a script shows over any store, sound or not: what it reads, which pieces have a reply, what
-- is written of them, and what the replies may tell.
use Rattle.std.specs.Prelude.{◌≡◌, ℕ, Bool, List, [], ◌∷◌, ◌++◌, Option, Some, None, IsSome}
use Rattle.std.specs.Io.KnownBytes.{Appends, Consumes, IsAtEnd, Keeps}
use Rattle.refusals.specs.declared.refusal.Refusal.TheVariants.{Invalid}
use Rattle.refusals.specs.declared.reason.Reason.TheVariants as reason
use Rattle.replies.specs.declared.reply.Reply.{Reply}
use Rattle.replies.specs.declared.reply.Reply.TheVariants as says
use Rattle.script_pieces.specs.PieceMeaning.{Request, Asks}
use Rattle.script_pieces.specs.Pieces.{ArePieces, AreEnded}
use Rattle.session_definitions.specs.Script.{RepliesToFlush, has_refusal, printed_replies}
use Rattle.scripts.specs.declared.script.ScriptFault.{ScriptFault}
use Rattle.scripts.specs.declared.script.ScriptFault.TheVariants.{Memory, Reader, Writer}
use Rattle.scripts.specs.Device.{TellDevice}
use Rattle.scripts.specs.ToldLimits.{Ever, TellLimits}
use Rattle.scripts.specs.Played.{Streams, ArePiecesSoFar, AreWrittenButLast}

-- ---- replies

-- What is printed for a request: nothing where it asks for nothing or only chooses a session, and
-- otherwise one reply.
abbrev pub Prints : Request → Option Reply → Type 0
Prints Request.Nothing printed = printed ≡ None
Prints (Request.Chooses k) printed = printed ≡ None
Prints (Request.Calls text) printed = IsSome printed
Prints (Request.ChoosesAndCalls k text) printed = IsSome printed
Prints Request.Flushes printed = (reply : Reply) × RepliesToFlush reply × (printed ≡ Some reply)
Prints Request.Wrong printed = printed ≡ Some (says.Refused (Invalid reason.Session))

-- the piece has the reply that is printed for what it asks for
abbrev pub IsReplied : List ℕ → Option Reply → Type 0
IsReplied piece printed = (request : Request) × Asks piece request × Prints request printed

-- and so each piece of a script: no reply is left out, and none stands twice
abbrev pub AreReplied : List (List ℕ) → List (Option Reply) → Type 0
AreReplied [] [] = Unit {0}
AreReplied (piece ∷ pieces) (reply ∷ replies) = IsReplied piece reply × AreReplied pieces replies
AreReplied [] (reply ∷ replies) = ⊥
AreReplied (piece ∷ pieces) [] = ⊥

-- ---- a whole run, over a store whose device had refused `before` calls, and has refused `after`
-- then

-- What was read has these pieces, as `cuts` says. Each has its reply, and the text that these print
-- was written. They tell the device's refusals and the store's limits only where these may be told.
pub record ShowsPieces (cuts : List ℕ → List (List ℕ) → Type 0) (streams : Streams) (before after : ℕ) : Type 0 where
  pub input : List ℕ
  pub read : Consumes streams.given streams.left input
  pub pieces : List (List ℕ)
  pub cut : cuts input pieces
  pub replies : List (Option Reply)
  pub replied : AreReplied pieces replies
  pub written : Appends streams.held streams.holds (printed_replies replies)
  pub device : TellDevice replies before after
  pub limits : TellLimits Ever pieces replies

-- The input was read to its end, all its pieces have their replies, and the answer tells whether
-- one of these is a refusal.
pub record ShowsWhole (streams : Streams) (before : ℕ) (refused : Bool) (after : ℕ) : Type 0 where
  pub all : IsAtEnd streams.left
  pub shown : ShowsPieces ArePieces streams before after
  pub answer : refused ≡ has_refusal shown.replies

-- The writer refused: some pieces have their replies and none behind them, and a beginning of the
-- text was written, all of it but of the last reply.
pub record ShowsSome (streams : Streams) (before after : ℕ) : Type 0 where
  pub input : List ℕ
  pub read : Consumes streams.given streams.left input
  pub done : List (List ℕ)
  pub later : List (List ℕ)
  pub cut : ArePiecesSoFar streams.left input (done ++ later)
  pub replies : List (Option Reply)
  pub replied : AreReplied done replies
  pub written : List ℕ
  pub unwritten : List ℕ
  pub beginning : printed_replies replies ≡ written ++ unwritten
  pub taken : Appends streams.held streams.holds written
  pub at_last : AreWrittenButLast replies written
  pub device : TellDevice replies before after
  pub limits : TellLimits Ever done replies

-- nothing was read or written
pub record ShowsNothing (streams : Streams) : Type 0 where
  pub reader : Keeps streams.given streams.left
  pub writer : Keeps streams.held streams.holds

-- What a fault leaves. Where the reader refused, the pieces are those that ended before.
abbrev pub ShowsEarly : Streams → ℕ → ScriptFault → ℕ → Type 0
ShowsEarly streams before Memory after = ShowsNothing streams
ShowsEarly streams before (Reader error) after = ShowsPieces AreEnded streams before after
ShowsEarly streams before (Writer error) after = ShowsSome streams before after
