-- Which replies tell a limit of what the store counts, its pages, private pages or kept page
-- images, and to which pieces they come.
use Rattle.std.specs.Prelude.{ℕ, ◌≤◌, List, [], ◌∷◌, Option, Some, None}
use Rattle.lexer.specs.Token.{Bytes}
use Rattle.replies.specs.declared.reply.Reply.{Reply}
use Rattle.script_pieces.specs.PieceMeaning.{Request, Asks}
use Rattle.sessions.specs.Limits.{CallReaches}
use Rattle.store.specs.declared.error.StoreLimit.{StoreLimit}
use Rattle.transactions.specs.Refused.{IfRefused, TellsReached}

-- after any number of commits
abbrev pub Ever : ℕ → Type 0
Ever commits = Unit {0}

-- after so many commits at most
abbrev pub UpTo : ℕ → ℕ → Type 0
UpTo last commits = commits ≤ last

-- The text is a change, which may reach each of them, or a COMMIT, which takes no private page, and
-- reaches the limit of pages only where the number of commits ends. `may` says after how many
-- commits.
abbrev pub TextReaches : (ℕ → Type 0) → Bytes → StoreLimit → Type 0
TextReaches may text which = (commits : ℕ) × may commits × CallReaches (λ _. Unit {0}) commits text which

-- the request is a call of such a text
abbrev pub RequestReaches : (ℕ → Type 0) → Request → StoreLimit → Type 0
RequestReaches may (Request.Calls text) which = TextReaches may text which
RequestReaches may (Request.ChoosesAndCalls session text) which = TextReaches may text which
RequestReaches may _ which = ⊥

-- the piece asks for one
abbrev pub PieceReaches : (ℕ → Type 0) → List ℕ → StoreLimit → Type 0
PieceReaches may piece which = (request : Request) × Asks piece request × RequestReaches may request which

-- the reply to a piece, where it has one, tells such a limit only where the piece may reach it
abbrev pub TellsLimits : (ℕ → Type 0) → List ℕ → Option Reply → Type 0
TellsLimits may piece (Some reply) = IfRefused reply (TellsReached (PieceReaches may piece))
TellsLimits may piece None = Unit {0}

-- and so each of a script's: there is one for each piece
abbrev pub TellLimits : (ℕ → Type 0) → List (List ℕ) → List (Option Reply) → Type 0
TellLimits may [] [] = Unit {0}
TellLimits may (piece ∷ pieces) (reply ∷ replies) = TellsLimits may piece reply × TellLimits may pieces replies
TellLimits may [] (reply ∷ replies) = ⊥
TellLimits may (piece ∷ pieces) [] = ⊥
