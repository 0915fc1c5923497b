-- A limit of what the store counts is told only of a piece that may reach it.
use Rattle.std.proofs.Common.{◌≡◌, ◌≤◌, ℕ, List, [], ◌∷◌, ◌++◌, Option, Some, None, sym, subst, inl, inr}
use Rattle.std.proofs.Math.Nat.{le_trans}
use Rattle.refusals.specs.declared.refusal.Refusal.{Refusal}
use Rattle.refusals.specs.declared.refusal.Refusal.TheVariants as refused
use Rattle.refusals.specs.declared.refusal.Refusal.TheVariants.{Exceeded}
use Rattle.refusals.specs.declared.limit.Limit.TheVariants as limit
use Rattle.lexer.specs.Token.{Bytes}
use Rattle.ast.specs.declared.statement.Statement.{Statement}
use Rattle.ast.specs.declared.statement.Statement.TheVariants as asks
use Rattle.replies.specs.declared.reply.Reply.{Reply}
use Rattle.replies.specs.declared.reply.Reply.TheVariants as says
use Rattle.script_pieces.specs.declared.request.Request as found
use Rattle.script_pieces.specs.declared.request.Request.TheVariants as found_variants
use Rattle.script_pieces.specs.PieceMeaning.{Request, Asks}
use Rattle.script_pieces.specs.Cutter.{asked}
use Rattle.session_definitions.specs.Refusals.{StopsFlush}
use Rattle.session_definitions.specs.Script.{RepliesToFlush}
use Rattle.sessions.specs.Limits.{CallReaches, StatementReaches}
use Rattle.sessions.proofs.Limits.{tells_none, told_wider}
use Rattle.store.specs.declared.error.StoreLimit.{StoreLimit}
use Rattle.store.specs.declared.error.StoreLimit.TheVariants as reached
use Rattle.transactions.specs.Refused.{IfRefused, TellsReached, TellsNoLimit}
use Rattle.scripts.specs.ToldLimits.{UpTo, TextReaches, RequestReaches, PieceReaches, TellsLimits, TellLimits}

-- ---- a call

statement_may : (counted : StoreLimit → Type 0) (commits : ℕ) (x : Statement) (which : StoreLimit) → StatementReaches counted commits x which
    → StatementReaches (λ _. Unit {0}) commits x which
statement_may counted commits (asks.Commit work) reached.Kept h = tt
statement_may counted commits (asks.Commit work) which h = h
statement_may counted commits _ which h = h

pub call_told : (may : ℕ → Type 0) (counted : StoreLimit → Type 0) (commits : ℕ) (text : Bytes) (reply : Reply) → may commits → IfRefused reply (TellsReached (CallReaches counted commits text))
    → IfRefused reply (TellsReached (TextReaches may text))
call_told may counted commits text reply after h =
    told_wider (CallReaches counted commits text) (TextReaches may text) (λ which h. (commits, after, (h.0, h.1, statement_may counted commits h.0 which h.2))) reply h

-- the session was not made
pub not_made_told : (refusal : Refusal) → refusal ≡ Exceeded limit.Sessions → TellsNoLimit refusal
not_made_told refusal is = subst TellsNoLimit (sym is) tt

pub none_told : (may : ℕ → Type 0) (text : Bytes) (refusal : Refusal) → TellsNoLimit refusal → IfRefused (says.Refused refusal) (TellsReached (TextReaches may text))
none_told may text refusal h = tells_none (TextReaches may text) refusal h

-- ---- a request

flush_tells : (refusal : Refusal) → StopsFlush refusal → TellsNoLimit refusal
flush_tells refused.Memory stops = tt
flush_tells refused.Disk stops = tt
flush_tells _ stops = absurd stops

pub flush_told : (may : ℕ → Type 0) (request : Request) (reply : Reply) → RepliesToFlush reply → IfRefused reply (TellsReached (RequestReaches may request))
flush_told may request reply (inl done) = subst (λ r. IfRefused r (TellsReached (RequestReaches may request))) (sym done) tt
flush_told may request reply (inr (refusal, stops, is)) =
    subst (λ r. IfRefused r (TellsReached (RequestReaches may request))) (sym is) (tells_none (RequestReaches may request) refusal (flush_tells refusal stops))

pub request_told : (may : ℕ → Type 0) (request : found.Request) (chosen : Option ℕ) (text call : List ℕ) (reply : Reply) → request ≡ found_variants.Calls chosen → call ≡ text
    → IfRefused reply (TellsReached (TextReaches may call)) → IfRefused reply (TellsReached (RequestReaches may (asked request text)))
request_told may request chosen text call reply is same h =
    subst (λ (q : found.Request). IfRefused reply (TellsReached (RequestReaches may (asked q text)))) (sym is)
    (told_wider (TextReaches may call) (RequestReaches may (asked (found_variants.Calls chosen) text)) (λ which reaches. reaching chosen which (subst (λ (t : List ℕ). TextReaches may t which) same reaches)) reply h)
  where
    reaching : (chosen : Option ℕ) (which : StoreLimit) → TextReaches may text which → RequestReaches may (asked (found_variants.Calls chosen) text) which
    reaching None which h = h
    reaching (Some session) which h = h

-- ---- a piece

pub piece_told : (may : ℕ → Type 0) (piece : List ℕ) (request : Request) (reply : Reply) → Asks piece request → IfRefused reply (TellsReached (RequestReaches may request))
    → IfRefused reply (TellsReached (PieceReaches may piece))
piece_told may piece request reply asks h = told_wider (RequestReaches may request) (PieceReaches may piece) (λ which reaches. (request, asks, reaches)) reply h

-- ---- the pieces of a script

pub limits_more : (may : ℕ → Type 0) (pieces : List (List ℕ)) (replies : List (Option Reply)) (piece : List ℕ) (reply : Option Reply) → TellLimits may pieces replies → TellsLimits may piece reply
    → TellLimits may (pieces ++ piece ∷ []) (replies ++ reply ∷ [])
limits_more may [] [] piece reply h one = (one, tt)
limits_more may (p ∷ pieces) (r ∷ replies) piece reply h one = (h.0, limits_more may pieces replies piece reply h.1 one)
limits_more may [] (r ∷ replies) piece reply h one = absurd h
limits_more may (p ∷ pieces) [] piece reply h one = absurd h

-- what is told after so many commits at most is told after no more than are there later

request_later : (m n : ℕ) → m ≤ n → (request : Request) (which : StoreLimit) → RequestReaches (UpTo m) request which → RequestReaches (UpTo n) request which
request_later m n more (Request.Calls text) which h = (h.0, le_trans h.1 more, h.2)
request_later m n more (Request.ChoosesAndCalls session text) which h = (h.0, le_trans h.1 more, h.2)
request_later m n more _ which h = absurd h

piece_later : (m n : ℕ) → m ≤ n → (piece : List ℕ) (reply : Option Reply) → TellsLimits (UpTo m) piece reply → TellsLimits (UpTo n) piece reply
piece_later m n more piece (Some reply) h =
    told_wider (PieceReaches (UpTo m) piece) (PieceReaches (UpTo n) piece) (λ which reaches. (reaches.0, reaches.1, request_later m n more reaches.0 which reaches.2)) reply h
piece_later m n more piece None h = tt

pub limits_later : (m n : ℕ) → m ≤ n → (pieces : List (List ℕ)) (replies : List (Option Reply)) → TellLimits (UpTo m) pieces replies → TellLimits (UpTo n) pieces replies
limits_later m n more [] [] h = tt
limits_later m n more (piece ∷ pieces) (reply ∷ replies) h = (piece_later m n more piece reply h.0, limits_later m n more pieces replies h.1)
limits_later m n more [] (reply ∷ replies) h = absurd h
limits_later m n more (piece ∷ pieces) [] h = absurd h
