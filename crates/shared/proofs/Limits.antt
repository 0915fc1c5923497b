-- A limit of what the store counts is told only of a text that may reach it.
use Rattle.std.proofs.Common.{◌≡◌, ℕ, Bool, true, false, List, [], ◌∷◌, Ok, Err, sym, subst}
use Rattle.ast.specs.declared.statement.Statement.{Statement}
use Rattle.ast.specs.declared.statement.Statement.TheVariants as statement
use Rattle.lexer.specs.Token.{Bytes}
use Rattle.refusals.specs.declared.refusal.Refusal.{Refusal}
use Rattle.refusals.specs.declared.refusal.Refusal.TheVariants.{CursorState, Exceeded}
use Rattle.refusals.specs.declared.limit.Limit.TheVariants as limit
use Rattle.replies.specs.declared.reply.Reply.{Reply}
use Rattle.replies.specs.declared.reply.Reply.TheVariants as says_so
use Rattle.sessions.specs.Limits.{CallReaches, StatementReaches}
use Rattle.sessions.proofs.Limits.{told_wider}
use Rattle.store.specs.declared.error.StoreLimit.{StoreLimit}
use Rattle.store.specs.declared.error.StoreLimit.TheVariants as reached
use Rattle.transactions.specs.Refused.{IfRefused, TellsNoLimit, TellsReached}
use Rattle.shared.specs.declared.event.Event.{Event}
use Rattle.shared.specs.declared.event.Act.{Act}
use Rattle.shared.specs.declared.event.Act.TheVariants.{Connects, Refused, Says, Ends}
use Rattle.shared.specs.History.{EachAct, MayReach, TextMayReach, ActTellsLimits, calls_by}
use Rattle.shared.specs.Scripts.{Answer, AnswersTellLimits, Ask, Played, ask_of, opened}
use Rattle.shared.specs.Scripts.Ask.{joins, refused, says, leaves}
use Rattle.shared.proofs.Each.{EachAsk, each_played}

-- ---- a call

statement_may : (counted : StoreLimit → Type 0) (commits : ℕ) (x : Statement) (which : StoreLimit) → StatementReaches counted commits x which
    → StatementReaches (λ _. Unit {0}) commits x which
statement_may counted commits (statement.Commit work) reached.Kept h = tt
statement_may counted commits (statement.Commit work) which h = h
statement_may counted commits _ which h = h

pub call_told : (counted : StoreLimit → Type 0) (commits : ℕ) (text : Bytes) (reply : Reply) → IfRefused reply (TellsReached (CallReaches counted commits text))
    → IfRefused reply (TellsReached (TextMayReach text))
call_told counted commits text reply h =
    told_wider (CallReaches counted commits text) (TextMayReach text) (λ which h. (commits, (h.0, h.1, statement_may counted commits h.0 which h.2))) reply h

-- a query that is closed is refused by no limit
pub closing_told : (reply : Reply) → IfRefused reply (λ refusal. refusal ≡ CursorState) → IfRefused reply TellsNoLimit
closing_told (says_so.Refused refusal) h = subst (λ (x : Refusal). TellsNoLimit x) (sym h) tt
closing_told _ h = tt

-- ---- the answers of a script

abbrev AskTells : Ask → Type 0
AskTells joins = Unit {0}
AskTells (refused refusal) = refusal ≡ Exceeded limit.Sessions
AskTells (says asked reply) = IfRefused reply (TellsReached (MayReach asked))
AskTells leaves = Unit {0}

act_tells : (act : Act) → ActTellsLimits act → AskTells (ask_of act)
act_tells (Connects id) h = tt
act_tells (Refused refusal) h = h
act_tells (Says id asked reply) h = h
act_tells (Ends id) h = tt

answers_tell : (stands : Bool) (texts : List (List ℕ)) (answers : List Answer) → EachAsk AskTells (opened stands texts answers) → AnswersTellLimits texts answers
answers_tell stands [] answers h = tt
answers_tell stands (t ∷ texts) [] h = tt
answers_tell stands (t ∷ texts) (Err refusal ∷ answers) h = (h.0, answers_tell stands texts answers h.1)
answers_tell true (t ∷ texts) (Ok reply ∷ answers) h = (h.0, answers_tell true texts answers h.1)
answers_tell false (t ∷ texts) (Ok reply ∷ answers) h = (h.1.0, answers_tell true texts answers h.1.1)

pub limits_answered : (texts : List (List ℕ)) (who : ℕ) (log : List Event) (answers : List Answer) → Played texts (calls_by who log) answers → EachAct ActTellsLimits log
    → AnswersTellLimits texts answers
limits_answered texts who log answers played told = answers_tell false texts answers (each_played ActTellsLimits AskTells act_tells texts who log answers played told)
