-- What a call tells of answers "damaged" of its store.
use Rattle.std.proofs.Common.{◌≡◌, ℕ, true, false, refl, sym, ap, subst, ◌∙◌}
use Rattle.refusals.specs.declared.refusal.Refusal.{Refusal}
use Rattle.refusals.specs.declared.refusal.Refusal.TheVariants.{Memory, TransactionState}
use Rattle.ast.specs.declared.statement.Statement.{Statement}
use Rattle.ast.specs.declared.statement.Statement.TheVariants as asks
use Rattle.replies.specs.declared.reply.Reply.{Reply}
use Rattle.replies.specs.declared.reply.Reply.TheVariants as says
use Rattle.store.specs.declared.error.StoreError.{StoreError}
use Rattle.store.specs.declared.error.StoreError.TheVariants as error
use Rattle.store.specs.declared.error.StoreLimit.{StoreLimit}
use Rattle.store.specs.Errors.{MayFail, Tells}
use Rattle.transactions.specs.Refused.{IfRefused, TellsDamage}
use Rattle.sessions.specs.Kinds.{is_change, is_of_cursor, is_of_transaction}

-- the call of a store that never answers so, as a flush
pub never_damaged : (k m old new : ℕ) (reached : StoreLimit → Type 0) (e : StoreError) → MayFail (Unit {0}) k m reached e → Tells e old new → new ≡ old
never_damaged k m old new reached error.Memory may h = h
never_damaged k m old new reached error.Device may h = h
never_damaged k m old new reached error.Damaged may h = absurd (may tt)
never_damaged k m old new reached (error.Exceeded which) may h = h

-- want of memory, and what the state of a transaction refuses, are no damage
pub memory_tells : (refusal : Refusal) (k : ℕ) → refusal ≡ Memory → TellsDamage (says.Refused refusal) k k
memory_tells refusal k is = subst (λ (r : Refusal). TellsDamage (says.Refused r) k k) (sym is) refl

pub state_tells : (reply : Reply) (k : ℕ) → IfRefused reply (λ refusal. refusal ≡ TransactionState) → TellsDamage reply k k
state_tells (says.Refused refusal) k h = subst (λ (r : Refusal). TellsDamage (says.Refused r) k k) (sym h) refl
state_tells _ k h = refl

-- ---- statements that are not of transactions

pub is_of_none : (P : Type 0) (x other : Statement) → x ≡ other → is_of_transaction other ≡ false → is_of_transaction x ≡ true → P
is_of_none P x other is none of = let bad : true ≡ false = sym of ∙ ap is_of_transaction is ∙ none in absurd (cc)

pub change_is_of_none : (P : Type 0) (x : Statement) → is_change x ≡ true → is_of_transaction x ≡ true → P
change_is_of_none P (asks.Commit work) changes of = absurd (cc)
change_is_of_none P (asks.Rollback work) changes of = absurd (cc)
change_is_of_none P (asks.SetTransaction mode) changes of = absurd (cc)
change_is_of_none P _ changes of = absurd (cc)

pub cursor_is_of_none : (P : Type 0) (x : Statement) → is_of_cursor x ≡ true → is_of_transaction x ≡ true → P
cursor_is_of_none P (asks.Commit work) cursor of = absurd (cc)
cursor_is_of_none P (asks.Rollback work) cursor of = absurd (cc)
cursor_is_of_none P (asks.SetTransaction mode) cursor of = absurd (cc)
cursor_is_of_none P _ cursor of = absurd (cc)
