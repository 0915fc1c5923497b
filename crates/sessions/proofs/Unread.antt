-- A text that is refused before it is known what it asks for.
use Rattle.std.proofs.Common.{◌≡◌, ◌≢◌, ◌⊎◌, ℕ, Option, refl, inl, inr}
use Rattle.refusals.specs.declared.refusal.Refusal.{Refusal}
use Rattle.refusals.specs.declared.refusal.Refusal.TheVariants as refused
use Rattle.lexer.specs.Token.{Bytes}
use Rattle.replies.specs.declared.reply.Reply.TheVariants as says
use Rattle.statement_definitions.specs.Reading.{IsUnread}
use Rattle.statement_definitions.specs.Rollback.{IsRollback}
use Rattle.std.specs.FinMap.{get}
use Rattle.session_definitions.specs.Asked.{Asked}
use Rattle.session_definitions.specs.Effect.{Effect}
use Rattle.session_definitions.specs.Rules.{Rules}
use Rattle.session_definitions.specs.Step.{Replies}
use Rattle.store.specs.Stored.{Stored}
use Rattle.transactions.specs.Moves.{Moves}
use Rattle.transactions.specs.Orderly.{IsOrderly}
use Rattle.transactions.specs.Shown.{Kept, settled}
use Rattle.transactions.proofs.Orders.{same}
use Rattle.transactions.proofs.Steps.{Answered, nothing_moves, withholds_memory}

pub is_memory : (r : Refusal) → (r ≡ refused.Memory) ⊎ (r ≢ refused.Memory)
is_memory refused.Memory = inl refl
is_memory refused.Disk = inr (λ e. cc)
is_memory (refused.Exceeded which) = inr (λ e. cc)
is_memory (refused.Invalid reason) = inr (λ e. cc)
is_memory refused.NotSupported = inr (λ e. cc)
is_memory refused.ManyRows = inr (λ e. cc)
is_memory refused.TextTooLong = inr (λ e. cc)
is_memory refused.OutOfRange = inr (λ e. cc)
is_memory refused.DivisionByZero = inr (λ e. cc)
is_memory (refused.Violated name) = inr (λ e. cc)
is_memory refused.CursorState = inr (λ e. cc)
is_memory refused.TransactionState = inr (λ e. cc)
is_memory refused.SerializationFailure = inr (λ e. cc)
is_memory refused.Damaged = inr (λ e. cc)

module _ (rules : Rules) (st : Stored) (w : Option ℕ) (s : ℕ) (kept : Kept) (text : Bytes) (refusal : Refusal) (other : IsRollback text → ⊥)
    (unread : refusal ≢ refused.Memory → IsUnread text refusal) where
  refusing : (refusal ≡ refused.Memory) ⊎ (refusal ≢ refused.Memory) → Answered rules st w s kept (Asked.Text text) (says.Refused refusal) Effect.Nothing
  refusing (inl e) = withholds_memory rules st w s kept text refusal other e
  refusing (inr ne) = Replies.unread refusal (unread ne) (record { says_so = refl; leaves_all = refl })

  pub refuses_text : IsOrderly st w → Moves rules s text (says.Refused refusal) st w kept st w (settled (get st.readers s) kept)
  refuses_text h = nothing_moves rules st w s kept (Asked.Text text) (says.Refused refusal) st h (refusing (is_memory refusal)) (same st st refl)
