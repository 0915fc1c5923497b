-- What one turn tells and leaves, where the query is open.
use Rattle.std.proofs.Common.{◌≡◌, ◌⊎◌, ℕ, ◌<◌, List, length, Some, None, ap, ◌∙◌, subst, inl, inr, arith}
use Rattle.sqlval.specs.Value.{Row}
use Rattle.refusals.specs.declared.refusal.Refusal.{Refusal}
use Rattle.denote.specs.declared.fault.Fault.{Fault}
use Rattle.replies.specs.declared.reply.Reply.{Reply}
use Rattle.replies.specs.declared.reply.Reply.TheVariants as says
use Rattle.session_definitions.specs.Calls.{TakesIn, ClosesQueryIn}
use Rattle.session_definitions.specs.Cursor.{IsAtEnd, MayRaise, having_given}
use Rattle.session_definitions.specs.Effect.{Effect}
use Rattle.session_definitions.specs.Refusals.{IsReserved, refusal_of}
use Rattle.session_definitions.specs.Transactions.{active, with_unnamed}
use Rattle.session_definitions.specs.World.{Cursor, Transaction, Session}

module _ (session : Session) (t : Transaction) (cursor : Cursor) (has : t.unnamed ≡ Some cursor) (effect : Effect) where
  -- rows: they come next, and fewer than asked for are the last
  pub given_in : (n : ℕ) (rows : List Row) → TakesIn session t n (says.Rows rows) effect
      → (effect ≡ Effect.Becomes (active session (with_unnamed t (Some (having_given cursor rows)))))
      × (length rows < n → IsAtEnd (having_given cursor rows))
  given_in n rows (TakesIn.not_open none r) = cc
  given_in n rows (TakesIn.all other given is may long says e) =
      let same : other ≡ cursor = cc in
      let told : given ≡ rows = cc in (
        e ∙ ap (λ c. Effect.Becomes (active session (with_unnamed t (Some (having_given c given))))) same
            ∙ ap (λ g. Effect.Becomes (active session (with_unnamed t (Some (having_given cursor g))))) told,
        λ few. let l : length given ≡ length rows = ap length told in absurd (omega arith),
      )
  given_in n rows (TakesIn.fewer other given is few end says e) =
      let same : other ≡ cursor = cc in
      let told : given ≡ rows = cc in (
        e ∙ ap (λ c. Effect.Becomes (active session (with_unnamed t (Some (having_given c given))))) same
            ∙ ap (λ g. Effect.Becomes (active session (with_unnamed t (Some (having_given cursor g))))) told,
        λ less. subst (λ c. IsAtEnd (having_given c rows)) same (subst (λ g. IsAtEnd (having_given other g)) told end),
      )
  given_in n rows (TakesIn.raises other fault is some may says e) = cc
  given_in n rows (TakesIn.withheld refusal other is of says e) = cc

  -- a refusal: the query is closed
  pub refused_in : (n : ℕ) (refusal : Refusal) → TakesIn session t n (says.Refused refusal) effect
      → (effect ≡ Effect.Becomes (active session (with_unnamed t None)))
      × (IsReserved refusal ⊎ ((fault : Fault) × MayRaise cursor fault × (refusal ≡ refusal_of fault)))
  refused_in n refusal (TakesIn.not_open none r) = cc
  refused_in n refusal (TakesIn.all other given is may long says e) = cc
  refused_in n refusal (TakesIn.fewer other given is few end says e) = cc
  refused_in n refusal (TakesIn.raises other fault is some may says e) =
      let same : other ≡ cursor = cc in
      let told : refusal ≡ refusal_of fault = cc in
      (e, inr (fault, subst (λ c. MayRaise c fault) same may, told))
  refused_in n refusal (TakesIn.withheld stood other is of says e) =
      let told : stood ≡ refusal = cc in (e, inl (subst IsReserved told of))

  -- it is closed
  pub closed_in : (reply : Reply) → ClosesQueryIn session t reply effect
      → (reply ≡ says.Done) × (effect ≡ Effect.Becomes (active session (with_unnamed t None)))
  closed_in reply (ClosesQueryIn.not_open none r) = cc
  closed_in reply (ClosesQueryIn.closes is says e) = (says, e)
