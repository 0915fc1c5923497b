-- A store that is closed behind a command.
use Rattle.std.proofs.Common.{◌≡◌, ◌⊎◌, inl, inr, ◌∙◌, refl, sym, subst, ℕ, ◌≤◌, Bool, List, Option, Some, None, arith}
use Rattle.std.specs.Prelude.{IfSome}
use Rattle.denote.specs.Database.{Database}
use Rattle.endings.specs.Status.{IsStatus}
use Rattle.sessions.proofs.Devices.{risen_later}
use Rattle.transfers.specs.Transfers.{Closes, HandsBack}

module _ {D C : Type 0} (was : ℕ) (was_told : Bool) (held holds : Option (List ℕ)) (status : ℕ) (is_told : Bool) (device : Option D) (core : Option C) where
  -- the status is that of what was said, or 3
  pub closed_status : IsStatus was → Closes was was_told held holds status is_told device core → IsStatus status
  closed_status of (Closes.closed back there same is told) = subst IsStatus (sym is) of
  closed_status of (Closes.not_closed back there none tells is) = inr (inr is)

  pub closed_failed : was ≡ 3 → Closes was was_told held holds status is_told device core → status ≡ 3
  closed_failed of (Closes.closed back there same is told) = is ∙ of
  closed_failed of (Closes.not_closed back there none tells is) = is

-- what is handed back counts no less than was counted before
module _ {D C : Type 0} (settled : D → Type 0) (calls : D → ℕ) (refused : C → ℕ) (before after : ℕ) (more : before ≤ after) (device : Option D) where
  pub handed_since : (core : Option C) → HandsBack settled calls refused after device core → HandsBack settled calls refused before device core
  handed_since core (HandsBack.closed back is synced least) = HandsBack.closed back is synced (omega (arith, more, least))
  handed_since (Some back) (HandsBack.not_closed none risen) = HandsBack.not_closed none (risen_later before after (refused back) more risen)
  handed_since None (HandsBack.not_closed none risen) = HandsBack.not_closed none risen

-- a session is made or not, which counts nothing
pub no_more : (before after : ℕ) → after ≡ before → before ≤ after
no_more before after is = omega (arith, is)

pub no_less_behind : (before mid after : ℕ) → mid ≡ before → mid ≤ after → before ≤ after
no_less_behind before mid after is less = omega (arith, is, less)
