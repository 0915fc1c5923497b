-- Refused calls that are counted over two calls of a core.
use Rattle.std.proofs.Common.{◌≡◌, ◌≤◌, ◌+◌, ◌-◌, ◌^◌, ◌⊎◌, inl, ℕ, false, arith}
use Rattle.std.specs.Prelude.{min}
use Rattle.refusals.specs.declared.refusal.Refusal.{Refusal}
use Rattle.refusals.specs.declared.refusal.Refusal.TheVariants.{Disk}
use Rattle.replies.specs.declared.reply.Reply.{Reply}
use Rattle.replies.specs.declared.reply.Reply.TheVariants as says
use Rattle.replies.specs.Refused.{is_refusal}
use Rattle.store.specs.Errors.{HasRisen}
use Rattle.transactions.specs.Refused.{Counts, IfRefused}
use Rattle.csvio.specs.Loading.{first_refusal}

unrefused : (reply : Reply) (P : Refusal → Type 0) → is_refusal reply ≡ false → IfRefused reply P
unrefused (says.Refused refusal) P e = absurd (cc)
unrefused _ P e = tt

rises_from : (top a b c : ℕ) → a ≤ b → min (b + 1) top ≤ c → min (a + 1) top ≤ c
rises_from top a b c less more = omega (arith, less, more)

-- the second follows one that is accepted
pub counted_behind : (first second : Reply) (old mid new : ℕ) → old ≤ mid → is_refusal first ≡ false → Counts second mid new → Counts (first_refusal first second) old new
counted_behind first (says.Refused refusal) old mid new less accepted h = λ e. rises_from (2 ^ 64 - 1) old mid new less (h e)
counted_behind first _ old mid new less accepted h = unrefused first _ accepted

-- of the device, and not of the reader
pub of_device : (reply : Reply) (old new : ℕ) (unread : Type 0) → Counts reply old new → IfRefused reply (λ refusal. refusal ≡ Disk → HasRisen old new ⊎ unread)
of_device (says.Refused refusal) old new unread h = λ e. inl (h e)
of_device _ old new unread h = tt
