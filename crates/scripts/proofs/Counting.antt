-- Each X0002 among the replies has a refused call of its own.
use Rattle.std.proofs.Common.{◌≡◌, ◌≢◌, refl, sym, subst, ℕ, ◌+◌, ◌-◌, ◌^◌, ◌≤◌, Bool, true, false, cond, List, [], ◌∷◌, ◌++◌, Option, arith}
use Rattle.std.specs.Prelude.{min}
use Rattle.std.proofs.lemmas.Bool.{true≢false}
use Rattle.std.proofs.lemmas.List.Sums.{sum_by_push}
use Rattle.std.proofs.Math.Nat.{le_trans}
use Rattle.refusals.specs.declared.refusal.Refusal.{Refusal}
use Rattle.refusals.specs.declared.refusal.Refusal.TheVariants.{Disk}
use Rattle.replies.specs.declared.reply.Reply.{Reply}
use Rattle.replies.specs.declared.reply.Reply.TheVariants as says
use Rattle.store.specs.Errors.{HasRisen}
use Rattle.transactions.specs.Refused.{Counts}
use Rattle.scripts.specs.Device.{TellDevice, disk_count, is_disk, shows_disk, tells_disk}

-- ---- a reply

only_disk : (refusal : Refusal) → is_disk refusal ≡ true → refusal ≡ Disk
only_disk Disk is = refl
only_disk _ is = absurd (true≢false (sym is))

pub told_risen : (reply : Reply) (m n : ℕ) → Counts reply m n → tells_disk reply ≡ true → HasRisen m n
told_risen (says.Refused refusal) m n counts is = counts (only_disk refusal is)
told_risen _ m n counts is = absurd (true≢false (sym is))

-- a reply that is another refusal
pub counts_other : (refusal : Refusal) (m n : ℕ) → refusal ≢ Disk → Counts (says.Refused refusal) m n
counts_other refusal m n other = λ is. absurd (other is)

-- ---- replies, one after another

none_counted : (top before : ℕ) → min (0 + before) top ≤ before
none_counted top before = omega arith

one_counted : (top told before m n : ℕ) → min (told + before) top ≤ m → min (m + 1) top ≤ n → min ((told + 1) + before) top ≤ n
one_counted top told before m n counted risen = omega (arith, counted, risen)

still_counted : (top told before m n : ℕ) → min (told + before) top ≤ m → m ≤ n → min ((told + 0) + before) top ≤ n
still_counted top told before m n counted more = omega (arith, counted, more)

pub told_first : (before : ℕ) → TellDevice [] before before
told_first before = none_counted (2 ^ 64 - 1) before

-- the count has not fallen
pub told_on : (replies : List (Option Reply)) (before m n : ℕ) → TellDevice replies before m → m ≤ n → TellDevice replies before n
told_on replies before m n counted more = le_trans counted more

told_by : (one : Bool) (told before m n : ℕ) → min (told + before) (2 ^ 64 - 1) ≤ m → (one ≡ true → HasRisen m n) → m ≤ n → min ((told + cond one 1 0) + before) (2 ^ 64 - 1) ≤ n
told_by true told before m n counted risen more = one_counted (2 ^ 64 - 1) told before m n counted (risen refl)
told_by false told before m n counted risen more = still_counted (2 ^ 64 - 1) told before m n counted more

-- one reply more
pub told_more : (replies : List (Option Reply)) (reply : Option Reply) (before m n : ℕ) → TellDevice replies before m → (shows_disk reply ≡ true → HasRisen m n) → m ≤ n
    → TellDevice (replies ++ reply ∷ []) before n
told_more replies reply before m n counted risen more =
    subst (λ (told : ℕ). min (told + before) (2 ^ 64 - 1) ≤ n) (sym (sum_by_push (λ (x : Option Reply). cond (shows_disk x) 1 0) replies reply))
    (told_by (shows_disk reply) (disk_count replies) before m n counted risen more)
