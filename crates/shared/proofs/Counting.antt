-- X0002 is told only where the device refused a call.
use Rattle.std.proofs.Common.{◌≡◌, ◌∙◌, ℕ, ◌+◌, ◌-◌, ◌^◌, ◌≤◌, Bool, true, false, List, [], ◌∷◌, ◌++◌, Ok, Err, length, refl, sym, arith}
use Rattle.std.specs.Prelude.{min}
use Rattle.std.proofs.Math.Nat.{le_refl, le_trans}
use Rattle.refusals.specs.declared.refusal.Refusal.{Refusal}
use Rattle.refusals.specs.declared.refusal.Refusal.TheVariants.{CursorState, Disk, Exceeded}
use Rattle.refusals.specs.declared.limit.Limit.TheVariants as limit
use Rattle.replies.specs.declared.reply.Reply.{Reply}
use Rattle.replies.specs.declared.reply.Reply.TheVariants as says_so
use Rattle.sessions.proofs.Devices.{risen_later, risen_still}
use Rattle.store.specs.Errors.{HasRisen}
use Rattle.transactions.specs.Refused.{Counts, IfRefused}
use Rattle.shared.specs.declared.event.Event.{Event}
use Rattle.shared.specs.declared.event.Act.{Act}
use Rattle.shared.specs.declared.event.Act.TheVariants.{Connects, Refused, Says, Ends}
use Rattle.shared.specs.History.{AllTellDevice, EachAct, HasRisenBy, IsCounted, TellsDevice, ActTellsLimits, calls_by, disks_told, is_disk, one_if, says_disk, tells_disk}
use Rattle.shared.specs.Scripts.{AllTellDeviceIf, Answer, Ask, Played, TellsDeviceIf, ask_of, opened}
use Rattle.shared.specs.Scripts.Ask.{joins, refused, says, leaves}
use Rattle.shared.proofs.Each.{EachAsk, each_and, each_played}

-- ---- the count goes on

reply_still : (reply : Reply) (k m n : ℕ) → m ≤ n → Counts reply k m → Counts reply k n
reply_still (says_so.Refused refusal) k m n more h = λ is. risen_still k m n (h is) more
reply_still _ k m n more h = tt

reply_later : (reply : Reply) (k m n : ℕ) → k ≤ m → Counts reply m n → Counts reply k n
reply_later (says_so.Refused refusal) k m n less h = λ is. risen_later k m n less (h is)
reply_later _ k m n less h = tt

act_still : (act : Act) (k m n : ℕ) → m ≤ n → TellsDevice act k m → TellsDevice act k n
act_still (Connects id) k m n more h = tt
act_still (Refused refusal) k m n more h = λ is. risen_still k m n (h is) more
act_still (Says id asked reply) k m n more h = reply_still reply k m n more h
act_still (Ends id) k m n more h = tt

act_later : (act : Act) (k m n : ℕ) → k ≤ m → TellsDevice act m n → TellsDevice act k n
act_later (Connects id) k m n less h = tt
act_later (Refused refusal) k m n less h = λ is. risen_later k m n less (h is)
act_later (Says id asked reply) k m n less h = reply_later reply k m n less h
act_later (Ends id) k m n less h = tt

-- one call more
told_more : (log : List Event) (e : Event) (k m : ℕ) → m ≤ e.refused → TellsDevice e.act m e.refused → AllTellDevice log k m → AllTellDevice (log ++ e ∷ []) k e.refused
told_more [] e k m more tells h = (le_trans h more, act_later e.act k m e.refused h tells, le_refl e.refused)
told_more (d ∷ log) e k m more tells h = (h.0, h.1, told_more log e d.refused m more tells h.2)

least_of : (log : List Event) (k m : ℕ) → AllTellDevice log k m → k ≤ m
least_of [] k m h = h
least_of (e ∷ log) k m h = le_trans h.0 (least_of log e.refused m h.2)

-- where X0002 was told of a call, the count rose between the ends of the history
pub each_rose : (first : ℕ) (log : List Event) (k m : ℕ) → first ≤ k → AllTellDevice log k m → EachAct (λ act. TellsDevice act first m) log
each_rose first [] k m less h = tt
each_rose first (e ∷ log) k m less h =
    (act_still e.act first e.refused m (least_of log e.refused m h.2) (act_later e.act first k e.refused less h.1), each_rose first log e.refused m (le_trans less h.0) h.2)

-- ---- how many were told X0002

rises_by : (top k r n m : ℕ) → min (k + 1) top ≤ r → min (r + n) top ≤ m → min (k + (1 + n)) top ≤ m
rises_by top k r n m one more = omega (arith, one, more)

rises_by_none : (top k r n m : ℕ) → k ≤ r → min (r + n) top ≤ m → min (k + (0 + n)) top ≤ m
rises_by_none top k r n m less more = omega (arith, less, more)

keeps_by : (top k m : ℕ) → k ≤ m → min (k + 0) top ≤ m
keeps_by top k m less = omega (arith, less)

disk_is : (refusal : Refusal) → is_disk refusal ≡ true → refusal ≡ Disk
disk_is Disk is = refl
disk_is _ is = absurd (cc is)

reply_rose : (reply : Reply) (k m : ℕ) → Counts reply k m → says_disk reply ≡ true → HasRisen k m
reply_rose (says_so.Refused refusal) k m h is = h (disk_is refusal is)
reply_rose _ k m h is = absurd (cc is)

act_rose : (act : Act) (k m : ℕ) → TellsDevice act k m → tells_disk act ≡ true → HasRisen k m
act_rose (Connects id) k m h is = absurd (cc is)
act_rose (Refused refusal) k m h is = h (disk_is refusal is)
act_rose (Says id asked reply) k m h is = reply_rose reply k m h is
act_rose (Ends id) k m h is = absurd (cc is)

rose_with : (b : Bool) (top k r n m : ℕ) → k ≤ r → (b ≡ true → min (k + 1) top ≤ r) → min (r + n) top ≤ m → min (k + (one_if b + n)) top ≤ m
rose_with true top k r n m less rose more = rises_by top k r n m (rose refl) more
rose_with false top k r n m less rose more = rises_by_none top k r n m less more

told_as_many : (log : List Event) (k m : ℕ) → AllTellDevice log k m → HasRisenBy (disks_told log) k m
told_as_many [] k m h = keeps_by (2 ^ 64 - 1) k m h
told_as_many (e ∷ log) k m h =
    rose_with (tells_disk e.act) (2 ^ 64 - 1) k e.refused (disks_told log) m h.0 (λ is. act_rose e.act k e.refused h.1 is) (told_as_many log e.refused m h.2)

-- ---- what is counted of a history

counted_by : (k m : ℕ) (log : List Event) → AllTellDevice log k m → EachAct ActTellsLimits log → IsCounted k m log
counted_by k m log told limits = record { least = least_of log k m told; told = told; as_many = told_as_many log k m told; limits = limits }

pub counted_none : (k m : ℕ) → k ≤ m → IsCounted k m []
counted_none k m less = counted_by k m [] less tt

-- one call more
pub counted_after : (k m : ℕ) (log : List Event) (e : Event) → m ≤ e.refused → TellsDevice e.act m e.refused → ActTellsLimits e.act → IsCounted k m log → IsCounted k e.refused (log ++ e ∷ [])
counted_after k m log e more tells limits h = counted_by k e.refused (log ++ e ∷ []) (told_more log e k m more tells h.told) (each_and ActTellsLimits log e h.limits limits)

told_raised : (log : List Event) (k m n : ℕ) → m ≤ n → AllTellDevice log k m → AllTellDevice log k n
told_raised [] k m n more h = le_trans h more
told_raised (e ∷ log) k m n more h = (h.0, h.1, told_raised log e.refused m n more h.2)

-- the count of refused calls rose, and nothing was called
pub counted_raised : (k m n : ℕ) (log : List Event) → m ≤ n → IsCounted k m log → IsCounted k n log
counted_raised k m n log more h = counted_by k n log (told_raised log k m n more h.told) h.limits

pub same_count : (m n : ℕ) → n ≡ m → m ≤ n
same_count m n is = omega (arith, is)

pub not_disk : (refusal : Refusal) (m n : ℕ) → refusal ≡ Exceeded limit.Sessions → refusal ≡ Disk → HasRisen m n
not_disk refusal m n is disk = let bad : Exceeded limit.Sessions ≡ Disk = sym is ∙ disk in absurd (cc)

-- a call that is refused by the state of cursors alone is refused by no device
pub closing_disk : (reply : Reply) (m n : ℕ) → IfRefused reply (λ refusal. refusal ≡ CursorState) → Counts reply m n
closing_disk (says_so.Refused refusal) m n h = λ is. let bad : CursorState ≡ Disk = sym h ∙ is in absurd (cc)
closing_disk _ m n h = tt

-- ---- the answers of a script

module _ (has_refused : Type 0) where
  abbrev AskTells : Ask → Type 0
  AskTells joins = Unit {0}
  AskTells (refused refusal) = refusal ≡ Disk → has_refused
  AskTells (says asked reply) = IfRefused reply (λ refusal. refusal ≡ Disk → has_refused)
  AskTells leaves = Unit {0}

  answers_tell : (stands : Bool) (texts : List (List ℕ)) (answers : List Answer) → length answers ≡ length texts → EachAsk AskTells (opened stands texts answers)
      → AllTellDeviceIf has_refused answers
  answers_tell stands texts [] same h = tt
  answers_tell stands [] (a ∷ answers) same h = absurd (cc same)
  answers_tell stands (t ∷ texts) (Err refusal ∷ answers) same h = (h.0, answers_tell stands texts answers (omega (arith, same)) h.1)
  answers_tell true (t ∷ texts) (Ok reply ∷ answers) same h = (h.0, answers_tell true texts answers (omega (arith, same)) h.1)
  answers_tell false (t ∷ texts) (Ok reply ∷ answers) same h = (h.1.0, answers_tell true texts answers (omega (arith, same)) h.1.1)

act_tells : (act : Act) (m n : ℕ) → TellsDevice act m n → AskTells (HasRisen m n) (ask_of act)
act_tells (Connects id) m n h = tt
act_tells (Refused refusal) m n h = h
act_tells (Says id asked reply) m n h = h
act_tells (Ends id) m n h = tt

pub answered : (m n : ℕ) (texts : List (List ℕ)) (who : ℕ) (log : List Event) (answers : List Answer) → Played texts (calls_by who log) answers → AllTellDevice log m n
    → AllTellDeviceIf (HasRisen m n) answers
answered m n texts who log answers played told =
    answers_tell (HasRisen m n) false texts answers played.1
    (each_played (λ act. TellsDevice act m n) (AskTells (HasRisen m n)) (λ act h. act_tells act m n h) texts who log answers played (each_rose m log m n (le_refl m) told))

-- where the device refused a call, in other words
answer_by : (P Q : Type 0) → (P → Q) → (answer : Answer) → TellsDeviceIf P answer → TellsDeviceIf Q answer
answer_by P Q step (Err refusal) h = λ is. step (h is)
answer_by P Q step (Ok (says_so.Refused refusal)) h = λ is. step (h is)
answer_by P Q step (Ok _) h = tt

pub answers_by : (P Q : Type 0) → (P → Q) → (answers : List Answer) → AllTellDeviceIf P answers → AllTellDeviceIf Q answers
answers_by P Q step [] h = tt
answers_by P Q step (a ∷ answers) h = (answer_by P Q step a h.0, answers_by P Q step answers h.1)
