-- Scripts that ran over a core that was opened, and what is handed back.
use Rattle.std.proofs.Common.{◌≡◌, ◌⊎◌, inl, inr, ◌≤◌, ◌+◌, ◌-◌, ◌^◌, List, Option, Result, ℕ, sym, subst, arith}
use Rattle.std.specs.Prelude.{⊤, min}
use Rattle.denote.specs.Database.{Database}
use Rattle.refusals.specs.declared.refusal.Refusal.{Refusal}
use Rattle.refusals.specs.declared.refusal.Refusal.TheVariants.{Damaged, Disk, Exceeded, Memory}
use Rattle.refusals.specs.declared.limit.Limit.TheVariants as limit
use Rattle.session_definitions.specs.World.{World}
use Rattle.shared.specs.Scripts.{RunSideBySide, Script}
use Rattle.shared.proofs.Counting.{answers_by}
use Rattle.store.specs.Errors.{HasRisen}
use Rattle.parallel_scripts.specs.declared.handed.HandedBack.{HandedBack}
use Rattle.parallel_scripts.specs.declared.handed.HandedBack.TheVariants as handed
use Rattle.parallel_scripts.specs.Cut.{Parts}
use Rattle.parallel_scripts.specs.Ends.{Puts}
use Rattle.parallel_scripts.specs.Handed.{BeginsGood, HandsAny, HandsBack, IfUnopened, IsToldUnopened, IsUnopened, Left}
use Rattle.parallel_scripts.specs.Many.{Ran, Runs, Shows}
use Rattle.parallel_scripts.specs.Shown.{Answers}
use Rattle.parallel_scripts.proofs.Endings.{puts_by}

-- over a core that was sound, and stays so
module _ (premise sound : Type 0) (start end : World) (before after : ℕ) (scripts : List Script) (answers : List Answers) (holds : premise)
    (h : RunSideBySide premise start before scripts answers sound end after) where
  pub ran : (has_refused : Type 0) → (HasRisen before after → has_refused) → Ran start scripts answers end has_refused
  ran has_refused so = record {
    history = record {
      log = h.history.log;
      all_of = h.history.all_of;
      own = h.history.own;
      all = h.history.all;
      each = h.history.each;
      tells = λ one rules are good. (tt, (h.history.tells holds rules are good).1);
    };
    device = λ k one is. answers_by (HasRisen before after) has_refused so one.items (h.device k one is);
    limits = h.limits;
  }

  pub stays : BeginsGood start → sound
  stays good = (h.history.tells holds good.0 good.1 good.2).0

-- ---- the count of refused calls

rises_twice : (top k m n : ℕ) → min (k + 1) top ≤ m → min (m + 1) top ≤ n → min (k + 1) top ≤ n
rises_twice top k m n one two = omega (arith, one, two)

pub risen_twice : (k m n : ℕ) → HasRisen k m → HasRisen m n → HasRisen k n
risen_twice k m n one two = rises_twice (2 ^ 64 - 1) k m n one two

-- ---- what is handed back

shows_by : (P Q : Left → Type 0) → ((left : Left) → P left → Q left) → (end : World) (parts : List Parts) (answers : List Answers) (text : List ℕ) (status : ℕ)
    → Shows P end parts answers text status → Shows Q end parts answers text status
shows_by P Q so end parts answers text status (Shows.closed is told kept) = Shows.closed is told (so (Left.closed end) kept)
shows_by P Q so end parts answers text status (Shows.not_closed is told kept) = Shows.not_closed is told (so Left.unclosed kept)

runs_by : (start : World) (P Q : Left → Type 0) → ((left : Left) → P left → Q left) → (has_refused : Type 0) (scripts : List Script) (parts : List Parts) (text : List ℕ) (status : ℕ)
    → Runs start P has_refused scripts parts text status → Runs start Q has_refused scripts parts text status
runs_by start P Q so has_refused scripts parts text status (Runs.no_memory told kept) = Runs.no_memory told (so Left.dropped kept)
runs_by start P Q so has_refused scripts parts text status (Runs.ran answers end h shows) = Runs.ran answers end h (shows_by P Q so end parts answers text status shows)

module _ {S D : Type 0} (saved stays_on : D → Database → Type 0) (settled : D → Type 0) (calls : D → ℕ) (refused : S → ℕ) where
  -- the device, where its store was not opened
  pub hands_device : (before : ℕ) (start : World) (back : HandedBack S D) (device : D) (refusal : Refusal) → back ≡ handed.Unopened device → stays_on device start.last
      → (refusal ≡ Disk → HasRisen before (calls device)) → HandsBack saved stays_on settled calls refused before start back (Left.unopened refusal)
  hands_device before start back device refusal is kept counted =
      subst (λ (b : HandedBack S D). HandsBack saved stays_on settled calls refused before start b (Left.unopened refusal)) (sym is) (kept, counted)

  -- what is handed back of a store that was opened
  hands_as : ((device : D) (db : Database) → saved device db → stays_on device db) → (before : ℕ) (start : World) (back : HandedBack S D) (left : Left)
      → HandsBack saved saved settled calls refused before start back left → HandsBack saved stays_on settled calls refused before start back left
  hands_as so before start (handed.Unopened device) (Left.unopened refusal) h = (so device start.last h.0, h.1)
  hands_as so before start (handed.Unopened device) (Left.closed end) h = absurd h
  hands_as so before start (handed.Unopened device) Left.unclosed h = absurd h
  hands_as so before start (handed.Unopened device) Left.dropped h = absurd h
  hands_as so before start (handed.Closed device) (Left.unopened refusal) h = absurd h
  hands_as so before start (handed.Closed device) (Left.closed end) h = h
  hands_as so before start (handed.Closed device) Left.unclosed h = absurd h
  hands_as so before start (handed.Closed device) Left.dropped h = absurd h
  hands_as so before start (handed.Unclosed core) (Left.unopened refusal) h = absurd h
  hands_as so before start (handed.Unclosed core) (Left.closed end) h = absurd h
  hands_as so before start (handed.Unclosed core) Left.unclosed h = h
  hands_as so before start (handed.Unclosed core) Left.dropped h = absurd h
  hands_as so before start handed.Nothing (Left.unopened refusal) h = absurd h
  hands_as so before start handed.Nothing (Left.closed end) h = absurd h
  hands_as so before start handed.Nothing Left.unclosed h = absurd h
  hands_as so before start handed.Nothing Left.dropped h = h

  -- in another name of the same world
  pub moved : {E : Type 0} → ((device : D) (db : Database) → saved device db → stays_on device db) → (before : ℕ) (back : HandedBack S D) (has_refused : Type 0) (start begin : World) (scripts : List Script)
      (parts : List Parts) (held holds : Option (List ℕ)) (answer : Result ℕ E) → start ≡ begin
      → Puts (Runs start (HandsBack saved saved settled calls refused before start back) has_refused scripts parts) held holds answer
      → Puts (Runs begin (HandsBack saved stays_on settled calls refused before begin back) has_refused scripts parts) held holds answer
  moved so before back has_refused start begin scripts parts held holds answer same run =
      subst (λ (w : World). Puts (Runs w (HandsBack saved stays_on settled calls refused before w back) has_refused scripts parts) held holds answer) same
      (puts_by _ _ held holds answer (λ text status r. runs_by start _ _ (hands_as so before start back) has_refused scripts parts text status r) run)

module _ {S D : Type 0} (settled : D → Type 0) (calls : D → ℕ) (refused : S → ℕ) where
  -- where no store was opened, nothing more is known of the device
  pub hands_any : (readable : Type 0) (before : ℕ) (back : HandedBack S D) (device : D) → back ≡ handed.Unopened device → HandsAny readable settled calls refused before back
  hands_any readable before back device is = subst (λ (b : HandedBack S D). HandsAny readable settled calls refused before b) (sym is) tt

  -- a store was opened on a device that can be read
  pub any_read : (readable : Type 0) (before : ℕ) (back : HandedBack S D) → readable → HandsAny ⊤ settled calls refused before back → HandsAny readable settled calls refused before back
  any_read readable before (handed.Unopened device) read h = tt
  any_read readable before (handed.Closed device) read h = (read, h.1, h.2)
  any_read readable before (handed.Unclosed core) read h = (read, h.1)
  any_read readable before handed.Nothing read h = read

module _ {S D : Type 0} where
  -- the device is handed back, whose store was not opened
  pub is_unopened : (back : HandedBack S D) (device : D) → back ≡ handed.Unopened device → IsUnopened back
  is_unopened back device is = subst (λ (b : HandedBack S D). IsUnopened b) (sym is) tt

  pub of_unopened : (P : D → Type 0) (back : HandedBack S D) (device : D) → back ≡ handed.Unopened device → P device → IfUnopened back P
  of_unopened P back device is h = subst (λ (b : HandedBack S D). IfUnopened b P) (sym is) h

  -- a store was opened
  pub none_unopened : (P : D → Type 0) (back : HandedBack S D) → (IsUnopened back → ⊥) → IfUnopened back P
  none_unopened P (handed.Unopened device) opened = absurd (opened tt)
  none_unopened P (handed.Closed device) opened = tt
  none_unopened P (handed.Unclosed core) opened = tt
  none_unopened P handed.Nothing opened = tt

  -- why it was not, told in other words
  pub told_unopened : (is_honest : D → Type 0) (same : D → D → Type 0) (P Q : Refusal → ℕ → Type 0) (device : D) → ((refusal : Refusal) (status : ℕ) → P refusal status → Q refusal status)
      → (back : HandedBack S D) → IfUnopened back (IsToldUnopened is_honest same P device) → IfUnopened back (IsToldUnopened is_honest same Q device)
  told_unopened is_honest same P Q device so (handed.Unopened back) h = record { refusal = h.refusal; status = h.status; told = so h.refusal h.status h.told; damage = h.damage }
  told_unopened is_honest same P Q device so (handed.Closed back) h = tt
  told_unopened is_honest same P Q device so (handed.Unclosed core) h = tt
  told_unopened is_honest same P Q device so handed.Nothing h = tt

-- one of two, the second told otherwise
pub or_else : (A B C : Type 0) → (B → C) → A ⊎ B → A ⊎ C
or_else A B C so (inl a) = inl a
or_else A B C so (inr b) = inr (so b)

-- these are no refusals of the device
pub memory_is_none : {X : Type 0} → Memory ≡ Disk → X
memory_is_none is = absurd (cc)

pub sessions_are_none : {X : Type 0} → Exceeded limit.Sessions ≡ Disk → X
sessions_are_none is = absurd (cc)

pub memory_is_no_damage : {X : Type 0} → Memory ≡ Damaged → X
memory_is_no_damage is = absurd (cc)

pub sessions_are_no_damage : {X : Type 0} → Exceeded limit.Sessions ≡ Damaged → X
sessions_are_no_damage is = absurd (cc)
