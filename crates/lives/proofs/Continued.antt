-- A run that goes on over the device which the one before it handed back.
use Rattle.std.proofs.Common.{◌≡◌, ◌⊎◌, inl, inr, ℕ, Bool, true, Option, Some, None, refl, subst}
use Rattle.denote.specs.Database.{Database, IsGood}
use Rattle.refusals.specs.declared.refusal.Refusal.{Refusal}
use Rattle.refusals.specs.declared.refusal.Refusal.TheVariants.{Disk}
use Rattle.session_definitions.specs.Refusals.{StopsFlush}
use Rattle.session_definitions.specs.Rules.{Rules, AreRules}
use Rattle.sessions.specs.Opening.{Stays}
use Rattle.endings.specs.Tells.{Tells}
use Rattle.session_definitions.specs.World.{World, opened}
use Rattle.scripts.specs.Device.{disk_count}
use Rattle.scripts.specs.Played.{Streams}
use Rattle.endings.specs.Ended.{HasRefused}
use Rattle.shell.specs.Runs.{HandsBack, Leaves, Left, Runs, replies_of}
use Rattle.lives.specs.Twice.{Leads}

-- what is left is told otherwise
left_as : (rules : Rules) (old : World) (streams : Streams) (status : ℕ) (is_told : Bool) (P Q : Left → Type 0) → ((left : Left) → P left → Q left)
    → Runs rules old streams status is_told P → Runs rules old streams status is_told Q
left_as rules old streams status is_told P Q told_as (Runs.not_opened refusal stops unread told is kept) =
    Runs.not_opened refusal stops unread told is (told_as (Left.unopened refusal old.last) kept)
left_as rules old streams status is_told P Q told_as (Runs.closed end carried kept) =
    Runs.closed end carried (told_as (Left.committed end.last (disk_count (replies_of rules streams old status is_told end carried))) kept)
left_as rules old streams status is_told P Q told_as (Runs.not_closed before was_told mid end carried told is none) =
    Runs.not_closed before was_told mid end carried told is (told_as Left.unclosed none)

-- either of two, told otherwise
pub or_both : (A B C E : Type 0) → (A → C) → (B → E) → A ⊎ B → C ⊎ E
or_both A B C E so other (inl a) = inl (so a)
or_both A B C E so other (inr b) = inr (other b)

module _ {D C : Type 0} (saved : D → Database → Type 0) (is_new is_begun settled : D → Type 0) (calls : D → ℕ) (refused : C → ℕ) (rules : Rules) (are : AreRules rules) (first_device : D) where
  -- what the first run hands back
  abbrev Back : Option D → Option C → Left → Type 0
  Back device core left = Leaves saved (Stays saved is_new is_begun first_device) settled calls refused rules.check (calls first_device) device core left

  -- what is told of it, where the core is the one that is handed back in the end
  abbrev pub Middle : Option D → Option C → Left → Type 0
  Middle device core left = HandsBack saved (Stays saved is_new is_begun first_device) settled calls refused (calls first_device) device core left

  -- no store was opened on an empty device
  abbrev pub IsBegun : Database → Streams → ℕ → Bool → D → Type 0
  IsBegun db first one one_told device =
      is_new first_device × is_begun device × Runs rules (opened db) first one one_told (λ what. (refusal : Refusal) × (what ≡ Left.unopened refusal db))

  unopened_by : (db : Database) (first second : Streams) (one : ℕ) (one_told : Bool) (two : ℕ) (two_told : Bool) (left : Left → Type 0) (core : Option C) (device : D)
      → ((found : Database) → AreRules rules → saved device found → IsGood rules.check found → Runs rules (opened found) second two two_told left)
      → (refusal : Refusal) → StopsFlush refusal → first.left ≡ first.given → Tells refusal one_told first.held first.holds → one ≡ 3
      → (refusal ≡ Disk → HasRefused calls (calls first_device) (Some device)) → IsGood rules.check db → saved device db ⊎ (is_new first_device × is_begun device)
      → Runs rules (opened db) first one one_told (Leads rules second (Some two) two_told (Middle (Some device) core) left) ⊎ IsBegun db first one one_told device
  unopened_by db first second one one_told two two_told left core device runs refusal stops unread told is counted good (inl kept) =
      inl (Runs.not_opened refusal stops unread told is ((two, refl, runs db are kept good), (inl kept, counted)))
  unopened_by db first second one one_told two two_told left core device runs refusal stops unread told is counted good (inr begun) =
      inr (begun.0, begun.1, Runs.not_opened refusal stops unread told is (refusal, refl))

  pub run_again : (db : Database) (first second : Streams) (one : ℕ) (one_told : Bool) (two : ℕ) (two_told : Bool) (left : Left → Type 0) (back : Option D) (one_core core : Option C) (device : D)
      → back ≡ Some device → Runs rules (opened db) first one one_told (Back back one_core)
      → ((found : Database) → AreRules rules → saved device found → IsGood rules.check found → Runs rules (opened found) second two two_told left)
      → Runs rules (opened db) first one one_told (Leads rules second (Some two) two_told (Middle (Some device) core) left) ⊎ IsBegun db first one one_told device
  run_again db first second one one_told two two_told left back one_core core device is ran runs =
      by (subst (λ (b : Option D). Runs rules (opened db) first one one_told (Back b one_core)) is ran)
    where
      by : Runs rules (opened db) first one one_told (Back (Some device) one_core)
          → Runs rules (opened db) first one one_told (Leads rules second (Some two) two_told (Middle (Some device) core) left) ⊎ IsBegun db first one one_told device
      by (Runs.not_opened refusal stops unread told is3 kept) =
          unopened_by db first second one one_told two two_told left core device runs refusal stops unread told is3 kept.0.1 kept.1 kept.0.0
      by (Runs.closed end carried kept) = inl (Runs.closed end carried ((two, refl, runs end.last are kept.0.0 kept.1), kept.0))
      by (Runs.not_closed before was_told mid end carried told is3 none) = let bad : Some device ≡ None = none.0.0 in absurd (cc)

  over : (core : Option C) (second : Streams) → second.left ≡ second.given → second.holds ≡ second.held
      → (found : Left) → Back None core found → Leads rules second None true (Middle None core) (Back None core) found
  over core second unread unwritten (Left.unopened refusal db) h = absurd h.0.0
  over core second unread unwritten (Left.committed db told) h = absurd h.0.0
  over core second unread unwritten Left.unclosed h = ((refl, unread, unwritten, h, refl), h.0)

  pub run_no_more : (db : Database) (first second : Streams) (one : ℕ) (one_told : Bool) (back : Option D) (core : Option C) → back ≡ None
      → second.left ≡ second.given → second.holds ≡ second.held → Runs rules (opened db) first one one_told (Back back core)
      → Runs rules (opened db) first one one_told (Leads rules second None true (Middle None core) (Back None core))
  run_no_more db first second one one_told back core is unread unwritten ran =
      left_as rules (opened db) first one one_told (Back None core) (Leads rules second None true (Middle None core) (Back None core)) (over core second unread unwritten)
      (subst (λ (b : Option D). Runs rules (opened db) first one one_told (Back b core)) is ran)
