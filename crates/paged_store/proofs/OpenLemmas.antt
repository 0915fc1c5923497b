-- What opening gives.
use Rattle.std.proofs.Common.{◌≡◌, ◌∙◌, refl, sym, ap, subst, ℕ, [], Bool, Option, Some, None, List, length, IsTrue, IsSome, ◌⊎◌, inl, inr}
use Rattle.std.specs.Ordering.{nat_cmp}
use Rattle.std.specs.FinMap.{FinMap, get, empty, get-empty}
use Rattle.denote.specs.Database.{Database}
use Rattle.store.specs.Contents.{database_of}
use Rattle.store.specs.Errors.{MayFail, Never}
use Rattle.store.specs.Stored.{IsOpened}
use Rattle.store.specs.declared.error.StoreError.{StoreError}
use Rattle.pool.specs.Pages.{PageMap}
use Rattle.pool.specs.Versions.{Versions}
use Rattle.snapshot_pins.specs.declared.readers.Readers.{Readers}
use Rattle.snapshot_pins.specs.Pinned.{ArePinned}
use Rattle.database_versions.specs.Databases.{nothing, contents_in, known_contents, IsOwned}
use Rattle.database_versions.specs.Opened.{Begins, BeginsEmpty, BeginsOwned, IsHandedBack}
use Rattle.database_versions.specs.Saved.{IsSaved, IsSavedOwned}
use Rattle.database_versions.proofs.RefusalLemmas.{fail_weaker}
use Rattle.paged_store.specs.Orderly.{IsOrderly}
use Rattle.paged_store.specs.Saved.{HoldsAlone, IsBegun, IsSavedAlone}
use Rattle.paged_store.specs.SeenLemmas.{known_is}
use Rattle.paged_store.specs.Shown.{found_at, stored}
use Rattle.paged_store.specs.Sound.{IsSound}
use Rattle.paged_store.proofs.ShownLemmas.{found_empty}

-- what is saved, without what is said of lost pages
pub as_saved : (honest : Bool) (bytes : List ℕ) (db : Database) → IsSavedAlone honest bytes db → IsSaved honest bytes db
as_saved honest bytes db (h, (inl none)) = (h, inl none)
as_saved honest bytes db (h, (inr file)) = (h, inr file.holds)

-- no page of what is saved is lost
pub none_lost : (honest : Bool) (bytes : List ℕ) (db : Database) → IsSavedAlone honest bytes db → IsSavedOwned bytes
none_lost honest bytes db (h, (inl none)) = inl none.0
none_lost honest bytes db (h, (inr file)) = inr file.owned

pub opened_orderly : (honest : Bool) (bytes : List ℕ) (v : Versions) (readers : Readers) → Begins honest bytes v → ArePinned readers (λ c. 0) → IsOrderly honest v readers 0
opened_orderly honest bytes v readers b pinned = record {
  pinned = λ c. ap (λ (f : ℕ → ℕ). f c) b.pins ∙ pinned c;
  counted = sym b.last;
  first = λ device. subst (λ (n : ℕ). IsSome (v.pages n 0)) (sym b.last) (b.first device);
}

-- what was saved is owned at first, and shows what was saved
pub saved_owned : (honest : Bool) (bytes : List ℕ) (v : Versions) (db : Database) → BeginsOwned honest bytes v → IsSavedAlone honest bytes db → IsOwned (v.pages 0) nothing
saved_owned honest bytes v db o saved = o saved.0 (none_lost honest bytes db saved)

pub saved_shows : (honest : Bool) (bytes : List ℕ) (v : Versions) (db : Database) → Begins honest bytes v → IsSavedAlone honest bytes db
    → database_of (contents_in (v.pages 0) nothing) ≡ db
saved_shows honest bytes v db b saved = b.shows db (as_saved honest bytes db saved)

-- what was begun is empty
pub begun_empty : (honest : Bool) (bytes : List ℕ) (v : Versions) → Begins honest bytes v → BeginsOwned honest bytes v
    → (IsTrue honest → length bytes ≡ 4096 → BeginsEmpty v) → IsBegun honest bytes → BeginsEmpty v
begun_empty honest bytes v b o e (h, (inl none)) = record { owned = o h (inl none); shows = b.shows empty (h, inl (none, refl)) }
begun_empty honest bytes v b o e (h, (inr size)) = e h size

module _ (honest : Bool) (v : Versions) (numbers : FinMap nat_cmp ℕ) (written settled : PageMap) (db : Database)
    (last : v.last ≡ 0) (none : numbers ≡ empty) (w : written ≡ nothing) (s : settled ≡ nothing) (h : IsTrue honest)
    (owned : IsOwned (v.pages 0) nothing) (shows : database_of (contents_in (v.pages 0) nothing) ≡ db) where
  here : IsOwned (v.pages v.last) nothing
  here = subst (λ (n : ℕ). IsOwned (v.pages n) nothing) (sym last) owned

  nobody : (q n : ℕ) → get numbers q ≡ Some n → IsOwned (v.pages n) nothing
  nobody q n e = let bad : ◌≡◌ {A = Option ℕ} None (Some n) = sym (get-empty nat_cmp q) ∙ ap (λ (m : FinMap nat_cmp ℕ). get m q) (sym none) ∙ e in absurd (cc)

  pub opened_sound : IsSound honest v numbers written settled
  opened_sound = record {
    device = h;
    last = here;
    readers = nobody;
    working = subst (λ (p : PageMap). IsOwned (v.pages v.last) p) (sym w) here;
    marked = subst (λ (p : PageMap). IsOwned (v.pages v.last) p) (sym s) here;
  }

  pub opened_shows : IsOpened db (stored honest v numbers written settled)
  opened_shows = record {
    commits = last;
    holds = ap database_of (known_is honest (v.pages v.last) nothing h) ∙ ap (λ (n : ℕ). database_of (contents_in (v.pages n) nothing)) last ∙ shows;
    readers = found_empty (found_at honest v) numbers none;
    working = ap (λ (p : PageMap). known_contents honest (v.pages v.last) p) w;
    marked = ap (λ (p : PageMap). known_contents honest (v.pages v.last) p) s;
  }

-- a device that was handed back: what was saved is saved, or it was empty
pub saved_back : (honest : Bool) (bytes now : List ℕ) (error : StoreError) (db : Database) → IsHandedBack honest bytes now error → IsSavedAlone honest bytes db
    → IsSavedAlone honest now db ⊎ ((bytes ≡ []) × IsBegun honest now)
saved_back honest bytes now error db back (h, (inl none)) = inr (none.0, (h, back.made h none.0))
saved_back honest bytes now error db back (h, (inr file)) = inl (h, inr (subst (λ (f : List ℕ). HoldsAlone f db) (sym (back.closed h file.closed)) file))

-- a refusal to open a device
pub open_fails : (honest : Bool) (bytes : List ℕ) (k n : ℕ) (error : StoreError) → MayFail ((db : Database) × IsSaved honest bytes db) k n Never error → MayFail ((db : Database) × IsSavedAlone honest bytes db) k n Never error
open_fails honest bytes k n error h =
    fail_weaker ((db : Database) × IsSaved honest bytes db) ((db : Database) × IsSavedAlone honest bytes db) k n Never Never error (λ saved. (saved.0, as_saved honest bytes saved.0 saved.1)) (λ l never. never) h
