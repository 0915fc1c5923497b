-- Many rows of a table, changed one after another.
use Rattle.std.proofs.Common.{◌≡◌, ◌∙◌, refl, sym, ap, subst, ℕ, ◌+◌, ◌<◌, ◌≤◌, List, [], ◌∷◌, length, get_or, drop, drop-cons, add-one}
use Rattle.std.proofs.lemmas.List.Elements.{Contains-append_left, Contains-append_right}
use Rattle.store.specs.Contents.{Entry, Contents, rows_of}
use Rattle.store.specs.Errors.{HasLongRow, MayFail, ChangingReaches}
use Rattle.store.specs.declared.error.StoreError.{StoreError}
use Rattle.store.specs.declared.error.StoreError.TheVariants.{Memory, Device, Damaged, Exceeded}
use Rattle.store.specs.declared.error.StoreLimit.{StoreLimit}
use Rattle.store.specs.declared.error.StoreLimit.TheVariants as limit
use Rattle.pool.specs.Pages.{PageMap}
use Rattle.database_versions.specs.Changed.{IsNow}
use Rattle.database_versions.specs.Databases.{IsDatabase, IsOwned, contents_in}
use Rattle.database_versions.specs.Refusals.{IsCounted, RowsReach}
use Rattle.database_versions.proofs.RefusalLemmas.{fail_weaker, risen_later}

-- ---- a change of rows, some of which are left

-- The pages of a version were `written`, and are `now`: what was asked of the tables is what is
-- left to do with them.
pub record HasChanged (version written now : PageMap) (asked left : Contents → Contents) : Type 0 where
  pub database : IsDatabase version written → IsDatabase version now
  pub contents : IsDatabase version written → left (contents_in version now) ≡ asked (contents_in version written)
  pub owned : IsOwned version written → IsOwned version now

pub none_changed : (version written : PageMap) (asked : Contents → Contents) → HasChanged version written written asked asked
none_changed version written asked = record { database = λ d. d; contents = λ d. refl; owned = λ d. d }

-- one more change of a version that is as it was
pub changed_on : (version other written now next : PageMap) (asked left rest change : Contents → Contents) → other ≡ version → ((x : Contents) → left x ≡ rest (change x)) → HasChanged version written now asked left
    → (IsDatabase other now → IsNow other next (change (contents_in other now))) → (IsOwned other now → IsOwned other next) → HasChanged version written next asked rest
changed_on version other written now next asked left rest change same first h made owned =
    let here : IsDatabase version now → IsNow version next (change (contents_in version now)) =
    subst (λ (p : PageMap). IsDatabase p now → IsNow p next (change (contents_in p now))) same made in
    record {
      database = λ d. (here (h.database d)).is;
      contents = λ d. ap rest (here (h.database d)).shows ∙ sym (first (contents_in version now)) ∙ h.contents d;
      owned = λ d. subst (λ (p : PageMap). IsOwned p now → IsOwned p next) same owned (h.owned d);
    }

-- nothing is left to do
pub all_changed : (version written now : PageMap) (asked left : Contents → Contents) → ((x : Contents) → left x ≡ x) → HasChanged version written now asked left → IsDatabase version written
    → IsNow version now (asked (contents_in version written))
all_changed version written now asked left none h d = record { is = h.database d; shows = sym (none (contents_in version now)) ∙ h.contents d }

-- an element of a list, and those behind it
pub drop_item : {A : Type 0} (xs : List A) (i : ℕ) (d : A) → i < length xs → drop i xs ≡ get_or xs i d ∷ drop (i + 1) xs
drop_item {A} xs i d less = drop-cons xs i d less ∙ ap (λ (n : ℕ). get_or xs i d ∷ drop n xs) (sym (add-one i))

-- ---- refusals

pub long_later : (e : Entry) (rest : List Entry) → HasLongRow (rows_of rest) → HasLongRow (rows_of (e ∷ rest))
long_later e rest h = record { row = h.row; one = Contains-append_right (e.1 ∷ []) (rows_of rest) h.row h.one; long = h.long }

long_first : (e : Entry) (rest : List Entry) → HasLongRow (e.1 ∷ []) → HasLongRow (rows_of (e ∷ rest))
long_first e rest h = record { row = h.row; one = Contains-append_left (e.1 ∷ []) (rows_of rest) h.row h.one; long = h.long }

one_reaches : (counted : StoreLimit → Type 0) (e : Entry) (rest rows : List Entry) → (HasLongRow (rows_of (e ∷ rest)) → HasLongRow (rows_of rows)) → (l : StoreLimit) → RowsReach counted (e.1 ∷ []) l → RowsReach counted (rows_of rows) l
one_reaches counted e rest rows long limit.Record h = long (long_first e rest h)
one_reaches counted e rest rows long limit.Key h = h
one_reaches counted e rest rows long limit.Pages h = h
one_reaches counted e rest rows long limit.Private h = h
one_reaches counted e rest rows long limit.Kept h = h

-- of a call at which the device had refused more calls
fail_later : (sound : Type 0) (k m n : ℕ) (reached : StoreLimit → Type 0) (error : StoreError) → k ≤ m → MayFail sound m n reached error → MayFail sound k n reached error
fail_later sound k m n reached Memory less h = tt
fail_later sound k m n reached Device less h = risen_later k m n less h
fail_later sound k m n reached Damaged less h = h
fail_later sound k m n reached (Exceeded which) less h = h

-- the refusal of one change is one of all
module _ (version other written now next : PageMap) (asked left : Contents → Contents) (same : other ≡ version) (h : HasChanged version written now asked left) (k m n : ℕ) (less : k ≤ m) (error : StoreError) where
  pub replacing_fails : (e : Entry) (rest rows : List Entry) → (HasLongRow (rows_of (e ∷ rest)) → HasLongRow (rows_of rows)) → MayFail (IsDatabase other now) m n (RowsReach (IsCounted other next) (e.1 ∷ [])) error
      → MayFail (IsDatabase version written) k n (RowsReach (IsCounted version next) (rows_of rows)) error
  replacing_fails e rest rows long fails =
      fail_weaker (IsDatabase version now) (IsDatabase version written) k n (RowsReach (IsCounted version next) (e.1 ∷ [])) (RowsReach (IsCounted version next) (rows_of rows)) error h.database
      (one_reaches (IsCounted version next) e rest rows long)
      (fail_later (IsDatabase version now) k m n (RowsReach (IsCounted version next) (e.1 ∷ [])) error less
      (subst (λ (p : PageMap). MayFail (IsDatabase p now) m n (RowsReach (IsCounted p next) (e.1 ∷ [])) error) same fails))

  pub deleting_fails : MayFail (IsDatabase other now) m n (ChangingReaches (IsCounted other next)) error → MayFail (IsDatabase version written) k n (ChangingReaches (IsCounted version next)) error
  deleting_fails fails =
      fail_weaker (IsDatabase version now) (IsDatabase version written) k n (ChangingReaches (IsCounted version next)) (ChangingReaches (IsCounted version next)) error h.database (λ l r. r)
      (fail_later (IsDatabase version now) k m n (ChangingReaches (IsCounted version next)) error less
      (subst (λ (p : PageMap). MayFail (IsDatabase p now) m n (ChangingReaches (IsCounted p next)) error) same fails))
