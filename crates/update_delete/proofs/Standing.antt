-- Where a store stands while the changes of rows are made, one after another.
use Rattle.std.proofs.Common.{◌≡◌, ◌∙◌, refl, sym, ap, subst, ℕ, zero, suc, ◌≤◌, List, [], ◌∷◌, length, arith}
use Rattle.std.specs.Prelude.{Contains}
use Rattle.std.specs.FinMap.{get}
use Rattle.operator_laws.specs.Same.{Every}
use Rattle.session_definitions.specs.Refusals.{IsReserved}
use Rattle.sqlval.specs.Value.{Row}
use Rattle.store.specs.declared.error.StoreError.{StoreError}
use Rattle.store.specs.declared.error.StoreLimit.{StoreLimit}
use Rattle.store.specs.Contents.{Contents, next_number}
use Rattle.store.specs.Errors.{MayFail, StoringReaches, indexes_of}
use Rattle.store.specs.Indexes.{entries_of}
use Rattle.store.specs.Stored.{Stored, IsAlone, working_on}
use Rattle.transactions.specs.Refused.{refused_by}
use Rattle.transactions.proofs.Tests.{reserved}
use Rattle.denote.specs.Database.{Name, IndexDeclaration}
use Rattle.constraints.proofs.Short.{Fits, no_long_row, no_long_key}
use Rattle.update_delete.specs.declared.change.RowChange.{RowChange}
use Rattle.update_delete.specs.declared.change.RowChange.TheVariants.{Becomes}
use Rattle.update_delete.specs.RowChanges.{IsShort}
use Rattle.update_delete.specs.Made.{made_one, all_made}
use Rattle.update_delete.specs.Reached.{IsNumberedOut}
use Rattle.update_delete.proofs.MadeTables.{numbers-below, same-indexes}

-- what was made so far; what is made by the rest of the changes is made by all
pub record StandsAt (old : Stored) (name : Name) (numbers : List ℕ) (changes : List RowChange) (now : Stored) (rest : List ℕ) (others : List RowChange) : Type 0 where
  pub working : Contents
  pub shows : now ≡ working_on old working
  pub to_make : all_made name rest others working ≡ all_made name numbers changes old.working
  pub indexes : indexes_of (get working name) ≡ indexes_of (get old.working name)
  pub below : next_number (entries_of (get working name)) ≤ next_number (entries_of (get old.working name))
  pub short : Every (IsShort (indexes_of (get old.working name))) changes → Every (IsShort (indexes_of (get old.working name))) others

-- one change after another of the working version alone
pub alone_on : (a b c : Stored) → IsAlone a b → IsAlone b c → IsAlone a c
alone_on a b c h g = g ∙ ap (λ (s : Stored). working_on s c.working) h

pub none_left : {X : Type 0} (xs : List X) → length xs ≡ 0 → xs ≡ []
none_left [] e = refl
none_left (x ∷ xs) e = absurd (omega (arith, e))

none_made : (name : Name) (numbers : List ℕ) (c : Contents) → all_made name numbers [] c ≡ c
none_made name [] c = refl
none_made name (number ∷ numbers) c = refl

module _ (old : Stored) (name : Name) (numbers : List ℕ) (changes : List RowChange) where
  begins : StandsAt old name numbers changes old numbers changes
  begins = record { working = old.working; shows = refl; to_make = refl; indexes = refl; below = omega arith; short = λ h. h }

  pub begins_with : (others : List RowChange) → others ≡ changes → StandsAt old name numbers changes old numbers others
  begins_with others e = subst (StandsAt old name numbers changes old numbers) (sym e) begins

  module _ (now : Stored) (rest : List ℕ) (others : List RowChange) (here : StandsAt old name numbers changes now rest others) where
    working_is : now.working ≡ here.working
    working_is = ap (λ (s : Stored). s.working) here.shows

    -- nothing is left to be made
    pub ends : others ≡ [] → now ≡ working_on old (all_made name numbers changes old.working)
    ends none =
        here.shows
        ∙ ap (working_on old) (sym (none_made name rest here.working) ∙ ap (λ (cs : List RowChange). all_made name rest cs here.working) (sym none) ∙ here.to_make)

    pub runs_out : rest ≡ [] → now ≡ working_on old (all_made name numbers changes old.working)
    runs_out none = here.shows ∙ ap (working_on old) (ap (λ (ns : List ℕ). all_made name ns others here.working) (sym none) ∙ here.to_make)

    -- one more is made
    pub goes_on : (next : Stored) (number : ℕ) (left : List ℕ) (change : RowChange) (more : List RowChange) → rest ≡ number ∷ left → others ≡ change ∷ more
        → next ≡ working_on now (made_one name number change now.working) → StandsAt old name numbers changes next left more
    goes_on next number left change more r o e =
        let made = made_one name number change here.working in
        let to_make : all_made name (number ∷ left) (change ∷ more) here.working ≡ all_made name numbers changes old.working =
        (λ i. all_made name (sym r i) (sym o i) here.working) ∙ here.to_make in
        record {
          working = made;
          shows = e ∙ ap (λ (s : Stored). working_on s (made_one name number change s.working)) here.shows;
          to_make = to_make;
          indexes = same-indexes name number change here.working ∙ here.indexes;
          below = omega (arith, numbers-below name number change here.working, here.below);
          short = λ h. (subst (Every (IsShort (indexes_of (get old.working name)))) o (here.short h)).1;
        }

    pub next_short : (change : RowChange) (more : List RowChange) → others ≡ change ∷ more → Every (IsShort (indexes_of (get old.working name))) changes
        → IsShort (indexes_of (get now.working name)) change
    next_short change more o h =
        subst (λ (indexes : List IndexDeclaration). IsShort indexes change) (sym (ap (λ (c : Contents). indexes_of (get c name)) working_is ∙ here.indexes))
        (subst (Every (IsShort (indexes_of (get old.working name)))) o (here.short h)).0

    -- there is no number for one more row only where there was none
    pub numbered_out_before : IsNumberedOut (get now.working name) → IsNumberedOut (get old.working name)
    numbered_out_before out =
        let here_out : IsNumberedOut (get here.working name) = subst (λ (c : Contents). IsNumberedOut (get c name)) working_is out in
        omega (arith, here_out, here.below)

-- a short row reaches no limit of rows and keys
pub withheld : (sound : Type 0) (k l : ℕ) (limited : StoreLimit → Type 0) (c : Contents) (name : Name) (row : Row) (error : StoreError)
    → MayFail sound k l (StoringReaches limited (get c name) (row ∷ [])) error → sound → IsShort (indexes_of (get c name)) (Becomes row) → IsReserved (refused_by error)
withheld sound k l limited c name row error h is short =
    reserved sound k l (StoringReaches limited (get c name) (row ∷ [])) error h is
    (no_long_row (record { columns = []; constraints = []; indexes = indexes_of (get c name); rows = [] }) (row ∷ []) fits)
    (no_long_key (record { columns = []; constraints = []; indexes = indexes_of (get c name); rows = [] }) (row ∷ []) fits)
  where
    fits : (one : Row) → Contains (row ∷ []) one → Fits (record { columns = []; constraints = []; indexes = indexes_of (get c name); rows = [] }) one
    fits one among = subst (Fits (record { columns = []; constraints = []; indexes = indexes_of (get c name); rows = [] })) (only among) (record { record_none = short.0; key_none = short.1 })
      where
        only : Contains (row ∷ []) one → row ≡ one
        only (zero, below, is) = is
        only (suc k, below, is) = absurd (omega (arith, below))
