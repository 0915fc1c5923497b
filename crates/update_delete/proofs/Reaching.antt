-- What a change of rows reaches of a store's limits, said of the table before all changes.
use Rattle.std.proofs.Common.{◌≡◌, ◌⊎◌, inl, inr, ◌∙◌, refl, sym, ap, subst, ◌+◌, ◌^◌, ◌<◌, Bool, true, false, List, [], ◌∷◌, map, length, Option, Result, Ok, Err, IfOk}
use Rattle.refusals.specs.declared.refusal.Refusal.{Refusal}
use Rattle.sqlval.specs.Value.{Row}
use Rattle.store.specs.declared.error.StoreLimit.{StoreLimit}
use Rattle.store.specs.declared.error.StoreLimit.TheVariants as limit
use Rattle.store.specs.Contents.{StoredTable, next_number}
use Rattle.store.specs.Errors.{ChangingReaches, StoringReaches}
use Rattle.store.specs.Indexes.{entries_of}
use Rattle.transactions.specs.Refused.{TellsReached}
use Rattle.denote.specs.declared.fault.Stop.{Stop}
use Rattle.denote.specs.Evaluation.{Evaluation, ◌>>=◌, joined, together}
use Rattle.denote.specs.Meaning.{Tables}
use Rattle.denote.specs.Stop.{Gives}
use Rattle.algebra.specs.declared.tree.Condition.{Condition}
use Rattle.constraints.proofs.Limits.{tells_wider}
use Rattle.update_delete.specs.declared.change.RowChange.{RowChange}
use Rattle.update_delete.specs.declared.change.RowChange.TheVariants.{Stays, Goes, Becomes}
use Rattle.update_delete.specs.Given.{touched_given, gone_if, deletion_given}
use Rattle.update_delete.specs.Reached.{IsNumberedOut, ReplacingReaches, MakingReaches}
use Rattle.update_delete.specs.RowChanges.{rows_new}

-- ---- one change

-- a row that goes is a change that stores none
pub gone_reaches : (counted : StoreLimit → Type 0) (changes : List RowChange) (out : Type 0) (r : Refusal) → TellsReached (ChangingReaches counted) r → TellsReached (MakingReaches counted changes out) r
gone_reaches counted changes out r h = tells_wider (ChangingReaches counted) (MakingReaches counted changes out) (λ reached. inl reached) (λ reached. inl reached) (λ reached. inl reached) r h

-- one row is stored
pub stored_reaches : (counted : StoreLimit → Type 0) (table : Option StoredTable) (row : Row) (r : Refusal) → TellsReached (StoringReaches counted table (row ∷ [])) r
    → TellsReached (MakingReaches counted (Becomes row ∷ []) (IsNumberedOut table)) r
stored_reaches counted table row r h = tells_wider (StoringReaches counted table (row ∷ [])) (MakingReaches counted (Becomes row ∷ []) (IsNumberedOut table))
    (λ reached. pages reached) (λ reached. inl reached) (λ reached. inl reached) r h
  where
    pages : counted limit.Pages ⊎ (2 ^ 63 < next_number (entries_of table) + length (row ∷ [])) → MakingReaches counted (Becomes row ∷ []) (IsNumberedOut table) limit.Pages
    pages (inl reached) = inl reached
    pages (inr out) = inr (refl, ((λ none. absurd (cc none)), out))

-- ---- one of the changes

-- a change that puts no row leaves those that others put
one_new : (change : RowChange) (more : List RowChange) → rows_new (change ∷ more) ≡ [] → (rows_new (change ∷ []) ≡ []) × (rows_new more ≡ [])
one_new Stays more h = (refl, h)
one_new Goes more h = (refl, h)
one_new (Becomes row) more h = absurd (cc h)

-- where none of all changes puts a row, none of these does
pub record LeavesNone (changes others : List RowChange) : Type 0 where
  pub none : rows_new changes ≡ [] → rows_new others ≡ []

pub leaves_all : (others changes : List RowChange) → others ≡ changes → LeavesNone changes others
leaves_all others changes same = record { none = λ none. ap rows_new same ∙ none }

pub leaves_later : (changes others : List RowChange) (change : RowChange) (more : List RowChange) → others ≡ change ∷ more → LeavesNone changes others → LeavesNone changes more
leaves_later changes others change more is h = record { none = λ none. (one_new change more (ap rows_new (sym is) ∙ h.none none)).1 }

pub leaves_one : (changes others : List RowChange) (change : RowChange) (more : List RowChange) → others ≡ change ∷ more → LeavesNone changes others → rows_new changes ≡ [] → rows_new (change ∷ []) ≡ []
leaves_one changes others change more is h none = (one_new change more (ap rows_new (sym is) ∙ h.none none)).0

-- said of other changes, and of the table before them
pub reached_before : (counted : StoreLimit → Type 0) (some changes : List RowChange) (out before : Type 0) → (rows_new changes ≡ [] → rows_new some ≡ []) → (out → before) → (r : Refusal)
    → TellsReached (MakingReaches counted some out) r → TellsReached (MakingReaches counted changes before) r
reached_before counted some changes out before none earlier r h = tells_wider (MakingReaches counted some out) (MakingReaches counted changes before)
    (λ reached. by _ reached) (λ reached. by _ reached) (λ reached. by _ reached) r h
  where
    by : (which : StoreLimit) → MakingReaches counted some out which → MakingReaches counted changes before which
    by which (inl reached) = inl reached
    by which (inr reached) = inr (reached.0, ((λ empty. reached.1.0 (none empty)), earlier reached.1.1))

-- where one of them is known to put a row, or none is
pub replacing_reaches : (counted : StoreLimit → Type 0) (changes : List RowChange) (out before : Type 0) → (out → before) → (r : Refusal) → TellsReached (MakingReaches counted changes out) r
    → TellsReached (ReplacingReaches counted before) r
replacing_reaches counted changes out before earlier r h = tells_wider (MakingReaches counted changes out) (ReplacingReaches counted before)
    (λ reached. by _ reached) (λ reached. by _ reached) (λ reached. by _ reached) r h
  where
    by : (which : StoreLimit) → MakingReaches counted changes out which → ReplacingReaches counted before which
    by which (inl reached) = inl reached
    by which (inr reached) = inr (reached.0, earlier reached.1.1)

pub deleting_reaches : (counted : StoreLimit → Type 0) (changes : List RowChange) (out : Type 0) → rows_new changes ≡ [] → (r : Refusal) → TellsReached (MakingReaches counted changes out) r
    → TellsReached (ChangingReaches counted) r
deleting_reaches counted changes out none r h = tells_wider (MakingReaches counted changes out) (ChangingReaches counted)
    (λ reached. by _ reached) (λ reached. by _ reached) (λ reached. by _ reached) r h
  where
    by : (which : StoreLimit) → MakingReaches counted changes out which → ChangingReaches counted which
    by which (inl reached) = reached
    by which (inr reached) = absurd (reached.1.0 none)

-- ---- a DELETE puts no row

-- changes none of which puts a row
no_new : (rows : List Row) (given : Row → Evaluation RowChange) → ((row : Row) (change : RowChange) → given row ≡ Ok change → rows_new (change ∷ []) ≡ []) → (changes : List RowChange)
    → together (map given rows) ≡ Ok changes → rows_new changes ≡ []
no_new [] given none [] is = refl
no_new [] given none (change ∷ changes) is = absurd (cc is)
no_new (row ∷ rows) given none changes is = by (given row) refl (together (map given rows)) refl (λ later more. no_new rows given none later more) is
  where
    both : (change : RowChange) (later : List RowChange) → rows_new (change ∷ []) ≡ [] → rows_new later ≡ [] → rows_new (change ∷ later) ≡ []
    both Stays later here there = there
    both Goes later here there = there
    both (Becomes new) later here there = absurd (cc here)

    by : (x : Evaluation RowChange) → given row ≡ x → (xs : Evaluation (List RowChange)) → together (map given rows) ≡ xs
        → ((later : List RowChange) → together (map given rows) ≡ Ok later → rows_new later ≡ []) → joined x xs ≡ Ok changes → rows_new changes ≡ []
    by (Ok change) one (Ok later) more left e =
        let same : change ∷ later ≡ changes = cc e in
        subst (λ (cs : List RowChange). rows_new cs ≡ []) same (both change later (none row change one) (left later more))
    by (Ok change) one (Err faults) more left e = absurd (cc e)
    by (Err faults) one others more left e = absurd (cc e)

deletion_spares : (x : Evaluation Bool) (change : RowChange) → (x >>= (λ touched. Ok (gone_if touched))) ≡ Ok change → rows_new (change ∷ []) ≡ []
deletion_spares (Ok true) change e = let same : Goes ≡ change = cc e in subst (λ (c : RowChange). rows_new (c ∷ []) ≡ []) same refl
deletion_spares (Ok false) change e = let same : Stays ≡ change = cc e in subst (λ (c : RowChange). rows_new (c ∷ []) ≡ []) same refl
deletion_spares (Err faults) change e = absurd (cc e)

pub deletions_spare : (tables : Tables) (condition : Option Condition) (rows : List Row) (reply : Result (List RowChange) Stop) → Gives reply (together (map (deletion_given tables condition) rows))
    → IfOk reply (λ changes. rows_new changes ≡ [])
deletions_spare tables condition rows (Ok changes) gives = no_new rows (deletion_given tables condition) (λ row change e. deletion_spares (touched_given tables condition row) change e) changes gives.ok
deletions_spare tables condition rows (Err stop) gives = tt
