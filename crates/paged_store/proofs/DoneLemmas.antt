-- What a change of the last commit leaves, where it was made, and where it was refused and undone.
use Rattle.std.proofs.Common.{◌≡◌, ◌∙◌, sym, ap, subst, arith, ℕ, ◌+◌, ◌^◌, ◌<◌, ◌≤◌, List, length, Bool, Option, IsTrue, Result, Ok, Err, OnOk, OnErr, IfErr, ◌⊎◌, inl, inr}
use Rattle.std.proofs.lemmas.Bool.{cases_lt}
use Rattle.std.proofs.lemmas.Grind.{not_there}
use Rattle.std.proofs.Math.Logic.{∥∥₁_map}
use Rattle.std.specs.Ordering.{nat_cmp}
use Rattle.std.specs.FinMap.{FinMap, get}
use Rattle.denote.specs.Database.{Name, IndexDeclaration}
use Rattle.sqlval.specs.Value.{Row}
use Rattle.store.specs.Contents.{Contents, StoredTable, next_number}
use Rattle.store.specs.Errors.{MayFail, StoringReaches, IndexingReaches, ChangingReaches}
use Rattle.store.specs.Indexes.{entries_of}
use Rattle.store.specs.Stored.{IsAlone, undone, working_on}
use Rattle.store.specs.declared.error.StoreError.{StoreError}
use Rattle.store.specs.declared.error.StoreLimit.{StoreLimit}
use Rattle.store.specs.declared.error.StoreLimit.TheVariants as limit
use Rattle.pool.specs.Pages.{PageMap}
use Rattle.pool.specs.Versions.{Versions}
use Rattle.overlay.specs.Undone.{Undone, AreUndone}
use Rattle.database_versions.specs.Changed.{IsNow}
use Rattle.database_versions.specs.Databases.{nothing, contents_in, known_contents, IsDatabase, IsOwned}
use Rattle.database_versions.specs.Refusals.{IsCounted as Reached, RowsReach, NumbersEnd, NewRowsReach}
use Rattle.database_versions.proofs.RefusalLemmas.{fail_weaker}
use Rattle.database_versions.proofs.UndoneLemmas.{was_counted}
use Rattle.paged_store.specs.Counted.{IsCounted}
use Rattle.paged_store.specs.Orderly.{IsSteady}
use Rattle.paged_store.specs.SeenLemmas.{known_is}
use Rattle.paged_store.specs.Shown.{found_at, found_by, stored}
use Rattle.paged_store.specs.Sound.{IsSound}
use Rattle.paged_store.proofs.ChangeLemmas.{changed_here}
use Rattle.paged_store.proofs.ShownLemmas.{shown_working, shown_undone}
use Rattle.paged_store.proofs.SoundLemmas.{sound_with, sound_moved}
use Rattle.paged_store.proofs.SteadyLemmas.{steady_at, steady_same}

abbrev Done : Type 0
Done = Result (Unit {0}) StoreError

-- The change made the pages `mid` of `written`; after that there are the pages `next`: the same, or
-- those at the mark.
module _ (honest : Bool) (v w : Versions) (numbers : FinMap nat_cmp ℕ) (written settled mid mid_settled next next_settled : PageMap) (commits : ℕ) (last : commits ≡ v.last) (same : w ≡ v)
    (kept : mid_settled ≡ settled) (left : next_settled ≡ mid_settled) (change : Contents → Contents) where
  shows_by : (done : Done) → OnOk done (next ≡ mid) → (IsDatabase (v.pages commits) written → OnOk done (IsNow (v.pages commits) mid (change (contents_in (v.pages commits) written))))
      → IsSound honest v numbers written settled
      → OnOk done (stored honest w numbers next next_settled ≡ working_on (stored honest v numbers written settled) (change (known_contents honest (v.pages v.last) written)))
  shows_by (Ok u) moved made sound =
      shown_working honest v w numbers written settled next next_settled (change (known_contents honest (v.pages v.last) written)) sound.device same
      (ap (λ (p : PageMap). contents_in (v.pages v.last) p) moved ∙ (changed_here honest v numbers written settled commits last change mid made sound).shows) (left ∙ kept)
  shows_by (Err e) moved made sound = moved

  pub done_shows : (result done : Done) → result ≡ done → OnOk done (next ≡ mid) → (IsDatabase (v.pages commits) written → OnOk done (IsNow (v.pages commits) mid (change (contents_in (v.pages commits) written))))
      → IsSound honest v numbers written settled
      → OnOk result (stored honest w numbers next next_settled ≡ working_on (stored honest v numbers written settled) (change (known_contents honest (v.pages v.last) written)))
  done_shows result done told moved made sound =
      subst (λ (r : Done). OnOk r (stored honest w numbers next next_settled ≡ working_on (stored honest v numbers written settled) (change (known_contents honest (v.pages v.last) written)))) (sym told)
      (shows_by done moved made sound)

  undone_by : (done : Done) → OnErr done (next ≡ mid_settled) → OnErr done (stored honest w numbers next next_settled ≡ undone (stored honest v numbers written settled))
  undone_by (Ok u) back = back
  undone_by (Err e) back = shown_undone honest v w numbers written settled next next_settled same (back ∙ kept) (left ∙ kept)

  pub done_undone : (result done : Done) → result ≡ done → OnErr done (next ≡ mid_settled) → OnErr result (stored honest w numbers next next_settled ≡ undone (stored honest v numbers written settled))
  done_undone result done told back =
      subst (λ (r : Done). OnErr r (stored honest w numbers next next_settled ≡ undone (stored honest v numbers written settled))) (sym told) (undone_by done back)

  pub done_sound : (done : Done) → OnOk done (next ≡ mid) → OnErr done (next ≡ mid_settled) → (IsOwned (v.pages commits) written → OnOk done (IsOwned (v.pages commits) mid))
      → IsSound honest v numbers written settled → IsSound honest w numbers next next_settled
  done_sound (Ok u) moved back owned sound =
      sound_with honest v w numbers written settled next next_settled same
      (λ s. subst (λ (p : PageMap). IsOwned (v.pages v.last) p) (sym moved) (subst (λ (n : ℕ). IsOwned (v.pages n) written → IsOwned (v.pages n) mid) last owned s.working))
      (λ s. subst (λ (p : PageMap). IsOwned (v.pages v.last) p) (sym (left ∙ kept)) s.marked) sound
  done_sound (Err e) moved back owned sound = sound_moved honest v w numbers written settled next next_settled same (inr (inl (back ∙ kept))) (inr (inl (left ∙ kept))) sound

  steady_by : (done : Done) → OnOk done (next ≡ mid) → OnErr done (next ≡ mid_settled)
      → (IsDatabase (v.pages commits) written → OnOk done (IsNow (v.pages commits) mid (change (contents_in (v.pages commits) written))))
      → IsSteady (v.pages v.last) written settled → IsSteady (v.pages v.last) next next_settled
  steady_by (Ok u) moved back made steady marked =
      ∥∥₁_map (steady (subst (λ (p : PageMap). IsDatabase (v.pages v.last) p) (left ∙ kept) marked))
      (λ working. subst (λ (p : PageMap). IsDatabase (v.pages v.last) p) (sym moved) (subst (λ (n : ℕ). IsDatabase (v.pages n) mid) last (made (subst (λ (n : ℕ). IsDatabase (v.pages n) written) (sym last) working)).is))
  steady_by (Err e) moved back made steady marked = steady_at (v.pages v.last) next next_settled (back ∙ sym left) marked

  pub done_steady : (done : Done) → OnOk done (next ≡ mid) → OnErr done (next ≡ mid_settled)
      → (IsDatabase (v.pages commits) written → OnOk done (IsNow (v.pages commits) mid (change (contents_in (v.pages commits) written))))
      → IsSteady (v.pages v.last) written settled → IsSteady (w.pages w.last) next next_settled
  done_steady done moved back made steady = steady_same v w next next_settled same (steady_by done moved back made steady)

-- It changed what is worked on alone.
pub done_alone : (honest : Bool) (v w : Versions) (numbers : FinMap nat_cmp ℕ) (written settled next next_settled : PageMap) (result : Done) → w ≡ v → next_settled ≡ settled
    → OnOk result (IsAlone (stored honest v numbers written settled) (stored honest w numbers next next_settled))
done_alone honest v w numbers written settled next next_settled (Ok u) same kept = λ i. record {
  commits = (same i).last;
  last = known_contents honest ((same i).pages (same i).last) nothing;
  readers = found_by (found_at honest (same i)) numbers;
  working = known_contents honest (w.pages w.last) next;
  marked = known_contents honest ((same i).pages (same i).last) (kept i);
}
done_alone honest v w numbers written settled next next_settled (Err e) same kept = tt

-- ---- refusals

-- The change reached a limit by the pages `mid`, of which this is kept.
module _ (Kept : Type 0) (honest : Bool) (v w : Versions) (numbers : FinMap nat_cmp ℕ) (written settled mid mid_settled next_settled : PageMap) (commits : ℕ) (last : commits ≡ v.last) (same : w ≡ v)
    (kept : mid_settled ≡ settled) (left : next_settled ≡ mid_settled) (k n : ℕ) where
  here : v.pages commits ≡ w.pages w.last
  here = ap v.pages last ∙ ap (λ (x : Versions). x.pages x.last) (sym same)

  counted : (u : Undone) (l : StoreLimit) → AreUndone mid u → Reached (v.pages commits) mid l → IsCounted Kept honest (w.pages w.last) next_settled u l
  counted u limit.Pages a h = inl (was_counted (w.pages w.last) mid u limit.Pages a (subst (λ (p : PageMap). Reached p mid limit.Pages) here h))
  counted u limit.Private a h = was_counted (w.pages w.last) mid u limit.Private a (subst (λ (p : PageMap). Reached p mid limit.Private) here h)
  counted u limit.Kept a h = absurd h
  counted u limit.Record a h = h
  counted u limit.Key a h = h

  working : IsSound honest v numbers written settled → IsDatabase (v.pages commits) written
  working sound = subst (λ (m : ℕ). IsDatabase (v.pages m) written) (sym last) sound.working.is

  -- a refusal of one kind as one of another
  fails : (reached : StoreLimit → Type 0) (more : StoreLimit → Type 0) (u : Undone) → ((l : StoreLimit) → AreUndone mid u → reached l → more l)
      → (result done : Done) → result ≡ done → OnErr done (AreUndone mid u) → IfErr done (MayFail (IsDatabase (v.pages commits) written) k n reached)
      → IfErr result (MayFail (IsSound honest v numbers written settled) k n more)
  fails reached more u weaker result done told are h = subst (λ (r : Done). IfErr r (MayFail (IsSound honest v numbers written settled) k n more)) (sym told) (by done are h)
    where
      by : (done : Done) → OnErr done (AreUndone mid u) → IfErr done (MayFail (IsDatabase (v.pages commits) written) k n reached) → IfErr done (MayFail (IsSound honest v numbers written settled) k n more)
      by (Ok x) are h = h
      by (Err e) are h = fail_weaker (IsDatabase (v.pages commits) written) (IsSound honest v numbers written settled) k n reached more e working (λ l r. weaker l are r) h

  changing : (u : Undone) (l : StoreLimit) → AreUndone mid u → ChangingReaches (Reached (v.pages commits) mid) l → ChangingReaches (IsCounted Kept honest (w.pages w.last) next_settled u) l
  changing u limit.Record a h = h
  changing u limit.Key a h = h
  changing u limit.Pages a h = counted u limit.Pages a h
  changing u limit.Private a h = counted u limit.Private a h
  changing u limit.Kept a h = h

  pub change_fails : (u : Undone) (result done : Done) → result ≡ done → OnErr done (AreUndone mid u)
      → IfErr done (MayFail (IsDatabase (v.pages commits) written) k n (ChangingReaches (Reached (v.pages commits) mid)))
      → IfErr result (MayFail (IsSound honest v numbers written settled) k n (ChangingReaches (IsCounted Kept honest (w.pages w.last) next_settled u)))
  change_fails u result done told are h = fails (ChangingReaches (Reached (v.pages commits) mid)) (ChangingReaches (IsCounted Kept honest (w.pages w.last) next_settled u)) u (changing u) result done told are h

  indexing : (u : Undone) (rows : List Row) (index : IndexDeclaration) (l : StoreLimit) → AreUndone mid u → ChangingReaches (Reached (v.pages commits) mid) l
      → IndexingReaches (IsCounted Kept honest (w.pages w.last) next_settled u) rows index l
  indexing u rows index limit.Record a h = h
  indexing u rows index limit.Key a h = absurd h
  indexing u rows index limit.Pages a h = counted u limit.Pages a h
  indexing u rows index limit.Private a h = counted u limit.Private a h
  indexing u rows index limit.Kept a h = h

  pub index_fails : (u : Undone) (rows : List Row) (index : IndexDeclaration) (result done : Done) → result ≡ done → OnErr done (AreUndone mid u)
      → IfErr done (MayFail (IsDatabase (v.pages commits) written) k n (ChangingReaches (Reached (v.pages commits) mid)))
      → IfErr result (MayFail (IsSound honest v numbers written settled) k n (IndexingReaches (IsCounted Kept honest (w.pages w.last) next_settled u) rows index))
  index_fails u rows index result done told are h =
      fails (ChangingReaches (Reached (v.pages commits) mid)) (IndexingReaches (IsCounted Kept honest (w.pages w.last) next_settled u) rows index) u (indexing u rows index) result done told are h

  storing : (u : Undone) (table : Option StoredTable) (rows : List Row) (l : StoreLimit) → AreUndone mid u → RowsReach (Reached (v.pages commits) mid) rows l
      → StoringReaches (IsCounted Kept honest (w.pages w.last) next_settled u) table rows l
  storing u table rows limit.Record a h = h
  storing u table rows limit.Key a h = absurd h
  storing u table rows limit.Pages a h = inl (counted u limit.Pages a h)
  storing u table rows limit.Private a h = counted u limit.Private a h
  storing u table rows limit.Kept a h = h

  pub replace_fails : (u : Undone) (table : Option StoredTable) (rows : List Row) (result done : Done) → result ≡ done → OnErr done (AreUndone mid u)
      → IfErr done (MayFail (IsDatabase (v.pages commits) written) k n (RowsReach (Reached (v.pages commits) mid) rows))
      → IfErr result (MayFail (IsSound honest v numbers written settled) k n (StoringReaches (IsCounted Kept honest (w.pages w.last) next_settled u) table rows))
  replace_fails u table rows result done told are h =
      fails (RowsReach (Reached (v.pages commits) mid) rows) (StoringReaches (IsCounted Kept honest (w.pages w.last) next_settled u) table rows) u (storing u table rows) result done told are h

  -- ---- the numbers of rows

  -- where the numbers do not end, no database lies there
  ended : (steady : IsSteady (v.pages v.last) written settled) (name : Name) (rows : List Row) → NumbersEnd (v.pages commits) written name rows
      → next_number (entries_of (get (known_contents honest (v.pages v.last) written) name)) + length rows ≤ 2 ^ 63 → IsTrue honest × IsDatabase (w.pages w.last) next_settled → ⊥
  ended steady name rows end few known =
      let marked : IsDatabase (v.pages v.last) settled =
      subst (λ (p : PageMap). IsDatabase p settled) (sym here ∙ ap v.pages last) (subst (λ (p : PageMap). IsDatabase (w.pages w.last) p) (left ∙ kept) known.1) in
      let contents : contents_in (v.pages commits) written ≡ known_contents honest (v.pages v.last) written =
      ap (λ (m : ℕ). contents_in (v.pages m) written) last ∙ sym (known_is honest (v.pages v.last) written known.0) in
      let many : IsDatabase (v.pages v.last) written → 2 ^ 63 < next_number (entries_of (get (known_contents honest (v.pages v.last) written) name)) + length rows =
      λ working. subst (λ (c : Contents). 2 ^ 63 < next_number (entries_of (get c name)) + length rows) contents (end (subst (λ (m : ℕ). IsDatabase (v.pages m) written) (sym last) working)) in
      not_there (steady marked) (λ working. both (next_number (entries_of (get (known_contents honest (v.pages v.last) written) name)) + length rows) (2 ^ 63) (many working) few)
    where
      both : (a b : ℕ) → b < a → a ≤ b → ⊥
      both a b more less = omega (arith, more, less)

  appending : (steady : IsSteady (v.pages v.last) written settled) (u : Undone) (name : Name) (rows : List Row) (l : StoreLimit) → AreUndone mid u
      → NewRowsReach (Reached (v.pages commits) mid) (NumbersEnd (v.pages commits) written name rows) rows l
      → StoringReaches (IsCounted Kept honest (w.pages w.last) next_settled u) (get (known_contents honest (v.pages v.last) written) name) rows l
  appending steady u name rows limit.Record a h = h
  appending steady u name rows limit.Key a h = absurd h
  appending steady u name rows limit.Pages a (inl h) = inl (counted u limit.Pages a h)
  appending steady u name rows limit.Pages a (inr end) = by (cases_lt (2 ^ 63) (next_number (entries_of (get (known_contents honest (v.pages v.last) written) name)) + length rows))
    where
      by : (2 ^ 63 < next_number (entries_of (get (known_contents honest (v.pages v.last) written) name)) + length rows) ⊎ (next_number (entries_of (get (known_contents honest (v.pages v.last) written) name)) + length rows ≤ 2 ^ 63)
          → StoringReaches (IsCounted Kept honest (w.pages w.last) next_settled u) (get (known_contents honest (v.pages v.last) written) name) rows limit.Pages
      by (inl more) = inr more
      by (inr few) = inl (inr (ended steady name rows end few))
  appending steady u name rows limit.Private a h = counted u limit.Private a h
  appending steady u name rows limit.Kept a h = h

  pub append_fails : (steady : IsSteady (v.pages v.last) written settled) (u : Undone) (name : Name) (rows : List Row) (result done : Done) → result ≡ done → OnErr done (AreUndone mid u)
      → IfErr done (MayFail (IsDatabase (v.pages commits) written) k n (NewRowsReach (Reached (v.pages commits) mid) (NumbersEnd (v.pages commits) written name rows) rows))
      → IfErr result (MayFail (IsSound honest v numbers written settled) k n (StoringReaches (IsCounted Kept honest (w.pages w.last) next_settled u) (get (known_contents honest (v.pages v.last) written) name) rows))
  append_fails steady u name rows result done told are h =
      fails (NewRowsReach (Reached (v.pages commits) mid) (NumbersEnd (v.pages commits) written name rows) rows)
      (StoringReaches (IsCounted Kept honest (w.pages w.last) next_settled u) (get (known_contents honest (v.pages v.last) written) name) rows) u (appending steady u name rows) result done told are h
