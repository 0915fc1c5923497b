-- That a paged store stays sound.
use Rattle.std.proofs.Common.{◌≡◌, ◌∙◌, sym, ap, subst, ℕ, Bool, true, false, cond, Option, Some, None, IsTrue, IsSome, ◌⊎◌, inl, inr}
use Rattle.std.proofs.lemmas.Cmp.{nat_cmp_total}
use Rattle.std.specs.Option.{is_some}
use Rattle.std.specs.Ordering.{nat_cmp, eq_by_cmp}
use Rattle.std.specs.FinMap.{FinMap, get, insert, remove, empty, get-empty, get-insert, get-remove}
use Rattle.pool.specs.Pages.{PageMap, over, known}
use Rattle.pool.specs.Versions.{Versions}
use Rattle.snapshot_pins.specs.Pinned.{with_reader, KeepsFound}
use Rattle.database_versions.specs.Databases.{nothing, IsOwned}
use Rattle.paged_store.specs.Sound.{IsSound}
use Rattle.paged_store.proofs.PageLemmas.{newest_kept, owned_committed}

-- ---- readers begin and end

-- each reader left was there before, or begins at the last commit
abbrev AreAmong : FinMap nat_cmp ℕ → ℕ → FinMap nat_cmp ℕ → Type 0
AreAmong now last numbers = (q n : ℕ) → get now q ≡ Some n → (get numbers q ≡ Some n) ⊎ (n ≡ last)

sound_among : (honest : Bool) (v w : Versions) (numbers now : FinMap nat_cmp ℕ) (written settled : PageMap) → AreAmong now v.last numbers → KeepsFound now v w
    → IsSound honest v numbers written settled → IsSound honest w now written settled
sound_among honest v w numbers now written settled among kept sound = record {
  device = sound.device;
  last = here nothing sound.last;
  readers = λ q n e. subst (λ (p : PageMap). IsOwned p nothing) (sym (kept.found q n e)) (by q n (among q n e));
  working = here written sound.working;
  marked = here settled sound.marked;
}
  where
    here : (pages : PageMap) → IsOwned (v.pages v.last) pages → IsOwned (w.pages w.last) pages
    here pages d = subst (λ (p : PageMap). IsOwned p pages) (sym (newest_kept v w kept.last kept.newest)) d

    by : (q n : ℕ) → (get numbers q ≡ Some n) ⊎ (n ≡ v.last) → IsOwned (v.pages n) nothing
    by q n (inl e) = sound.readers q n e
    by q n (inr e) = subst (λ (k : ℕ). IsOwned (v.pages k) nothing) (sym e) sound.last

among_same : (numbers now : FinMap nat_cmp ℕ) (last : ℕ) → now ≡ numbers → AreAmong now last numbers
among_same numbers now last same = λ q n e. inl (ap (λ (m : FinMap nat_cmp ℕ). get m q) (sym same) ∙ e)

among_with : (numbers now : FinMap nat_cmp ℕ) (r last : ℕ) → now ≡ with_reader numbers r last → AreAmong now last numbers
among_with numbers now r last is = λ q n e. by q n (is_some (get numbers r)) (ap (λ (m : FinMap nat_cmp ℕ). get m q) (sym is) ∙ e)
  where
    put : (q n : ℕ) (b : Bool) → cond b (Some last) (get numbers q) ≡ Some n → (get numbers q ≡ Some n) ⊎ (n ≡ last)
    put q n true e = inr (cc)
    put q n false e = inl e

    by : (q n : ℕ) (b : Bool) → get (cond b numbers (insert numbers r last)) q ≡ Some n → (get numbers q ≡ Some n) ⊎ (n ≡ last)
    by q n true e = inl e
    by q n false e = put q n (eq_by_cmp nat_cmp q r) (sym (get-insert nat_cmp_total numbers r last q) ∙ e)

among_left : (numbers now : FinMap nat_cmp ℕ) (r last : ℕ) → now ≡ remove numbers r → AreAmong now last numbers
among_left numbers now r last is = λ q n e. by q n (eq_by_cmp nat_cmp q r) (sym (get-remove nat_cmp_total numbers r q) ∙ ap (λ (m : FinMap nat_cmp ℕ). get m q) (sym is) ∙ e)
  where
    by : (q n : ℕ) (b : Bool) → cond b None (get numbers q) ≡ Some n → (get numbers q ≡ Some n) ⊎ (n ≡ last)
    by q n true e = let bad : ◌≡◌ {A = Option ℕ} None (Some n) = e in absurd (cc)
    by q n false e = inl e

among_none : (numbers now : FinMap nat_cmp ℕ) (last : ℕ) → now ≡ empty → AreAmong now last numbers
among_none numbers now last is = λ q n e. let bad : ◌≡◌ {A = Option ℕ} None (Some n) = sym (get-empty nat_cmp q) ∙ ap (λ (m : FinMap nat_cmp ℕ). get m q) (sym is) ∙ e in absurd (cc)

module _ (honest : Bool) (v w : Versions) (numbers now : FinMap nat_cmp ℕ) (written settled : PageMap) where
  pub sound_same : now ≡ numbers → KeepsFound now v w → IsSound honest v numbers written settled → IsSound honest w now written settled
  sound_same same kept sound = sound_among honest v w numbers now written settled (among_same numbers now v.last same) kept sound

  pub sound_begun : (r : ℕ) → now ≡ with_reader numbers r v.last → KeepsFound now v w → IsSound honest v numbers written settled → IsSound honest w now written settled
  sound_begun r is kept sound = sound_among honest v w numbers now written settled (among_with numbers now r v.last is) kept sound

  pub sound_ended : (r : ℕ) → now ≡ remove numbers r → KeepsFound now v w → IsSound honest v numbers written settled → IsSound honest w now written settled
  sound_ended r is kept sound = sound_among honest v w numbers now written settled (among_left numbers now r v.last is) kept sound

  pub sound_alone : now ≡ empty → KeepsFound now v w → IsSound honest v numbers written settled → IsSound honest w now written settled
  sound_alone is kept sound = sound_among honest v w numbers now written settled (among_none numbers now v.last is) kept sound

-- ---- the writer

-- the same versions, with other written pages over which the last one is a database of which no
-- page is lost
pub sound_with : (honest : Bool) (v w : Versions) (numbers : FinMap nat_cmp ℕ) (written settled written_now settled_now : PageMap) → w ≡ v
    → (IsSound honest v numbers written settled → IsOwned (v.pages v.last) written_now) → (IsSound honest v numbers written settled → IsOwned (v.pages v.last) settled_now)
    → IsSound honest v numbers written settled → IsSound honest w numbers written_now settled_now
sound_with honest v w numbers written settled written_now settled_now same working marked sound =
    subst (λ (x : Versions). IsSound honest x numbers written_now settled_now) (sym same)
    (record { device = sound.device; last = sound.last; readers = sound.readers; working = working sound; marked = marked sound })

-- the same pages as were written, or as stood at the mark, or none
pub sound_moved : (honest : Bool) (v w : Versions) (numbers : FinMap nat_cmp ℕ) (written settled written_now settled_now : PageMap) → w ≡ v
    → (written_now ≡ written) ⊎ ((written_now ≡ settled) ⊎ (written_now ≡ nothing)) → (settled_now ≡ written) ⊎ ((settled_now ≡ settled) ⊎ (settled_now ≡ nothing))
    → IsSound honest v numbers written settled → IsSound honest w numbers written_now settled_now
sound_moved honest v w numbers written settled written_now settled_now same working marked sound =
    sound_with honest v w numbers written settled written_now settled_now same (λ s. by written_now working s) (λ s. by settled_now marked s) sound
  where
    by : (now : PageMap) → (now ≡ written) ⊎ ((now ≡ settled) ⊎ (now ≡ nothing)) → IsSound honest v numbers written settled → IsOwned (v.pages v.last) now
    by now (inl e) s = subst (λ (p : PageMap). IsOwned (v.pages v.last) p) (sym e) s.working
    by now (inr (inl e)) s = subst (λ (p : PageMap). IsOwned (v.pages v.last) p) (sym e) s.marked
    by now (inr (inr e)) s = subst (λ (p : PageMap). IsOwned (v.pages v.last) p) (sym e) s.last

pub sound_committed : (honest : Bool) (v w : Versions) (numbers : FinMap nat_cmp ℕ) (written settled written_now settled_now : PageMap)
    → w.pages w.last ≡ known honest (over written (v.pages v.last)) → ((q n : ℕ) → get numbers q ≡ Some n → w.pages n ≡ v.pages n) → (IsTrue honest → IsSome (v.pages v.last 0))
    → written_now ≡ nothing → settled_now ≡ nothing → IsSound honest v numbers written settled → IsSound honest w numbers written_now settled_now
sound_committed honest v w numbers written settled written_now settled_now newest kept first b c sound =
    let d : IsOwned (w.pages w.last) nothing = owned_committed honest (v.pages v.last) written (w.pages w.last) newest sound.device (first sound.device) sound.working in
    record {
      device = sound.device;
      last = d;
      readers = λ q n e. subst (λ (p : PageMap). IsOwned p nothing) (sym (kept q n e)) (sound.readers q n e);
      working = subst (λ (p : PageMap). IsOwned (w.pages w.last) p) (sym b) d;
      marked = subst (λ (p : PageMap). IsOwned (w.pages w.last) p) (sym c) d;
    }

-- the same versions
pub same_sound : (honest : Bool) (v w : Versions) (numbers : FinMap nat_cmp ℕ) (written settled : PageMap) → w ≡ v → IsSound honest v numbers written settled → IsSound honest w numbers written settled
same_sound honest v w numbers written settled same sound = subst (λ (x : Versions). IsSound honest x numbers written settled) (sym same) sound
