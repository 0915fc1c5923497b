-- Pages in memory, after each change of their cache.
use Rattle.std.proofs.Common.{◌≡◌, ◌≢◌, ◌⊎◌, inl, inr, ℕ, nat_eq, true, false, List, [], ◌∷◌, Option, Some, Contains, refl, sym, ◌∙◌, ap, subst, arith, rules}
use Rattle.std.specs.Prelude.{Result, Ok, Err, OnOk, OnErr}
use Rattle.std.specs.List.{IsDistinct, AllByRecursion}
use Rattle.std.specs.Map.{keys_of, remove_entry, lookup}
use Rattle.std.proofs.lemmas.Bool.Decides.{nat_tests}
use Rattle.lru.specs.LruCache.{LruCache, lru_cache, put_entries, promoted}
use Rattle.lru.proofs.Splits.{Contains-nil, Contains-cons}
use Rattle.lru.proofs.CallerLemmas.{Contains-put_entries, IsPut, Contains-lookup, Contains-promoted, Contains-remove_entry}
use Rattle.page_cache.specs.Frames.{AreClean}

equal_keys : (k n : ℕ) → nat_eq k n ≡ true → k ≡ n
equal_keys k n h = grind (arith, nat_tests, h)

other_keys : (k n : ℕ) → nat_eq k n ≡ false → n ≢ k
other_keys k n h = grind (arith, nat_tests, h)

apart : (x : ℕ) (es : List (ℕ × List ℕ)) → AllByRecursion (λ y. nat_eq x y ≡ false) (keys_of es) → (n : ℕ) (v : List ℕ) → Contains es (n, v) → nat_eq x n ≡ false
apart x [] h n v c = absurd (Contains-nil (n, v) c)
apart x (e ∷ es) h n v c = elim (Contains-cons e es (n, v) c) [
  | inl same ↦ subst (λ k. nat_eq x k ≡ false) (ap (λ p. p.0) same) h.0
  | inr more ↦ apart x es h.1 n v more
]

-- where keys are distinct, none is left of a pair that was taken out
gone : (k : ℕ) (es : List (ℕ × List ℕ)) → IsDistinct nat_eq (keys_of es) → (n : ℕ) (v : List ℕ) → Contains (remove_entry (nat_eq k) es) (n, v) → nat_eq k n ≡ false
unfolding IsDistinct
gone k [] d n v c = absurd (Contains-nil (n, v) c)
gone k (e ∷ es) d n v c = (elim (nat_eq k e.0) as (λ b. nat_eq k e.0 ≡ b → nat_eq k n ≡ false) [
  | true ↦ λ t. subst (λ x. nat_eq x n ≡ false) (sym (equal_keys k e.0 t)) (apart e.0 es d.0 n v (rw t at c))
  | false ↦ λ t. elim (Contains-cons e (remove_entry (nat_eq k) es) (n, v) (rw t at c)) [
    | inl same ↦ subst (λ x. nat_eq k x ≡ false) (ap (λ p. p.0) same) t
    | inr more ↦ gone k es d.1 n v more
  ]
]) refl

-- none is left of a page that was taken out, and each that is left was there
pub forgotten : (old new : LruCache ℕ (List ℕ)) (k : ℕ) → new ≡ lru_cache (remove_entry (nat_eq k) old.entries) old.cap
    → IsDistinct nat_eq (keys_of old.entries) → (n : ℕ) (v : List ℕ) → Contains new.entries (n, v) → (n ≢ k) × Contains old.entries (n, v)
forgotten old new k is distinct n v has =
    let left = subst (λ (c : LruCache ℕ (List ℕ)). Contains c.entries (n, v)) is has in
    (other_keys k n (gone k old.entries distinct n v left), Contains-remove_entry (nat_eq k) old.entries (n, v) left)

-- a page that was looked up is the one that is shown
pub looked_up : (shows : ℕ → Option (List ℕ)) (es : List (ℕ × List ℕ)) (n : ℕ) (v : List ℕ) → AreClean shows es → lookup (nat_eq n) es ≡ Some v → shows n ≡ Some v
looked_up shows es n v clean found = let at = Contains-lookup (nat_eq n) es v found in
    ap shows (equal_keys n at.0 at.2) ∙ clean at.0 v at.1

pub still_clean : (shows : ℕ → Option (List ℕ)) (old new : LruCache ℕ (List ℕ)) (n : ℕ) → new ≡ lru_cache (promoted (nat_eq n) old.entries) old.cap → AreClean shows old.entries → AreClean shows new.entries
still_clean shows old new n is clean m v has = clean m v (Contains-promoted (nat_eq n) old.entries (m, v) (subst (λ (c : LruCache ℕ (List ℕ)). Contains c.entries (m, v)) is has))

-- after a page was put among those in memory, or there was no room for it
pub put_clean : {T E : Type 0} (result : Result T E) (old new : LruCache ℕ (List ℕ)) (k : ℕ) (v : List ℕ) (shows : ℕ → Option (List ℕ))
    → OnOk result (new ≡ lru_cache (put_entries nat_eq old k v) old.cap) → OnErr result (new ≡ old)
    → shows k ≡ Some v → AreClean shows old.entries → AreClean shows new.entries
put_clean (Ok x) old new k v shows put same is clean n w has = by (Contains-put_entries nat_eq old k v (n, w) (subst (λ (c : LruCache ℕ (List ℕ)). Contains c.entries (n, w)) put has))
  where
    by : Contains old.entries (n, w) ⊎ IsPut nat_eq old k v (n, w) → shows n ≡ Some w
    by (inl was) = clean n w was
    by (inr (value, inl key)) = ap shows key ∙ is ∙ ap (λ (p : List ℕ). Some p) (sym value)
    by (inr (value, inr (u, was, equal))) = ap shows (sym (equal_keys k n equal)) ∙ is ∙ ap (λ (p : List ℕ). Some p) (sym value)
put_clean (Err x) old new k v shows put same is clean n w has = clean n w (subst (λ (c : LruCache ℕ (List ℕ)). Contains c.entries (n, w)) same has)

-- no page is in memory
pub none_clean : (shows : ℕ → Option (List ℕ)) (cache : LruCache ℕ (List ℕ)) (cap : ℕ) → cache ≡ lru_cache [] cap → AreClean shows cache.entries
none_clean shows cache cap is n page has = absurd (Contains-nil (n, page) (subst (λ (c : LruCache ℕ (List ℕ)). Contains c.entries (n, page)) is has))
