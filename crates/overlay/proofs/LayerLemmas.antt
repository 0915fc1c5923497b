-- Layers of pages.
use Rattle.std.proofs.Common.{◌≡◌, ◌≢◌, ℕ, zero, suc, ◌+◌, ◌<◌, ◌≤◌, ◌^◌, ◌==◌, ◌||◌, Bool, true, false, Option, Some, None, List, [], ◌∷◌, IsSome, Result, Ok, Err, OnOk, OnErr, ◌⊎◌, inl, inr, refl, sym, ap, subst, ◌∙◌, arith, cond, if◌then◌else◌, eqb-true, eq-eqb, length, get_or}
use Rattle.std.specs.Option.{is_some}
use Rattle.std.specs.List.{list_any}
use Rattle.pool.specs.Pages.{PageMap, over, only, pick, pages_in}
use Rattle.overlay.specs.Layers.{count_below, size_of, AreListed}
use Rattle.overlay.proofs.CountLemmas.{count_same, count_more, count_fewer, count_le, count_none}

pub only_here : (k : ℕ) (page : List ℕ) → only k page k ≡ Some page
only_here k page = ap (λ b. cond b (Some page) None) (eq-eqb k k refl)

pub only_apart : (k n : ℕ) (page : List ℕ) → n ≢ k → only k page n ≡ None
only_apart k n page differs = by (k == n) refl
  where
    by : (b : Bool) → (k == n) ≡ b → cond b (Some page) None ≡ None
    by true e = absurd (differs (sym (eqb-true k n e)))
    by false e = refl

-- a page laid over others
pub put_here : (k : ℕ) (page : List ℕ) (p : PageMap) → over (only k page) p k ≡ Some page
put_here k page p = ap (λ o. pick o (p k)) (only_here k page)

pub put_apart : (k n : ℕ) (page : List ℕ) (p : PageMap) → n ≢ k → over (only k page) p n ≡ p n
put_apart k n page p differs = ap (λ o. pick o (p n)) (only_apart k n page differs)

pub pick_twice : (a b c : Option (List ℕ)) → pick (pick a b) c ≡ pick a (pick b c)
pick_twice (Some x) b c = refl
pick_twice None b c = refl

pub pick_again : (a b : Option (List ℕ)) → pick a (pick a b) ≡ pick a b
pick_again (Some x) b = refl
pick_again None b = refl

-- laying over is associative
pub over_twice : (a b c : PageMap) → over (over a b) c ≡ over a (over b c)
over_twice a b c = λ i n. pick_twice (a n) (b n) (c n) i

-- the count where a page is put in the place of another, and where it is new
pub size_again : (k : ℕ) (page : List ℕ) (p : PageMap) → IsSome (p k) → size_of (over (only k page) p) ≡ size_of p
size_again k page p there = count_same (2 ^ 32) (over (only k page) p) p (λ n less. by n (n == k) refl)
  where
    by : (n : ℕ) (b : Bool) → (n == k) ≡ b → is_some (over (only k page) p n) ≡ is_some (p n)
    by n true e = let is : n ≡ k = eqb-true n k e in
        rw is (ap (λ (o : Option (List ℕ)). is_some o) (put_here k page p) ∙ sym there)
    by n false e = ap (λ (o : Option (List ℕ)). is_some o) (put_apart k n page p (λ h. let bad : true ≡ false = sym (eq-eqb n k h) ∙ e in cc))

pub size_more : (k : ℕ) (page : List ℕ) (p : PageMap) → k < 2 ^ 32 → is_some (p k) ≡ false → size_of (over (only k page) p) ≡ size_of p + 1
size_more k page p less none = count_more (2 ^ 32) p (over (only k page) p) k less none (ap (λ (o : Option (List ℕ)). is_some o) (put_here k page p))
    (λ n differs. ap (λ (o : Option (List ℕ)). is_some o) (put_apart k n page p differs))

pub size_le : (p : PageMap) → size_of p ≤ 2 ^ 32
size_le p = count_le (2 ^ 32) p

pub size_none : size_of (λ n. None) ≡ 0
size_none = count_none (2 ^ 32)

pub size_under : (f s : PageMap) → size_of s ≤ size_of (over f s)
size_under f s = count_fewer (2 ^ 32) s (over f s) (λ n. covered (f n) (s n))
  where
    covered : (a b : Option (List ℕ)) → IsSome b → IsSome (pick a b)
    covered (Some x) b h = refl
    covered None b h = h

-- fresh pages, some of which are settled by now
pub record IsSettling (fresh was now : PageMap) (numbers : List ℕ) (i : ℕ) : Type 0 where
  pub same : (n : ℕ) → pick (fresh n) (now n) ≡ pick (fresh n) (was n)
  pub done : (k : ℕ) → k < i → now (get_or numbers k 0) ≡ pick (fresh (get_or numbers k 0)) (was (get_or numbers k 0))

pub settling_none : (fresh was : PageMap) (numbers : List ℕ) → IsSettling fresh was was numbers 0
settling_none fresh was numbers = record { same = λ n. refl; done = λ k less. absurd (omega arith) }

pub settling_same : (fresh was now next : PageMap) (m : ℕ) → ((n : ℕ) → pick (fresh n) (now n) ≡ pick (fresh n) (was n))
    → ((n : ℕ) → next n ≡ (if m == n then pick (fresh n) (now n) else now n)) → (n : ℕ) → pick (fresh n) (next n) ≡ pick (fresh n) (was n)
settling_same fresh was now next m same step n = ap (pick (fresh n)) (step n) ∙ by (m == n) ∙ same n
  where
    by : (b : Bool) → pick (fresh n) (cond b (pick (fresh n) (now n)) (now n)) ≡ pick (fresh n) (now n)
    by true = pick_again (fresh n) (now n)
    by false = refl

pub settling_more : (fresh was now next : PageMap) (numbers : List ℕ) (i m : ℕ) → m ≡ get_or numbers i 0 → IsSettling fresh was now numbers i
    → ((n : ℕ) → next n ≡ (if m == n then pick (fresh n) (now n) else now n)) → IsSettling fresh was next numbers (i + 1)
settling_more fresh was now next numbers i m is before step = record {
  same = settling_same fresh was now next m before.same step;
  done = λ k less. at k (m == get_or numbers k 0) refl less;
}
  where
    at : (k : ℕ) (b : Bool) → (m == get_or numbers k 0) ≡ b → k < i + 1 → next (get_or numbers k 0) ≡ pick (fresh (get_or numbers k 0)) (was (get_or numbers k 0))
    at k true e less = step (get_or numbers k 0) ∙ ap (λ b. cond b (pick (fresh (get_or numbers k 0)) (now (get_or numbers k 0))) (now (get_or numbers k 0))) e ∙ before.same (get_or numbers k 0)
    at k false e less = step (get_or numbers k 0) ∙ ap (λ b. cond b (pick (fresh (get_or numbers k 0)) (now (get_or numbers k 0))) (now (get_or numbers k 0))) e
        ∙ before.done k (earlier k i less (λ h. let same : m ≡ get_or numbers k 0 = is ∙ ap (λ j. get_or numbers j 0) (sym h) in let bad : true ≡ false = sym (eq-eqb m (get_or numbers k 0) same) ∙ e in cc))
      where
        earlier : (k i : ℕ) → k < i + 1 → (k ≡ i → ⊥) → k < i
        earlier k i less differs = omega arith

-- a number of the list stands at a place
pub place_of : (numbers : List ℕ) (n : ℕ) → list_any (λ k. k == n) numbers ≡ true → (k : ℕ) × ((k < length numbers) × (get_or numbers k 0 ≡ n))
place_of [] n h = cc
place_of (x ∷ xs) n h = by (place_of xs n) (x == n) refl h
  where
    by : (list_any (λ k. k == n) xs ≡ true → (k : ℕ) × ((k < length xs) × (get_or xs k 0 ≡ n))) → (b : Bool) → (x == n) ≡ b
        → list_any (λ k. k == n) (x ∷ xs) ≡ true → (k : ℕ) × ((k < length (x ∷ xs)) × (get_or (x ∷ xs) k 0 ≡ n))
    by more true e h = (0, (omega arith, eqb-true x n e))
    by more false e h = let rest = more (tail (x == n) (list_any (λ k. k == n) xs) e h) in (suc rest.0, (omega (arith, rest.1.0), rest.1.1))
      where
        tail : (b c : Bool) → b ≡ false → (b || c) ≡ true → c ≡ true
        tail false c e h = h
        tail true c e h = cc

pub settling_all : (fresh was now : PageMap) (numbers : List ℕ) (i : ℕ) → length numbers ≤ i → AreListed fresh numbers → IsSettling fresh was now numbers i
    → now ≡ over fresh was
settling_all fresh was now numbers i all listed done = λ j n. at n (fresh n) refl j
  where
    at : (n : ℕ) (o : Option (List ℕ)) → fresh n ≡ o → now n ≡ pick (fresh n) (was n)
    at n None e = ap (λ o. pick o (now n)) (sym e) ∙ done.same n
    at n (Some page) e = let place = place_of numbers n (listed n (ap (λ (o : Option (List ℕ)). is_some o) e)) in
        let k = place.0 in let less : k < i = omega (arith, place.1.0, all) in
        ap now (sym place.1.1) ∙ done.done k less ∙ ap (λ m. pick (fresh m) (was m)) place.1.1

-- a page settled
pub settled_one : (k : ℕ) (page : List ℕ) (f s next : PageMap) → Some page ≡ f k → next ≡ over (only k page) s
    → (n : ℕ) → next n ≡ (if k == n then pick (f n) (s n) else s n)
settled_one k page f s next is put n = ap (λ (p : PageMap). p n) put ∙ by (k == n) refl
  where
    by : (b : Bool) → (k == n) ≡ b → pick (cond b (Some page) None) (s n) ≡ cond b (pick (f n) (s n)) (s n)
    by true e = ap (λ o. pick o (s n)) (is ∙ ap f (eqb-true k n e))
    by false e = refl

pub size_empty : (p : PageMap) → p ≡ (λ n. None) → size_of p ≡ 0
size_empty p e = ap size_of e ∙ size_none

-- what holds of a transaction's pages after a page was put into the fresh ones
pub listed_put : (k : ℕ) (page : List ℕ) (f next : PageMap) (numbers : List ℕ) → next ≡ over (only k page) f → AreListed (over (only k []) f) numbers → AreListed next numbers
listed_put k page f next numbers put listed n there = listed n (by (k == n) (subst (λ (p : PageMap). IsSome (p n)) put there))
  where
    by : (b : Bool) → IsSome (pick (cond b (Some page) None) (f n)) → IsSome (pick (cond b (Some []) None) (f n))
    by true h = refl
    by false h = h

pub put_over : (k : ℕ) (page : List ℕ) (f s next : PageMap) → next ≡ over (only k page) f → over next s ≡ over (only k page) (over f s)
put_over k page f s next put = ap (λ (p : PageMap). over p s) put ∙ over_twice (only k page) f s

pub size_put_again : (k : ℕ) (page : List ℕ) (f s next : PageMap) (count : ℕ) → next ≡ over (only k page) f → IsSome (over f s k) → count ≡ size_of (over f s) → count ≡ size_of (over next s)
size_put_again k page f s next count put there is = is ∙ sym (size_again k page (over f s) there) ∙ sym (ap size_of (put_over k page f s next put))

pub size_put_new : (k : ℕ) (page : List ℕ) (f s next : PageMap) (count : ℕ) → next ≡ over (only k page) f → k < 2 ^ 32 → is_some (over f s k) ≡ false → count ≡ size_of (over f s)
    → count + 1 ≡ size_of (over next s)
size_put_new k page f s next count put less none is = ap (λ n. n + 1) is ∙ sym (size_more k page (over f s) less none) ∙ sym (ap size_of (put_over k page f s next put))

pub size_put : (k : ℕ) (page : List ℕ) (p next : PageMap) (count : ℕ) → next ≡ over (only k page) p → IsSome (p k) → count ≡ size_of p → count ≡ size_of next
size_put k page p next count put there is = is ∙ sym (size_again k page p there) ∙ sym (ap size_of put)

pub size_put_more : (k : ℕ) (page : List ℕ) (p next : PageMap) (count : ℕ) → next ≡ over (only k page) p → k < 2 ^ 32 → is_some (p k) ≡ false → count ≡ size_of p → count + 1 ≡ size_of next
size_put_more k page p next count put less none is = ap (λ n. n + 1) is ∙ sym (size_more k page p less none) ∙ sym (ap size_of put)

pub count_fits : (p : PageMap) (count : ℕ) → count ≡ size_of p → count + 1 < 2 ^ 64
count_fits p count is = let most = size_le p in omega (arith, is, most)

-- the pages after all fresh ones are settled, and after they are undone
pub marked_same : (f s settled none : PageMap) → settled ≡ over f s → none ≡ (λ n. None) → over none settled ≡ over f s
marked_same f s settled none e g = ap (λ (p : PageMap). over p settled) g ∙ e

pub size_undone : (s none : PageMap) (count : ℕ) → none ≡ (λ n. None) → count ≡ size_of s → count ≡ size_of (over none s)
size_undone s none count e is = is ∙ sym (ap (λ (p : PageMap). size_of (over p s)) e)

pub few_undone : (f s : PageMap) (count all : ℕ) → count ≡ size_of s → all ≡ size_of (over f s) → all ≤ 1024 → count ≤ 1024
few_undone f s count all is whole few = let under = size_under f s in omega (arith, is, whole, few, under)

pub none_listed : (p : PageMap) (numbers : List ℕ) → p ≡ (λ n. None) → AreListed p numbers
none_listed p numbers e n there = let bad : false ≡ true = subst (λ (q : PageMap). IsSome (q n)) e there in cc

pub both_none : (p q : PageMap) → p ≡ (λ n. None) → q ≡ (λ n. None) → over p q ≡ (λ n. None)
both_none p q e f = ap (λ (r : PageMap). over r q) e ∙ f

-- a page was put into a set, or the set is as it was
pub put_or_left : {E : Type 0} (result : Result (Unit {0}) E) (P Q : Type 0) → OnOk result P → OnErr result Q → P ⊎ Q
put_or_left (Ok done) P Q p q = inl p
put_or_left (Err e) P Q p q = inr q

pub listed_either : (k : ℕ) (page : List ℕ) (set next : List (ℕ × List ℕ)) (numbers : List ℕ) → (pages_in next ≡ over (only k page) (pages_in set)) ⊎ (next ≡ set)
    → AreListed (over (only k []) (pages_in set)) numbers → AreListed (pages_in next) numbers
listed_either k page set next numbers (inl put) listed = listed_put k page (pages_in set) (pages_in next) numbers put listed
listed_either k page set next numbers (inr same) listed = λ n there. listed n (covered (only k [] n) (pages_in set n) (subst (λ (s : List (ℕ × List ℕ)). IsSome (pages_in s n)) same there))
  where
    covered : (a b : Option (List ℕ)) → IsSome b → IsSome (pick a b)
    covered (Some x) b h = refl
    covered None b h = h

pub size_either : (k : ℕ) (page : List ℕ) (set next : List (ℕ × List ℕ)) (s : PageMap) (count : ℕ) → (pages_in next ≡ over (only k page) (pages_in set)) ⊎ (next ≡ set)
    → IsSome (over (pages_in set) s k) → count ≡ size_of (over (pages_in set) s) → count ≡ size_of (over (pages_in next) s)
size_either k page set next s count (inl put) there is = size_put_again k page (pages_in set) s (pages_in next) count put there is
size_either k page set next s count (inr same) there is = is ∙ sym (ap (λ (es : List (ℕ × List ℕ)). size_of (over (pages_in es) s)) same)

-- a set to which pages were copied that it did not have
pub over_none : (p none : PageMap) → none ≡ (λ n. None) → over p none ≡ p
over_none p none e = λ i n. (ap (λ (o : Option (List ℕ)). pick (p n) o) (λ j. e j n) ∙ pick_none (p n)) i
  where
    pick_none : (o : Option (List ℕ)) → pick o None ≡ o
    pick_none None = refl
    pick_none (Some page) = refl

-- ---- the fresh pages become those over the older ones

pub listed_moved : (set moved : List (ℕ × List ℕ)) (numbers moved_numbers : List ℕ) → moved ≡ set → moved_numbers ≡ numbers → AreListed (pages_in set) numbers → AreListed (pages_in moved) moved_numbers
listed_moved set moved numbers moved_numbers a b listed =
    subst (λ (xs : List ℕ). AreListed (pages_in moved) xs) (sym b) (subst (λ (s : List (ℕ × List ℕ)). AreListed (pages_in s) numbers) (sym a) listed)

pub settled_pages : (fresh settled moved older : PageMap) → moved ≡ fresh → older ≡ settled → over moved older ≡ over fresh settled
settled_pages fresh settled moved older a b = λ i. over (a i) (b i)

pub settled_now : (fresh settled moved older : PageMap) (count : ℕ) → moved ≡ fresh → older ≡ settled → count ≡ size_of (over fresh settled) → count ≡ size_of (over moved older)
settled_now fresh settled moved older count a b is = is ∙ sym (ap size_of (settled_pages fresh settled moved older a b))
