-- Pages in use, and the list of free pages, after a page and the header were written.
use Rattle.std.proofs.Common.{◌≡◌, ◌≢◌, ℕ, ◌+◌, ◌<◌, ◌≤◌, ◌==◌, Bool, true, false, Result, Ok, Err, OnOk, OnErr, Option, Some, None, List, [], ◌∷◌, IsSome, refl, sym, ap, subst, ◌∙◌, arith, ◌⊎◌, inl, inr, eqb-true, eq-eqb}
use Rattle.std.specs.Prelude.{slice_index, nat_lt}
use Rattle.std.specs.Option.{is_some}
use Rattle.pagefile.specs.declared.header.FileHeader.{FileHeader}
use Rattle.pagefile.specs.Header.{IsHeader, IsInBounds}
use Rattle.pool.specs.Zeros.{EndsInZeros}
use Rattle.pagefile.specs.Free.{IsFree}
use Rattle.pagefile.specs.Number.{number_at}
use Rattle.pool.specs.Pages.{PageMap, over, only, pick}
use Rattle.overlay.specs.InUse.{in_use, is_counted}
use Rattle.overlay.specs.Bounded.{some_is}
use Rattle.overlay.specs.Whole.{IsIn, HasFreeList, IsWholeFor, IsWritable}
use Rattle.overlay.specs.Puts.{PutsBoth, PutsAtMost, with_first_free}
use Rattle.overlay.proofs.LayerLemmas.{put_here, put_apart, over_twice}
use Rattle.overlay.proofs.InUseLemmas.{in_use-apart, in_use-others, in_use-freed, none_outside}
use Rattle.overlay.proofs.WholeLemmas.{list_same, in_list, still_there, same_header, writable_below, writable_apart, same_or_apart}

-- both were put
pub puts_both : {E : Type 0} (result : Result (Unit {0}) E) (page : ℕ) (bytes first : List ℕ) (header : FileHeader) (old mid new : PageMap) → IsHeader first header → EndsInZeros first
    → mid ≡ over (only page bytes) old → OnOk result (new ≡ over (only 0 first) mid) → OnOk result (PutsBoth page bytes header old new)
puts_both (Ok done) page bytes first header old mid new says zeros put both = record { first = first; says = says; zeros = zeros; puts = both ∙ ap (λ (p : PageMap). over (only 0 first) p) put }
puts_both (Err e) page bytes first header old mid new says zeros put both = both

pub puts_one : {E : Type 0} (result : Result (Unit {0}) E) (page : ℕ) (bytes : List ℕ) (old mid new : PageMap) → mid ≡ over (only page bytes) old → OnErr result (new ≡ mid)
    → OnErr result (PutsAtMost page bytes old new)
puts_one (Ok done) page bytes old mid new put same = same
puts_one (Err e) page bytes old mid new put same = inr (same ∙ put)

pick_there : (a b : Option (List ℕ)) → is_some b ≡ true → IsSome (pick a b)
pick_there (Some x) b h = refl
pick_there None b h = h

-- a page 0 with a count that counts this page alike
pub recounted : (version mid : PageMap) (first : List ℕ) (count new_count n : ℕ) → ((f : List ℕ) → over mid version 0 ≡ Some f → number_at f 8 ≡ count) → number_at first 8 ≡ new_count
    → nat_lt n new_count ≡ nat_lt n count → n ≢ 0 → in_use version (over (only 0 first) mid) n ≡ in_use version mid n
recounted version mid first count new_count n says is same some = in_use-apart version mid (over (only 0 first) mid) n (put_apart 0 n first mid some)
    (λ k. let there = some_is (over mid version 0) (pick_there (mid 0) (version 0) k) in
    ap (λ (o : Option (List ℕ)). is_counted (pick o (version 0)) n) (put_here 0 first mid) ∙ ap (λ (c : ℕ). nat_lt n c) is ∙ same
    ∙ ap (λ (c : ℕ). nat_lt n c) (sym (says there.0 there.1)) ∙ sym (ap (λ (o : Option (List ℕ)). is_counted o n) there.1))

above : (k : ℕ) → 0 < k → k ≢ 0
above k some = omega arith

-- each page but the one written is in use as before
pub others_both : (version written next : PageMap) (page : ℕ) (bytes : List ℕ) (h new : FileHeader) → 0 < page → ((n : ℕ) → n ≢ page → nat_lt n new.page_count ≡ nat_lt n h.page_count)
    → ((f : List ℕ) → over written version 0 ≡ Some f → IsHeader f h) → PutsBoth page bytes new written next
    → (n : ℕ) → n ≢ page → in_use version next n ≡ in_use version written n
others_both version written next page bytes h new some count says both n differs = by (n == 0) refl
  where
    mid_first : (f : List ℕ) → over (over (only page bytes) written) version 0 ≡ Some f → number_at f 8 ≡ h.page_count
    mid_first f e = (says f (ap (λ (o : Option (List ℕ)). pick o (version 0)) (sym (put_apart page 0 bytes written (λ z. above page some (sym z)))) ∙ e)).page_count

    by : (b : Bool) → (n == 0) ≡ b → in_use version next n ≡ in_use version written n
    by true e = let zero_is : n ≡ 0 = eqb-true n 0 e in
        none_outside version next n (λ a b. omega (arith, zero_is, a)) ∙ sym (none_outside version written n (λ a b. omega (arith, zero_is, a)))
    by false e = ap (λ (p : PageMap). in_use version p n) both.puts
        ∙ recounted version (over (only page bytes) written) both.first h.page_count new.page_count n mid_first both.says.page_count (count n differs) (λ z. let bad : true ≡ false = sym (eq-eqb n 0 z) ∙ e in cc)
        ∙ in_use-others version written (over (only page bytes) written) page (above page some) (λ m apart. put_apart page m bytes written apart) n differs

pub others_at_most : (version written next : PageMap) (page : ℕ) (bytes : List ℕ) → 0 < page → PutsAtMost page bytes written next
    → (n : ℕ) → n ≢ page → in_use version next n ≡ in_use version written n
others_at_most version written next page bytes some (inl same) = λ n differs. ap (λ (p : PageMap). in_use version p n) same
others_at_most version written next page bytes some (inr one) = λ n differs. ap (λ (p : PageMap). in_use version p n) one
    ∙ in_use-others version written (over (only page bytes) written) page (above page some) (λ m apart. put_apart page m bytes written apart) n differs

pub freed_both : (version written next : PageMap) (page : ℕ) (bytes : List ℕ) (new : FileHeader) → 0 < page → slice_index bytes 0 ≡ 3 → PutsBoth page bytes new written next → in_use version next page ≡ None
freed_both version written next page bytes new some kind both = in_use-freed version next page bytes
    (ap (λ (p : PageMap). p page) both.puts ∙ put_apart 0 page both.first (over (only page bytes) written) (above page some) ∙ put_here page bytes written) kind

-- the list with one page more
pub whole_freed : {full : Bool} (p : PageMap) (page : ℕ) (bytes first : List ℕ) (h : FileHeader) → 0 < page → IsWritable p page → IsFree bytes h.first_free → IsHeader first (with_first_free h page) → EndsInZeros first
    → ((f : List ℕ) → p 0 ≡ Some f → IsHeader f h) → IsInBounds h → IsWholeFor full p → IsWholeFor full (over (only 0 first) (over (only page bytes) p))
whole_freed {full} p page bytes first h some can free head zeros says bounds (g, was) = (
  with_first_free h page,
  record {
    first = first;
    there = put_here 0 first (over (only page bytes) p);
    says = head;
    zeros = zeros;
    bounds = record { some = bounds.some; few = bounds.few; free = writable_below p h page w can; root = bounds.root };
    free = page ∷ w.free;
    listed = (
      refl,
      some,
      (
        record { next = h.first_free; bytes = bytes; there = put_apart 0 page first (over (only page bytes) p) (above page some) ∙ put_here page bytes p; free = free },
        list_same p (over (only 0 first) (over (only page bytes) p)) h.first_free w.free
            (λ n i. other n (above n (in_list p h.first_free w.free w.listed n i).0) (λ e. writable_apart p h page w can (subst (λ (k : ℕ). IsIn k w.free) e i))) w.listed,
      ),
    );
    apart = (writable_apart p h page w can, w.apart);
    within = λ n i. inside n i;
    all = λ n less. still_there (only 0 first) (over (only page bytes) p) n (still_there (only page bytes) p n (w.all n less));
    ends = λ n behind. other n (above n (positive n h.page_count bounds.some behind)) (behind_apart n page h.page_count behind (writable_below p h page w can)) ∙ w.ends n behind;
    lists = λ e n b more less there kind. listed_in e n b more less there kind (same_or_apart n page);
  },
)
  where
    w : HasFreeList full p h
    w = same_header p g h says bounds was

    other : (n : ℕ) → n ≢ 0 → n ≢ page → over (only 0 first) (over (only page bytes) p) n ≡ p n
    other n a b = put_apart 0 n first (over (only page bytes) p) a ∙ put_apart page n bytes p b

    listed_in : full ≡ true → (n : ℕ) (b : List ℕ) → 0 < n → n < h.page_count → over (only 0 first) (over (only page bytes) p) n ≡ Some b → slice_index b 0 ≡ 3 → (n ≡ page) ⊎ (n ≢ page) → (n ≡ page) ⊎ IsIn n w.free
    listed_in e n b more less there kind (inl is) = inl is
    listed_in e n b more less there kind (inr differs) = inr (w.lists e n b more less (sym (other n (above n more) differs) ∙ there) kind)

    inside : (n : ℕ) → (n ≡ page) ⊎ IsIn n w.free → n < h.page_count
    inside n (inl e) = subst (λ (k : ℕ). k < h.page_count) (sym e) (writable_below p h page w can)
    inside n (inr i) = w.within n i

    positive : (n count : ℕ) → 1 ≤ count → count ≤ n → 0 < n
    positive n count some behind = omega arith

    behind_apart : (n page count : ℕ) → count ≤ n → page < count → n ≢ page
    behind_apart n page count behind below = omega arith
