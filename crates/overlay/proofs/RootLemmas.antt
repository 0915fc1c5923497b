-- What another root of the catalogue leaves.
use Rattle.std.proofs.Common.{◌≡◌, ◌≢◌, ℕ, ◌<◌, ◌≤◌, ◌==◌, Bool, true, false, arith, Result, Ok, Err, OnOk, OnErr, Option, Some, None, List, IsSome, refl, sym, ap, subst, ◌∙◌, ◌⊎◌, inl, inr, eqb-true, eq-eqb}
use Rattle.pagefile.specs.declared.header.FileHeader.{FileHeader}
use Rattle.pagefile.specs.Header.{IsHeader, IsInBounds}
use Rattle.pool.specs.Zeros.{EndsInZeros}
use Rattle.pagefile.specs.Number.{number_at}
use Rattle.pool.specs.Pages.{PageMap, over, only, pick}
use Rattle.overlay.specs.InUse.{in_use}
use Rattle.overlay.specs.Bounded.{some_is}
use Rattle.overlay.specs.Whole.{HasFreeList, IsWholeFor, IsWhole, HasRoot}
use Rattle.overlay.specs.Puts.{Rooted, PutsHeader, with_root}
use Rattle.overlay.proofs.LayerLemmas.{put_here, put_apart, over_twice}
use Rattle.overlay.proofs.InUseLemmas.{in_use-read, none_outside}
use Rattle.overlay.proofs.WholeLemmas.{list_same, in_list, still_there, same_header}
use Rattle.overlay.proofs.PutLemmas.{recounted}

apart_from_0 : (n : ℕ) → 0 < n → n ≢ 0
apart_from_0 n some = omega arith

pub root_put : {E : Type 0} (result : Result (Unit {0}) E) (bytes : List ℕ) (h : FileHeader) (old new : PageMap) → IsHeader bytes h → EndsInZeros bytes → OnOk result (new ≡ over (only 0 bytes) old) → OnOk result (PutsHeader h old new)
root_put (Ok done) bytes h old new is zeros put = record { first = bytes; is = is; zeros = zeros; puts = put }
root_put (Err e) bytes h old new is zeros put = put

pub rooted_by : {E : Type 0} (result : Result (Unit {0}) E) (pages : PageMap) (root : ℕ) (h : FileHeader) (old new : PageMap) → ((first : List ℕ) → pages 0 ≡ Some first → IsHeader first h) → IsInBounds h
    → root < h.page_count → OnOk result (PutsHeader (with_root h root) old new) → OnOk result (Rooted pages root old new)
rooted_by (Ok done) pages root h old new says bounds below put = record { header = h; says = says; bounds = bounds; below = below; which = inr put }
rooted_by (Err e) pages root h old new says bounds below put = put

pub rooted_before : (pages : PageMap) (root : ℕ) (h : FileHeader) (old : PageMap) → ((first : List ℕ) → pages 0 ≡ Some first → IsHeader first h) → IsInBounds h
    → h.catalog_root ≡ root → Rooted pages root old old
rooted_before pages root h old says bounds is = record { header = h; says = says; bounds = bounds; below = subst (λ (n : ℕ). n < h.page_count) is bounds.root; which = inl (is, refl) }

has_root : (o : Option (List ℕ)) (root : ℕ) → ((first : List ℕ) → o ≡ Some first → number_at first 16 ≡ root) → HasRoot o root
has_root None root h = tt
has_root (Some first) root h = h first refl

pub rooted_root : (version written next : PageMap) (root : ℕ) → Rooted (over written version) root written next → HasRoot (over next version 0) root
rooted_root version written next root r = by r.which
  where
    by : ((r.header.catalog_root ≡ root) × (next ≡ written)) ⊎ PutsHeader (with_root r.header root) written next → HasRoot (over next version 0) root
    by (inl before) = has_root (over next version 0) root (λ first e. (r.says first (ap (λ (p : PageMap). over p version 0) (sym before.1) ∙ e)).catalog_root ∙ before.0)
    by (inr put) = subst (λ (o : Option (List ℕ)). HasRoot o root) (sym (ap (λ (p : PageMap). over p version 0) put.puts ∙ ap (λ (o : Option (List ℕ)). pick o (version 0)) (put_here 0 put.first written)))
        put.is.catalog_root

pub rooted_others : (version written next : PageMap) (root : ℕ) → Rooted (over written version) root written next → (n : ℕ) → in_use version next n ≡ in_use version written n
rooted_others version written next root r n = by r.which
  where
    put_others : (put : PutsHeader (with_root r.header root) written next) → (b : Bool) → (n == 0) ≡ b → in_use version next n ≡ in_use version written n
    put_others put true e = let zero_is : n ≡ 0 = eqb-true n 0 e in
        none_outside version next n (λ a b. omega (arith, zero_is, a)) ∙ sym (none_outside version written n (λ a b. omega (arith, zero_is, a)))
    put_others put false e = ap (λ (p : PageMap). in_use version p n) put.puts
        ∙ recounted version written put.first r.header.page_count r.header.page_count n (λ f there. (r.says f there).page_count) put.is.page_count refl
        (λ z. let bad : true ≡ false = sym (eq-eqb n 0 z) ∙ e in cc)

    by : ((r.header.catalog_root ≡ root) × (next ≡ written)) ⊎ PutsHeader (with_root r.header root) written next → in_use version next n ≡ in_use version written n
    by (inl before) = ap (λ (p : PageMap). in_use version p n) before.1
    by (inr put) = put_others put (n == 0) refl

put_whole : {full : Bool} (p : PageMap) (first : List ℕ) (h : FileHeader) (root : ℕ) → root < h.page_count → IsInBounds h → IsHeader first (with_root h root) → EndsInZeros first → HasFreeList full p h → IsWholeFor full (over (only 0 first) p)
put_whole p first h root below bounds head zeros w = (
  with_root h root,
  record {
    first = first;
    there = put_here 0 first p;
    says = head;
    zeros = zeros;
    bounds = record { some = bounds.some; few = bounds.few; free = bounds.free; root = below };
    free = w.free;
    listed = list_same p (over (only 0 first) p) h.first_free w.free (λ n i. put_apart 0 n first p (apart_from_0 n (in_list p h.first_free w.free w.listed n i).0)) w.listed;
    apart = w.apart;
    within = w.within;
    all = λ n less. still_there (only 0 first) p n (w.all n less);
    ends = λ n behind. let least = bounds.some in put_apart 0 n first p (omega (arith, least, behind)) ∙ w.ends n behind;
    lists = λ e n b more less there kind. w.lists e n b more less (sym (put_apart 0 n first p (apart_from_0 n more)) ∙ there) kind;
  },
)

pub rooted_whole : {full : Bool} (version written next : PageMap) (root : ℕ) → Rooted (over written version) root written next → IsWholeFor full (over written version) → IsWholeFor full (over next version)
rooted_whole {full} version written next root r (g, was) = by r.which
  where
    by : ((r.header.catalog_root ≡ root) × (next ≡ written)) ⊎ PutsHeader (with_root r.header root) written next → IsWholeFor full (over next version)
    by (inl before) = subst (λ (p : PageMap). IsWholeFor full (over p version)) (sym before.1) (g, was)
    by (inr put) = subst (IsWholeFor full) (sym (ap (λ (w : PageMap). over w version) put.puts ∙ over_twice (only 0 put.first) written version))
        (put_whole (over written version) put.first r.header root r.below r.bounds put.is put.zeros (same_header (over written version) g r.header r.says r.bounds was))

-- a root in use lies below the page count
pub never_above : (version written : PageMap) (h : FileHeader) (root : ℕ) → ((first : List ℕ) → over written version 0 ≡ Some first → IsHeader first h) → IsInBounds h → h.page_count ≤ root
    → IsWhole (over written version) → (root ≡ 0) ⊎ IsSome (in_use version written root) → ⊥
never_above version written h root says bounds above (g, was) (inl none) = let least = bounds.some in omega (arith, above, none, least)
never_above version written h root says bounds above (g, was) (inr there) =
    let page = some_is (in_use version written root) there in
    let w : HasFreeList false (over written version) h = same_header (over written version) g h says bounds was in
    let bad : None ≡ Some page.0 = sym (w.ends root above) ∙ in_use-read version written root page.0 page.1 in cc

-- page 0 is there and names it: so does the header
pub names_it : (o : Option (List ℕ)) (h : FileHeader) (root : ℕ) → ((first : List ℕ) → o ≡ Some first → IsHeader first h) → IsSome o → HasRoot o root → h.catalog_root ≡ root
names_it None h root says there has = let bad : false ≡ true = there in cc
names_it (Some first) h root says there has = sym (says first refl).catalog_root ∙ has

-- after a call
pub root_after : {E : Type 0} (result : Result (Unit {0}) E) (version next_version written next : PageMap) (root : ℕ) → next_version ≡ version → OnOk result (Rooted (over written version) root written next)
    → OnOk result (HasRoot (over next next_version 0) root)
root_after (Ok done) version next_version written next root is r = subst (λ (v : PageMap). HasRoot (over next v 0) root) (sym is) (rooted_root version written next root r)
root_after (Err e) version next_version written next root is r = r

pub root_others_after : {E : Type 0} (result : Result (Unit {0}) E) (version next_version written next : PageMap) (root : ℕ) → next_version ≡ version → OnOk result (Rooted (over written version) root written next)
    → OnErr result (next ≡ written) → (n : ℕ) → in_use next_version next n ≡ in_use version written n
root_others_after (Ok done) version next_version written next root is r left n = ap (λ (v : PageMap). in_use v next n) is ∙ rooted_others version written next root r n
root_others_after (Err e) version next_version written next root is r left n = ap (λ (v : PageMap). in_use v next n) is ∙ ap (λ (p : PageMap). in_use version p n) left

pub root_whole_after : {E : Type 0} (full : Bool) (result : Result (Unit {0}) E) (version next_version written next : PageMap) (root : ℕ) → next_version ≡ version → OnOk result (Rooted (over written version) root written next)
    → OnOk result (IsWholeFor full (over written version) → IsWholeFor full (over next next_version))
root_whole_after full (Ok done) version next_version written next root is r = λ whole. subst (λ (v : PageMap). IsWholeFor full (over next v)) (sym is) (rooted_whole version written next root r whole)
root_whole_after full (Err e) version next_version written next root is r = r
