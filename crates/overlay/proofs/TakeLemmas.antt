-- What a page that was taken leaves.
use Rattle.std.proofs.Common.{◌≡◌, ◌≢◌, ℕ, ◌+◌, ◌<◌, ◌≤◌, Bool, true, false, arith, Result, Ok, Err, OnOk, OnErr, IfOk, Option, Some, None, List, [], ◌∷◌, IsSome, refl, sym, ap, subst, ◌∙◌, ◌⊎◌, inl, inr}
use Rattle.std.specs.Prelude.{slice_index, nat_lt}
use Rattle.std.specs.Option.{is_some}
use borrow.Author.Tests.{ltb-true, ltb-false}
use Rattle.std.proofs.lemmas.Bool.{cases_lt}
use Rattle.pagefile.specs.declared.header.FileHeader.{FileHeader}
use Rattle.pagefile.specs.Header.{IsHeader, IsInBounds}
use Rattle.pool.specs.Zeros.{EndsInZeros}
use Rattle.pagefile.specs.Free.{IsFree}
use Rattle.pagefile.specs.Number.{number_at}
use Rattle.page_space.specs.Space.{IsFresh}
use Rattle.pool.specs.Pages.{PageMap, over, only, pick}
use Rattle.pool.proofs.SlotLemmas.{lt-true, lt-false}
use Rattle.overlay.specs.InUse.{in_use, is_counted}
use Rattle.overlay.specs.Whole.{IsIn, AreApart, IsFreeList, ListsAll, HasFreeList, IsWholeFor, IsWhole, HasMostPages, IsNext, NamesRest}
use Rattle.overlay.specs.Puts.{PutsBoth, PutsLeaf, PutsLeafAtMost, Takes, TakesFirst, TakesNew, Took, TookAtMost}
use Rattle.overlay.proofs.LayerLemmas.{put_here, put_apart, over_twice}
use Rattle.overlay.proofs.InUseLemmas.{in_use-here, in_use-others, none_free, none_behind}
use Rattle.overlay.proofs.WholeLemmas.{kind_of_free, list_same, in_list, still_there, same_header, same_or_apart, not_written}
use Rattle.overlay.proofs.PutLemmas.{others_both}

above : (k : ℕ) → 0 < k → k ≢ 0
above k some = omega arith

-- ---- a page that can be taken

-- the free page that was read is not in use
pub free_unused : (version written : PageMap) (page next : ℕ) (read : List ℕ) → ((bytes : List ℕ) → over written version page ≡ Some bytes → read ≡ bytes) → IsFree read next
    → in_use version written page ≡ None
free_unused version written page next read value free = none_free version written page
    (λ bytes e. subst (λ (b : List ℕ). slice_index b 0 ≡ 3) (value bytes e) (kind_of_free read next free))

pub takes_first : (version written : PageMap) (h new : FileHeader) (read : List ℕ) → 0 < h.first_free → IsInBounds h → ((bytes : List ℕ) → over written version h.first_free ≡ Some bytes → read ≡ bytes)
    → IsFree read new.first_free → new.first_free < h.page_count → new.page_count ≡ h.page_count → new.catalog_root ≡ h.catalog_root
    → Takes version written h h.first_free new
takes_first version written h new read some bounds value free below count root =
    let most = bounds.few in
    let least = bounds.some in
    let first = bounds.free in
    let under = bounds.root in
    record {
      some = some;
      unused = free_unused version written h.first_free new.first_free read value free;
      counted = omega (arith, count, first);
      bounds = record { some = omega (arith, least, count); few = omega (arith, most, count); free = omega (arith, below, count); root = omega (arith, under, root, count) };
      which = inl (record { first = refl; count = count; free = λ bytes e. subst (λ (b : List ℕ). IsFree b new.first_free) (value bytes e) free });
    }

pub takes_new : (version written : PageMap) (h new : FileHeader) → ((first : List ℕ) → over written version 0 ≡ Some first → IsHeader first h) → IsInBounds h → h.first_free ≡ 0
    → h.page_count < 65536 → written h.page_count ≡ None → new.page_count ≡ h.page_count + 1 → new.first_free ≡ 0 → new.catalog_root ≡ h.catalog_root
    → Takes version written h h.page_count new
takes_new version written h new says bounds none few unwritten count first root =
    let least = bounds.some in
    let under = bounds.root in
    record {
      some = omega (arith, least);
      unused = none_behind version written h.page_count unwritten (λ f e. let is = (says f e).page_count in omega (arith, is));
      counted = omega (arith, count);
      bounds = record { some = omega (arith, count); few = omega (arith, few, count); free = omega (arith, first, count); root = omega (arith, under, root, count) };
      which = inr (record { none = none; behind = refl; count = count; first = first });
    }

-- ---- why none can be taken

-- where the list is one, its first page names one below the page count
pub never_first : (p : PageMap) (h : FileHeader) (read : List ℕ) → 0 < h.first_free → ((first : List ℕ) → p 0 ≡ Some first → IsHeader first h) → IsInBounds h
    → ((bytes : List ℕ) → p h.first_free ≡ Some bytes → read ≡ bytes) → ((next : ℕ) → IsFree read next → next < h.page_count → ⊥) → IsWhole p → ⊥
never_first p h read some says bounds value none (g, was) = by w.free w.listed w.within
  where
    w : HasFreeList false p h
    w = same_header p g h says bounds was

    next_below : (next : ℕ) (rest : List ℕ) → IsFreeList p next rest → ((n : ℕ) → IsIn n rest → n < h.page_count) → 1 ≤ h.page_count → next < h.page_count
    next_below next [] ends within least = let zero_is : next ≡ 0 = ends in omega (arith, least, zero_is)
    next_below next (x ∷ xs) ends within least = within next (inl ends.0)

    by : (free : List ℕ) → IsFreeList p h.first_free free → ((n : ℕ) → IsIn n free → n < h.page_count) → ⊥
    by [] ends within = let zero_is : h.first_free ≡ 0 = ends in omega (arith, some, zero_is)
    by (x ∷ xs) listed within =
        none listed.2.0.next
        (subst (λ (b : List ℕ). IsFree b listed.2.0.next) (sym (value listed.2.0.bytes (ap p listed.0 ∙ listed.2.0.there))) listed.2.0.free)
        (next_below listed.2.0.next xs listed.2.1 (λ n i. within n (inr i)) bounds.some)

-- the first free page is there
pub never_missing : (p : PageMap) (h : FileHeader) → 0 < h.first_free → ((first : List ℕ) → p 0 ≡ Some first → IsHeader first h) → IsInBounds h → p h.first_free ≡ None → IsWhole p → ⊥
never_missing p h some says bounds gone (g, was) = by w.free w.listed
  where
    w : HasFreeList false p h
    w = same_header p g h says bounds was

    by : (free : List ℕ) → IsFreeList p h.first_free free → ⊥
    by [] ends = let zero_is : h.first_free ≡ 0 = ends in omega (arith, some, zero_is)
    by (x ∷ xs) listed = let bad : None ≡ Some listed.2.0.bytes = sym gone ∙ ap p listed.0 ∙ listed.2.0.there in cc

-- where the list is one, nothing lies behind the page count
pub never_behind : (p : PageMap) (h : FileHeader) → ((first : List ℕ) → p 0 ≡ Some first → IsHeader first h) → IsInBounds h → IsSome (p h.page_count) → IsWhole p → ⊥
never_behind p h says bounds there (g, was) = not_none (subst (λ (o : Option (List ℕ)). IsSome o) (w.ends h.page_count (omega arith)) there)
  where
    w : HasFreeList false p h
    w = same_header p g h says bounds was

    not_none : IsSome {T = List ℕ} None → ⊥
    not_none h = cc

-- page 0 has the greatest count, and no free page
pub at_most_pages : (o : Option (List ℕ)) (h : FileHeader) → ((first : List ℕ) → o ≡ Some first → IsHeader first h) → 65536 ≤ h.page_count → h.first_free ≡ 0 → HasMostPages o
at_most_pages None h says most none = tt
at_most_pages (Some first) h says most none = let is = says first refl in let count = is.page_count in (omega (arith, most, count), is.first_free ∙ none)

-- ---- after it was taken

-- a number other than the page taken is counted as before
counts_alike : (n count new_count page : ℕ) → page ≡ count → new_count ≡ count + 1 → n ≢ page → nat_lt n new_count ≡ nat_lt n count
counts_alike n count new_count page behind more differs = by (nat_lt n count) refl
  where
    by : (b : Bool) → nat_lt n count ≡ b → nat_lt n new_count ≡ nat_lt n count
    by true e = let less = ltb-true n count e in lt-true n new_count (omega (arith, less, more)) ∙ sym e
    by false e = let least : count ≤ n = ltb-false n count e in lt-false n new_count (omega (arith, least, more, differs, behind)) ∙ sym e

pub counts_taken : (version written : PageMap) (h new : FileHeader) (page : ℕ) → Takes version written h page new → (n : ℕ) → n ≢ page → nat_lt n new.page_count ≡ nat_lt n h.page_count
counts_taken version written h new page takes n differs = by takes.which
  where
    by : TakesFirst (over written version) h page new ⊎ TakesNew h page new → nat_lt n new.page_count ≡ nat_lt n h.page_count
    by (inl first) = ap (λ (c : ℕ). nat_lt n c) first.count
    by (inr last) = counts_alike n h.page_count new.page_count page last.behind last.count differs

-- the page taken is the one that page 0 has to be taken
next_is : (first : List ℕ) (p : PageMap) (h new : FileHeader) (page : ℕ) → 0 < page → IsHeader first h → TakesFirst p h page new ⊎ TakesNew h page new → IsNext (Some first) page
next_is first p h new page some says (inl one) =
    (λ differs. sym (says.first_free ∙ one.first), λ none. absurd (not_zero page some (sym (says.first_free ∙ one.first) ∙ none)))
  where
    not_zero : (k : ℕ) → 0 < k → k ≡ 0 → ⊥
    not_zero k more is = omega (arith, more, is)
next_is first p h new page some says (inr one) = (λ differs. absurd (differs (says.first_free ∙ one.none)), λ none. one.behind ∙ sym says.page_count)

pub took_next : (version written next : PageMap) (page : ℕ) → Took version written page next → IsNext (over written version 0) page
took_next version written next page t = by (over written version 0) refl
  where
    by : (o : Option (List ℕ)) → over written version 0 ≡ o → IsNext o page
    by None e = tt
    by (Some first) e = next_is first (over written version) t.header t.new page t.takes.some (t.says first e) t.takes.which

pub took_others : (version written next : PageMap) (page : ℕ) → Took version written page next → (n : ℕ) → n ≢ page → in_use version next n ≡ in_use version written n
took_others version written next page t n differs =
    others_both version written next page t.leaf.bytes t.header t.new t.takes.some (counts_taken version written t.header t.new page t.takes) t.says t.leaf.both n differs

pub took_fresh : (version written next : PageMap) (page : ℕ) → Took version written page next → IsFresh (in_use version written) (in_use version next) page
took_fresh version written next page t = record {
  some = t.takes.some;
  free = t.takes.unused;
  used = ap (λ (o : Option (List ℕ)). is_some o) (in_use-here version next page t.leaf.bytes t.takes.some few
      (ap (λ (p : PageMap). p page) t.leaf.both.puts ∙ put_apart 0 page t.leaf.both.first (over (only page t.leaf.bytes) written) (above page t.takes.some) ∙ put_here page t.leaf.bytes written)
      t.leaf.kind counted);
}
  where
    few : page < 65536
    few = let most = t.takes.bounds.few in let less = t.takes.counted in omega (arith, most, less)

    counted : is_some (version 0) ≡ true → is_counted (over next version 0) page ≡ true
    counted k = ap (λ (o : Option (List ℕ)). is_counted (pick o (version 0)) page) (ap (λ (p : PageMap). p 0) t.leaf.both.puts ∙ put_here 0 t.leaf.both.first (over (only page t.leaf.bytes) written))
        ∙ ap (λ (c : ℕ). nat_lt page c) t.leaf.both.says.page_count ∙ lt-true page t.new.page_count t.takes.counted

pub left_kept : (version written next : PageMap) → TookAtMost version written next → (n : ℕ) → IsSome (in_use version written n) → in_use version next n ≡ in_use version written n
left_kept version written next (inl same) n there = ap (λ (p : PageMap). in_use version p n) same
left_kept version written next (inr (page, (bytes, (some, unused, put)))) n there =
    ap (λ (p : PageMap). in_use version p n) put
    ∙ in_use-others version written (over (only page bytes) written) page (above page some) (λ m apart. put_apart page m bytes written apart) n
    (λ e. not_none (subst (λ (o : Option (List ℕ)). IsSome o) (ap (in_use version written) e ∙ unused) there))
  where
    not_none : IsSome {T = List ℕ} None → ⊥
    not_none h = cc

-- ---- the list of free pages

-- without its first page
whole_first : (full : Bool) (p : PageMap) (page : ℕ) (bytes first : List ℕ) (h new : FileHeader) → (w : HasFreeList full p h) → 0 < page → slice_index bytes 0 ≢ 3 → IsInBounds new → IsHeader first new → EndsInZeros first → TakesFirst p h page new
    → (free : List ℕ) → IsFreeList p h.first_free free → AreApart free → ((n : ℕ) → IsIn n free → n < h.page_count)
    → (full ≡ true → ListsAll p h.page_count free) → IsWholeFor full (over (only 0 first) (over (only page bytes) p))
whole_first full p page bytes first h new w some kind bounds head zeros takes [] ends apart within lists =
    let zero_is : h.first_free ≡ 0 = ends in let is = takes.first in absurd (omega (arith, some, zero_is, is))
whole_first full p page bytes first h new w some kind bounds head zeros takes (x ∷ xs) listed apart within lists = (
  new,
  record {
    first = first;
    there = put_here 0 first (over (only page bytes) p);
    says = head;
    zeros = zeros;
    bounds = bounds;
    free = xs;
    listed = list_same p (over (only 0 first) (over (only page bytes) p)) new.first_free xs
        (λ n i. other n (above n (in_list p listed.2.0.next xs listed.2.1 n i).0) (λ e. apart.0 (subst (λ (k : ℕ). IsIn k xs) (e ∙ is) i)))
        (subst (λ (k : ℕ). IsFreeList p k xs) next_is listed.2.1);
    apart = apart.1;
    within = λ n i. subst (λ (k : ℕ). n < k) (sym takes.count) (within n (inr i));
    all = λ n less. still_there (only 0 first) (over (only page bytes) p) n (still_there (only page bytes) p n (w.all n (subst (λ (k : ℕ). n < k) takes.count less)));
    ends = λ n behind. let more : h.page_count ≤ n = subst (λ (k : ℕ). k ≤ n) takes.count behind in
        other n (positive n h.page_count w.bounds.some more) (λ e. let less : page < h.page_count = subst (λ (k : ℕ). k < h.page_count) (sym is) (within x (inl refl)) in omega (arith, more, less, e)) ∙ w.ends n more;
    lists = λ e n b more less there free. listed_in e n b more less there free (same_or_apart n page);
  },
)
  where
    is : page ≡ x
    is = sym takes.first ∙ listed.0

    next_is : listed.2.0.next ≡ new.first_free
    next_is = sym listed.2.0.free.next_free ∙ (takes.free listed.2.0.bytes (ap p is ∙ listed.2.0.there)).next_free

    other : (n : ℕ) → n ≢ 0 → n ≢ page → over (only 0 first) (over (only page bytes) p) n ≡ p n
    other n a b = put_apart 0 n first (over (only page bytes) p) a ∙ put_apart page n bytes p b

    positive : (n count : ℕ) → 1 ≤ count → count ≤ n → n ≢ 0
    positive n count some behind = omega arith

    rest : (n : ℕ) → n ≢ page → (n ≡ x) ⊎ IsIn n xs → IsIn n xs
    rest n differs (inl e) = absurd (differs (e ∙ sym is))
    rest n differs (inr i) = i

    listed_in : full ≡ true → (n : ℕ) (b : List ℕ) → 0 < n → n < new.page_count → over (only 0 first) (over (only page bytes) p) n ≡ Some b → slice_index b 0 ≡ 3 → (n ≡ page) ⊎ (n ≢ page) → IsIn n xs
    listed_in e n b more less there free (inl same) =
        absurd (not_written p page bytes b kind (ap (over (only page bytes) p) (sym same) ∙ sym (put_apart 0 n first (over (only page bytes) p) (above n more)) ∙ there) free)
    listed_in e n b more less there free (inr differs) = rest n differs (lists e n b more (subst (λ (k : ℕ). n < k) takes.count less) (sym (other n (above n more) differs) ∙ there) free)

-- with one page more behind the last
whole_grown : (full : Bool) (p : PageMap) (page : ℕ) (bytes first : List ℕ) (h new : FileHeader) → (w : HasFreeList full p h) → 0 < page → slice_index bytes 0 ≢ 3 → IsInBounds new → IsHeader first new → EndsInZeros first → TakesNew h page new
    → IsWholeFor full (over (only 0 first) (over (only page bytes) p))
whole_grown full p page bytes first h new w some kind bounds head zeros takes = (
  new,
  record {
    first = first;
    there = put_here 0 first (over (only page bytes) p);
    says = head;
    zeros = zeros;
    bounds = bounds;
    free = w.free;
    listed = list_same p (over (only 0 first) (over (only page bytes) p)) new.first_free w.free
        (λ n i. other n (above n (in_list p h.first_free w.free w.listed n i).0) (λ e. let less = w.within n i in let is = takes.behind in omega (arith, e, less, is)))
        (subst (λ (k : ℕ). IsFreeList p k w.free) (takes.none ∙ sym takes.first) w.listed);
    apart = w.apart;
    within = λ n i. let less = w.within n i in let more = takes.count in omega (arith, less, more);
    all = λ n less. still_there (only 0 first) (over (only page bytes) p) n (below n less (cases_lt n h.page_count));
    ends = λ n behind. let more = takes.count in let is = takes.behind in
        other n (omega (arith, behind, more)) (omega (arith, behind, more, is)) ∙ w.ends n (omega (arith, behind, more));
    lists = λ e n b more less there free. listed_in e n b more less there free (same_or_apart n page);
  },
)
  where
    other : (n : ℕ) → n ≢ 0 → n ≢ page → over (only 0 first) (over (only page bytes) p) n ≡ p n
    other n a b = put_apart 0 n first (over (only page bytes) p) a ∙ put_apart page n bytes p b

    counted : (n : ℕ) → n < new.page_count → n ≢ page → n < h.page_count
    counted n less differs = let more = takes.count in let is = takes.behind in omega (arith, less, more, is, differs)

    listed_in : full ≡ true → (n : ℕ) (b : List ℕ) → 0 < n → n < new.page_count → over (only 0 first) (over (only page bytes) p) n ≡ Some b → slice_index b 0 ≡ 3 → (n ≡ page) ⊎ (n ≢ page) → IsIn n w.free
    listed_in e n b more less there free (inl same) =
        absurd (not_written p page bytes b kind (ap (over (only page bytes) p) (sym same) ∙ sym (put_apart 0 n first (over (only page bytes) p) (above n more)) ∙ there) free)
    listed_in e n b more less there free (inr differs) = w.lists e n b more (counted n less differs) (sym (other n (above n more) differs) ∙ there) free

    last : (n : ℕ) → n < new.page_count → h.page_count ≤ n → n ≡ page
    last n less behind = let more = takes.count in let is = takes.behind in omega (arith, less, more, behind, is)

    below : (n : ℕ) → n < new.page_count → (n < h.page_count) ⊎ (h.page_count ≤ n) → IsSome (over (only page bytes) p n)
    below n less (inl within) = still_there (only page bytes) p n (w.all n within)
    below n less (inr behind) = ap (λ (o : Option (List ℕ)). is_some o) (ap (over (only page bytes) p) (last n less behind) ∙ put_here page bytes p)

whole_taken : {full : Bool} (version written : PageMap) (page : ℕ) (bytes first : List ℕ) (h new : FileHeader) → ((f : List ℕ) → over written version 0 ≡ Some f → IsHeader f h) → IsInBounds h → IsHeader first new → EndsInZeros first
    → Takes version written h page new → slice_index bytes 0 ≢ 3 → IsWholeFor full (over written version) → IsWholeFor full (over (only 0 first) (over (only page bytes) (over written version)))
whole_taken {full} version written page bytes first h new says bounds head zeros takes kind (g, was) = by takes.which
  where
    w : HasFreeList full (over written version) h
    w = same_header (over written version) g h says bounds was

    by : TakesFirst (over written version) h page new ⊎ TakesNew h page new → IsWholeFor full (over (only 0 first) (over (only page bytes) (over written version)))
    by (inl one) = whole_first full (over written version) page bytes first h new w takes.some kind takes.bounds head zeros one w.free w.listed w.apart w.within w.lists
    by (inr one) = whole_grown full (over written version) page bytes first h new w takes.some kind takes.bounds head zeros one

pub took_whole : {full : Bool} (version written next : PageMap) (page : ℕ) → Took version written page next → IsWholeFor full (over written version) → IsWholeFor full (over next version)
took_whole {full} version written next page t whole =
    subst (IsWholeFor full) (sym (ap (λ (w : PageMap). over w version) t.leaf.both.puts ∙ over_twice (only 0 t.leaf.both.first) (over (only page t.leaf.bytes) written) version
    ∙ ap (λ (p : PageMap). over (only 0 t.leaf.both.first) p) (over_twice (only page t.leaf.bytes) written version)))
    (whole_taken version written page t.leaf.bytes t.leaf.both.first t.header t.new t.says t.bounds t.leaf.both.says t.leaf.both.zeros t.takes t.leaf.kind whole)

-- ---- after a call

pub leaf_written : {E : Type 0} (result : Result (Unit {0}) E) (page : ℕ) (bytes : List ℕ) (new : FileHeader) (old next : PageMap) → slice_index bytes 0 ≢ 3
    → OnOk result (PutsBoth page bytes new old next) → OnOk result (PutsLeaf page new old next)
leaf_written (Ok done) page bytes new old next kind both = record { bytes = bytes; kind = kind; both = both }
leaf_written (Err e) page bytes new old next kind both = both

pub taken_leaf : {E : Type 0} (result : Result ℕ E) (version mid written next : PageMap) (page : ℕ) (h new : FileHeader) → mid ≡ version
    → ((first : List ℕ) → over written version 0 ≡ Some first → IsHeader first h) → IsInBounds h → Takes version written h page new
    → IfOk result (λ taken. taken ≡ page) → OnOk result (PutsLeaf page new written next) → IfOk result (λ taken. Took version written taken next)
taken_leaf (Ok taken) version mid written next page h new is says bounds takes same leaf =
    subst (λ (k : ℕ). Took version written k next) (sym same) (record { header = h; says = says; bounds = bounds; new = new; takes = takes; leaf = leaf })
taken_leaf (Err e) version mid written next page h new is says bounds takes same leaf = same

pub left_leaf : {E : Type 0} (result : Result ℕ E) (version written next : PageMap) (page : ℕ) (h new : FileHeader) → Takes version written h page new
    → OnErr result (PutsLeafAtMost page written next) → OnErr result (TookAtMost version written next)
left_leaf (Ok taken) version written next page h new takes left = left
left_leaf (Err e) version written next page h new takes (bytes, (inl same)) = inl same
left_leaf (Err e) version written next page h new takes (bytes, (inr put)) = inr (page, (bytes, (takes.some, takes.unused, put)))

pub is_none : (o : Option (List ℕ)) → is_some o ≡ false → o ≡ None
is_none None e = refl
is_none (Some page) e = cc

pub written_there : (version written : PageMap) (n : ℕ) → is_some (written n) ≡ true → IsSome (over written version n)
written_there version written n there = by (written n) (version n) there
  where
    by : (a b : Option (List ℕ)) → is_some a ≡ true → IsSome (pick a b)
    by (Some page) b h = refl
    by None b h = cc

pub fresh_after : {E : Type 0} (result : Result ℕ E) (version next_version written next : PageMap) → next_version ≡ version → IfOk result (λ page. Took version written page next)
    → IfOk result (IsFresh (in_use version written) (in_use next_version next))
fresh_after (Ok page) version next_version written next is took = subst (λ (v : PageMap). IsFresh (in_use version written) (in_use v next) page) (sym is) (took_fresh version written next page took)
fresh_after (Err e) version next_version written next is took = took

pub taken_others_after : {E : Type 0} (result : Result ℕ E) (version next_version written next : PageMap) → next_version ≡ version → IfOk result (λ page. Took version written page next)
    → IfOk result (λ page. (n : ℕ) → n ≢ page → in_use next_version next n ≡ in_use version written n)
taken_others_after (Ok page) version next_version written next is took = λ n differs. ap (λ (v : PageMap). in_use v next n) is ∙ took_others version written next page took n differs
taken_others_after (Err e) version next_version written next is took = took

pub kept_after : {E : Type 0} (result : Result ℕ E) (version next_version written next : PageMap) → next_version ≡ version → OnErr result (TookAtMost version written next)
    → OnErr result ((n : ℕ) → IsSome (in_use version written n) → in_use next_version next n ≡ in_use version written n)
kept_after (Ok page) version next_version written next is left = left
kept_after (Err e) version next_version written next is left = λ n there. ap (λ (v : PageMap). in_use v next n) is ∙ left_kept version written next left n there

pub taken_whole_after : {E : Type 0} (full : Bool) (result : Result ℕ E) (version next_version written next : PageMap) → next_version ≡ version → IfOk result (λ page. Took version written page next)
    → OnOk result (IsWholeFor full (over written version) → IsWholeFor full (over next next_version))
taken_whole_after full (Ok page) version next_version written next is took = λ whole. subst (λ (v : PageMap). IsWholeFor full (over next v)) (sym is) (took_whole version written next page took whole)
taken_whole_after full (Err e) version next_version written next is took = took

names_rest : (version written next : PageMap) (page : ℕ) → Took version written page next → NamesRest (over written version) (over next version) page
names_rest version written next page took = record {
  first = took.leaf.both.first;
  there = ap (λ (p : PageMap). over p version 0) took.leaf.both.puts ∙ ap (λ (o : Option (List ℕ)). pick o (version 0)) (put_here 0 took.leaf.both.first (over (only page took.leaf.bytes) written));
  rest = λ before bytes e some there. rest_by before bytes e some there took.takes.which;
  none = λ before e zero_is. none_by before e zero_is took.takes.which;
  same = λ before e some. same_by before e some took.takes.which;
  more = λ before e zero_is. more_by before e zero_is took.takes.which;
}
  where
    rest_by : (before bytes : List ℕ) → over written version 0 ≡ Some before → number_at before 12 ≢ 0 → over written version page ≡ Some bytes
        → TakesFirst (over written version) took.header page took.new ⊎ TakesNew took.header page took.new → IsFree bytes (number_at took.leaf.both.first 12)
    rest_by before bytes e some there (inl first) = subst (λ (n : ℕ). IsFree bytes n) (sym took.leaf.both.says.first_free) (first.free bytes there)
    rest_by before bytes e some there (inr new) = absurd (some ((took.says before e).first_free ∙ new.none))

    none_by : (before : List ℕ) → over written version 0 ≡ Some before → number_at before 12 ≡ 0
        → TakesFirst (over written version) took.header page took.new ⊎ TakesNew took.header page took.new → number_at took.leaf.both.first 12 ≡ 0
    none_by before e zero_is (inl first) = absurd (above page took.takes.some (sym first.first ∙ sym (took.says before e).first_free ∙ zero_is))
    none_by before e zero_is (inr new) = took.leaf.both.says.first_free ∙ new.first

    same_by : (before : List ℕ) → over written version 0 ≡ Some before → number_at before 12 ≢ 0
        → TakesFirst (over written version) took.header page took.new ⊎ TakesNew took.header page took.new → number_at took.leaf.both.first 8 ≡ number_at before 8
    same_by before e some (inl first) = took.leaf.both.says.page_count ∙ first.count ∙ sym (took.says before e).page_count
    same_by before e some (inr new) = absurd (some ((took.says before e).first_free ∙ new.none))

    more_by : (before : List ℕ) → over written version 0 ≡ Some before → number_at before 12 ≡ 0
        → TakesFirst (over written version) took.header page took.new ⊎ TakesNew took.header page took.new → number_at took.leaf.both.first 8 ≡ number_at before 8 + 1
    more_by before e zero_is (inl first) = absurd (above page took.takes.some (sym first.first ∙ sym (took.says before e).first_free ∙ zero_is))
    more_by before e zero_is (inr new) = took.leaf.both.says.page_count ∙ new.count ∙ ap (λ (k : ℕ). k + 1) (sym (took.says before e).page_count)

pub rest_after : {E : Type 0} (result : Result ℕ E) (version next_version written next : PageMap) → next_version ≡ version → IfOk result (λ page. Took version written page next)
    → IfOk result (NamesRest (over written version) (over next next_version))
rest_after (Ok page) version next_version written next is took = subst (λ (v : PageMap). NamesRest (over written version) (over next v) page) (sym is) (names_rest version written next page took)
rest_after (Err e) version next_version written next is took = took

pub next_after : {E : Type 0} (result : Result ℕ E) (version written next : PageMap) → IfOk result (λ page. Took version written page next) → IfOk result (IsNext (over written version 0))
next_after (Ok page) version written next took = took_next version written next page took
next_after (Err e) version written next took = took
