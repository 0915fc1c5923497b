-- The list of free pages, after a page was written, freed or taken.
use Rattle.std.proofs.Common.{◌≡◌, ◌≢◌, ℕ, ◌+◌, ◌<◌, ◌≤◌, ◌==◌, Bool, true, false, Result, Ok, Err, OnOk, Option, Some, None, List, [], ◌∷◌, IsSome, refl, sym, ap, subst, ◌∙◌, arith, ◌⊎◌, inl, inr, take, eqb-true, eq-eqb}
use Rattle.std.specs.Prelude.{slice_index}
use Rattle.pagefile.specs.declared.header.FileHeader.{FileHeader}
use Rattle.pagefile.specs.Header.{IsHeader, IsInBounds, magic}
use Rattle.pagefile.specs.Free.{IsFree, free_mark}
use Rattle.pagefile.specs.Number.{number_at}
use Rattle.pool.specs.Pages.{PageMap, over, only, pick}
use Rattle.overlay.specs.Whole.{IsIn, AreApart, FreeAt, IsFreeList, ListsAll, HasFreeList, IsWholeFor, IsWhole, IsFull, IsWholeOver, IsWritable}
use Rattle.overlay.proofs.LayerLemmas.{put_here, put_apart}

pub some_same : (a b : List ℕ) → Some a ≡ Some b → a ≡ b
some_same a b h = cc

pub kind_of_free : (bytes : List ℕ) (next : ℕ) → IsFree bytes next → slice_index bytes 0 ≡ 3
kind_of_free bytes next free = by bytes free.mark
  where
    by : (b : List ℕ) → take 8 b ≡ free_mark → slice_index b 0 ≡ 3
    by [] e = cc
    by (x ∷ xs) e = cc

pub list_same : (p q : PageMap) (first : ℕ) (list : List ℕ) → ((n : ℕ) → IsIn n list → q n ≡ p n) → IsFreeList p first list → IsFreeList q first list
list_same p q first [] same h = h
list_same p q first (x ∷ xs) same h = (
  h.0,
  h.1,
  (
    record { next = h.2.0.next; bytes = h.2.0.bytes; there = same x (inl refl) ∙ h.2.0.there; free = h.2.0.free },
    list_same p q h.2.0.next xs (λ n i. same n (inr i)) h.2.1,
  ),
)

-- a page of the list is not page 0, and is of the kind free
pub in_list : (p : PageMap) (first : ℕ) (list : List ℕ) → IsFreeList p first list → (n : ℕ) → IsIn n list
    → (0 < n) × ((bytes : List ℕ) → p n ≡ Some bytes → slice_index bytes 0 ≡ 3)
in_list p first [] h n i = absurd i
in_list p first (x ∷ xs) h n (inl e) = (
  subst (λ (k : ℕ). 0 < k) (sym e) h.1,
  λ bytes b. subst (λ (o : List ℕ). slice_index o 0 ≡ 3) (some_same h.2.0.bytes bytes (sym h.2.0.there ∙ ap p (sym e) ∙ b)) (kind_of_free h.2.0.bytes h.2.0.next h.2.0.free),
)
in_list p first (x ∷ xs) h n (inr i) = in_list p h.2.0.next xs h.2.1 n i

-- each page of the list lies somewhere
pub list_there : (p : PageMap) (first : ℕ) (list : List ℕ) → IsFreeList p first list → (n : ℕ) → IsIn n list → (bytes : List ℕ) × (p n ≡ Some bytes)
list_there p first [] h n i = absurd i
list_there p first (x ∷ xs) h n (inl e) = (h.2.0.bytes, ap p e ∙ h.2.0.there)
list_there p first (x ∷ xs) h n (inr i) = list_there p h.2.0.next xs h.2.1 n i

-- a page that is there is there under others
pub still_there : (top p : PageMap) (n : ℕ) → IsSome (p n) → IsSome (over top p n)
still_there top p n there = by (top n) (p n) there
  where
    by : (a b : Option (List ℕ)) → IsSome b → IsSome (pick a b)
    by (Some page) b there = refl
    by None b there = there

-- the header that was read is that of the list
pub same_header : {full : Bool} (p : PageMap) (g h : FileHeader) → ((first : List ℕ) → p 0 ≡ Some first → IsHeader first h) → IsInBounds h → HasFreeList full p g → HasFreeList full p h
same_header p g h says bounds w =
    let is = says w.first w.there in
    let count : g.page_count ≡ h.page_count = sym w.says.page_count ∙ is.page_count in
    record {
      first = w.first;
      there = w.there;
      says = is;
      zeros = w.zeros;
      bounds = bounds;
      free = w.free;
      listed = subst (λ (n : ℕ). IsFreeList p n w.free) (sym w.says.first_free ∙ is.first_free) w.listed;
      apart = w.apart;
      within = λ n i. subst (λ (k : ℕ). n < k) count (w.within n i);
      all = λ n less. w.all n (subst (λ (k : ℕ). n < k) (sym count) less);
      ends = λ n behind. w.ends n (subst (λ (k : ℕ). k ≤ n) (sym count) behind);
      lists = λ e n bytes some less there kind. w.lists e n bytes some (subst (λ (k : ℕ). n < k) (sym count) less) there kind;
    }

-- what can be written lies below the page count, and is none of the list
pub writable_below : {full : Bool} (p : PageMap) (h : FileHeader) (page : ℕ) → HasFreeList full p h → IsWritable p page → page < h.page_count
writable_below p h page w can = by (p page) refl
  where
    less : (a b : ℕ) → (b ≤ a → ⊥) → a < b
    less a b never = omega arith

    by : (o : Option (List ℕ)) → p page ≡ o → page < h.page_count
    by None e = subst (λ (k : ℕ). page < k) w.says.page_count (can.place w.first w.there e)
    by (Some bytes) e = less page h.page_count (λ behind. let none = w.ends page behind in let bad : Some bytes ≡ None = sym e ∙ none in cc)

pub writable_apart : {full : Bool} (p : PageMap) (h : FileHeader) (page : ℕ) → (w : HasFreeList full p h) → IsWritable p page → IsIn page w.free → ⊥
writable_apart p h page w can i = let here = list_there p h.first_free w.free w.listed page i in
    can.kind here.0 here.1 ((in_list p h.first_free w.free w.listed page i).1 here.0 here.1)

-- ---- each page that is free stands in the list

pub same_or_apart : (a b : ℕ) → (a ≡ b) ⊎ (a ≢ b)
same_or_apart a b = by (a == b) refl
  where
    by : (c : Bool) → (a == b) ≡ c → (a ≡ b) ⊎ (a ≢ b)
    by true e = inl (eqb-true a b e)
    by false e = inr (λ z. let bad : true ≡ false = sym (eq-eqb a b z) ∙ e in cc)

-- a page that was written, and not as a free one, is not free
pub not_written : (p : PageMap) (page : ℕ) (bytes b : List ℕ) → slice_index bytes 0 ≢ 3 → over (only page bytes) p page ≡ Some b → slice_index b 0 ≡ 3 → ⊥
not_written p page bytes b differs there kind = differs (subst (λ (x : List ℕ). slice_index x 0 ≡ 3) (some_same b bytes (sym there ∙ put_here page bytes p)) kind)

-- a free page under one that was written lay there
pub lists_under : (p : PageMap) (page count : ℕ) (bytes free : List ℕ) → slice_index bytes 0 ≢ 3 → ListsAll p count free
    → (n : ℕ) (b : List ℕ) → 0 < n → n < count → over (only page bytes) p n ≡ Some b → slice_index b 0 ≡ 3 → IsIn n free
lists_under p page count bytes free differs lists n b some less there kind = by (same_or_apart n page)
  where
    by : (n ≡ page) ⊎ (n ≢ page) → IsIn n free
    by (inl is) = absurd (not_written p page bytes b differs (ap (over (only page bytes) p) (sym is) ∙ there) kind)
    by (inr apart) = lists n b some less (sym (put_apart page n bytes p apart) ∙ there) kind

-- after a call: the list is one, and full where it was
pub whole_over : {X E : Type 0} (result : Result X E) (version next_version written next : PageMap) → next_version ≡ version
    → OnOk result (IsWhole (over written version) → IsWhole (over next next_version)) → OnOk result (IsFull (over written version) → IsFull (over next next_version))
    → OnOk result (IsWholeOver version written → IsWholeOver next_version next)
whole_over (Ok x) version next_version written next is whole full = λ w. record { whole = whole w.whole; full = λ start. full (w.full (subst IsFull is start)) }
whole_over (Err e) version next_version written next is whole full = whole

-- ---- after a write

pub whole_written : {full : Bool} (p : PageMap) (page : ℕ) (bytes : List ℕ) → 0 < page → slice_index bytes 0 ≢ 3 → IsWritable p page → IsWholeFor full p → IsWholeFor full (over (only page bytes) p)
whole_written p page bytes some differs can (h, w) = (
  h,
  record {
    first = w.first;
    there = put_apart page 0 bytes p (zero_apart page some) ∙ w.there;
    says = w.says;
    zeros = w.zeros;
    bounds = w.bounds;
    free = w.free;
    listed = list_same p (over (only page bytes) p) h.first_free w.free
        (λ n i. put_apart page n bytes p (λ e. writable_apart p h page w can (subst (λ (k : ℕ). IsIn k w.free) e i))) w.listed;
    apart = w.apart;
    within = w.within;
    all = λ n less. still_there (only page bytes) p n (w.all n less);
    ends = λ n behind. put_apart page n bytes p (behind_apart n page h.page_count behind (writable_below p h page w can)) ∙ w.ends n behind;
    lists = λ e. lists_under p page h.page_count bytes w.free differs (w.lists e);
  },
)
  where
    zero_apart : (n : ℕ) → 0 < n → 0 ≢ n
    zero_apart n some = omega arith

    behind_apart : (n page count : ℕ) → count ≤ n → page < count → n ≢ page
    behind_apart n page count behind below = omega arith
