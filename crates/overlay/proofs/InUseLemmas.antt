-- Pages in use.
use Rattle.std.proofs.Common.{◌≡◌, ◌≢◌, ℕ, ◌+◌, ◌<◌, ◌≤◌, ◌==◌, ◌&&◌, Bool, true, false, Option, Some, None, List, IsSome, Result, Ok, Err, OnOk, refl, sym, ap, subst, ◌∙◌, arith, cond, if◌then◌else◌, eqb-true, eq-eqb, ne_eqb, get_or}
use Rattle.std.specs.Prelude.{nat_lt, slice_index}
use borrow.Author.Tests.{ltb-true, ltb-false, lt-ltb}
use Rattle.std.specs.Option.{is_some}
use Rattle.pagefile.specs.Number.{number_at}
use Rattle.pool.specs.Pages.{PageMap, over, only, pick}
use Rattle.pool.proofs.SlotLemmas.{lt-true, lt-false}
use Rattle.overlay.specs.InUse.{unless_free, not_free, is_counted, in_use}
use Rattle.overlay.specs.Whole.{IsWritable}
use Rattle.overlay.specs.Bounded.{known, unknown, by_known, if_none, some_is, in_use-bounded}
use Rattle.overlay.proofs.LayerLemmas.{put_here, put_apart}

pub unless_free-none : (o : Option (List ℕ)) → ((page : List ℕ) → o ≡ Some page → slice_index page 0 ≡ 3) → unless_free o ≡ None
unless_free-none None kind = refl
unless_free-none (Some page) kind = ap (λ b. cond b None (Some page)) (eq-eqb (slice_index page 0) 3 (kind page refl))

pub unless_free-some : (o : Option (List ℕ)) (page : List ℕ) → o ≡ Some page → slice_index page 0 ≢ 3 → unless_free o ≡ Some page
unless_free-some o page e kind = ap unless_free e ∙ ap (λ b. cond b None (Some page)) (ne_eqb (slice_index page 0) 3 kind)

unless_free-read : (o : Option (List ℕ)) (page : List ℕ) → unless_free o ≡ Some page → o ≡ Some page
unless_free-read None page e = e
unless_free-read (Some other) page e = by (slice_index other 0 == 3) e
  where
    by : (b : Bool) → cond b None (Some other) ≡ Some page → Some other ≡ Some page
    by true h = cc
    by false h = h

none_if : (b : Bool) (o : Option (List ℕ)) → o ≡ None → cond b o None ≡ None
none_if true o e = e
none_if false o e = refl

-- what lies in a page in use
pub not_free-read : (pages : PageMap) (n : ℕ) (page : List ℕ) → not_free pages n ≡ Some page → pages n ≡ Some page
not_free-read pages n page e = unless_free-read (pages n) page (if_none (nat_lt 0 n && nat_lt n 65536) (unless_free (pages n)) page e).1

pick_some : (a b : Option (List ℕ)) (page : List ℕ) → a ≡ Some page → pick a b ≡ Some page
pick_some a b page e = ap (λ o. pick o b) e

pub in_use-read : (version written : PageMap) (n : ℕ) (page : List ℕ) → in_use version written n ≡ Some page → over written version n ≡ Some page
in_use-read version written n page e = by_known version (over written version n ≡ Some page)
    (λ k. not_free-read (over written version) n page (if_none (is_counted (over written version 0) n) (not_free (over written version) n) page (sym (known version written n k) ∙ e)).1)
    (λ k. pick_some (written n) (version n) page (not_free-read written n page (sym (unknown version written n k) ∙ e)))

-- pages that are not in use
not_free-none : (pages : PageMap) (n : ℕ) → ((page : List ℕ) → pages n ≡ Some page → slice_index page 0 ≡ 3) → not_free pages n ≡ None
not_free-none pages n kind = none_if (nat_lt 0 n && nat_lt n 65536) (unless_free (pages n)) (unless_free-none (pages n) kind)

pub none_outside : (version written : PageMap) (n : ℕ) → ((0 < n) → (n < 65536) → ⊥) → in_use version written n ≡ None
none_outside version written n outside = by (in_use version written n) refl
  where
    by : (o : Option (List ℕ)) → in_use version written n ≡ o → o ≡ None
    by None e = refl
    by (Some page) e = let bounds = in_use-bounded version written n (ap (λ (p : Option (List ℕ)). is_some p) e) in absurd (outside bounds.0 bounds.1)

pub none_free : (version written : PageMap) (n : ℕ) → ((page : List ℕ) → over written version n ≡ Some page → slice_index page 0 ≡ 3) → in_use version written n ≡ None
none_free version written n kind = by_known version (in_use version written n ≡ None)
    (λ k. known version written n k ∙ none_if (is_counted (over written version 0) n) (not_free (over written version) n) (not_free-none (over written version) n kind))
    (λ k. unknown version written n k ∙ not_free-none written n (λ page e. kind page (pick_some (written n) (version n) page e)))

pub none_there : (version written : PageMap) (n : ℕ) → over written version n ≡ None → in_use version written n ≡ None
none_there version written n gone = none_free version written n (λ page e. let bad : None ≡ Some page = sym gone ∙ e in cc)

-- and where it was not written, and the version does not have it
pub unread_there : (version same written : PageMap) (n : ℕ) → same ≡ version → written n ≡ None → same n ≡ None → in_use version written n ≡ None
unread_there version same written n is unwritten gone =
    none_there version written n (ap (λ (o : Option (List ℕ)). pick o (version n)) unwritten ∙ sym (ap (λ (p : PageMap). p n) is) ∙ gone)

-- where page 0 is not there, and the page was not written
pub none_unwritten : (version written : PageMap) (n : ℕ) → written n ≡ None → over written version 0 ≡ None → in_use version written n ≡ None
none_unwritten version written n gone first = by_known version (in_use version written n ≡ None)
    (λ k. let there = some_is (version 0) k in absurd (both (written 0) (version 0) there.0 there.1 first))
    (λ k. unknown version written n k ∙ not_free-none written n (λ page e. let bad : None ≡ Some page = sym gone ∙ e in cc))
  where
    both : (a b : Option (List ℕ)) (page : List ℕ) → b ≡ Some page → pick a b ≡ None → ⊥
    both (Some x) b page e f = cc
    both None b page e f = let bad : Some page ≡ None = sym e ∙ f in cc

count_none : (o : Option (List ℕ)) (n : ℕ) → ((first : List ℕ) → o ≡ Some first → number_at first 8 ≤ n) → is_counted o n ≡ false
count_none None n behind = refl
count_none (Some first) n behind = lt-false n (number_at first 8) (behind first refl)

pub none_behind : (version written : PageMap) (n : ℕ) → written n ≡ None → ((first : List ℕ) → over written version 0 ≡ Some first → number_at first 8 ≤ n)
    → in_use version written n ≡ None
none_behind version written n unwritten behind = by_known version (in_use version written n ≡ None)
    (λ k. known version written n k ∙ ap (λ b. cond b (not_free (over written version) n) None) (count_none (over written version 0) n behind))
    (λ k. unknown version written n k ∙ not_free-none written n (λ page e. absurd (let bad : None ≡ Some page = sym unwritten ∙ e in cc)))

-- pages that are written keep others
not_free-same : (p q : PageMap) (n : ℕ) → q n ≡ p n → not_free q n ≡ not_free p n
not_free-same p q n e = ap (λ (o : Option (List ℕ)). if nat_lt 0 n && nat_lt n 65536 then unless_free o else None) e

-- other pages written, and a page 0 that counts this one alike
pub in_use-apart : (version written next : PageMap) (n : ℕ) → next n ≡ written n
    → (is_some (version 0) ≡ true → is_counted (over next version 0) n ≡ is_counted (over written version 0) n) → in_use version next n ≡ in_use version written n
in_use-apart version written next n same counted = by_known version (in_use version next n ≡ in_use version written n)
    (λ k. known version next n k ∙ ap (λ b. cond b (not_free (over next version) n) None) (counted k)
    ∙ ap (λ (o : Option (List ℕ)). cond (is_counted (over written version 0) n) o None) (not_free-same (over written version) (over next version) n (ap (λ (o : Option (List ℕ)). pick o (version n)) same))
    ∙ sym (known version written n k))
    (λ k. unknown version next n k ∙ not_free-same written next n same ∙ sym (unknown version written n k))

within : (pages : PageMap) (n : ℕ) (page : List ℕ) → 0 < n → n < 65536 → pages n ≡ Some page → slice_index page 0 ≢ 3 → not_free pages n ≡ Some page
within pages n page some few e kind = ap (λ b. cond (b && nat_lt n 65536) (unless_free (pages n)) None) (lt-true 0 n some)
    ∙ ap (λ b. cond b (unless_free (pages n)) None) (lt-true n 65536 few) ∙ unless_free-some (pages n) page e kind

-- a page written that page 0 counts, where it is known
pub in_use-here : (version written : PageMap) (n : ℕ) (page : List ℕ) → 0 < n → n < 65536 → written n ≡ Some page → slice_index page 0 ≢ 3
    → (is_some (version 0) ≡ true → is_counted (over written version 0) n ≡ true) → in_use version written n ≡ Some page
in_use-here version written n page some few e kind counted = by_known version (in_use version written n ≡ Some page)
    (λ k. known version written n k ∙ ap (λ b. cond b (not_free (over written version) n) None) (counted k)
    ∙ within (over written version) n page some few (pick_some (written n) (version n) page e) kind)
    (λ k. unknown version written n k ∙ within written n page some few e kind)

-- a page in use is counted
pub in_use-counted : (version written : PageMap) (n : ℕ) → IsSome (in_use version written n) → is_some (version 0) ≡ true → is_counted (over written version 0) n ≡ true
in_use-counted version written n there k = let page = some_is (in_use version written n) there in
    (if_none (is_counted (over written version 0) n) (not_free (over written version) n) page.0 (sym (known version written n k) ∙ page.1)).0

-- a page put in place of one in use, or a free one
pub in_use-put : (version written : PageMap) (n : ℕ) (page : List ℕ) → slice_index page 0 ≢ 3 → IsSome (in_use version written n) → in_use version (over (only n page) written) n ≡ Some page
in_use-put version written n page kind there =
    let bounds = in_use-bounded version written n there in
    in_use-here version (over (only n page) written) n page bounds.0 bounds.1 (put_here n page written) kind
    (λ k. ap (λ (o : Option (List ℕ)). is_counted (pick o (version 0)) n) (put_apart n 0 page written (apart n bounds.0)) ∙ in_use-counted version written n there k)
  where
    apart : (n : ℕ) → 0 < n → 0 ≢ n
    apart n some = omega arith

pub in_use-freed : (version written : PageMap) (n : ℕ) (page : List ℕ) → written n ≡ Some page → slice_index page 0 ≡ 3 → in_use version written n ≡ None
in_use-freed version written n page e kind = none_free version written n
    (λ other h. subst (λ (p : List ℕ). slice_index p 0 ≡ 3) (same page other (sym (pick_some (written n) (version n) page e) ∙ h)) kind)
  where
    same : (a b : List ℕ) → Some a ≡ Some b → a ≡ b
    same a b h = cc

-- a page other than page 0 written: each other page is as it was
pub in_use-others : (version written next : PageMap) (n : ℕ) → n ≢ 0 → ((m : ℕ) → m ≢ n → next m ≡ written m) → (m : ℕ) → m ≢ n → in_use version next m ≡ in_use version written m
in_use-others version written next n some same m differs = in_use-apart version written next m (same m differs)
    (λ k. ap (λ (o : Option (List ℕ)). is_counted (pick o (version 0)) m) (same 0 (λ h. some (sym h))))

-- what was read is what lies in a page in use
pub reads_in_use : {X E : Type 0} (result : Result X E) (version written : PageMap) (n : ℕ) (into : List ℕ)
    → OnOk result ((bytes : List ℕ) → over written version n ≡ Some bytes → into ≡ bytes) → OnOk result ((bytes : List ℕ) → in_use version written n ≡ Some bytes → into ≡ bytes)
reads_in_use (Ok done) version written n into value = λ bytes e. value bytes (in_use-read version written n bytes e)
reads_in_use (Err e) version written n into value = value

-- pages that the transaction has not written
pub stored_behind : (version written : PageMap) (page count : ℕ) → written page ≡ None → ((first : List ℕ) → over written version 0 ≡ Some first → number_at first 8 ≡ count)
    → count ≤ page → in_use version written page ≡ None
stored_behind version written page count unwritten says behind = none_behind version written page unwritten
    (λ first e. let same = says first e in omega (arith, same, behind))

pub stored_free : (version same written : PageMap) (page : ℕ) (into : List ℕ) → same ≡ version → written page ≡ None → ((bytes : List ℕ) → same page ≡ Some bytes → into ≡ bytes)
    → slice_index into 0 ≡ 3 → in_use version written page ≡ None
stored_free version same written page into is unwritten value kind = none_free version written page
    (λ bytes e. subst (λ (p : List ℕ). slice_index p 0 ≡ 3) (value bytes (ap (λ (v : PageMap). v page) is ∙ sym (ap (λ o. pick o (version page)) unwritten) ∙ e)) kind)

pub stored_writable : (version same written : PageMap) (page count : ℕ) (into : List ℕ) → same ≡ version → written page ≡ None → ((bytes : List ℕ) → same page ≡ Some bytes → into ≡ bytes)
    → slice_index into 0 ≢ 3 → ((first : List ℕ) → over written version 0 ≡ Some first → number_at first 8 ≡ count) → page < count → IsWritable (over written version) page
stored_writable version same written page count into is unwritten value kind says below = record {
  kind = λ bytes e. subst (λ (p : List ℕ). slice_index p 0 ≢ 3) (value bytes (ap (λ (v : PageMap). v page) is ∙ sym (ap (λ o. pick o (version page)) unwritten) ∙ e)) kind;
  place = λ first e none. let same_count = says first e in omega (arith, same_count, below);
}

-- pages that it has written
pub written_writable : (version written : PageMap) (page : ℕ) (bytes : List ℕ) → written page ≡ Some bytes → slice_index bytes 0 ≢ 3 → IsWritable (over written version) page
written_writable version written page bytes e kind = record {
  kind = λ other h. subst (λ (p : List ℕ). slice_index p 0 ≢ 3) (same bytes other (sym (pick_some (written page) (version page) bytes e) ∙ h)) kind;
  place = λ first h none. absurd (never bytes (sym (pick_some (written page) (version page) bytes e) ∙ none));
}
  where
    same : (a b : List ℕ) → Some a ≡ Some b → a ≡ b
    same a b h = cc

    never : (a : List ℕ) → Some a ≡ None → ⊥
    never a h = cc
