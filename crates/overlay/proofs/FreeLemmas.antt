-- What a page that was freed leaves.
use Rattle.std.proofs.Common.{◌≡◌, ◌≢◌, ℕ, ◌<◌, ◌≤◌, Bool, arith, Result, Ok, Err, OnOk, OnErr, Option, Some, None, List, IsSome, refl, sym, ap, subst, ◌∙◌, inl, inr}
use Rattle.pagefile.specs.declared.header.FileHeader.{FileHeader}
use Rattle.pagefile.specs.Header.{IsHeader, IsInBounds}
use Rattle.pagefile.specs.Free.{IsFree}
use Rattle.page_space.specs.declared.error.SpaceError.{SpaceError}
use Rattle.page_space.specs.declared.error.SpaceError.TheVariants.{Memory, Disk, Damaged, Pages, Private}
use Rattle.page_space.specs.Space.{ReadRefused, ChangeRefused}
use Rattle.pool.specs.Pages.{PageMap, over, only, pick}
use Rattle.overlay.specs.InUse.{in_use}
use Rattle.overlay.specs.Whole.{IsWholeFor, IsWhole, IsWritable, IsTakable, HasZeros, IsFirstFree}
use Rattle.overlay.specs.Puts.{PutsBoth, PutsAtMost, Freed, Frees, WritesAtMost, with_first_free}
use Rattle.overlay.proofs.LayerLemmas.{put_here, put_apart, over_twice}
use Rattle.overlay.proofs.WholeLemmas.{kind_of_free}
use Rattle.overlay.proofs.PutLemmas.{others_both, others_at_most, freed_both, whole_freed}

pub freed_by : {E : Type 0} (result : Result (Unit {0}) E) (page : ℕ) (bytes : List ℕ) (h : FileHeader) (old new : PageMap) → IsFree bytes h.first_free
    → OnOk result (PutsBoth page bytes (with_first_free h page) old new) → OnOk result (Freed page h old new)
freed_by (Ok done) page bytes h old new free both = record { bytes = bytes; free = free; both = both }
freed_by (Err e) page bytes h old new free both = both

pub at_most_by : {E : Type 0} (result : Result (Unit {0}) E) (page : ℕ) (bytes : List ℕ) (old new : PageMap) → 0 < page → OnErr result (PutsAtMost page bytes old new) → OnErr result (WritesAtMost page old new)
at_most_by (Ok done) page bytes old new some left = left
at_most_by (Err e) page bytes old new some left = weaker left
  where
    weaker : PutsAtMost page bytes old new → WritesAtMost page old new
    weaker (inl same) = inl same
    weaker (inr one) = inr (some, (bytes, one))

pub frees_by : {E : Type 0} (result : Result (Unit {0}) E) (pages : PageMap) (page : ℕ) (old new : PageMap) (h : FileHeader) → ((first : List ℕ) → pages 0 ≡ Some first → IsHeader first h) → IsInBounds h
    → 0 < page → IsWritable pages page → OnOk result (Freed page h old new) → OnOk result (Frees pages page old new)
frees_by (Ok done) pages page old new h says bounds some can freed = record { header = h; says = says; bounds = bounds; some = some; can = can; freed = freed }
frees_by (Err e) pages page old new h says bounds some can freed = freed

pub whole_said : (pages : PageMap) → IsWhole pages → (h : FileHeader) × IsTakable (pages 0) h
whole_said pages (h, w) = (h, subst (λ (o : Option (List ℕ)). IsTakable o h) (sym w.there) ((w.says, w.bounds), w.zeros))

pub never_whole : (pages same : PageMap) → same ≡ pages → ((h : FileHeader) → IsTakable (same 0) h → ⊥) → IsWhole pages → ⊥
never_whole pages same is never whole = let said = whole_said pages whole in never said.0 (subst (λ (p : PageMap). IsTakable (p 0) said.0) (sym is) said.1)

-- after a call
pub none_after : {E : Type 0} (result : Result (Unit {0}) E) (version next_version written next : PageMap) (page : ℕ) → next_version ≡ version → OnOk result (Frees (over written version) page written next)
    → OnOk result (in_use next_version next page ≡ None)
none_after (Ok done) version next_version written next page is f =
    freed_both next_version written next page f.freed.bytes (with_first_free f.header page) f.some (kind_of_free f.freed.bytes f.header.first_free f.freed.free) f.freed.both
none_after (Err e) version next_version written next page is f = f

-- the page is the first free one then
first_free : (version written next : PageMap) (page : ℕ) → Frees (over written version) page written next → IsFirstFree (over written version) (over next version) page
first_free version written next page f = record {
  first = f.freed.both.first;
  there = ap (λ (p : PageMap). over p version 0) f.freed.both.puts ∙ ap (λ (o : Option (List ℕ)). pick o (version 0)) (put_here 0 f.freed.both.first (over (only page f.freed.bytes) written));
  names = f.freed.both.says.first_free;
  link = record {
    next = f.header.first_free;
    bytes = f.freed.bytes;
    there = ap (λ (p : PageMap). over p version page) f.freed.both.puts
        ∙ ap (λ (o : Option (List ℕ)). pick o (version page)) (put_apart 0 page f.freed.both.first (over (only page f.freed.bytes) written) (λ e. let some = f.some in omega (arith, some, e)) ∙ put_here page f.freed.bytes written);
    free = f.freed.free;
  };
  next = λ before e. sym (f.says before e).first_free;
}

pub first_after : {E : Type 0} (result : Result (Unit {0}) E) (version next_version written next : PageMap) (page : ℕ) → next_version ≡ version → OnOk result (Frees (over written version) page written next)
    → OnOk result (IsFirstFree (over written version) (over next next_version) page)
first_after (Ok done) version next_version written next page is f = subst (λ (v : PageMap). IsFirstFree (over written version) (over next v) page) (sym is) (first_free version written next page f)
first_after (Err e) version next_version written next page is f = f

pub freed_others_after : {E : Type 0} (result : Result (Unit {0}) E) (version next_version written next : PageMap) (page : ℕ) → next_version ≡ version → OnOk result (Frees (over written version) page written next)
    → OnErr result (WritesAtMost page written next) → (n : ℕ) → n ≢ page → in_use next_version next n ≡ in_use version written n
freed_others_after (Ok done) version next_version written next page is f left = λ n differs.
    ap (λ (v : PageMap). in_use v next n) is
    ∙ others_both version written next page f.freed.bytes f.header (with_first_free f.header page) f.some (λ m apart. refl) f.says f.freed.both n differs
freed_others_after (Err e) version next_version written next page is f left = λ n differs. ap (λ (v : PageMap). in_use v next n) is ∙ by left n differs
  where
    by : WritesAtMost page written next → (n : ℕ) → n ≢ page → in_use version next n ≡ in_use version written n
    by (inl same) n differs = ap (λ (p : PageMap). in_use version p n) same
    by (inr one) n differs = others_at_most version written next page one.1.0 one.0 (inr one.1.1) n differs

pub freed_whole_after : {E : Type 0} (full : Bool) (result : Result (Unit {0}) E) (version next_version written next : PageMap) (page : ℕ) → next_version ≡ version → OnOk result (Frees (over written version) page written next)
    → OnOk result (IsWholeFor full (over written version) → IsWholeFor full (over next next_version))
freed_whole_after full (Ok done) version next_version written next page is f = λ whole.
    subst (λ (v : PageMap). IsWholeFor full (over next v)) (sym is)
    (subst (IsWholeFor full) (sym (ap (λ (w : PageMap). over w version) f.freed.both.puts ∙ over_twice (only 0 f.freed.both.first) (over (only page f.freed.bytes) written) version
    ∙ ap (λ (p : PageMap). over (only 0 f.freed.both.first) p) (over_twice (only page f.freed.bytes) written version)))
    (whole_freed (over written version) page f.freed.bytes f.freed.both.first f.header f.some f.can f.freed.free f.freed.both.says f.freed.both.zeros f.says f.bounds whole))
freed_whole_after full (Err e) version next_version written next page is f = f

pub never_used : (o : Option (List ℕ)) → o ≡ None → IsSome o → ⊥
never_used o e there = not_none (subst (λ (p : Option (List ℕ)). IsSome p) e there)
  where
    not_none : IsSome {T = List ℕ} None → ⊥
    not_none h = cc

pub read_more : (f : SpaceError) (A : SpaceError → Type 0) (H G : Type 0) (k b m : ℕ) → (H → G) → k ≤ b → ReadRefused H b m f → ChangeRefused A G k m f
read_more Memory A H G k b m more rises h = h
read_more Disk A H G k b m more rises h = omega (arith, rises, h)
read_more Damaged A H G k b m more rises h = more h
read_more Pages A H G k b m more rises h = absurd h
read_more Private A H G k b m more rises h = absurd h
