-- What the zeros behind the header of page 0 become.
use Rattle.std.proofs.Common.{◌≡◌, ◌∙◌, ℕ, ◌<◌, arith, Result, Ok, Err, OnOk, OnErr, IfOk, Option, None, List, sym, ap, subst, ◌⊎◌, inl, inr}
use Rattle.pool.specs.Zeros.{EndsInZeros}
use Rattle.pool.specs.Pages.{PageMap, over, only}
use Rattle.overlay.specs.InUse.{in_use}
use Rattle.overlay.specs.Whole.{HasZeros, TakesZeros, KeepsZeros}
use Rattle.overlay.specs.Puts.{Frees, WritesAtMost, Took, TookAtMost, Rooted, PutsHeader, with_root}
use Rattle.overlay.proofs.LayerLemmas.{put_here, put_apart}

pub on_ok : {X E : Type 0} (result : Result X E) (P : Type 0) → P → OnOk result P
on_ok (Ok x) P p = p
on_ok (Err e) P p = tt

pub keeps_same : (old new : PageMap) → new ≡ old → KeepsZeros old new
keeps_same old new same zeros = subst (λ (p : PageMap). HasZeros (p 0)) (sym same) zeros

-- another page was written
pub keeps_apart : (old new : PageMap) (page : ℕ) (bytes : List ℕ) → 0 < page → new ≡ over (only page bytes) old → KeepsZeros old new
keeps_apart old new page bytes some put zeros =
    subst HasZeros (sym (ap (λ (p : PageMap). p 0) put ∙ put_apart page 0 bytes old (λ e. omega (arith, some, e)))) zeros

-- page 0 was written
pub keeps_written : (old new under : PageMap) (first : List ℕ) → EndsInZeros first → new ≡ over (only 0 first) under → KeepsZeros old new
keeps_written old new under first ends put zeros = subst HasZeros (sym (ap (λ (p : PageMap). p 0) put ∙ put_here 0 first under)) ends

pub replaced_keeps : {E : Type 0} (result : Result (Unit {0}) E) (old new : PageMap) (page : ℕ) (bytes : List ℕ) → OnOk result (new ≡ over (only page bytes) old)
    → OnOk result (0 < page) → OnErr result (new ≡ old) → KeepsZeros old new
replaced_keeps (Ok done) old new page bytes put some left = keeps_apart old new page bytes some put
replaced_keeps (Err e) old new page bytes put some left = keeps_same old new left

pub freed_keeps : {E : Type 0} (result : Result (Unit {0}) E) (pages : PageMap) (page : ℕ) (old new : PageMap) → OnOk result (Frees pages page old new)
    → OnErr result (WritesAtMost page old new) → KeepsZeros old new
freed_keeps (Ok done) pages page old new f left = keeps_written old new (over (only page f.freed.bytes) old) f.freed.both.first f.freed.both.zeros f.freed.both.puts
freed_keeps (Err e) pages page old new f left = by left
  where
    by : WritesAtMost page old new → KeepsZeros old new
    by (inl same) = keeps_same old new same
    by (inr one) = keeps_apart old new page one.1.0 one.0 one.1.1

pub taken_keeps : {E : Type 0} (result : Result ℕ E) (version old new : PageMap) → IfOk result (λ page. Took version old page new)
    → OnErr result (TookAtMost version old new) → KeepsZeros old new
taken_keeps (Ok page) version old new t left = keeps_written old new (over (only page t.leaf.bytes) old) t.leaf.both.first t.leaf.both.zeros t.leaf.both.puts
taken_keeps (Err e) version old new t left = by left
  where
    by : TookAtMost version old new → KeepsZeros old new
    by (inl same) = keeps_same old new same
    by (inr (page, (bytes, (some, unused, put)))) = keeps_apart old new page bytes some put

pub rooted_keeps : {E : Type 0} (result : Result (Unit {0}) E) (pages : PageMap) (root : ℕ) (old new : PageMap) → OnOk result (Rooted pages root old new)
    → OnErr result (new ≡ old) → KeepsZeros old new
rooted_keeps (Ok done) pages root old new r left = by r.which
  where
    by : ((r.header.catalog_root ≡ root) × (new ≡ old)) ⊎ PutsHeader (with_root r.header root) old new → KeepsZeros old new
    by (inl before) = keeps_same old new before.1
    by (inr put) = keeps_written old new old put.first put.zeros put.puts
rooted_keeps (Err e) pages root old new r left = keeps_same old new left

-- where nothing was written, or page 0 was taken
pub from_either : {E : Type 0} (result : Result (Unit {0}) E) (mid version old new : PageMap) → mid ≡ version → OnOk result (TakesZeros mid old)
    → OnOk result ((new ≡ old) ⊎ TakesZeros version old)
from_either (Ok done) mid version old new is taken = inr (subst (λ (v : PageMap). TakesZeros v old) is taken)
from_either (Err e) mid version old new is taken = taken
