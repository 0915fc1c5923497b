-- What is in use after a write.
use Rattle.std.proofs.Common.{◌≡◌, ◌≢◌, ℕ, ◌<◌, Bool, Result, Ok, Err, OnOk, OnErr, Some, List, IsSome, sym, ap, subst, ◌∙◌, arith}
use Rattle.std.specs.Prelude.{slice_index}
use Rattle.pool.specs.Pages.{PageMap, over, only}
use Rattle.overlay.specs.InUse.{in_use}
use Rattle.overlay.specs.Whole.{IsWholeFor, IsWritable}
use Rattle.overlay.proofs.LayerLemmas.{put_apart, over_twice}
use Rattle.overlay.proofs.InUseLemmas.{in_use-put, in_use-others}
use Rattle.overlay.proofs.WholeLemmas.{whole_written}

pub shown_after : {E : Type 0} (result : Result (Unit {0}) E) (version next_version written next : PageMap) (page : ℕ) (bytes : List ℕ) → next_version ≡ version
    → slice_index bytes 0 ≢ 3 → OnOk result (next ≡ over (only page bytes) written)
    → OnOk result (IsSome (in_use version written page) → in_use next_version next page ≡ Some bytes)
shown_after (Ok done) version next_version written next page bytes is kind put = λ there.
    ap (λ (v : PageMap). in_use v next page) is ∙ ap (λ (w : PageMap). in_use version w page) put ∙ in_use-put version written page bytes kind there
shown_after (Err e) version next_version written next page bytes is kind put = put

pub others_after : {E : Type 0} (result : Result (Unit {0}) E) (version next_version written next : PageMap) (page : ℕ) (bytes : List ℕ) → next_version ≡ version
    → OnOk result (next ≡ over (only page bytes) written) → OnErr result (next ≡ written) → OnOk result (0 < page)
    → (n : ℕ) → n ≢ page → in_use next_version next n ≡ in_use version written n
others_after (Ok done) version next_version written next page bytes is put left some = λ n differs.
    ap (λ (v : PageMap). in_use v next n) is
    ∙ in_use-others version written next page (above page some) (λ m apart. ap (λ (p : PageMap). p m) put ∙ put_apart page m bytes written apart) n differs
  where
    above : (k : ℕ) → 0 < k → k ≢ 0
    above k some = omega arith
others_after (Err e) version next_version written next page bytes is put left some = λ n differs.
    ap (λ (v : PageMap). in_use v next n) is ∙ ap (λ (w : PageMap). in_use version w n) left

pub whole_after : {E : Type 0} (full : Bool) (result : Result (Unit {0}) E) (version next_version written next : PageMap) (page : ℕ) (bytes : List ℕ) → next_version ≡ version
    → slice_index bytes 0 ≢ 3 → OnOk result (next ≡ over (only page bytes) written) → OnOk result (IsWritable (over written version) page) → OnOk result (0 < page)
    → OnOk result (IsWholeFor full (over written version) → IsWholeFor full (over next next_version))
whole_after full (Ok done) version next_version written next page bytes is kind put can some = λ whole.
    subst (λ (v : PageMap). IsWholeFor full (over next v)) (sym is)
    (subst (IsWholeFor full) (sym (ap (λ (w : PageMap). over w version) put ∙ over_twice (only page bytes) written version)) (whole_written (over written version) page bytes some kind can whole))
whole_after full (Err e) version next_version written next page bytes is kind put can some = put
