use Rattle.std.proofs.Common.{◌≡◌, List, ℕ, Some, IsSome, ap, subst, rules}
use Rattle.pagefile.specs.Header.{IsHeader}
use Rattle.pool.specs.Pages.{over}
use Rattle.pagefile.specs.declared.header.FileHeader.{FileHeader}
use Rattle.overlay.specs.Layers.{size_of}
use Rattle.overlay.specs.Whole.{IsWhole, IsTakable, TakesZeros, AtLimit}
use Rattle.overlay.proofs.ZeroLemmas.{on_ok}
use Rattle.pool.specs.Versions.{Versions, versions_of, refused_of}
use Rattle.overlay.specs.WriteSet.{private_of}
use Rattle.overlay.specs.InUse.{in_use}
use Rattle.overlay.proofs.FreeLemmas.{never_used, never_whole, read_more, frees_by}
use Rattle.std.proofs.Common.{None, sym, arith}
use Rattle.std.proofs.lemmas.Result.{err_from_is_err_and}
use Rattle.page_space.specs.Space.{ReadRefused}
use Rattle.overlay.proofs.frees.free_used.Goals as goal

pub returns-then-not-used-clause-refusal : goal.returns-then-not-used-clause-refusal
returns-then-not-used-clause-refusal g c = λ whole there.
    never_used (in_use ((versions_of c.args.pool.now).pages c.args.at) (private_of c.args.changes.now) c.args.page) (c.in_ok-used.ensures.unused (search rules)) there

pub returns-in-Err-clause-refusal : goal.returns-in-Err-clause-refusal
returns-in-Err-clause-refusal g c =
    read_more c.in-Err.fault (AtLimit (over (private_of c.args.changes.now) ((versions_of c.header_to_change.new.pool).pages c.args.at) 0) (size_of (private_of c.args.changes.now)))
    ((header : FileHeader) → IsTakable (over (private_of c.args.changes.now) ((versions_of c.is_in_use.new.pool).pages c.args.at) 0) header → ⊥)
    (IsWhole (over (private_of c.args.changes.now) ((versions_of c.args.pool.now).pages c.args.at))
    → IsSome (in_use ((versions_of c.args.pool.now).pages c.args.at) (private_of c.args.changes.now) c.args.page) → ⊥)
    (refused_of c.args.pool.now) (refused_of c.is_in_use.new.pool) (refused_of c.header_to_change.new.pool)
    (λ never whole there. never_whole (over (private_of c.args.changes.now) ((versions_of c.args.pool.now).pages c.args.at)) (over (private_of c.args.changes.now) ((versions_of c.is_in_use.new.pool).pages c.args.at))
    (ap (λ (v : Versions). over (private_of c.args.changes.now) (v.pages c.args.at)) c.is_in_use.ensures.versions) never whole)
    c.is_in_use.ensures.rising c.in-Err.ensures.refusal

pub returns-in-Ok-clause-written : goal.returns-in-Ok-clause-written
returns-in-Ok-clause-written g c =
    frees_by c.put_free.result (over (private_of c.args.changes.now) ((versions_of c.args.pool.now).pages c.args.at)) c.args.page (private_of c.args.changes.now) (private_of c.put_free.new.changes)
    c.in-Ok.header
    (subst (λ (v : Versions). (first : List ℕ) → over (private_of c.args.changes.now) (v.pages c.args.at) 0 ≡ Some first → IsHeader first c.in-Ok.header) c.is_in_use.ensures.versions c.in-Ok.ensures.says)
    c.in-Ok.ensures.bounds (c.in_ok-used.ensures.within (search rules)) (c.in_ok-used.ensures.used (search rules)) c.put_free.ensures.written

pub returns-in_err-used-clause-refusal : goal.returns-in_err-used-clause-refusal
returns-in_err-used-clause-refusal g c =
    let p = err_from_is_err_and c.from_residual.result c.from_residual.ensures.1 in
    let k = refused_of c.args.pool.now in
    let m = refused_of c.is_in_use.new.pool in
    let H = in_use ((versions_of c.args.pool.now).pages c.args.at) (private_of c.args.changes.now) c.args.page ≡ None in
    rw p.1 (read_more p.0 (AtLimit (over (private_of c.args.changes.now) ((versions_of c.is_in_use.new.pool).pages c.args.at) 0) (size_of (private_of c.args.changes.now))) H
    (IsWhole (over (private_of c.args.changes.now) ((versions_of c.args.pool.now).pages c.args.at)) → IsSome (in_use ((versions_of c.args.pool.now).pages c.args.at) (private_of c.args.changes.now) c.args.page) → ⊥) k k m
    (λ gone whole there. never_used (in_use ((versions_of c.args.pool.now).pages c.args.at) (private_of c.args.changes.now) c.args.page) gone there) (omega arith)
    (subst (ReadRefused H k m) (sym p.2) c.in_err-used.ensures.refusal))

pub returns-in-Ok-clause-from_zeros : goal.returns-in-Ok-clause-from_zeros
returns-in-Ok-clause-from_zeros g c =
    on_ok c.put_free.result (TakesZeros ((versions_of c.args.pool.now).pages c.args.at) (private_of c.args.changes.now))
    (subst (λ (v : Versions). TakesZeros (v.pages c.args.at) (private_of c.args.changes.now)) c.is_in_use.ensures.versions c.in-Ok.ensures.zeros)
