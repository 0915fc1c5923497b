use Rattle.std.proofs.Common.{◌≡◌, ◌⊎◌, IsSome, refl, arith}
use Rattle.pagefile.specs.declared.header.FileHeader.{FileHeader}
use Rattle.pool.specs.Pages.{over}
use Rattle.pool.specs.Versions.{versions_of, refused_of}
use Rattle.overlay.specs.WriteSet.{private_of}
use Rattle.overlay.specs.InUse.{in_use}
use Rattle.overlay.specs.Layers.{size_of}
use Rattle.overlay.specs.Whole.{IsWhole, IsTakable, TakesZeros, AtLimit}
use Rattle.overlay.proofs.FreeLemmas.{never_whole, read_more}
use Rattle.overlay.proofs.RefusalLemmas.{put_refused}
use Rattle.overlay.proofs.RootLemmas.{rooted_by, never_above}
use Rattle.overlay.proofs.ZeroLemmas.{on_ok}
use Rattle.overlay.proofs.roots.write_root.Goals as goal

pub returns-then-root-header-clause-refusal : goal.returns-then-root-header-clause-refusal
returns-then-root-header-clause-refusal g c = λ whole used.
    never_above ((versions_of c.args.pool.now).pages c.args.at) (private_of c.args.changes.now) c.in-Ok.header c.args.root c.in-Ok.ensures.says c.in-Ok.ensures.bounds c.if-root-header.true whole used

pub returns-else-root-header-clause-written : goal.returns-else-root-header-clause-written
returns-else-root-header-clause-written g c =
    rooted_by c.put_root.result (over (private_of c.args.changes.now) ((versions_of c.args.pool.now).pages c.args.at)) c.args.root c.in-Ok.header (private_of c.args.changes.now) (private_of c.put_root.new.changes) c.in-Ok.ensures.says c.in-Ok.ensures.bounds
    (let below = c.if-root-header.false in omega (arith, below)) c.put_root.ensures.written

pub returns-else-root-header-clause-refusal : goal.returns-else-root-header-clause-refusal
returns-else-root-header-clause-refusal g c =
    put_refused c.put_root.result (over (private_of c.put_root.new.changes) ((versions_of c.header_to_change.new.pool).pages c.args.at) 0) (size_of (private_of c.put_root.new.changes))
    (IsWhole (over (private_of c.args.changes.now) ((versions_of c.args.pool.now).pages c.args.at)) → (c.args.root ≡ 0) ⊎ IsSome (in_use ((versions_of c.args.pool.now).pages c.args.at) (private_of c.args.changes.now) c.args.root) → ⊥)
    (refused_of c.args.pool.now) (refused_of c.header_to_change.new.pool) c.put_root.ensures.refusal

pub returns-in-Err-clause-refusal : goal.returns-in-Err-clause-refusal
returns-in-Err-clause-refusal g c =
    read_more c.in-Err.fault (AtLimit (over (private_of c.args.changes.now) ((versions_of c.header_to_change.new.pool).pages c.args.at) 0) (size_of (private_of c.args.changes.now)))
    ((header : FileHeader) → IsTakable (over (private_of c.args.changes.now) ((versions_of c.args.pool.now).pages c.args.at) 0) header → ⊥) (IsWhole (over (private_of c.args.changes.now) ((versions_of c.args.pool.now).pages c.args.at)) → (c.args.root ≡ 0) ⊎ IsSome (in_use ((versions_of c.args.pool.now).pages c.args.at) (private_of c.args.changes.now) c.args.root) → ⊥)
    (refused_of c.args.pool.now) (refused_of c.args.pool.now) (refused_of c.header_to_change.new.pool)
    (λ never whole used. never_whole (over (private_of c.args.changes.now) ((versions_of c.args.pool.now).pages c.args.at)) (over (private_of c.args.changes.now) ((versions_of c.args.pool.now).pages c.args.at)) refl never whole) (omega arith) c.in-Err.ensures.refusal

pub returns-else-root-header-clause-from_zeros : goal.returns-else-root-header-clause-from_zeros
returns-else-root-header-clause-from_zeros g c =
    on_ok c.put_root.result (TakesZeros ((versions_of c.args.pool.now).pages c.args.at) (private_of c.args.changes.now)) c.in-Ok.ensures.zeros
