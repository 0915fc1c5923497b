use Rattle.std.proofs.Common.{◌≡◌, ◌⊎◌, OnOk, IsSome, refl, ap, subst, inl, arith}
use Rattle.pagefile.specs.declared.header.FileHeader.{FileHeader}
use Rattle.pool.specs.Pages.{over}
use Rattle.pool.specs.Versions.{Versions, versions_of, refused_of}
use Rattle.overlay.specs.WriteSet.{private_of}
use Rattle.overlay.specs.InUse.{in_use}
use Rattle.overlay.specs.Layers.{size_of}
use Rattle.overlay.specs.Whole.{IsWhole, IsSaid, AtLimit}
use Rattle.overlay.specs.Puts.{Rooted}
use Rattle.overlay.proofs.FreeLemmas.{never_whole, read_more}
use Rattle.overlay.proofs.RefusalLemmas.{changed_more}
use Rattle.overlay.proofs.RootLemmas.{rooted_before, names_it}
use Rattle.overlay.proofs.ZeroLemmas.{from_either}
use Rattle.overlay.proofs.roots.set_root.Goals as goal

pub returns-then-header-root-clause-written : goal.returns-then-header-root-clause-written
returns-then-header-root-clause-written g c =
    rooted_before (over (private_of c.args.changes.now) ((versions_of c.args.pool.now).pages c.args.at)) c.args.root c.in-Ok.header (private_of c.args.changes.now) c.in-Ok.ensures.says c.in-Ok.ensures.bounds c.if-header-root.true

pub returns-then-header-root-clause-from_zeros : goal.returns-then-header-root-clause-from_zeros
returns-then-header-root-clause-from_zeros g c = inl refl

pub returns-else-header-root-clause-written : goal.returns-else-header-root-clause-written
returns-else-header-root-clause-written g c =
    subst (λ (v : Versions). OnOk c.write_root.result (Rooted (over (private_of c.args.changes.now) (v.pages c.args.at)) c.args.root (private_of c.args.changes.now) (private_of c.write_root.new.changes))) c.read_header.ensures.versions c.write_root.ensures.written

pub returns-else-header-root-clause-from_zeros : goal.returns-else-header-root-clause-from_zeros
returns-else-header-root-clause-from_zeros g c =
    from_either c.write_root.result ((versions_of c.read_header.new.pool).pages c.args.at) ((versions_of c.args.pool.now).pages c.args.at) (private_of c.args.changes.now) (private_of c.write_root.new.changes)
    (ap (λ (v : Versions). v.pages c.args.at) c.read_header.ensures.versions) c.write_root.ensures.from_zeros

pub returns-else-header-root-clause-same : goal.returns-else-header-root-clause-same
returns-else-header-root-clause-same g c = λ there has.
    absurd (c.if-header-root.false (names_it (over (private_of c.args.changes.now) ((versions_of c.args.pool.now).pages c.args.at) 0) c.in-Ok.header c.args.root c.in-Ok.ensures.says there has))

pub returns-else-header-root-clause-refusal : goal.returns-else-header-root-clause-refusal
returns-else-header-root-clause-refusal g c =
    changed_more c.write_root.result (AtLimit (over (private_of c.write_root.new.changes) ((versions_of c.write_root.new.pool).pages c.args.at) 0) (size_of (private_of c.write_root.new.changes)))
    (IsWhole (over (private_of c.args.changes.now) ((versions_of c.read_header.new.pool).pages c.args.at)) → (c.args.root ≡ 0) ⊎ IsSome (in_use ((versions_of c.read_header.new.pool).pages c.args.at) (private_of c.args.changes.now) c.args.root) → ⊥)
    (IsWhole (over (private_of c.args.changes.now) ((versions_of c.args.pool.now).pages c.args.at)) → (c.args.root ≡ 0) ⊎ IsSome (in_use ((versions_of c.args.pool.now).pages c.args.at) (private_of c.args.changes.now) c.args.root) → ⊥)
    (refused_of c.args.pool.now) (refused_of c.read_header.new.pool) (refused_of c.write_root.new.pool)
    (subst (λ (v : Versions). IsWhole (over (private_of c.args.changes.now) (v.pages c.args.at)) → (c.args.root ≡ 0) ⊎ IsSome (in_use (v.pages c.args.at) (private_of c.args.changes.now) c.args.root) → ⊥) c.read_header.ensures.versions)
    c.read_header.ensures.rising c.write_root.ensures.refusal

pub returns-in-Err-clause-refusal : goal.returns-in-Err-clause-refusal
returns-in-Err-clause-refusal g c =
    read_more c.in-Err.fault (AtLimit (over (private_of c.args.changes.now) ((versions_of c.read_header.new.pool).pages c.args.at) 0) (size_of (private_of c.args.changes.now)))
    ((header : FileHeader) → IsSaid (over (private_of c.args.changes.now) ((versions_of c.args.pool.now).pages c.args.at) 0) header → ⊥) (IsWhole (over (private_of c.args.changes.now) ((versions_of c.args.pool.now).pages c.args.at)) → (c.args.root ≡ 0) ⊎ IsSome (in_use ((versions_of c.args.pool.now).pages c.args.at) (private_of c.args.changes.now) c.args.root) → ⊥)
    (refused_of c.args.pool.now) (refused_of c.args.pool.now) (refused_of c.read_header.new.pool)
    (λ never whole used. never_whole (over (private_of c.args.changes.now) ((versions_of c.args.pool.now).pages c.args.at)) (over (private_of c.args.changes.now) ((versions_of c.args.pool.now).pages c.args.at)) refl (λ header said. never header said.0) whole) (omega arith) c.in-Err.ensures.refusal
