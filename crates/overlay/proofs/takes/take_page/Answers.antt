use Rattle.std.proofs.Common.{◌≡◌, ℕ, List, Some, IfOk, OnErr, refl, sym, subst, arith, inl}
use Rattle.pagefile.specs.declared.header.FileHeader.{FileHeader}
use Rattle.pagefile.specs.Header.{IsHeader}
use Rattle.pool.specs.Pages.{over}
use Rattle.pool.specs.Versions.{Versions, versions_of, refused_of}
use Rattle.overlay.specs.WriteSet.{private_of}
use Rattle.overlay.specs.Layers.{size_of}
use Rattle.overlay.specs.Whole.{IsWhole, IsTakable, TakesZeros, AtLimit}
use Rattle.overlay.proofs.ZeroLemmas.{on_ok}
use Rattle.overlay.specs.Puts.{Took, TookAtMost}
use Rattle.overlay.proofs.FreeLemmas.{never_whole, read_more}
use Rattle.overlay.proofs.RefusalLemmas.{changed_more}
use Rattle.overlay.proofs.takes.take_page.Goals as goal

pub take_by-requires-clause-says : goal.take_by-requires-clause-says
take_by-requires-clause-says g c =
    subst (λ (v : Versions). (first : List ℕ) → over (private_of c.args.changes.now) (v.pages c.args.at) 0 ≡ Some first → IsHeader first c.in-Ok.header) (sym c.header_to_change.ensures.versions) c.in-Ok.ensures.says

pub returns-in-Ok-clause-taken : goal.returns-in-Ok-clause-taken
returns-in-Ok-clause-taken g c =
    subst (λ (v : Versions). IfOk c.take_by.result (λ page. Took (v.pages c.args.at) (private_of c.args.changes.now) page (private_of c.take_by.new.changes))) c.header_to_change.ensures.versions c.take_by.ensures.taken

pub returns-in-Ok-clause-left : goal.returns-in-Ok-clause-left
returns-in-Ok-clause-left g c =
    subst (λ (v : Versions). OnErr c.take_by.result (TookAtMost (v.pages c.args.at) (private_of c.args.changes.now) (private_of c.take_by.new.changes))) c.header_to_change.ensures.versions c.take_by.ensures.left

pub returns-in-Ok-clause-refusal : goal.returns-in-Ok-clause-refusal
returns-in-Ok-clause-refusal g c =
    changed_more c.take_by.result (AtLimit (over (private_of c.take_by.new.changes) ((versions_of c.take_by.new.pool).pages c.args.at) 0) (size_of (private_of c.take_by.new.changes)))
    (IsWhole (over (private_of c.args.changes.now) ((versions_of c.header_to_change.new.pool).pages c.args.at)) → ⊥) (IsWhole (over (private_of c.args.changes.now) ((versions_of c.args.pool.now).pages c.args.at)) → ⊥)
    (refused_of c.args.pool.now) (refused_of c.header_to_change.new.pool) (refused_of c.take_by.new.pool)
    (λ never whole. never (subst (λ (v : Versions). IsWhole (over (private_of c.args.changes.now) (v.pages c.args.at))) (sym c.header_to_change.ensures.versions) whole)) c.header_to_change.ensures.rising c.take_by.ensures.refusal

pub returns-in-Err-clause-left : goal.returns-in-Err-clause-left
returns-in-Err-clause-left g c = inl refl

pub returns-in-Err-clause-refusal : goal.returns-in-Err-clause-refusal
returns-in-Err-clause-refusal g c =
    read_more c.in-Err.fault (AtLimit (over (private_of c.args.changes.now) ((versions_of c.header_to_change.new.pool).pages c.args.at) 0) (size_of (private_of c.args.changes.now)))
    ((header : FileHeader) → IsTakable (over (private_of c.args.changes.now) ((versions_of c.args.pool.now).pages c.args.at) 0) header → ⊥) (IsWhole (over (private_of c.args.changes.now) ((versions_of c.args.pool.now).pages c.args.at)) → ⊥)
    (refused_of c.args.pool.now) (refused_of c.args.pool.now) (refused_of c.header_to_change.new.pool)
    (λ never whole. never_whole (over (private_of c.args.changes.now) ((versions_of c.args.pool.now).pages c.args.at)) (over (private_of c.args.changes.now) ((versions_of c.args.pool.now).pages c.args.at)) refl never whole) (omega arith) c.in-Err.ensures.refusal

pub returns-in-Ok-clause-from_zeros : goal.returns-in-Ok-clause-from_zeros
returns-in-Ok-clause-from_zeros g c =
    on_ok c.take_by.result (TakesZeros ((versions_of c.args.pool.now).pages c.args.at) (private_of c.args.changes.now)) c.in-Ok.ensures.zeros
