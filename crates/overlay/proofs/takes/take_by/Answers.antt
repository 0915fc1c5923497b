use Rattle.std.proofs.Common.{refl, ap, inl}
use Rattle.pool.specs.Pages.{over}
use Rattle.pool.specs.Versions.{Versions, versions_of, refused_of}
use Rattle.overlay.specs.WriteSet.{private_of}
use Rattle.overlay.specs.Layers.{size_of}
use Rattle.overlay.specs.Whole.{IsWhole}
use Rattle.overlay.proofs.RefusalLemmas.{put_refused}
use Rattle.overlay.proofs.TakeLemmas.{taken_leaf, left_leaf}
use Rattle.overlay.proofs.takes.take_by.Goals as goal

pub returns-in-Ok-clause-taken : goal.returns-in-Ok-clause-taken
returns-in-Ok-clause-taken g c =
    taken_leaf c.put_leaf.result ((versions_of c.args.pool.now).pages c.args.at) ((versions_of c.page_to_take.new.pool).pages c.args.at) (private_of c.args.changes.now) (private_of c.put_leaf.new.changes) c.in-Ok.page c.args.header c.in-Ok.new
    (ap (λ (v : Versions). v.pages c.args.at) c.page_to_take.ensures.versions) c.requires.says c.requires.bounds c.in-Ok.ensures.taken c.put_leaf.ensures.number c.put_leaf.ensures.written

pub returns-in-Ok-clause-left : goal.returns-in-Ok-clause-left
returns-in-Ok-clause-left g c =
    left_leaf c.put_leaf.result ((versions_of c.args.pool.now).pages c.args.at) (private_of c.args.changes.now) (private_of c.put_leaf.new.changes) c.in-Ok.page c.args.header c.in-Ok.new c.in-Ok.ensures.taken c.put_leaf.ensures.left

pub returns-in-Ok-clause-refusal : goal.returns-in-Ok-clause-refusal
returns-in-Ok-clause-refusal g c =
    put_refused c.put_leaf.result (over (private_of c.put_leaf.new.changes) ((versions_of c.page_to_take.new.pool).pages c.args.at) 0) (size_of (private_of c.put_leaf.new.changes))
    (IsWhole (over (private_of c.args.changes.now) ((versions_of c.args.pool.now).pages c.args.at)) → ⊥) (refused_of c.args.pool.now) (refused_of c.page_to_take.new.pool) c.put_leaf.ensures.refusal

pub returns-in-Err-clause-left : goal.returns-in-Err-clause-left
returns-in-Err-clause-left g c = inl refl

pub returns-in-Err-clause-refusal : goal.returns-in-Err-clause-refusal
returns-in-Err-clause-refusal g c = c.in-Err.ensures.refusal
