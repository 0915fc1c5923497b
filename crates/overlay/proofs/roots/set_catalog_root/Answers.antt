use Rattle.std.proofs.Common.{true, false, ap}
use Rattle.pool.specs.Versions.{Versions, versions_of}
use Rattle.overlay.specs.WriteSet.{private_of}
use Rattle.overlay.proofs.RootLemmas.{root_after, root_others_after, root_whole_after}
use Rattle.pool.specs.Pages.{over}
use Rattle.overlay.proofs.ZeroLemmas.{rooted_keeps}
use Rattle.overlay.proofs.roots.set_catalog_root.Goals as goal

pub returns-clause-root : goal.returns-clause-root
returns-clause-root g c = root_after c.set_root.result ((versions_of c.args.pool.now).pages c.args.at) ((versions_of c.set_root.new.pool).pages c.args.at) (private_of c.args.changes.now) (private_of c.set_root.new.changes) c.args.root (ap (λ (v : Versions). v.pages c.args.at) c.set_root.ensures.versions) c.set_root.ensures.written

pub returns-clause-others : goal.returns-clause-others
returns-clause-others g c = root_others_after c.set_root.result ((versions_of c.args.pool.now).pages c.args.at) ((versions_of c.set_root.new.pool).pages c.args.at) (private_of c.args.changes.now) (private_of c.set_root.new.changes) c.args.root (ap (λ (v : Versions). v.pages c.args.at) c.set_root.ensures.versions) c.set_root.ensures.written c.set_root.ensures.left

pub returns-clause-whole : goal.returns-clause-whole
returns-clause-whole g c = root_whole_after false c.set_root.result ((versions_of c.args.pool.now).pages c.args.at) ((versions_of c.set_root.new.pool).pages c.args.at) (private_of c.args.changes.now) (private_of c.set_root.new.changes) c.args.root (ap (λ (v : Versions). v.pages c.args.at) c.set_root.ensures.versions) c.set_root.ensures.written

pub returns-clause-full : goal.returns-clause-full
returns-clause-full g c = root_whole_after true c.set_root.result ((versions_of c.args.pool.now).pages c.args.at) ((versions_of c.set_root.new.pool).pages c.args.at) (private_of c.args.changes.now) (private_of c.set_root.new.changes) c.args.root (ap (λ (v : Versions). v.pages c.args.at) c.set_root.ensures.versions) c.set_root.ensures.written

pub returns-clause-zeros : goal.returns-clause-zeros
returns-clause-zeros g c = rooted_keeps c.set_root.result (over (private_of c.args.changes.now) ((versions_of c.args.pool.now).pages c.args.at)) c.args.root (private_of c.args.changes.now) (private_of c.set_root.new.changes) c.set_root.ensures.written c.set_root.ensures.left
