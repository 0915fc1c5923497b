use Rattle.std.proofs.Common.{true, false, ap}
use Rattle.pool.specs.Versions.{Versions, versions_of}
use Rattle.overlay.specs.WriteSet.{private_of}
use Rattle.overlay.proofs.TakeLemmas.{next_after, rest_after, fresh_after, taken_others_after, kept_after, taken_whole_after}
use Rattle.overlay.proofs.ZeroLemmas.{taken_keeps}
use Rattle.overlay.proofs.takes.allocate_page.Goals as goal

pub returns-clause-next : goal.returns-clause-next
returns-clause-next g c = next_after c.take_page.result ((versions_of c.args.pool.now).pages c.args.at) (private_of c.args.changes.now) (private_of c.take_page.new.changes) c.take_page.ensures.taken

pub returns-clause-list : goal.returns-clause-list
returns-clause-list g c = rest_after c.take_page.result ((versions_of c.args.pool.now).pages c.args.at) ((versions_of c.take_page.new.pool).pages c.args.at) (private_of c.args.changes.now) (private_of c.take_page.new.changes) (ap (λ (v : Versions). v.pages c.args.at) c.take_page.ensures.versions) c.take_page.ensures.taken

pub returns-clause-fresh : goal.returns-clause-fresh
returns-clause-fresh g c = fresh_after c.take_page.result ((versions_of c.args.pool.now).pages c.args.at) ((versions_of c.take_page.new.pool).pages c.args.at) (private_of c.args.changes.now) (private_of c.take_page.new.changes) (ap (λ (v : Versions). v.pages c.args.at) c.take_page.ensures.versions) c.take_page.ensures.taken

pub returns-clause-others : goal.returns-clause-others
returns-clause-others g c = taken_others_after c.take_page.result ((versions_of c.args.pool.now).pages c.args.at) ((versions_of c.take_page.new.pool).pages c.args.at) (private_of c.args.changes.now) (private_of c.take_page.new.changes) (ap (λ (v : Versions). v.pages c.args.at) c.take_page.ensures.versions) c.take_page.ensures.taken

pub returns-clause-kept : goal.returns-clause-kept
returns-clause-kept g c = kept_after c.take_page.result ((versions_of c.args.pool.now).pages c.args.at) ((versions_of c.take_page.new.pool).pages c.args.at) (private_of c.args.changes.now) (private_of c.take_page.new.changes) (ap (λ (v : Versions). v.pages c.args.at) c.take_page.ensures.versions) c.take_page.ensures.left

pub returns-clause-whole : goal.returns-clause-whole
returns-clause-whole g c = taken_whole_after false c.take_page.result ((versions_of c.args.pool.now).pages c.args.at) ((versions_of c.take_page.new.pool).pages c.args.at) (private_of c.args.changes.now) (private_of c.take_page.new.changes) (ap (λ (v : Versions). v.pages c.args.at) c.take_page.ensures.versions) c.take_page.ensures.taken

pub returns-clause-full : goal.returns-clause-full
returns-clause-full g c = taken_whole_after true c.take_page.result ((versions_of c.args.pool.now).pages c.args.at) ((versions_of c.take_page.new.pool).pages c.args.at) (private_of c.args.changes.now) (private_of c.take_page.new.changes) (ap (λ (v : Versions). v.pages c.args.at) c.take_page.ensures.versions) c.take_page.ensures.taken

pub returns-clause-zeros : goal.returns-clause-zeros
returns-clause-zeros g c = taken_keeps c.take_page.result ((versions_of c.args.pool.now).pages c.args.at) (private_of c.args.changes.now) (private_of c.take_page.new.changes) c.take_page.ensures.taken c.take_page.ensures.left
