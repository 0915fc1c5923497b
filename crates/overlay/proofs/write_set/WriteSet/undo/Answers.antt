use Rattle.std.proofs.Common.{ap}
use Rattle.pool.specs.Pages.{pages_in}
use Rattle.overlay.specs.WriteSet.{settled_of}
use Rattle.overlay.proofs.LayerLemmas.{none_listed, size_undone, few_undone}
use Rattle.overlay.proofs.write_set.WriteSet.undo.Goals as goal

pub invariant_of-self : goal.invariant_of-self
invariant_of-self c = record {
  listed = none_listed (pages_in c.new.result) _ (ap pages_in c.new.ensures);
  newer_listed = c.args.self.now.newer_listed;
  older_counted = c.args.self.now.older_counted;
  settled_counted = c.args.self.now.settled_counted;
  private_counted = size_undone (settled_of c.args.self.now) (pages_in c.new.result) _ (ap pages_in c.new.ensures) c.args.self.now.settled_counted;
  few = few_undone (pages_in c.args.self.now.fresh) (settled_of c.args.self.now) _ _ c.args.self.now.settled_counted c.args.self.now.private_counted c.args.self.now.few;
}
