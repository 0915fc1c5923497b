use Rattle.std.proofs.Common.{arith}
use Rattle.pool.specs.Pages.{pages_in}
use Rattle.overlay.specs.WriteSet.{settled_of}
use Rattle.overlay.proofs.LayerLemmas.{listed_put, size_put_new, put_over}
use Rattle.overlay.proofs.write_set.WriteSet.put_new.Goals as goal

pub invariant_of-self-2 : goal.invariant_of-self-2
invariant_of-self-2 c = record {
  listed = listed_put c.args.number c.args.page (pages_in c.args.self.now.fresh) _ _ c.in_ok-put_frame.ensures.put c.in_ok-list_number.ensures.listed;
  newer_listed = c.args.self.now.newer_listed;
  older_counted = c.args.self.now.older_counted;
  settled_counted = c.args.self.now.settled_counted;
  private_counted = size_put_new c.args.number c.args.page (pages_in c.args.self.now.fresh) (settled_of c.args.self.now) _ _ c.in_ok-put_frame.ensures.put c.ranges.number.fits c.requires.new c.args.self.now.private_counted;
  few = let counted = c.args.self.now.private_counted in omega (arith, counted, c.requires.room);
}

pub returns-clause-put : goal.returns-clause-put
returns-clause-put c = put_over c.args.number c.args.page (pages_in c.args.self.now.fresh) (settled_of c.args.self.now) _ c.in_ok-put_frame.ensures.put
