use Rattle.pool.specs.Pages.{pages_in}
use Rattle.overlay.specs.WriteSet.{settled_of}
use Rattle.overlay.proofs.LayerLemmas.{put_or_left, listed_either, size_either, put_over}
use Rattle.overlay.proofs.write_set.WriteSet.put_again.Goals as goal

pub invariant_of-self-2 : goal.invariant_of-self-2
invariant_of-self-2 c = record {
  listed = listed_either c.args.number c.args.page c.args.self.now.fresh _ _ (put_or_left c.put_frame.result _ _ c.put_frame.ensures.put c.put_frame.ensures.left) c.in_ok-list_number.ensures.listed;
  newer_listed = c.args.self.now.newer_listed;
  older_counted = c.args.self.now.older_counted;
  settled_counted = c.args.self.now.settled_counted;
  private_counted = size_either c.args.number c.args.page c.args.self.now.fresh _ (settled_of c.args.self.now) _ (put_or_left c.put_frame.result _ _ c.put_frame.ensures.put c.put_frame.ensures.left) c.requires c.args.self.now.private_counted;
  few = c.args.self.now.few;
}

pub returns-clause-put : goal.returns-clause-put
returns-clause-put c = put_over c.args.number c.args.page (pages_in c.args.self.now.fresh) (settled_of c.args.self.now) _ c.in_ok-put_frame.ensures.put
