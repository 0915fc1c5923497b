use Rattle.std.proofs.Common.{◌==◌, List, [], ap, ◌∙◌, subst, arith}
use Rattle.std.specs.List.{list_any}
use Rattle.std.proofs.lemmas.List.{length-map}
use Rattle.last_version.specs.Lasts.{shown_by}
use Rattle.pool.specs.declared.pins.Pin.{Pin}
use Rattle.pool.specs.Images.{AreNeeded, pinned_in}
use Rattle.pool.specs.Ready.{KeepsSeen}
use Rattle.pool.specs.Slots.{slot_at, pages_at}
use Rattle.pool.proofs.ImageLemmas.{kept_unpinned}
use Rattle.pool.proofs.ImageCounts.{got}
use Rattle.pool.proofs.PoolLemmas.{known_same, still_seen, kept_seen}
use Rattle.pool.proofs.pool.Pool.unpin.Goals as goal

pub invariant_of-self : goal.invariant_of-self
invariant_of-self g c = record {
  kept = kept_unpinned c.args.self.now.last (pinned_in c.args.self.now.pins) (pinned_in c.unpin_once.new.pins) c.args.self.now.touched c.remove-pages.new.self c.remove-pages.result c.args.self.now.slots c.drop_pages.new.slots c.in-Some.place
      (let within = c.in-Some.ensures.removed.0 in let long = length-map c.args.self.now.pins (λ (p : Pin). p.number) in omega (arith, within, long))
      c.in-Some.ensures.removed.1 c.remove-pages.ensures.rest (got c.args.self.now.touched c.in-Some.place c.remove-pages.result [] c.remove-pages.ensures.item)
      c.drop_pages.ensures.covers
      (λ n has. subst (λ (ps : List Pin). AreNeeded (pinned_in ps) (slot_at c.drop_pages.new.slots n).images) c.as_slice.ensures (c.drop_pages.ensures.needed n (ap (list_any (λ m. m == n)) c.as_slice-in-Some.ensures ∙ has)))
      (λ n none. c.drop_pages.ensures.others n (ap (list_any (λ m. m == n)) c.as_slice-in-Some.ensures ∙ none))
      c.args.self.now.kept;
  few_images = (c.drop_pages.ensures.count, let fewer = c.drop_pages.ensures.fewer in let few = c.args.self.now.few_images.1 in omega (arith, fewer, few));
}

pub returns-in-Some-clause-kept : goal.returns-in-Some-clause-kept
returns-in-Some-clause-kept g c = λ v used.
    known_same g.D.Disk.is_honest
    (pages_at (shown_by c.args.self.now.file) c.drop_pages.new.slots v)
    (pages_at (shown_by c.args.self.now.file) c.args.self.now.slots v)
    (λ honest n. still_seen (shown_by c.args.self.now.file) v c.args.self.now.slots c.drop_pages.new.slots
    (λ m. kept_seen v c.args.self.now.last c.unpin_once.new.pins (slot_at c.args.self.now.slots m).images (slot_at c.drop_pages.new.slots m).images (c.args.self.now.kept.old m) (c.drop_pages.ensures.covers m c.args.self.now.last)
    (subst (λ (ps : List Pin). KeepsSeen ps (slot_at c.args.self.now.slots m).images (slot_at c.drop_pages.new.slots m).images) c.as_slice.ensures (c.drop_pages.ensures.shown m)) used) n)
