use Rattle.std.proofs.Common.{◌≡◌, true, ap, sym, ◌∙◌, arith, get_or}
use Rattle.pool.specs.Images.{covers, pinned_in}
use Rattle.pool.specs.Ready.{KeepsSeen}
use Rattle.pool.specs.Slots.{slot_at}
use Rattle.pool.proofs.SlotLemmas.{by_place}
use Rattle.pool.proofs.ImageCounts.{counted_at, part_of}
use Rattle.pool.proofs.DropLemmas.{needed_then, others_then, all_looked, none_looked, keeps_on, keeps_same}
use Rattle.pool.proofs.images.drop_pages.Goals as goal

pub drop_at-requires : goal.drop_at-requires
drop_at-requires c = let is = c.loop-page.invariant.count in let part = part_of c.loop-page.slots (get_or c.args.pages.now c.loop-page.page-index 0) in omega (arith, is, part)

pub loop-page-preserved : goal.loop-page-preserved
loop-page-preserved c =
    let pages = c.args.pages.now in
    let i = c.loop-page.page-index in
    let inv = c.loop-page.invariant in
    let step = c.drop_at.ensures in
    record {
      count = let was = inv.count in let now = step.count in let all = counted_at c.loop-page.slots c.drop_at.new.slots (get_or pages i 0) step.len step.others in omega (arith, was, now, all);
      fewer = let was = inv.fewer in let now = step.count in let less = step.fewer in omega (arith, was, now, less);
      shown = by_place (λ n. KeepsSeen c.args.pins.now (slot_at c.args.slots.now n).images (slot_at c.drop_at.new.slots n).images) (get_or pages i 0)
          (keeps_on c.args.pins.now _ _ _ (inv.shown (get_or pages i 0)) step.shown)
          (λ n differs. keeps_same c.args.pins.now _ _ _ (inv.shown n) (step.others n differs));
      covers = λ n v. by_place (λ m. covers v (slot_at c.drop_at.new.slots m).images ≡ true → covers v (slot_at c.args.slots.now m).images ≡ true) (get_or pages i 0)
          (λ h. inv.covers (get_or pages i 0) v (step.covers v h))
          (λ m differs h. inv.covers m v (ap (covers v) (sym (step.others m differs)) ∙ h)) n;
      needed = needed_then pages i c.args.slots.now c.loop-page.slots c.drop_at.new.slots c.loop-page-test.true step.others (pinned_in c.args.pins.now) step.needed inv.needed;
      others = others_then pages i c.args.slots.now c.loop-page.slots c.drop_at.new.slots c.loop-page-test.true step.others inv.others;
    }

pub returns-clause-needed : goal.returns-clause-needed
returns-clause-needed c = λ n h. c.loop-page.invariant.needed n (all_looked n c.args.pages.now c.loop-page.page-index (omega arith) h)

pub returns-clause-others : goal.returns-clause-others
returns-clause-others c = λ n h. c.loop-page.invariant.others n (none_looked n c.args.pages.now c.loop-page.page-index (omega arith) h)
