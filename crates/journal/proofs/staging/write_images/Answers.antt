use Rattle.std.proofs.Common.{◌≡◌, ◌*◌, ◌+◌, ◌∙◌, ℕ, List, [], sym, ap, subst, arith, length, ◌≤◌}
use Rattle.disk.specs.Keeping.{then}
use Rattle.journal.specs.Lists.{image_in}
use Rattle.journal.specs.Parts.{block, ChangesOnly}
use Rattle.journal.specs.Versions.{IsShut}
use Rattle.journal.proofs.Ranges.{changes_more}
use Rattle.journal.proofs.Sets.{get_or_any, images_next}
use Rattle.journal.proofs.staging.write_images.Goals as goal

pub returns-in_err-write_block-clause-keeps : goal.returns-in_err-write_block-clause-keeps
returns-in_err-write_block-clause-keeps g c durable honest long some v far =
    let size = (c.loop-image.invariant.changes honest long).size in
    then g.D.Disk.moment g.D.Disk.left_since g.D.Disk.may_leave c.args.disk.now c.loop-image.disk c.write_block.new.disk (IsShut v)
    (c.loop-image.invariant.keeps durable honest long some v far)
    (c.write_block.ensures.keeps durable (omega (arith, size, long, c.loop-image.invariant.at)) (omega (arith, some, c.loop-image.invariant.at)) v (omega (arith, far, c.loop-image.invariant.at)))

pub loop-image-preserved : goal.loop-image-preserved
loop-image-preserved g c =
    let i = c.loop-image.image-index in
    let first = c.args.first in
    let set = c.args.set.now in
    record {
      at = omega (arith, c.loop-image.invariant.at);
      images = λ honest long.
          let size = (c.loop-image.invariant.changes honest long).size in
          let within : 4096 * c.loop-image.at + 4096 ≤ length (g.D.Disk.bytes c.loop-image.disk) = omega (arith, size, long, c.loop-image.invariant.at) in
          let change : ChangesOnly (4096 * (first + i)) 4096 (g.D.Disk.bytes c.loop-image.disk) (g.D.Disk.bytes c.write_block.new.disk) =
          subst (λ (k : ℕ). ChangesOnly (4096 * k) 4096 (g.D.Disk.bytes c.loop-image.disk) (g.D.Disk.bytes c.write_block.new.disk)) c.loop-image.invariant.at
          (c.write_block.ensures.changes honest within) in
          let here : block (g.D.Disk.bytes c.write_block.new.disk) (first + i) ≡ image_in set i =
          ap (block (g.D.Disk.bytes c.write_block.new.disk)) (sym c.loop-image.invariant.at)
          ∙ c.in_ok-write_block.ensures.written honest ∙ c.get.ensures ∙ ap (λ (e : ℕ × List ℕ). e.1) c.image-item.is
          ∙ ap (λ (e : ℕ × List ℕ). e.1) (get_or_any set i c.image-item.result (0, []) c.loop-image-test.true) in
          images_next set first i _ _ c.loop-image-test.true (c.loop-image.invariant.images honest long) change (omega (arith, within, c.loop-image.invariant.at)) here;
      changes = λ honest long.
          let so_far = c.loop-image.invariant.changes honest long in
          let change = c.write_block.ensures.changes honest (omega (arith, so_far.size, long, c.loop-image.invariant.at)) in
          changes_more (4096 * first) (4096 * i) (4096 * c.loop-image.at) 4096 (4096 * (i + 1)) _ _ _ so_far change (omega (arith, c.loop-image.invariant.at)) (omega arith)
          (omega (arith, c.loop-image.invariant.at));
      keeps = λ durable honest long some v far.
          let size = (c.loop-image.invariant.changes honest long).size in
          then g.D.Disk.moment g.D.Disk.left_since g.D.Disk.may_leave c.args.disk.now c.loop-image.disk c.write_block.new.disk (IsShut v)
          (c.loop-image.invariant.keeps durable honest long some v far)
          (c.write_block.ensures.keeps durable (omega (arith, size, long, c.loop-image.invariant.at)) (omega (arith, some, c.loop-image.invariant.at)) v
          (omega (arith, far, c.loop-image.invariant.at)));
      refused = c.in_ok-write_block.ensures.count ∙ c.loop-image.invariant.refused;
    }
