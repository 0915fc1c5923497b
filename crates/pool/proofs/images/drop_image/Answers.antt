use Rattle.std.proofs.Common.{ℕ, ap, arith, cond, Bool}
use Rattle.pool.proofs.ImageCounts.{bytes_taken}
use Rattle.pool.proofs.images.drop_image.Goals as goal

pub lower-requires : goal.lower-requires
lower-requires c =
    let taken = bytes_taken c.args.images.now c.args.place c.remove-image.result c.remove-image.ensures.item in
    let one = ap {B = ℕ} (λ (b : Bool). cond b 1 0) c.has_bytes.ensures in
    let few = c.requires.few in omega (arith, taken, one, few)

pub returns-clause-count : goal.returns-clause-count
returns-clause-count c =
    let taken = bytes_taken c.args.images.now c.args.place c.remove-image.result c.remove-image.ensures.item in
    let one = ap {B = ℕ} (λ (b : Bool). cond b 1 0) c.has_bytes.ensures in
    let lowered = c.lower.ensures in rw c.remove-image.ensures.rest (omega (arith, taken, one, lowered))

pub returns-clause-fewer : goal.returns-clause-fewer
returns-clause-fewer c =
    let taken = bytes_taken c.args.images.now c.args.place c.remove-image.result c.remove-image.ensures.item in rw c.remove-image.ensures.rest (omega (arith, taken))
