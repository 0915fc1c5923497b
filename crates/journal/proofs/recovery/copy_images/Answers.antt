use Rattle.std.proofs.Common.{◌≡◌, ◌∙◌, ◌+◌, ◌*◌, ◌<◌, ◌≤◌, List, ℕ, [], sym, ap, subst, arith, length}
use Rattle.disk.specs.Keeping.{then}
use Rattle.journal.specs.Lists.{number_in, image_in}
use Rattle.journal.specs.Parts.{place, block}
use Rattle.journal.specs.Versions.{IsOpen, HasPage, put, laid}
use Rattle.journal.proofs.Sets.{has_at, laid_next, laid_all}
use Rattle.journal.proofs.States.{ready_put, lies_within}
use Rattle.journal.proofs.recovery.copy_images.Goals as goal

pub returns-in_err-copy_image-clause-ready : goal.returns-in_err-copy_image-clause-ready
returns-in_err-copy_image-clause-ready g c honest v names ready =
    let i = c.loop-i.i in
    let less = c.loop-i-test.true in
    let number : c.read_number.result ≡ number_in v.set i = c.read_number.ensures ∙ names.numbers.each i (omega (arith, names.many, less)) in
    let has : HasPage c.read_number.result v.set = subst (λ (k : ℕ). HasPage k v.set) (sym number) (has_at v.set i (0, []) (omega (arith, names.many, less))) in
    let now = c.loop-i.invariant.ready honest v names ready in
    ready_put v c.read_number.result has _ _ now (c.copy_image.ensures.changes honest (lies_within v _ now c.read_number.result (now.within c.read_number.result has)))

pub returns-in_err-copy_image-clause-keeps : goal.returns-in_err-copy_image-clause-keeps
returns-in_err-copy_image-clause-keeps g c durable v names =
    let i = c.loop-i.i in
    let less = c.loop-i-test.true in
    let number : c.read_number.result ≡ number_in v.set i = c.read_number.ensures ∙ names.numbers.each i (omega (arith, names.many, less)) in
    let has : HasPage c.read_number.result v.set = subst (λ (k : ℕ). HasPage k v.set) (sym number) (has_at v.set i (0, []) (omega (arith, names.many, less))) in
    then g.D.Disk.moment g.D.Disk.left_since g.D.Disk.may_leave c.args.disk.now c.loop-i.disk c.copy_image.new.disk (IsOpen v)
    (c.loop-i.invariant.keeps durable v names) (c.copy_image.ensures.keeps durable v has)

pub returns-in_err-copy_image-clause-size : goal.returns-in_err-copy_image-clause-size
returns-in_err-copy_image-clause-size g c honest list long =
    let so_far = c.loop-i.invariant.listed honest list long in
    let low = list.low c.loop-i.i c.loop-i-test.true in
    let within : 4096 * c.read_number.result + 4096 ≤ length (g.D.Disk.bytes c.loop-i.disk) = omega (arith, low, c.read_number.ensures, so_far, long) in
    (c.copy_image.ensures.changes honest within).size ∙ so_far

pub returns-clause-size : goal.returns-clause-size
returns-clause-size g c honest list long = c.loop-i.invariant.listed honest list long

pub returns-clause-placed : goal.returns-clause-placed
returns-clause-placed g c honest v names ready n less =
    sym (laid_all v.set c.loop-i.i (place (g.D.Disk.bytes c.loop-i.disk)) n (omega (arith, names.many, c.loop-i-test.false)))
    ∙ c.loop-i.invariant.placed honest v names ready n less

pub loop-i-preserved : goal.loop-i-preserved
loop-i-preserved g c =
    let i = c.loop-i.i in
    record {
      placed = λ honest v names ready n below.
          let less : i < length v.set = omega (arith, names.many, c.loop-i-test.true) in
          let number : c.read_number.result ≡ number_in v.set i = c.read_number.ensures ∙ names.numbers.each i less in
          let has : HasPage c.read_number.result v.set = subst (λ (k : ℕ). HasPage k v.set) (sym number) (has_at v.set i (0, []) less) in
          let now = c.loop-i.invariant.ready honest v names ready in
          let mid = g.D.Disk.bytes c.loop-i.disk in
          let p = place mid in
          let q = place (g.D.Disk.bytes c.copy_image.new.disk) in
          let at : c.args.start + 1 + i ≡ v.count + 1 + i = omega (arith, names.from_block) in
          let image : block mid (c.args.start + 1 + i) ≡ image_in v.set i = ap (block mid) at ∙ now.images i less in
          let one : q n ≡ put p (number_in v.set i) (image_in v.set i) n =
          c.in_ok-copy_image.ensures.placed honest (lies_within v _ now c.read_number.result (now.within c.read_number.result has)) n (lies_within v _ now n below)
          ∙ ap (λ (k : ℕ). put p k (block mid (c.args.start + 1 + i)) n) number ∙ ap (λ (b : List ℕ). put p (number_in v.set i) b n) image in
          laid_next v.set i (0, []) p q (laid v.set (place (g.D.Disk.bytes c.args.disk.now))) n less (c.loop-i.invariant.placed honest v names ready n below) one;
      ready = λ honest v names ready.
          let less : i < length v.set = omega (arith, names.many, c.loop-i-test.true) in
          let number : c.read_number.result ≡ number_in v.set i = c.read_number.ensures ∙ names.numbers.each i less in
          let has : HasPage c.read_number.result v.set = subst (λ (k : ℕ). HasPage k v.set) (sym number) (has_at v.set i (0, []) less) in
          let now = c.loop-i.invariant.ready honest v names ready in
          ready_put v c.read_number.result has _ _ now (c.copy_image.ensures.changes honest (lies_within v _ now c.read_number.result (now.within c.read_number.result has)));
      size = λ honest v names ready.
          let less : i < length v.set = omega (arith, names.many, c.loop-i-test.true) in
          let number : c.read_number.result ≡ number_in v.set i = c.read_number.ensures ∙ names.numbers.each i less in
          let has : HasPage c.read_number.result v.set = subst (λ (k : ℕ). HasPage k v.set) (sym number) (has_at v.set i (0, []) less) in
          let now = c.loop-i.invariant.ready honest v names ready in
          (c.copy_image.ensures.changes honest (lies_within v _ now c.read_number.result (now.within c.read_number.result has))).size
          ∙ c.loop-i.invariant.size honest v names ready;
      listed = λ honest list long.
          let so_far = c.loop-i.invariant.listed honest list long in
          let low = list.low i c.loop-i-test.true in
          let within : 4096 * c.read_number.result + 4096 ≤ length (g.D.Disk.bytes c.loop-i.disk) = omega (arith, low, c.read_number.ensures, so_far, long) in
          (c.copy_image.ensures.changes honest within).size ∙ so_far;
      keeps = λ durable v names.
          let less : i < length v.set = omega (arith, names.many, c.loop-i-test.true) in
          let number : c.read_number.result ≡ number_in v.set i = c.read_number.ensures ∙ names.numbers.each i less in
          let has : HasPage c.read_number.result v.set = subst (λ (k : ℕ). HasPage k v.set) (sym number) (has_at v.set i (0, []) less) in
          then g.D.Disk.moment g.D.Disk.left_since g.D.Disk.may_leave c.args.disk.now c.loop-i.disk c.copy_image.new.disk (IsOpen v)
          (c.loop-i.invariant.keeps durable v names) (c.copy_image.ensures.keeps durable v has);
      refused = c.in_ok-copy_image.ensures.count ∙ c.loop-i.invariant.refused;
    }
