use Rattle.std.proofs.Common.{◌≡◌, ◌∙◌, ℕ, List, sym, ap, subst, arith}
use Rattle.disk.specs.Keeping.{then}
use Rattle.journal.specs.Parts.{place}
use Rattle.journal.specs.Versions.{IsOpen, HasPage, laid, put}
use Rattle.journal.proofs.Sets.{has_at, laid_next, others_next}
use Rattle.journal.proofs.places.put_all.Goals as goal

pub returns-in_err-put_one-clause-others : goal.returns-in_err-put_one-clause-others
returns-in_err-put_one-clause-others g c honest within =
    let item = c.loop-number-item.result in
    let has : HasPage item.0 c.args.set.now =
    subst (λ (e : ℕ × List ℕ). HasPage e.0 c.args.set.now) (sym c.loop-number-item.is) (has_at c.args.set.now c.loop-number.number-index item c.loop-number-test.true) in
    let so_far = c.loop-number.invariant.others honest within in
    let fits = within item.0 has in
    others_next c.args.set.now item.0 _ _ _ has within so_far (c.put_one.ensures.changes honest (omega (arith, fits, so_far.size)))

pub returns-in_err-put_one-clause-keeps : goal.returns-in_err-put_one-clause-keeps
returns-in_err-put_one-clause-keeps g c durable v is =
    let item = c.loop-number-item.result in
    let has : HasPage item.0 c.args.set.now =
    subst (λ (e : ℕ × List ℕ). HasPage e.0 c.args.set.now) (sym c.loop-number-item.is) (has_at c.args.set.now c.loop-number.number-index item c.loop-number-test.true) in
    then g.D.Disk.moment g.D.Disk.left_since g.D.Disk.may_leave c.args.disk.now c.loop-number.disk c.put_one.new.disk (IsOpen v) (c.loop-number.invariant.keeps durable v is)
    (c.put_one.ensures.keeps durable v (is item.0 has))

pub loop-number-preserved : goal.loop-number-preserved
loop-number-preserved g c =
    let item = c.loop-number-item.result in
    let has : HasPage item.0 c.args.set.now =
    subst (λ (e : ℕ × List ℕ). HasPage e.0 c.args.set.now) (sym c.loop-number-item.is) (has_at c.args.set.now c.loop-number.number-index item c.loop-number-test.true) in
    record {
      placed = λ honest within n there.
          let size = (c.loop-number.invariant.others honest within).size in
          let fits = within item.0 has in
          let q = place (g.D.Disk.bytes c.put_one.new.disk) in
          let p = place (g.D.Disk.bytes c.loop-number.disk) in
          let one : q n ≡ put p item.0 item.1 n =
          c.in_ok-put_one.ensures.placed honest (omega (arith, fits, size)) n (omega (arith, there, size)) ∙ ap (λ (page : List ℕ). put p item.0 page n) c.get.ensures in
          laid_next c.args.set.now c.loop-number.number-index item p q (laid c.args.set.now (place (g.D.Disk.bytes c.args.disk.now))) n c.loop-number-test.true
          (c.loop-number.invariant.placed honest within n there)
          (subst (λ (e : ℕ × List ℕ). q n ≡ put p e.0 e.1 n) c.loop-number-item.is one);
      others = λ honest within.
          let so_far = c.loop-number.invariant.others honest within in
          let fits = within item.0 has in
          others_next c.args.set.now item.0 _ _ _ has within so_far (c.put_one.ensures.changes honest (omega (arith, fits, so_far.size)));
      keeps = λ durable v is.
          then g.D.Disk.moment g.D.Disk.left_since g.D.Disk.may_leave c.args.disk.now c.loop-number.disk c.put_one.new.disk (IsOpen v) (c.loop-number.invariant.keeps durable v is)
          (c.put_one.ensures.keeps durable v (is item.0 has));
      refused = c.in_ok-put_one.ensures.count ∙ c.loop-number.invariant.refused;
      synced = c.put_one.ensures.synced ∙ c.loop-number.invariant.synced;
    }
