use Rattle.std.proofs.Common.{◌≡◌, ap, sym, ◌∙◌, arith, below_more, get_or, false}
use Rattle.pool.specs.Images.{covers}
use Rattle.pool.specs.Slots.{slot_at}
use Rattle.pool.proofs.SlotLemmas.{by_place}
use Rattle.pool.proofs.images.take_back.Goals as goal

pub loop-page-preserved : goal.loop-page-preserved
loop-page-preserved c =
    let numbers = c.args.numbers.now in
    let i = c.loop-page.page-index in
    let inv = c.loop-page.invariant in
    let step = c.take_at.ensures in
    record {
      same = by_place (λ n. covers c.args.last (slot_at c.args.slots.now n).images ≡ false → (slot_at c.take_at.new.slots n).images ≡ (slot_at c.args.slots.now n).images) (get_or numbers i 0)
          (λ none. step.same (ap (covers c.args.last) (inv.same (get_or numbers i 0) none) ∙ none) ∙ inv.same (get_or numbers i 0) none)
          (λ n differs none. step.others n differs ∙ inv.same n none);
      taken = below_more _ _
          (λ k less others image after is. step.others (get_or numbers k 0) (λ e. let below = c.requires k i less c.loop-page-test.true in absurd (omega (arith, below, e))) ∙ inv.taken k less others image after is)
          (λ others image after is. step.taken others image after (inv.ahead (get_or numbers i 0) (λ k less e. let below = c.requires k i less c.loop-page-test.true in absurd (omega (arith, below, e))) ∙ is));
      ahead = λ n apart. step.others n (λ e. apart i (omega arith) (sym e)) ∙ inv.ahead n (λ k less. apart k (omega (arith, less)));
    }

pub returns-clause-taken : goal.returns-clause-taken
returns-clause-taken c = λ k less. c.loop-page.invariant.taken k (omega arith)
