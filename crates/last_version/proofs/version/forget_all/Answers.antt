use Rattle.std.proofs.Common.{◌≡◌, ◌≢◌, ◌∙◌, ℕ, List, [], ap, subst, arith}
use Rattle.journal.specs.Lists.{number_in}
use Rattle.journal.proofs.Sets.{get_or_any}
use Rattle.journaled_file.proofs.Laying.{has_index}
use Rattle.last_version.proofs.ShownLemmas.{next_gone}
use Rattle.last_version.proofs.version.forget_all.Goals as goal

pub loop-number-preserved : goal.loop-number-preserved
loop-number-preserved c =
    let inv = c.loop-number.invariant in
    let images = c.args.images.now in
    let i = c.loop-number.number-index in
    let item = c.loop-number-item.result in
    let is : item.0 ≡ number_in images i =
    ap (λ (e : ℕ × List ℕ). e.0) (c.loop-number-item.is ∙ get_or_any images i item (0, []) c.loop-number-test.true) in
    record {
      gone = λ n page has.
          let one = c.forget.ensures.gone n page has in
          let was = inv.gone n page one.1 in
          (next_gone images i n was.0 (subst (λ (k : ℕ). n ≢ k) is one.0), was.1);
      room = c.forget.ensures.room ∙ inv.room;
    }

pub returns-clause-gone : goal.returns-clause-gone
returns-clause-gone c = λ n page has.
    let left = c.loop-number.invariant.gone n page has in
    (λ one. let at = has_index n c.args.images.now one in left.0 at.0 (omega (arith, at.1, c.loop-number-test.false)) at.2, left.1)
