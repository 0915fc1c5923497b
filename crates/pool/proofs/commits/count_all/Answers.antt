use Rattle.std.proofs.Common.{◌≡◌, ◌∙◌, ◌⊎◌, ℕ, ◌<◌, ◌+◌, ◌-◌, ◌^◌, List, [], inl, inr, ap, sym, subst, refl, arith, below_more}
use Rattle.journal.specs.Lists.{number_in}
use Rattle.journal.proofs.Sets.{get_or_any}
use Rattle.pool.proofs.LaidLemmas.{never_follows, covered_more, all_within}
use Rattle.pool.proofs.commits.count_all.Goals as goal

pub loop-number-preserved : goal.loop-number-preserved
loop-number-preserved c =
    let inv = c.loop-number.invariant in
    let images = c.args.images.now in
    let i = c.loop-number.number-index in
    let item = c.loop-number-item.result in
    let is : item.0 ≡ number_in images i =
    ap (λ (e : ℕ × List ℕ). e.0) (c.loop-number-item.is ∙ get_or_any images i item (0, []) c.loop-number-test.true) in
    let step = c.in-Some.ensures.some in
    record {
      grows = let was = inv.grows in let more = step.0 in omega (arith, was, more);
      below = below_more _ _ (λ k less. let was = inv.below k less in let more = step.0 in omega (arith, was, more)) (let under = step.1 in omega (arith, under, is));
      covered = covered_more images i c.args.count c.loop-number.next _ c.loop-number-test.true inv.covered
          (λ n more less. step.2 n more less ∙ is);
    }

pub returns-clause-some : goal.returns-clause-some
returns-clause-some c = record {
  grows = c.loop-number.invariant.grows;
  within = all_within c.args.images.now c.loop-number.next (λ k less. c.loop-number.invariant.below k (omega (arith, less, c.loop-number-test.false)));
  covered = c.loop-number.invariant.covered;
}

pub returns-in-None-clause-none : goal.returns-in-None-clause-none
returns-in-None-clause-none c = λ gone pages none follows.
    let inv = c.loop-number.invariant in
    let images = c.args.images.now in
    let i = c.loop-number.number-index in
    let item = c.loop-number-item.result in
    let is : item.0 ≡ number_in images i =
    ap (λ (e : ℕ × List ℕ). e.0) (c.loop-number-item.is ∙ get_or_any images i item (0, []) c.loop-number-test.true) in
    never_follows images i c.args.count c.loop-number.next (2 ^ 32 - 1) pages c.requires c.loop-number-test.true inv.grows inv.below none follows.low
    (subst (λ (k : ℕ). (c.loop-number.next < k) ⊎ (k ≡ 2 ^ 32 - 1)) is (c.in-None.ensures.none refl)) follows
