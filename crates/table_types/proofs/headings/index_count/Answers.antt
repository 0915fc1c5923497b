use Rattle.std.proofs.Common.{◌∙◌, arith}
use Rattle.table_types.specs.declared.headings.Heading.{Heading}
use Rattle.table_types.proofs.HeadingNames.{count-done, count-next}
use Rattle.table_types.proofs.headings.index_count.Goals as goal

pub loop-heading-preserved : goal.loop-heading-preserved
loop-heading-preserved c = record {
  rest = rw c.one_if-more.ensures.count
      (count-next (λ (h : Heading). h.owns_index) c.args.headings.now c.loop-heading.heading-index c.heading-item.result c.loop-heading.count c.loop-heading-test.true c.heading-item.is
      ∙ c.loop-heading.invariant.rest);
  few = omega (arith, c.one_if-more.ensures.few, c.loop-heading.invariant.few);
}

pub returns : goal.returns
returns c = count-done (λ (h : Heading). h.owns_index) c.args.headings.now c.loop-heading.heading-index c.loop-heading.count _ c.loop-heading-test.false c.loop-heading.invariant.rest
