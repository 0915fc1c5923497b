use Rattle.std.proofs.Common.{◌∙◌, refl, sym, arith}
use Rattle.lexer.proofs.Fronts.{past, shorter}
use Rattle.lexer.proofs.gaps.skip_gap.Goals as goal

pub loop-rest-preserved-then-in_comment : goal.loop-rest-preserved-then-in_comment
loop-rest-preserved-then-in_comment c = (
  c.loop-rest.invariant.0
      ∙ past c.loop-rest.in_comment _ c.loop-rest.rest.now c.in-len1-up.len_at_least (sym c.ends_gap.ensures ∙ c.if-ends_gap.false) (rw c.if-in_comment.true refl),
  omega (arith, shorter c.loop-rest.rest.now),
)

pub loop-rest-preserved : goal.loop-rest-preserved
loop-rest-preserved c = (
  c.loop-rest.invariant.0
      ∙ past c.loop-rest.in_comment _ c.loop-rest.rest.now c.in-len1-up.len_at_least (sym c.ends_gap.ensures ∙ c.if-ends_gap.false) (rw c.if-in_comment.false refl),
  omega (arith, shorter c.loop-rest.rest.now),
)
