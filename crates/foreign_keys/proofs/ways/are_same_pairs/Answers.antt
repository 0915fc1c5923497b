use Rattle.std.proofs.Common.{◌∙◌, sym}
use Rattle.foreign_keys.proofs.Pairing.{as-many, first-apart, others-apart, not-within, both-within}
use Rattle.foreign_keys.proofs.ways.are_same_pairs.Goals as goal

pub returns-then-not-are_as_many : goal.returns-then-not-are_as_many
returns-then-not-are_as_many c = first-apart c.args.from.now c.args.to.now c.args.others.now c.args.places.now (sym c.are_as_many.ensures ∙ c.if-not-are_as_many.true)

pub returns-then-not-are_as_many-2 : goal.returns-then-not-are_as_many-2
returns-then-not-are_as_many-2 c = others-apart c.args.from.now c.args.to.now c.args.others.now c.args.places.now (sym c.are_as_many-2.ensures ∙ c.if-not-are_as_many-2.true)

pub are_within-requires-clause-pairs : goal.are_within-requires-clause-pairs
are_within-requires-clause-pairs c = as-many c.args.from.now c.args.to.now (sym c.are_as_many.ensures ∙ c.if-not-are_as_many.false)

pub are_within-requires-clause-others : goal.are_within-requires-clause-others
are_within-requires-clause-others c = as-many c.args.others.now c.args.places.now (sym c.are_as_many-2.ensures ∙ c.if-not-are_as_many-2.false)

pub returns-then-not-are_within : goal.returns-then-not-are_within
returns-then-not-are_within c = not-within c.args.from.now c.args.to.now c.args.others.now c.args.places.now (sym c.are_within.ensures ∙ c.if-not-are_within.true)

pub are_within-requires-2-clause-pairs : goal.are_within-requires-2-clause-pairs
are_within-requires-2-clause-pairs c = as-many c.args.others.now c.args.places.now (sym c.are_as_many-2.ensures ∙ c.if-not-are_as_many-2.false)

pub are_within-requires-2-clause-others : goal.are_within-requires-2-clause-others
are_within-requires-2-clause-others c = as-many c.args.from.now c.args.to.now (sym c.are_as_many.ensures ∙ c.if-not-are_as_many.false)

pub returns : goal.returns
returns c = c.are_within-2.ensures ∙ both-within c.args.from.now c.args.to.now c.args.others.now c.args.places.now
    (sym c.are_as_many.ensures ∙ c.if-not-are_as_many.false) (sym c.are_as_many-2.ensures ∙ c.if-not-are_as_many-2.false) (sym c.are_within.ensures ∙ c.if-not-are_within.false)
