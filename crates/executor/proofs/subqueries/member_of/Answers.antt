use Rattle.executor.proofs.subqueries.member_of.Goals as goal

pub returns : goal.returns
returns c = record { gives = λ meant listed x has. c.negated_if.ensures.gives _ (c.among_members.ensures.gives meant listed x has) }
