use Rattle.btree_read.proofs.leaf.see_leaf.Goals as goal

pub returns-then-not-is_named-clause-refusal : goal.returns-then-not-is_named-clause-refusal
returns-then-not-is_named-clause-refusal c = c.is_named.ensures.other c.if-not-is_named.true
