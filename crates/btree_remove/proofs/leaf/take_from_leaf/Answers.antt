use Rattle.std.proofs.Common.{◌≡◌, ◌∙◌, length, refl, sym, arith}
use Rattle.btree_remove.proofs.LeafLemmas.{one_less}
use Rattle.btree_remove.proofs.PageSteps.{none_of, leaf_taken}
use Rattle.btree_remove.proofs.leaf.take_from_leaf.Goals as goal

pub returns-in_default-clause-taken : goal.returns-in_default-clause-taken
returns-in_default-clause-taken g c = λ used stocked. (none_of _ _ c.place_in.result c.place_in.ensures c.in_default.not-Some, refl)

pub returns-then-len-eq1-clause-taken : goal.returns-then-len-eq1-clause-taken
returns-then-len-eq1-clause-taken g c = λ used stocked. (one_less _ _ c.in-Some.at (omega (arith, c.if-len-eq1.true, c.len.ensures.length)) c.in-Some.ensures.0 c.in-Some.ensures.1, refl)

pub returns-clause-taken : goal.returns-clause-taken
returns-clause-taken g c =
    leaf_taken _ _ _ _ _ _ _ c.in-Some.at _ c.requires.leaf c.link.ensures c.in-Some.ensures.0 c.in-Some.ensures.1 (λ m. c.if-len-eq1.false (c.len.ensures.length ∙ m))
    c.in_ok-write_without.ensures.written c.in_ok-write_without.ensures.others
