use Rattle.std.proofs.Common.{map, arith, refl}
use Rattle.std.proofs.lemmas.List.{length-map}
use Rattle.btree_read.specs.Nodes.{branch_of}
use Rattle.btree_remove.proofs.PageSteps.{branches_taken}
use Rattle.btree_remove.proofs.WithoutLemmas.{none_left, some_left, rewritten_none}
use Rattle.btree_remove.proofs.inner.leave_out.Goals as goal

pub returns-then-len-count-clause-written : goal.returns-then-len-count-clause-written
returns-then-len-count-clause-written g c = λ used stocked.
    rewritten_none _ _ _ _ _ _ refl c.link.ensures
    (none_left (map branch_of c.args.node.now.cells) c.args.at c.args.behind c.requires.order
    (omega (arith, c.requires.within, length-map c.args.node.now.cells branch_of)) (omega (arith, c.if-len-count.true, c.len.ensures.length, length-map c.args.node.now.cells branch_of)))

pub returns-clause-written : goal.returns-clause-written
returns-clause-written g c = λ used stocked.
    branches_taken _ _ _ _ _ _ _ _ _ c.requires.inner c.link-2.ensures
    (some_left (map branch_of c.args.node.now.cells) c.args.at c.args.behind c.requires.order (omega (arith, c.requires.within, length-map c.args.node.now.cells branch_of))
    (λ e. c.if-len-count.false (omega (arith, e, c.len.ensures.length, length-map c.args.node.now.cells branch_of))))
    c.in_ok-write_without.ensures.written c.in_ok-write_without.ensures.others used stocked
