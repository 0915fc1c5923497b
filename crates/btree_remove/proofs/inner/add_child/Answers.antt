use Rattle.btree_read.proofs.NodeLemmas.{never_ok, err_passed}
use Rattle.std.proofs.Common.{le_trans, map, refl}
use Rattle.btree_read.specs.Nodes.{branch_of}
use Rattle.btree.proofs.RefusalLemmas.{kept_from, change_harm, change_refused_on}
use Rattle.btree_remove.proofs.PageSteps.{joined_before, joined_behind, second_not_freed, before_refused, behind_refused}
use Rattle.btree_remove.proofs.inner.add_child.Goals as goal

pub returns-in_err-free-clause-refusal : goal.returns-in_err-free-clause-refusal
returns-in_err-free-clause-refusal g c =
    err_passed c.from_residual.result c.in_err-free.field-0.0 _ c.from_residual.ensures.1
    (change_harm (g.S.PageSpace.at_limit c.free.new.self) _ _ (g.S.PageReader.refused c.args.space.now) (g.S.PageReader.refused c.free.new.self) _
    (second_not_freed (g.S.PageReader.pages c.args.space.now) c.args.pair.now c.args.node.now.link (map branch_of c.args.node.now.cells) (branch_of c.args.cell.now) (g.S.PageReader.is_whole c.args.space.now)) c.in_err-free.ensures.refusal)

pub returns-then-pair-clause-before : goal.returns-then-pair-clause-before
returns-then-pair-clause-before g c = λ same used differ stocked.
    joined_before _ _ _ _ _ _ c.args.node.now.cells _ _ c.put_cell.result _ refl c.in_ok-free.ensures.freed c.in_ok-free.ensures.others c.put_cell.ensures.written used differ stocked

pub returns-then-pair-clause-behind : goal.returns-then-pair-clause-behind
returns-then-pair-clause-behind g c = λ other. absurd (other c.if-pair.true)

pub returns-then-pair-clause-refusal : goal.returns-then-pair-clause-refusal
returns-then-pair-clause-refusal g c =
    change_refused_on c.put_cell.result (g.S.PageSpace.at_limit c.put_cell.new.space) _ _ (g.S.PageReader.refused c.args.space.now) (g.S.PageReader.refused c.free.new.self) (g.S.PageReader.refused c.put_cell.new.space)
    c.in_ok-free.ensures.rising
    (before_refused _ _ c.args.pair.now c.args.node.now.link c.args.node.now.cells (branch_of c.args.cell.now) (g.S.PageReader.is_whole c.args.space.now) (g.S.PageReader.is_whole c.free.new.self) c.if-pair.true
    c.in_ok-free.ensures.others c.in_ok-free.ensures.whole) c.put_cell.ensures.refusal

pub returns-else-pair-clause-before : goal.returns-else-pair-clause-before
returns-else-pair-clause-before g c = λ same. absurd (c.if-pair.false same)

pub returns-else-pair-clause-behind : goal.returns-else-pair-clause-behind
returns-else-pair-clause-behind g c = λ other used differ stocked.
    joined_behind _ _ _ _ _ _ _ c.len-end.result c.args.node.now.cells _ _ c.put_cell-else-pair.result _ refl c.link.ensures c.len-end.ensures.length
    c.in_ok-free.ensures.freed c.in_ok-free.ensures.others c.put_cell-else-pair.ensures.written used differ stocked

pub returns-else-pair-clause-refusal : goal.returns-else-pair-clause-refusal
returns-else-pair-clause-refusal g c =
    change_refused_on c.put_cell-else-pair.result (g.S.PageSpace.at_limit c.put_cell-else-pair.new.space) _ _ (g.S.PageReader.refused c.args.space.now) (g.S.PageReader.refused c.free.new.self) (g.S.PageReader.refused c.put_cell-else-pair.new.space)
    c.in_ok-free.ensures.rising
    (behind_refused _ _ c.args.pair.now c.args.node.now.link c.len-end.result c.args.node.now.cells (branch_of c.args.cell.now) (g.S.PageReader.is_whole c.args.space.now) (g.S.PageReader.is_whole c.free.new.self) c.if-pair.false
    c.len-end.ensures.length c.in_ok-free.ensures.others c.in_ok-free.ensures.whole) c.put_cell-else-pair.ensures.refusal

pub returns-in_err-free-clause-before : goal.returns-in_err-free-clause-before
returns-in_err-free-clause-before g c = λ is used apart stocked. never_ok c.from_residual.result _ _ c.from_residual.ensures.1

pub returns-in_err-free-clause-behind : goal.returns-in_err-free-clause-behind
returns-in_err-free-clause-behind g c = λ is used apart stocked. never_ok c.from_residual.result _ _ c.from_residual.ensures.1

pub returns-in_err-free-clause-small : goal.returns-in_err-free-clause-small
returns-in_err-free-clause-small g c = never_ok c.from_residual.result _ _ c.from_residual.ensures.1

pub returns-in_err-free-clause-whole : goal.returns-in_err-free-clause-whole
returns-in_err-free-clause-whole g c = never_ok c.from_residual.result _ _ c.from_residual.ensures.1

pub returns-in_err-free-clause-rising : goal.returns-in_err-free-clause-rising
returns-in_err-free-clause-rising g c = c.free.ensures.rising

pub returns-in_err-free-clause-follows : goal.returns-in_err-free-clause-follows
returns-in_err-free-clause-follows g c = c.free.ensures.follows

pub returns-then-pair-clause-small : goal.returns-then-pair-clause-small
returns-then-pair-clause-small g c = c.put_cell.ensures.small

pub returns-then-pair-clause-whole : goal.returns-then-pair-clause-whole
returns-then-pair-clause-whole g c = kept_from c.put_cell.result _ _ _ c.in_ok-free.ensures.whole c.put_cell.ensures.whole

pub returns-then-pair-clause-rising : goal.returns-then-pair-clause-rising
returns-then-pair-clause-rising g c = le_trans c.free.ensures.rising c.put_cell.ensures.rising

pub returns-then-pair-clause-follows : goal.returns-then-pair-clause-follows
returns-then-pair-clause-follows g c = g.met.S.PageReader.follows_trans _ _ _ c.free.ensures.follows c.put_cell.ensures.follows

pub returns-else-pair-clause-small : goal.returns-else-pair-clause-small
returns-else-pair-clause-small g c = c.put_cell-else-pair.ensures.small

pub returns-else-pair-clause-whole : goal.returns-else-pair-clause-whole
returns-else-pair-clause-whole g c = kept_from c.put_cell-else-pair.result _ _ _ c.in_ok-free.ensures.whole c.put_cell-else-pair.ensures.whole

pub returns-else-pair-clause-rising : goal.returns-else-pair-clause-rising
returns-else-pair-clause-rising g c = le_trans c.free.ensures.rising c.put_cell-else-pair.ensures.rising

pub returns-else-pair-clause-follows : goal.returns-else-pair-clause-follows
returns-else-pair-clause-follows g c = g.met.S.PageReader.follows_trans _ _ _ c.free.ensures.follows c.put_cell-else-pair.ensures.follows
