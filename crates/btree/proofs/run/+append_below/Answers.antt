use Rattle.std.proofs.Common.{◌≡◌, ◌≤◌, ◌-◌, ◌∙◌, map, length, take, ap, sym, subst, IfOk, arith}
use Rattle.btree_read.specs.Nodes.{entry_of}
use Rattle.btree_read.proofs.NodeLemmas.{err_passed}
use Rattle.btree_read.proofs.SearchLemmas.{no_level_left}
use Rattle.btree.proofs.RefusalLemmas.{change_refused_on, read_as_change}
use Rattle.btree.proofs.RunLemmas.{first_grown, grown_at_last_leaf, grown_last, last_child_refused, no_last_node, no_last_page, no_last_tree}
use Rattle.btree.proofs.run.+append_below.Goals as goal

pub returns-in_err-node-clause-refusal : goal.returns-in_err-node-clause-refusal
returns-in_err-node-clause-refusal g t c =
    err_passed c.from_residual.result c.in_err-node.field-0.0 _ c.from_residual.ensures.1
    (read_as_change (g.S.PageSpace.at_limit c.read_node.new.space) _ _ _ _ _ (no_last_node _ _ _ _) c.in_err-node.ensures.refusal)

pub returns-then-levels-eq0-clause-refusal : goal.returns-then-levels-eq0-clause-refusal
returns-then-levels-eq0-clause-refusal g t c = no_last_tree _ _ _ _ (no_level_left _ _ _ _ c.in_ok-node.ensures.node (sym c.in-Inner.ensures) c.if-levels-eq0.true)

pub returns-in_ok-made-in-Leaf-clause-grows : goal.returns-in_ok-made-in-Leaf-clause-grows
returns-in_ok-made-in-Leaf-clause-grows g t c =
    first_grown _ _ _ c.args.entries.now (map entry_of c.as_slice.result.now) (length c.as_slice.result.now) c.put_run.result
    (subst (λ cells. map entry_of cells ≡ take (length cells) c.args.entries.now) (sym c.as_slice.ensures.value) c.in_ok-made-in-Leaf.ensures.cells) c.put_run.ensures.few
    (grown_at_last_leaf _ _ _ _ (map entry_of c.as_slice.result.now) c.in_ok-node.ensures.same c.in_ok-node.ensures.node _ c.put_run.result (sym c.in-Leaf.ensures) c.put_run.ensures.written c.put_run.ensures.ascends)

pub returns-in_ok-made-in-Leaf-clause-refusal : goal.returns-in_ok-made-in-Leaf-clause-refusal
returns-in_ok-made-in-Leaf-clause-refusal g t c =
    change_refused_on c.put_run.result (g.S.PageSpace.at_limit c.put_run.new.space) _ _ _ _ (g.S.PageReader.refused c.put_run.new.space) c.in_ok-node.ensures.rising
    (no_last_page _ _ _ _ _ c.in_ok-node.ensures.same) c.put_run.ensures.refusal

pub returns-else-levels-eq0-clause-grows : goal.returns-else-levels-eq0-clause-grows
returns-else-levels-eq0-clause-grows g t c =
    grown_last _ _ _ _ c.args.entries.now c.in_ok-node.ensures.same c.in_ok-node.ensures.node (sym c.in-Inner.ensures) _ c.len.result _ c.len.ensures.length c.child_at-child.ensures c.append_below.result c.append_below.ensures.grows

pub returns-else-levels-eq0-clause-refusal : goal.returns-else-levels-eq0-clause-refusal
returns-else-levels-eq0-clause-refusal g t c =
    change_refused_on c.append_below.result (g.S.PageSpace.at_limit c.append_below.new.space) _ _ _ _ (g.S.PageReader.refused c.append_below.new.space) c.in_ok-node.ensures.rising
    (last_child_refused _ _ _ _ c.args.entries.now c.in_ok-node.ensures.same c.in_ok-node.ensures.node (sym c.in-Inner.ensures) (g.S.PageReader.pages c.append_below.new.space) c.len.result _ c.len.ensures.length c.child_at-child.ensures
    c.args.levels (c.args.levels - 1) (g.S.PageReader.is_whole c.args.space.now) (g.S.PageReader.is_whole c.read_node.new.space) (omega arith) c.in_ok-node.ensures.whole)
    c.append_below.ensures.refusal

pub returns-else-levels-eq0-clause-follows : goal.returns-else-levels-eq0-clause-follows
returns-else-levels-eq0-clause-follows g t c = g.met.S.PageReader.follows_trans _ _ _ c.in_ok-node.ensures.follows c.append_below.ensures.follows
