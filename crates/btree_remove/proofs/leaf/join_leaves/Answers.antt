use Rattle.btree_read.proofs.NodeLemmas.{never_ok, err_passed}
use Rattle.std.proofs.Common.{le_trans, ◌∙◌}
use Rattle.btree.proofs.RefusalLemmas.{kept_from, both_rise, change_refused, change_refused_on, read_as_change}
use Rattle.btree_remove.proofs.PageSteps.{leaves_are_joined, read_then, right_not_read, kept_not_read, left_not_written, right_not_freed}
use Rattle.btree_remove.proofs.leaf.join_leaves.Goals as goal

pub returns-in_err-next-clause-refusal : goal.returns-in_err-next-clause-refusal
returns-in_err-next-clause-refusal g c =
    err_passed c.from_residual.result c.in_err-next.field-0.0 _ c.from_residual.ensures.1
    (read_as_change (g.S.PageSpace.at_limit c.next_leaf.new.space) _ _ (g.S.PageReader.refused c.args.space.now) (g.S.PageReader.refused c.next_leaf.new.space) _
    (right_not_read _ _ _ _ (g.S.PageReader.is_whole c.args.space.now)) c.in_err-next.ensures.refusal)

pub returns-in_err-leaf-clause-refusal : goal.returns-in_err-leaf-clause-refusal
returns-in_err-leaf-clause-refusal g c =
    err_passed c.from_residual-in_err-leaf.result c.in_err-leaf.field-0.0 _ c.from_residual-in_err-leaf.ensures.1
    (read_then (g.S.PageSpace.at_limit c.read_node.new.space) _ _ (g.S.PageReader.refused c.args.space.now) (g.S.PageReader.refused c.next_leaf.new.space) (g.S.PageReader.refused c.read_node.new.space) _ c.in_ok-next.ensures.rising
    (kept_not_read _ _ _ _ _ (g.S.PageReader.is_whole c.args.space.now) c.in_ok-next.ensures.same) c.in_err-leaf.ensures.refusal)

pub returns-in_err-write_without-clause-refusal : goal.returns-in_err-write_without-clause-refusal
returns-in_err-write_without-clause-refusal g c =
    err_passed c.from_residual-in_err-write_without.result c.in_err-write_without.field-0.0 _ c.from_residual-in_err-write_without.ensures.1
    (change_refused (g.S.PageSpace.at_limit c.write_without.new.space) _ _ (g.S.PageReader.refused c.args.space.now) (g.S.PageReader.refused c.read_node.new.space) (g.S.PageReader.refused c.write_without.new.space) _
    (both_rise _ _ _ c.in_ok-next.ensures.rising c.in_ok-leaf.ensures.rising)
    (left_not_written _ _ _ _ _ (g.S.PageReader.is_whole c.args.space.now) (c.in_ok-leaf.ensures.same ∙ c.in_ok-next.ensures.same)) c.in_err-write_without.ensures.refusal)

pub returns-clause-joined : goal.returns-clause-joined
returns-clause-joined g c = λ a b es ys hk hr used ne.
    leaves_are_joined _ _ _ _ _ _ _ _ _ a b es ys _ c.free.result c.in_ok-next.ensures.same c.in_ok-leaf.ensures.same c.in_ok-leaf.ensures.node c.in_ok-next.ensures.next
    c.in_ok-write_without.ensures.written c.in_ok-write_without.ensures.others c.free.ensures.freed c.free.ensures.others hk hr used ne

pub returns-clause-refusal : goal.returns-clause-refusal
returns-clause-refusal g c =
    change_refused_on c.free.result (g.S.PageSpace.at_limit c.free.new.self) _ _ (g.S.PageReader.refused c.args.space.now) (g.S.PageReader.refused c.write_without.new.space) (g.S.PageReader.refused c.free.new.self)
    (both_rise _ _ _ (both_rise _ _ _ c.in_ok-next.ensures.rising c.in_ok-leaf.ensures.rising) c.in_ok-write_without.ensures.rising)
    (right_not_freed _ _ _ _ _ _ (g.S.PageReader.is_whole c.args.space.now) (g.S.PageReader.is_whole c.write_without.new.space) (c.in_ok-leaf.ensures.same ∙ c.in_ok-next.ensures.same)
    c.in_ok-write_without.ensures.others (λ w. c.in_ok-write_without.ensures.whole (c.in_ok-leaf.ensures.whole (c.in_ok-next.ensures.whole w)))) c.free.ensures.refusal

pub returns-in_err-next-clause-joined : goal.returns-in_err-next-clause-joined
returns-in_err-next-clause-joined g c = λ a b es ys hk hr used ne. never_ok c.from_residual.result _ _ c.from_residual.ensures.1

pub returns-in_err-next-clause-whole : goal.returns-in_err-next-clause-whole
returns-in_err-next-clause-whole g c = never_ok c.from_residual.result _ _ c.from_residual.ensures.1

pub returns-in_err-next-clause-rising : goal.returns-in_err-next-clause-rising
returns-in_err-next-clause-rising g c = c.next_leaf.ensures.rising

pub returns-in_err-next-clause-follows : goal.returns-in_err-next-clause-follows
returns-in_err-next-clause-follows g c = c.next_leaf.ensures.follows

pub returns-in_err-leaf-clause-joined : goal.returns-in_err-leaf-clause-joined
returns-in_err-leaf-clause-joined g c = λ a b es ys hk hr used ne. never_ok c.from_residual-in_err-leaf.result _ _ c.from_residual-in_err-leaf.ensures.1

pub returns-in_err-leaf-clause-whole : goal.returns-in_err-leaf-clause-whole
returns-in_err-leaf-clause-whole g c = never_ok c.from_residual-in_err-leaf.result _ _ c.from_residual-in_err-leaf.ensures.1

pub returns-in_err-leaf-clause-rising : goal.returns-in_err-leaf-clause-rising
returns-in_err-leaf-clause-rising g c = le_trans c.next_leaf.ensures.rising c.read_node.ensures.rising

pub returns-in_err-leaf-clause-follows : goal.returns-in_err-leaf-clause-follows
returns-in_err-leaf-clause-follows g c = g.met.S.PageReader.follows_trans _ _ _ c.next_leaf.ensures.follows c.read_node.ensures.follows

pub returns-in_err-write_without-clause-joined : goal.returns-in_err-write_without-clause-joined
returns-in_err-write_without-clause-joined g c = λ a b es ys hk hr used ne. never_ok c.from_residual-in_err-write_without.result _ _ c.from_residual-in_err-write_without.ensures.1

pub returns-in_err-write_without-clause-whole : goal.returns-in_err-write_without-clause-whole
returns-in_err-write_without-clause-whole g c = never_ok c.from_residual-in_err-write_without.result _ _ c.from_residual-in_err-write_without.ensures.1

pub returns-in_err-write_without-clause-rising : goal.returns-in_err-write_without-clause-rising
returns-in_err-write_without-clause-rising g c = le_trans (le_trans c.next_leaf.ensures.rising c.read_node.ensures.rising) c.write_without.ensures.rising

pub returns-in_err-write_without-clause-follows : goal.returns-in_err-write_without-clause-follows
returns-in_err-write_without-clause-follows g c = g.met.S.PageReader.follows_trans _ _ _ (g.met.S.PageReader.follows_trans _ _ _ c.next_leaf.ensures.follows c.read_node.ensures.follows) c.write_without.ensures.follows

pub returns-clause-whole : goal.returns-clause-whole
returns-clause-whole g c = kept_from c.free.result _ _ _ (λ w. c.in_ok-write_without.ensures.whole (c.read_node.ensures.whole (c.next_leaf.ensures.whole w))) c.free.ensures.whole

pub returns-clause-rising : goal.returns-clause-rising
returns-clause-rising g c = le_trans (le_trans (le_trans c.next_leaf.ensures.rising c.read_node.ensures.rising) c.in_ok-write_without.ensures.rising) c.free.ensures.rising

pub returns-clause-follows : goal.returns-clause-follows
returns-clause-follows g c = g.met.S.PageReader.follows_trans _ _ _ (g.met.S.PageReader.follows_trans _ _ _ (g.met.S.PageReader.follows_trans _ _ _ c.next_leaf.ensures.follows c.read_node.ensures.follows) c.in_ok-write_without.ensures.follows) c.free.ensures.follows
