use Rattle.btree_read.proofs.NodeLemmas.{never_ok, err_passed}
use Rattle.std.proofs.Common.{le_trans, ap, ◌∙◌}
use Rattle.btree_remove.specs.declared.outcome.Removed.TheVariants.{Done}
use Rattle.btree.proofs.RefusalLemmas.{change_harm, change_refused}
use Rattle.btree_remove.proofs.DropLemmas.{root_not_dropped}
use Rattle.btree_remove.proofs.BelowLemmas.{space_not_whole, emptied_not_freed, lone_not_freed}
use Rattle.btree_remove.proofs.RootLemmas.{root_zero, root_absent, root_shrunk, root_over, root_emptied, root_lone}
use Rattle.btree_remove.proofs.removal.remove.Goals as goal

pub returns-then-root-eq0-clause-removes : goal.returns-then-root-eq0-clause-removes
returns-then-root-eq0-clause-removes g c = root_zero _ _ _ c.if-root-eq0.true

pub returns-in_err-remove_below-clause-refusal : goal.returns-in_err-remove_below-clause-refusal
returns-in_err-remove_below-clause-refusal g c =
    err_passed c.from_residual.result c.in_err-remove_below.field-0.0 _ c.from_residual.ensures.1
    (change_harm (g.S.PageSpace.at_limit c.remove_below.new.space) _ _ (g.S.PageReader.refused c.args.space.now) (g.S.PageReader.refused c.remove_below.new.space) _
    (root_not_dropped (g.S.PageReader.pages c.args.space.now) c.args.root (g.S.PageReader.is_whole c.args.space.now) (λ n h. g.met.S.PageReader.bounded _ n h) c.if-root-eq0.false) c.in_err-remove_below.ensures.refusal)

pub returns-in-Absent-clause-removes : goal.returns-in-Absent-clause-removes
returns-in-Absent-clause-removes g c = λ owned entries w. root_absent _ _ _ _ c.if-root-eq0.false owned entries (rw c.in-Absent.is at c.in_ok-remove_below.ensures.taken) w

pub returns-in-Done-None-clause-removes : goal.returns-in-Done-None-clause-removes
returns-in-Done-None-clause-removes g c = λ owned entries w. root_shrunk _ _ _ _ c.if-root-eq0.false owned entries (rw (c.in-Done-None.is ∙ ap Done c.in-Done-None.field-0-is) at c.in_ok-remove_below.ensures.taken) w

pub returns-in_err-root_over-in-Done-Some-clause-refusal : goal.returns-in_err-root_over-in-Done-Some-clause-refusal
returns-in_err-root_over-in-Done-Some-clause-refusal g c =
    err_passed c.from_residual-in_err-root_over-in-Done-Some.result c.in_err-root_over-in-Done-Some.field-0.0 _ c.from_residual-in_err-root_over-in-Done-Some.ensures.1
    (change_refused (g.S.PageSpace.at_limit c.root_over.new.space) _ _ (g.S.PageReader.refused c.args.space.now) (g.S.PageReader.refused c.remove_below.new.space) (g.S.PageReader.refused c.root_over.new.space) _
    c.in_ok-remove_below.ensures.rising
    (space_not_whole (g.S.PageReader.pages c.args.space.now) c.args.root (g.S.PageReader.is_whole c.args.space.now) (g.S.PageReader.is_whole c.remove_below.new.space) c.in_ok-remove_below.ensures.whole)
    c.in_err-root_over-in-Done-Some.ensures.refusal)

pub returns-in_ok-root_over-in-Done-Some-clause-removes : goal.returns-in_ok-root_over-in-Done-Some-clause-removes
returns-in_ok-root_over-in-Done-Some-clause-removes g c =
    λ owned entries w. root_over _ _ _ _ c.if-root-eq0.false owned entries _ c.in-Done-Some.branch _ (rw (c.in-Done-Some.is ∙ ap Done c.in-Done-Some.field-0-is) at c.in_ok-remove_below.ensures.taken) c.in_ok-root_over-in-Done-Some.ensures.over w

pub returns-in_err-free-in-Emptied-clause-refusal : goal.returns-in_err-free-in-Emptied-clause-refusal
returns-in_err-free-in-Emptied-clause-refusal g c =
    err_passed c.from_residual-in_err-free-in-Emptied.result c.in_err-free-in-Emptied.field-0.0 _ c.from_residual-in_err-free-in-Emptied.ensures.1
    (change_refused (g.S.PageSpace.at_limit c.free.new.self) _ _ (g.S.PageReader.refused c.args.space.now) (g.S.PageReader.refused c.remove_below.new.space) (g.S.PageReader.refused c.free.new.self) _
    c.in_ok-remove_below.ensures.rising
    (emptied_not_freed _ _ _ _ (g.S.PageReader.is_whole c.args.space.now) (g.S.PageReader.is_whole c.remove_below.new.space) c.if-root-eq0.false (rw c.in-Emptied.is at c.in_ok-remove_below.ensures.taken) c.in_ok-remove_below.ensures.whole)
    c.in_err-free-in-Emptied.ensures.refusal)

pub returns-in_ok-free-in-Emptied-clause-removes : goal.returns-in_ok-free-in-Emptied-clause-removes
returns-in_ok-free-in-Emptied-clause-removes g c =
    λ owned entries w. root_emptied _ _ _ _ c.if-root-eq0.false owned entries _ (rw c.in-Emptied.is at c.in_ok-remove_below.ensures.taken) c.in_ok-free-in-Emptied.ensures.freed c.in_ok-free-in-Emptied.ensures.others w

pub returns-in_err-free-in-Lone-clause-refusal : goal.returns-in_err-free-in-Lone-clause-refusal
returns-in_err-free-in-Lone-clause-refusal g c =
    err_passed c.from_residual-in_err-free-in-Lone.result c.in_err-free-in-Lone.field-0.0 _ c.from_residual-in_err-free-in-Lone.ensures.1
    (change_refused (g.S.PageSpace.at_limit c.free-in-Lone.new.self) _ _ (g.S.PageReader.refused c.args.space.now) (g.S.PageReader.refused c.remove_below.new.space) (g.S.PageReader.refused c.free-in-Lone.new.self) _
    c.in_ok-remove_below.ensures.rising
    (lone_not_freed _ _ _ c.in-Lone.only _ (g.S.PageReader.is_whole c.args.space.now) (g.S.PageReader.is_whole c.remove_below.new.space) c.if-root-eq0.false (rw c.in-Lone.is at c.in_ok-remove_below.ensures.taken) c.in_ok-remove_below.ensures.whole)
    c.in_err-free-in-Lone.ensures.refusal)

pub returns-in_ok-free-in-Lone-clause-removes : goal.returns-in_ok-free-in-Lone-clause-removes
returns-in_ok-free-in-Lone-clause-removes g c =
    λ owned entries w. root_lone _ _ _ _ c.if-root-eq0.false owned entries _ c.in-Lone.only (λ n h. g.met.S.PageReader.bounded _ n h) (rw c.in-Lone.is at c.in_ok-remove_below.ensures.taken)
    c.in_ok-free-in-Lone.ensures.freed c.in_ok-free-in-Lone.ensures.others w

pub returns-then-root-eq0-clause-whole : goal.returns-then-root-eq0-clause-whole
returns-then-root-eq0-clause-whole g c = λ w. w

pub returns-then-root-eq0-clause-refusal : goal.returns-then-root-eq0-clause-refusal
returns-then-root-eq0-clause-refusal g c = tt

pub returns-then-root-eq0-clause-follows : goal.returns-then-root-eq0-clause-follows
returns-then-root-eq0-clause-follows g c = g.met.S.PageReader.follows_refl _

pub returns-in_err-remove_below-clause-removes : goal.returns-in_err-remove_below-clause-removes
returns-in_err-remove_below-clause-removes g c = λ owned entries tree. never_ok c.from_residual.result _ _ c.from_residual.ensures.1

pub returns-in_err-remove_below-clause-whole : goal.returns-in_err-remove_below-clause-whole
returns-in_err-remove_below-clause-whole g c = never_ok c.from_residual.result _ _ c.from_residual.ensures.1

pub returns-in_err-remove_below-clause-rising : goal.returns-in_err-remove_below-clause-rising
returns-in_err-remove_below-clause-rising g c = c.remove_below.ensures.rising

pub returns-in_err-remove_below-clause-follows : goal.returns-in_err-remove_below-clause-follows
returns-in_err-remove_below-clause-follows g c = c.remove_below.ensures.follows

pub returns-in-Absent-clause-whole : goal.returns-in-Absent-clause-whole
returns-in-Absent-clause-whole g c = c.in_ok-remove_below.ensures.whole

pub returns-in-Absent-clause-refusal : goal.returns-in-Absent-clause-refusal
returns-in-Absent-clause-refusal g c = tt

pub returns-in-Absent-clause-rising : goal.returns-in-Absent-clause-rising
returns-in-Absent-clause-rising g c = c.remove_below.ensures.rising

pub returns-in-Absent-clause-follows : goal.returns-in-Absent-clause-follows
returns-in-Absent-clause-follows g c = c.remove_below.ensures.follows

pub returns-in-Done-None-clause-whole : goal.returns-in-Done-None-clause-whole
returns-in-Done-None-clause-whole g c = c.in_ok-remove_below.ensures.whole

pub returns-in-Done-None-clause-refusal : goal.returns-in-Done-None-clause-refusal
returns-in-Done-None-clause-refusal g c = tt

pub returns-in-Done-None-clause-rising : goal.returns-in-Done-None-clause-rising
returns-in-Done-None-clause-rising g c = c.remove_below.ensures.rising

pub returns-in-Done-None-clause-follows : goal.returns-in-Done-None-clause-follows
returns-in-Done-None-clause-follows g c = c.remove_below.ensures.follows

pub returns-in_err-root_over-in-Done-Some-clause-removes : goal.returns-in_err-root_over-in-Done-Some-clause-removes
returns-in_err-root_over-in-Done-Some-clause-removes g c = λ owned entries tree. never_ok c.from_residual-in_err-root_over-in-Done-Some.result _ _ c.from_residual-in_err-root_over-in-Done-Some.ensures.1

pub returns-in_err-root_over-in-Done-Some-clause-whole : goal.returns-in_err-root_over-in-Done-Some-clause-whole
returns-in_err-root_over-in-Done-Some-clause-whole g c = never_ok c.from_residual-in_err-root_over-in-Done-Some.result _ _ c.from_residual-in_err-root_over-in-Done-Some.ensures.1

pub returns-in_err-root_over-in-Done-Some-clause-rising : goal.returns-in_err-root_over-in-Done-Some-clause-rising
returns-in_err-root_over-in-Done-Some-clause-rising g c = le_trans c.remove_below.ensures.rising c.root_over.ensures.rising

pub returns-in_err-root_over-in-Done-Some-clause-follows : goal.returns-in_err-root_over-in-Done-Some-clause-follows
returns-in_err-root_over-in-Done-Some-clause-follows g c = g.met.S.PageReader.follows_trans _ _ _ c.remove_below.ensures.follows c.root_over.ensures.follows

pub returns-in_ok-root_over-in-Done-Some-clause-whole : goal.returns-in_ok-root_over-in-Done-Some-clause-whole
returns-in_ok-root_over-in-Done-Some-clause-whole g c = λ w. c.in_ok-root_over-in-Done-Some.ensures.whole (c.in_ok-remove_below.ensures.whole w)

pub returns-in_ok-root_over-in-Done-Some-clause-refusal : goal.returns-in_ok-root_over-in-Done-Some-clause-refusal
returns-in_ok-root_over-in-Done-Some-clause-refusal g c = tt

pub returns-in_ok-root_over-in-Done-Some-clause-rising : goal.returns-in_ok-root_over-in-Done-Some-clause-rising
returns-in_ok-root_over-in-Done-Some-clause-rising g c = le_trans c.remove_below.ensures.rising c.root_over.ensures.rising

pub returns-in_ok-root_over-in-Done-Some-clause-follows : goal.returns-in_ok-root_over-in-Done-Some-clause-follows
returns-in_ok-root_over-in-Done-Some-clause-follows g c = g.met.S.PageReader.follows_trans _ _ _ c.remove_below.ensures.follows c.root_over.ensures.follows

pub returns-in_err-free-in-Emptied-clause-removes : goal.returns-in_err-free-in-Emptied-clause-removes
returns-in_err-free-in-Emptied-clause-removes g c = λ owned entries tree. never_ok c.from_residual-in_err-free-in-Emptied.result _ _ c.from_residual-in_err-free-in-Emptied.ensures.1

pub returns-in_err-free-in-Emptied-clause-whole : goal.returns-in_err-free-in-Emptied-clause-whole
returns-in_err-free-in-Emptied-clause-whole g c = never_ok c.from_residual-in_err-free-in-Emptied.result _ _ c.from_residual-in_err-free-in-Emptied.ensures.1

pub returns-in_err-free-in-Emptied-clause-rising : goal.returns-in_err-free-in-Emptied-clause-rising
returns-in_err-free-in-Emptied-clause-rising g c = le_trans c.remove_below.ensures.rising c.free.ensures.rising

pub returns-in_err-free-in-Emptied-clause-follows : goal.returns-in_err-free-in-Emptied-clause-follows
returns-in_err-free-in-Emptied-clause-follows g c = g.met.S.PageReader.follows_trans _ _ _ c.remove_below.ensures.follows c.free.ensures.follows

pub returns-in_ok-free-in-Emptied-clause-whole : goal.returns-in_ok-free-in-Emptied-clause-whole
returns-in_ok-free-in-Emptied-clause-whole g c = λ w. c.in_ok-free-in-Emptied.ensures.whole (c.in_ok-remove_below.ensures.whole w)

pub returns-in_ok-free-in-Emptied-clause-refusal : goal.returns-in_ok-free-in-Emptied-clause-refusal
returns-in_ok-free-in-Emptied-clause-refusal g c = tt

pub returns-in_ok-free-in-Emptied-clause-rising : goal.returns-in_ok-free-in-Emptied-clause-rising
returns-in_ok-free-in-Emptied-clause-rising g c = le_trans c.remove_below.ensures.rising c.free.ensures.rising

pub returns-in_ok-free-in-Emptied-clause-follows : goal.returns-in_ok-free-in-Emptied-clause-follows
returns-in_ok-free-in-Emptied-clause-follows g c = g.met.S.PageReader.follows_trans _ _ _ c.remove_below.ensures.follows c.free.ensures.follows

pub returns-in_err-free-in-Lone-clause-removes : goal.returns-in_err-free-in-Lone-clause-removes
returns-in_err-free-in-Lone-clause-removes g c = λ owned entries tree. never_ok c.from_residual-in_err-free-in-Lone.result _ _ c.from_residual-in_err-free-in-Lone.ensures.1

pub returns-in_err-free-in-Lone-clause-whole : goal.returns-in_err-free-in-Lone-clause-whole
returns-in_err-free-in-Lone-clause-whole g c = never_ok c.from_residual-in_err-free-in-Lone.result _ _ c.from_residual-in_err-free-in-Lone.ensures.1

pub returns-in_err-free-in-Lone-clause-rising : goal.returns-in_err-free-in-Lone-clause-rising
returns-in_err-free-in-Lone-clause-rising g c = le_trans c.remove_below.ensures.rising c.free-in-Lone.ensures.rising

pub returns-in_err-free-in-Lone-clause-follows : goal.returns-in_err-free-in-Lone-clause-follows
returns-in_err-free-in-Lone-clause-follows g c = g.met.S.PageReader.follows_trans _ _ _ c.remove_below.ensures.follows c.free-in-Lone.ensures.follows

pub returns-in_ok-free-in-Lone-clause-whole : goal.returns-in_ok-free-in-Lone-clause-whole
returns-in_ok-free-in-Lone-clause-whole g c = λ w. c.in_ok-free-in-Lone.ensures.whole (c.in_ok-remove_below.ensures.whole w)

pub returns-in_ok-free-in-Lone-clause-refusal : goal.returns-in_ok-free-in-Lone-clause-refusal
returns-in_ok-free-in-Lone-clause-refusal g c = tt

pub returns-in_ok-free-in-Lone-clause-rising : goal.returns-in_ok-free-in-Lone-clause-rising
returns-in_ok-free-in-Lone-clause-rising g c = le_trans c.remove_below.ensures.rising c.free-in-Lone.ensures.rising

pub returns-in_ok-free-in-Lone-clause-follows : goal.returns-in_ok-free-in-Lone-clause-follows
returns-in_ok-free-in-Lone-clause-follows g c = g.met.S.PageReader.follows_trans _ _ _ c.remove_below.ensures.follows c.free-in-Lone.ensures.follows
