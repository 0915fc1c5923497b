use Rattle.std.proofs.lemmas.Result.{err_from_is_err_and}
use Rattle.btree.proofs.RefusalLemmas.{change_refused_on, read_as_change, both_rise}
use Rattle.btree_remove.proofs.DropLemmas.{dropped_nothing, dropped_again, linked_first, no_tree_either, no_tree_seen, whole_first}
use Rattle.btree_remove.proofs.tree.drop_tree.Goals as goal

pub returns-then-root-eq0-clause-dropped : goal.returns-then-root-eq0-clause-dropped
returns-then-root-eq0-clause-dropped g c = dropped_nothing _ _ c.if-root-eq0.true

pub returns-then-root-eq0-clause-linked : goal.returns-then-root-eq0-clause-linked
returns-then-root-eq0-clause-linked g c = λ d t nz w. absurd (nz c.if-root-eq0.true)

pub returns-clause-dropped : goal.returns-clause-dropped
returns-clause-dropped g c =
    dropped_again (g.S.PageReader.pages c.args.space.now) (g.S.PageReader.pages c.scan.new.space) (g.S.PageReader.pages c.drop_below.new.space) c.args.root c.drop_below.result
    c.scan.ensures.same c.if-root-eq0.false c.drop_below.ensures.dropped

pub returns-clause-linked : goal.returns-clause-linked
returns-clause-linked g c = linked_first (g.S.PageReader.pages c.args.space.now) c.args.root _ c.drop_below.result c.in_ok-scan.ensures.links

pub returns-clause-whole : goal.returns-clause-whole
returns-clause-whole g c =
    whole_first c.drop_below.result (g.S.PageReader.is_whole c.args.space.now) (g.S.PageReader.is_whole c.scan.new.space) (g.S.PageReader.is_whole c.drop_below.new.space)
    c.scan.ensures.whole c.drop_below.ensures.whole

pub returns-clause-refusal : goal.returns-clause-refusal
returns-clause-refusal g c =
    change_refused_on c.drop_below.result (g.S.PageSpace.at_limit c.drop_below.new.space) _ _ (g.S.PageReader.refused c.args.space.now) (g.S.PageReader.refused c.scan.new.space) (g.S.PageReader.refused c.drop_below.new.space) c.scan.ensures.rising
    (no_tree_seen (g.S.PageReader.pages c.args.space.now) (g.S.PageReader.pages c.scan.new.space) c.args.root (g.S.PageReader.is_whole c.args.space.now) (g.S.PageReader.is_whole c.scan.new.space)
    c.scan.ensures.same c.scan.ensures.whole (λ n h. g.met.S.PageReader.bounded _ n h) c.if-root-eq0.false) c.drop_below.ensures.refusal

pub returns-clause-rising : goal.returns-clause-rising
returns-clause-rising g c = both_rise _ _ _ c.scan.ensures.rising c.drop_below.ensures.rising

pub returns-clause-follows : goal.returns-clause-follows
returns-clause-follows g c = g.met.S.PageReader.follows_trans _ _ _ c.scan.ensures.follows c.drop_below.ensures.follows

pub returns-in_err-scan-clause-refusal : goal.returns-in_err-scan-clause-refusal
returns-in_err-scan-clause-refusal g c =
    let p = err_from_is_err_and c.from_residual.result c.from_residual.ensures.1 in
    rw (p.1, p.2) (read_as_change (g.S.PageSpace.at_limit c.scan.new.space) _ _ _ _ _ (no_tree_either _ _ _) c.in_err-scan.ensures.refusal)
