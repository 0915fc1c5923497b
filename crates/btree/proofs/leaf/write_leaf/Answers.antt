use Rattle.btree_read.proofs.NodeLemmas.{never_ok, err_passed}
use Rattle.std.proofs.Common.{le_trans, ◌≡◌, ◌∙◌, sym, ap, subst, arith, true, IsSome}
use Rattle.sqlrecord.specs.declared.kind.PageKind.TheVariants.{Leaf}
use Rattle.sqlrecord.specs.Build.{lent, Fits}
use Rattle.sqlrecord.specs.Page.{key_of, AreCells}
use Rattle.btree.proofs.CellLemmas.{are_take, are_drop, lent_take, lent_drop, now_at, first_formed, lent_length, leaf_is_cut}
use Rattle.btree.proofs.RefusalLemmas.{memory_refused, change_harm, change_refused, page_is_used, space_is_whole, still_used, now_used, none_found, leaf_not_cut, leaf_key_small}
use Rattle.btree.proofs.leaf.write_leaf.Goals as goal

pub cell_key-first-requires : goal.cell_key-first-requires
cell_key-first-requires g c = (first_formed Leaf _ _ _ _ c.requires c.split_at.ensures.back c.in-Some.ensures.cut.1).has_key

pub write_page-requires-2-clause-cells : goal.write_page-requires-2-clause-cells
write_page-requires-2-clause-cells g c = subst (AreCells Leaf) (sym (ap lent c.split_at.ensures.front ∙ lent_take c.args.cells.now c.in-Some.at)) (are_take Leaf _ c.in-Some.at c.requires)

pub write_page-requires-3-clause-cells : goal.write_page-requires-3-clause-cells
write_page-requires-3-clause-cells g c = subst (AreCells Leaf) (sym (ap lent c.split_at.ensures.back ∙ lent_drop c.args.cells.now c.in-Some.at)) (are_drop Leaf _ c.in-Some.at c.requires)

pub returns-clause-written : goal.returns-clause-written
returns-clause-written g c =
    λ used stocked. leaf_is_cut _ _ _ _ _ _ _ (lent c.args.cells.now) (lent c.split_at.result.0.now) (lent c.split_at.result.1.now) c.in-Some.at _
    c.in-Some.ensures.cut.0 (omega (arith, c.in-Some.ensures.cut.1, lent_length c.args.cells.now))
    (ap lent c.split_at.ensures.front ∙ lent_take c.args.cells.now c.in-Some.at) (ap lent c.split_at.ensures.back ∙ lent_drop c.args.cells.now c.in-Some.at)
    (c.in_ok-key.ensures ∙ c.cell_key-first.ensures ∙ ap key_of (sym (now_at c.split_at.result.1.now 0 _ (omega (arith, c.in-Some.ensures.cut.1, c.split_at.ensures.back_len)))))
    used c.in_ok-child.ensures.fresh.free c.in_ok-child.ensures.fresh.used c.in_ok-child.ensures.others
    c.in_ok-write_page-2.ensures.node c.in_ok-write_page-2.ensures.others c.in_ok-write_page-3.ensures.node c.in_ok-write_page-3.ensures.others stocked

pub returns-in_default-clause-refusal : goal.returns-in_default-clause-refusal
returns-in_default-clause-refusal g c =
    leaf_not_cut (lent c.args.cells.now) _ _ c.args.next c.requires (λ h. let yes : c.fits.result ≡ true = c.fits.ensures.1 h in cc (yes, c.if-fits.false))
    (λ w. let found : IsSome c.cut_of.result = c.cut_of.ensures.found (omega arith) (omega arith) w in none_found _ found c.in_default.not-Some)

pub returns-then-first-gt-MAXIMUM_KEY-clause-refusal : goal.returns-then-first-gt-MAXIMUM_KEY-clause-refusal
returns-then-first-gt-MAXIMUM_KEY-clause-refusal g c =
    leaf_key_small (lent c.args.cells.now) (lent c.split_at.result.1.now) c.in-Some.at _ _ _ c.args.next _ (ap lent c.split_at.ensures.back ∙ lent_drop c.args.cells.now c.in-Some.at)
    (omega (arith, c.in-Some.ensures.cut.1, lent_length c.args.cells.now))
    (c.cell_key-first.ensures ∙ ap key_of (sym (now_at c.split_at.result.1.now 0 _ (omega (arith, c.in-Some.ensures.cut.1, c.split_at.ensures.back_len))))) c.if-first-gt-MAXIMUM_KEY.true

pub returns-in_err-write_page-clause-written : goal.returns-in_err-write_page-clause-written
returns-in_err-write_page-clause-written g c = λ used stocked. never_ok c.from_residual.result _ _ c.from_residual.ensures.1

pub returns-in_err-write_page-clause-small : goal.returns-in_err-write_page-clause-small
returns-in_err-write_page-clause-small g c = never_ok c.from_residual.result _ _ c.from_residual.ensures.1

pub returns-in_err-write_page-clause-whole : goal.returns-in_err-write_page-clause-whole
returns-in_err-write_page-clause-whole g c = never_ok c.from_residual.result _ _ c.from_residual.ensures.1

pub returns-in_err-write_page-clause-refusal : goal.returns-in_err-write_page-clause-refusal
returns-in_err-write_page-clause-refusal g c =
    err_passed c.from_residual.result c.in_err-write_page.field-0.0 _ c.from_residual.ensures.1
    (change_harm (g.S.PageSpace.at_limit c.write_page.new.space) _ _ (g.S.PageReader.refused c.args.space.now) (g.S.PageReader.refused c.write_page.new.space) _ (page_is_used (g.S.PageReader.pages c.args.space.now) c.args.page _ _ _) c.in_err-write_page.ensures.refusal)

pub returns-in_err-write_page-clause-rising : goal.returns-in_err-write_page-clause-rising
returns-in_err-write_page-clause-rising g c = c.in_err-write_page.ensures.rising

pub returns-in_err-write_page-clause-follows : goal.returns-in_err-write_page-clause-follows
returns-in_err-write_page-clause-follows g c = c.in_err-write_page.ensures.follows

pub returns-then-fits-clause-written : goal.returns-then-fits-clause-written
returns-then-fits-clause-written g c = λ used stocked. (c.in_ok-write_page.ensures.node used stocked, c.in_ok-write_page.ensures.others)

pub returns-then-fits-clause-small : goal.returns-then-fits-clause-small
returns-then-fits-clause-small g c = tt

pub returns-then-fits-clause-refusal : goal.returns-then-fits-clause-refusal
returns-then-fits-clause-refusal g c = tt

pub returns-then-fits-clause-whole : goal.returns-then-fits-clause-whole
returns-then-fits-clause-whole g c = c.in_ok-write_page.ensures.whole

pub returns-then-fits-clause-rising : goal.returns-then-fits-clause-rising
returns-then-fits-clause-rising g c = c.in_ok-write_page.ensures.rising

pub returns-then-fits-clause-follows : goal.returns-then-fits-clause-follows
returns-then-fits-clause-follows g c = c.in_ok-write_page.ensures.follows

pub returns-in_default-clause-written : goal.returns-in_default-clause-written
returns-in_default-clause-written g c = λ used stocked. tt

pub returns-in_default-clause-small : goal.returns-in_default-clause-small
returns-in_default-clause-small g c = tt

pub returns-in_default-clause-whole : goal.returns-in_default-clause-whole
returns-in_default-clause-whole g c = tt

pub returns-in_default-clause-follows : goal.returns-in_default-clause-follows
returns-in_default-clause-follows g c = g.met.S.PageReader.follows_refl _

pub returns-then-first-gt-MAXIMUM_KEY-clause-written : goal.returns-then-first-gt-MAXIMUM_KEY-clause-written
returns-then-first-gt-MAXIMUM_KEY-clause-written g c = λ used stocked. tt

pub returns-then-first-gt-MAXIMUM_KEY-clause-small : goal.returns-then-first-gt-MAXIMUM_KEY-clause-small
returns-then-first-gt-MAXIMUM_KEY-clause-small g c = tt

pub returns-then-first-gt-MAXIMUM_KEY-clause-whole : goal.returns-then-first-gt-MAXIMUM_KEY-clause-whole
returns-then-first-gt-MAXIMUM_KEY-clause-whole g c = tt

pub returns-then-first-gt-MAXIMUM_KEY-clause-follows : goal.returns-then-first-gt-MAXIMUM_KEY-clause-follows
returns-then-first-gt-MAXIMUM_KEY-clause-follows g c = g.met.S.PageReader.follows_refl _

pub returns-in_err-key-clause-written : goal.returns-in_err-key-clause-written
returns-in_err-key-clause-written g c = λ used stocked. never_ok c.from_residual-in_err-key.result _ _ c.from_residual-in_err-key.ensures.1

pub returns-in_err-key-clause-small : goal.returns-in_err-key-clause-small
returns-in_err-key-clause-small g c = never_ok c.from_residual-in_err-key.result _ _ c.from_residual-in_err-key.ensures.1

pub returns-in_err-key-clause-whole : goal.returns-in_err-key-clause-whole
returns-in_err-key-clause-whole g c = never_ok c.from_residual-in_err-key.result _ _ c.from_residual-in_err-key.ensures.1

pub returns-in_err-key-clause-refusal : goal.returns-in_err-key-clause-refusal
returns-in_err-key-clause-refusal g c = memory_refused c.from_residual-in_err-key.result (g.S.PageSpace.at_limit c.args.space.now) _ _ _ c.from_residual-in_err-key.ensures.1

pub returns-in_err-key-clause-follows : goal.returns-in_err-key-clause-follows
returns-in_err-key-clause-follows g c = g.met.S.PageReader.follows_refl _

pub returns-in_err-child-clause-written : goal.returns-in_err-child-clause-written
returns-in_err-child-clause-written g c = λ used stocked. never_ok c.from_residual-in_err-child.result _ _ c.from_residual-in_err-child.ensures.1

pub returns-in_err-child-clause-small : goal.returns-in_err-child-clause-small
returns-in_err-child-clause-small g c = never_ok c.from_residual-in_err-child.result _ _ c.from_residual-in_err-child.ensures.1

pub returns-in_err-child-clause-whole : goal.returns-in_err-child-clause-whole
returns-in_err-child-clause-whole g c = never_ok c.from_residual-in_err-child.result _ _ c.from_residual-in_err-child.ensures.1

pub returns-in_err-child-clause-refusal : goal.returns-in_err-child-clause-refusal
returns-in_err-child-clause-refusal g c =
    err_passed c.from_residual-in_err-child.result c.in_err-child.field-0.0 _ c.from_residual-in_err-child.ensures.1
    (change_harm (g.S.PageSpace.at_limit c.allocate.new.self) _ _ (g.S.PageReader.refused c.args.space.now) (g.S.PageReader.refused c.allocate.new.self) _ (space_is_whole (g.S.PageReader.is_whole c.args.space.now) _ _ _) c.in_err-child.ensures.refusal)

pub returns-in_err-child-clause-rising : goal.returns-in_err-child-clause-rising
returns-in_err-child-clause-rising g c = c.in_err-child.ensures.rising

pub returns-in_err-child-clause-follows : goal.returns-in_err-child-clause-follows
returns-in_err-child-clause-follows g c = c.in_err-child.ensures.follows

pub returns-in_err-write_page-2-clause-written : goal.returns-in_err-write_page-2-clause-written
returns-in_err-write_page-2-clause-written g c = λ used stocked. never_ok c.from_residual-in_err-write_page-2.result _ _ c.from_residual-in_err-write_page-2.ensures.1

pub returns-in_err-write_page-2-clause-small : goal.returns-in_err-write_page-2-clause-small
returns-in_err-write_page-2-clause-small g c = never_ok c.from_residual-in_err-write_page-2.result _ _ c.from_residual-in_err-write_page-2.ensures.1

pub returns-in_err-write_page-2-clause-whole : goal.returns-in_err-write_page-2-clause-whole
returns-in_err-write_page-2-clause-whole g c = never_ok c.from_residual-in_err-write_page-2.result _ _ c.from_residual-in_err-write_page-2.ensures.1

pub returns-in_err-write_page-2-clause-refusal : goal.returns-in_err-write_page-2-clause-refusal
returns-in_err-write_page-2-clause-refusal g c =
    err_passed c.from_residual-in_err-write_page-2.result c.in_err-write_page-2.field-0.0 _ c.from_residual-in_err-write_page-2.ensures.1
    (change_refused (g.S.PageSpace.at_limit c.write_page-2.new.space) _ _ (g.S.PageReader.refused c.args.space.now) (g.S.PageReader.refused c.allocate.new.self) (g.S.PageReader.refused c.write_page-2.new.space) _ c.in_ok-child.ensures.rising
    (still_used (g.S.PageReader.pages c.args.space.now) (g.S.PageReader.pages c.allocate.new.self) c.args.page _ _ _ _ c.in_ok-child.ensures.fresh.free c.in_ok-child.ensures.others)
    c.in_err-write_page-2.ensures.refusal)

pub returns-in_err-write_page-2-clause-rising : goal.returns-in_err-write_page-2-clause-rising
returns-in_err-write_page-2-clause-rising g c = le_trans c.in_ok-child.ensures.rising c.in_err-write_page-2.ensures.rising

pub returns-in_err-write_page-2-clause-follows : goal.returns-in_err-write_page-2-clause-follows
returns-in_err-write_page-2-clause-follows g c = g.met.S.PageReader.follows_trans _ _ _ c.in_ok-child.ensures.follows c.in_err-write_page-2.ensures.follows

pub returns-in_err-write_page-3-clause-written : goal.returns-in_err-write_page-3-clause-written
returns-in_err-write_page-3-clause-written g c = λ used stocked. never_ok c.from_residual-in_err-write_page-3.result _ _ c.from_residual-in_err-write_page-3.ensures.1

pub returns-in_err-write_page-3-clause-small : goal.returns-in_err-write_page-3-clause-small
returns-in_err-write_page-3-clause-small g c = never_ok c.from_residual-in_err-write_page-3.result _ _ c.from_residual-in_err-write_page-3.ensures.1

pub returns-in_err-write_page-3-clause-whole : goal.returns-in_err-write_page-3-clause-whole
returns-in_err-write_page-3-clause-whole g c = never_ok c.from_residual-in_err-write_page-3.result _ _ c.from_residual-in_err-write_page-3.ensures.1

pub returns-in_err-write_page-3-clause-refusal : goal.returns-in_err-write_page-3-clause-refusal
returns-in_err-write_page-3-clause-refusal g c =
    err_passed c.from_residual-in_err-write_page-3.result c.in_err-write_page-3.field-0.0 _ c.from_residual-in_err-write_page-3.ensures.1
    (change_refused (g.S.PageSpace.at_limit c.write_page-3.new.space) _ _ (g.S.PageReader.refused c.args.space.now) (g.S.PageReader.refused c.write_page-2.new.space) (g.S.PageReader.refused c.write_page-3.new.space) _ (le_trans c.in_ok-child.ensures.rising c.in_ok-write_page-2.ensures.rising)
    (now_used (g.S.PageReader.pages c.args.space.now) (g.S.PageReader.pages c.allocate.new.self) (g.S.PageReader.pages c.write_page-2.new.space) c.args.page _ _ _ _ c.in_ok-child.ensures.fresh.free c.in_ok-child.ensures.fresh.used c.in_ok-write_page-2.ensures.others)
    c.in_err-write_page-3.ensures.refusal)

pub returns-in_err-write_page-3-clause-rising : goal.returns-in_err-write_page-3-clause-rising
returns-in_err-write_page-3-clause-rising g c = le_trans (le_trans c.in_ok-child.ensures.rising c.in_ok-write_page-2.ensures.rising) c.in_err-write_page-3.ensures.rising

pub returns-in_err-write_page-3-clause-follows : goal.returns-in_err-write_page-3-clause-follows
returns-in_err-write_page-3-clause-follows g c = g.met.S.PageReader.follows_trans _ _ _ (g.met.S.PageReader.follows_trans _ _ _ c.in_ok-child.ensures.follows c.in_ok-write_page-2.ensures.follows) c.in_err-write_page-3.ensures.follows

pub returns-clause-refusal : goal.returns-clause-refusal
returns-clause-refusal g c = tt

pub returns-clause-whole : goal.returns-clause-whole
returns-clause-whole g c = λ w. c.in_ok-write_page-3.ensures.whole (c.in_ok-write_page-2.ensures.whole (c.in_ok-child.ensures.whole w))

pub returns-clause-rising : goal.returns-clause-rising
returns-clause-rising g c = le_trans (le_trans c.in_ok-child.ensures.rising c.in_ok-write_page-2.ensures.rising) c.in_ok-write_page-3.ensures.rising

pub returns-clause-follows : goal.returns-clause-follows
returns-clause-follows g c = g.met.S.PageReader.follows_trans _ _ _ (g.met.S.PageReader.follows_trans _ _ _ c.in_ok-child.ensures.follows c.in_ok-write_page-2.ensures.follows) c.in_ok-write_page-3.ensures.follows

pub write_page-requires-clause-cells : goal.write_page-requires-clause-cells
write_page-requires-clause-cells g c = c.requires

pub write_page-requires-2-clause-fits : goal.write_page-requires-2-clause-fits
write_page-requires-2-clause-fits g c = subst Fits (sym (ap lent c.split_at.ensures.front ∙ lent_take c.args.cells.now c.in-Some.at)) c.in-Some.ensures.cut.3

pub write_page-requires-3-clause-fits : goal.write_page-requires-3-clause-fits
write_page-requires-3-clause-fits g c = subst Fits (sym (ap lent c.split_at.ensures.back ∙ lent_drop c.args.cells.now c.in-Some.at)) c.in-Some.ensures.cut.4
