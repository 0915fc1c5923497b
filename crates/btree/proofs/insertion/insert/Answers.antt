use Rattle.btree_read.proofs.NodeLemmas.{never_ok, err_passed}
use Rattle.std.proofs.Common.{le_trans, ◌≡◌, ◌∙◌, ap}
use Rattle.btree_read.specs.Nodes.{IsSmallBranch, branch_of, entry_of}
use Rattle.btree.proofs.CellLemmas.{branch_is, entry_is}
use Rattle.btree.proofs.RootLemmas.{root_new, root_kept, root_up, root_new_keeps, root_kept_keeps, root_up_keeps}
use Rattle.btree.proofs.RefusalLemmas.{memory_refused, change_refused, whole_in_tree, taken_in_tree, change_harm, root_refused}
use Rattle.btree.proofs.insertion.insert.Goals as goal

pub returns-then-root-eq0-clause-inserts : goal.returns-then-root-eq0-clause-inserts
returns-then-root-eq0-clause-inserts g c =
    root_new _ _ _ _ _ _ _ c.as_slice.result.now c.if-root-eq0.true c.in_ok-page.ensures.fresh c.in_ok-page.ensures.others
    c.in_ok-write_page.ensures.node c.in_ok-write_page.ensures.others (ap entry_of c.as_slice.ensures ∙ entry_is _ _ _ c.in_ok-cell.ensures) c.requires

pub returns-in_err-write_page-in-Some-clause-follows : goal.returns-in_err-write_page-in-Some-clause-follows
returns-in_err-write_page-in-Some-clause-follows g c =
    g.met.S.PageReader.follows_trans _ _ _ c.in_ok-insert_below.ensures.follows
    (g.met.S.PageReader.follows_trans _ _ _ c.in_ok-page-in-Some.ensures.follows c.in_err-write_page-in-Some.ensures.follows)

pub returns-in-None-clause-inserts : goal.returns-in-None-clause-inserts
returns-in-None-clause-inserts g c = root_kept _ _ _ _ _ c.if-root-eq0.false (rw c.in-None.is at c.in_ok-insert_below.ensures.grows)

pub returns-in_ok-write_page-in-Some-clause-inserts : goal.returns-in_ok-write_page-in-Some-clause-inserts
returns-in_ok-write_page-in-Some-clause-inserts g c =
    let is : branch_of c.as_slice-in-Some-2.result.now ≡ c.in-Some.branch =
    ap branch_of c.as_slice-in-Some-2.ensures ∙ branch_is _ _ _ c.in_ok-cell-in-Some.ensures ∙ (λ i. record { key = c.as_slice-in-Some.ensures i; child = c.in-Some.branch.child }) in
    let small : IsSmallBranch c.in-Some.branch = rw c.in-Some.is at c.in_ok-insert_below.ensures.small in
    root_up _ _ _ _ _ _ c.in-Some.branch c.as_slice-in-Some-2.result.now _ _ c.if-root-eq0.false (rw c.in-Some.is at c.in_ok-insert_below.ensures.grows)
    c.in_ok-page-in-Some.ensures.fresh c.in_ok-page-in-Some.ensures.others c.in_ok-write_page-in-Some.ensures.node c.in_ok-write_page-in-Some.ensures.others is small

pub returns-in_ok-write_page-in-Some-clause-follows : goal.returns-in_ok-write_page-in-Some-clause-follows
returns-in_ok-write_page-in-Some-clause-follows g c =
    g.met.S.PageReader.follows_trans _ _ _ c.in_ok-insert_below.ensures.follows
    (g.met.S.PageReader.follows_trans _ _ _ c.in_ok-page-in-Some.ensures.follows c.in_ok-write_page-in-Some.ensures.follows)

pub returns-in_err-insert_below-clause-refusal : goal.returns-in_err-insert_below-clause-refusal
returns-in_err-insert_below-clause-refusal g c =
    err_passed c.from_residual-in_err-insert_below.result c.in_err-insert_below.field-0.0 _ c.from_residual-in_err-insert_below.ensures.1
    (change_harm (g.S.PageSpace.at_limit c.insert_below.new.space) _ _ (g.S.PageReader.refused c.args.space.now) (g.S.PageReader.refused c.insert_below.new.space) _ (root_refused (g.S.PageReader.pages c.args.space.now) c.args.root c.args.key.now (g.S.PageReader.is_whole c.args.space.now) (λ n h. g.met.S.PageReader.bounded _ n h) c.if-root-eq0.false) c.in_err-insert_below.ensures.refusal)

pub returns-then-root-eq0-clause-keeps : goal.returns-then-root-eq0-clause-keeps
returns-then-root-eq0-clause-keeps g c =
    root_new_keeps _ _ _ _ _ _ _ c.as_slice.result.now c.if-root-eq0.true c.in_ok-page.ensures.fresh c.in_ok-page.ensures.others
    c.in_ok-write_page.ensures.node c.in_ok-write_page.ensures.others (ap entry_of c.as_slice.ensures ∙ entry_is _ _ _ c.in_ok-cell.ensures) c.requires

pub returns-in-None-clause-keeps : goal.returns-in-None-clause-keeps
returns-in-None-clause-keeps g c = root_kept_keeps _ _ _ _ _ c.if-root-eq0.false (rw c.in-None.is at c.in_ok-insert_below.ensures.grows)

pub returns-in_ok-write_page-in-Some-clause-keeps : goal.returns-in_ok-write_page-in-Some-clause-keeps
returns-in_ok-write_page-in-Some-clause-keeps g c =
    let is : branch_of c.as_slice-in-Some-2.result.now ≡ c.in-Some.branch =
    ap branch_of c.as_slice-in-Some-2.ensures ∙ branch_is _ _ _ c.in_ok-cell-in-Some.ensures ∙ (λ i. record { key = c.as_slice-in-Some.ensures i; child = c.in-Some.branch.child }) in
    let small : IsSmallBranch c.in-Some.branch = rw c.in-Some.is at c.in_ok-insert_below.ensures.small in
    root_up_keeps _ _ _ _ _ _ c.in-Some.branch c.as_slice-in-Some-2.result.now _ _ c.if-root-eq0.false (rw c.in-Some.is at c.in_ok-insert_below.ensures.grows)
    c.in_ok-page-in-Some.ensures.fresh c.in_ok-page-in-Some.ensures.others c.in_ok-write_page-in-Some.ensures.node c.in_ok-write_page-in-Some.ensures.others is small

pub returns-in_err-cell-clause-inserts : goal.returns-in_err-cell-clause-inserts
returns-in_err-cell-clause-inserts g c = λ owned entries tree. never_ok c.from_residual.result _ _ c.from_residual.ensures.1

pub returns-in_err-cell-clause-keeps : goal.returns-in_err-cell-clause-keeps
returns-in_err-cell-clause-keeps g c = λ owned entries tree. never_ok c.from_residual.result _ _ c.from_residual.ensures.1

pub returns-in_err-cell-clause-whole : goal.returns-in_err-cell-clause-whole
returns-in_err-cell-clause-whole g c = never_ok c.from_residual.result _ _ c.from_residual.ensures.1

pub returns-in_err-cell-clause-refusal : goal.returns-in_err-cell-clause-refusal
returns-in_err-cell-clause-refusal g c = memory_refused c.from_residual.result (g.S.PageSpace.at_limit c.args.space.now) _ _ _ c.from_residual.ensures.1

pub returns-in_err-cell-clause-follows : goal.returns-in_err-cell-clause-follows
returns-in_err-cell-clause-follows g c = g.met.S.PageReader.follows_refl _

pub returns-in_err-page-clause-inserts : goal.returns-in_err-page-clause-inserts
returns-in_err-page-clause-inserts g c = λ owned entries tree. never_ok c.from_residual-in_err-page.result _ _ c.from_residual-in_err-page.ensures.1

pub returns-in_err-page-clause-keeps : goal.returns-in_err-page-clause-keeps
returns-in_err-page-clause-keeps g c = λ owned entries tree. never_ok c.from_residual-in_err-page.result _ _ c.from_residual-in_err-page.ensures.1

pub returns-in_err-page-clause-whole : goal.returns-in_err-page-clause-whole
returns-in_err-page-clause-whole g c = never_ok c.from_residual-in_err-page.result _ _ c.from_residual-in_err-page.ensures.1

pub returns-in_err-page-clause-refusal : goal.returns-in_err-page-clause-refusal
returns-in_err-page-clause-refusal g c =
    err_passed c.from_residual-in_err-page.result c.in_err-page.field-0.0 _ c.from_residual-in_err-page.ensures.1
    (change_harm (g.S.PageSpace.at_limit c.allocate.new.self) _ _ (g.S.PageReader.refused c.args.space.now) (g.S.PageReader.refused c.allocate.new.self) _ (whole_in_tree (g.S.PageReader.pages c.args.space.now) c.args.root (g.S.PageReader.is_whole c.args.space.now) (g.S.PageReader.is_whole c.args.space.now) (λ w. w)) c.in_err-page.ensures.refusal)

pub returns-in_err-page-clause-rising : goal.returns-in_err-page-clause-rising
returns-in_err-page-clause-rising g c = c.in_err-page.ensures.rising

pub returns-in_err-page-clause-follows : goal.returns-in_err-page-clause-follows
returns-in_err-page-clause-follows g c = c.in_err-page.ensures.follows

pub returns-in_err-write_page-clause-inserts : goal.returns-in_err-write_page-clause-inserts
returns-in_err-write_page-clause-inserts g c = λ owned entries tree. never_ok c.from_residual-in_err-write_page.result _ _ c.from_residual-in_err-write_page.ensures.1

pub returns-in_err-write_page-clause-keeps : goal.returns-in_err-write_page-clause-keeps
returns-in_err-write_page-clause-keeps g c = λ owned entries tree. never_ok c.from_residual-in_err-write_page.result _ _ c.from_residual-in_err-write_page.ensures.1

pub returns-in_err-write_page-clause-whole : goal.returns-in_err-write_page-clause-whole
returns-in_err-write_page-clause-whole g c = never_ok c.from_residual-in_err-write_page.result _ _ c.from_residual-in_err-write_page.ensures.1

pub returns-in_err-write_page-clause-refusal : goal.returns-in_err-write_page-clause-refusal
returns-in_err-write_page-clause-refusal g c =
    err_passed c.from_residual-in_err-write_page.result c.in_err-write_page.field-0.0 _ c.from_residual-in_err-write_page.ensures.1
    (change_refused (g.S.PageSpace.at_limit c.write_page.new.space) _ _ (g.S.PageReader.refused c.args.space.now) (g.S.PageReader.refused c.allocate.new.self) (g.S.PageReader.refused c.write_page.new.space) _ c.in_ok-page.ensures.rising
    (taken_in_tree (g.S.PageReader.pages c.args.space.now) c.args.root (g.S.PageReader.is_whole c.args.space.now) (g.S.PageReader.pages c.allocate.new.self) c.in_ok-page.page c.in_ok-page.ensures.fresh.used)
    c.in_err-write_page.ensures.refusal)

pub returns-in_err-write_page-clause-rising : goal.returns-in_err-write_page-clause-rising
returns-in_err-write_page-clause-rising g c = le_trans c.in_ok-page.ensures.rising c.in_err-write_page.ensures.rising

pub returns-in_err-write_page-clause-follows : goal.returns-in_err-write_page-clause-follows
returns-in_err-write_page-clause-follows g c = g.met.S.PageReader.follows_trans _ _ _ c.in_ok-page.ensures.follows c.in_err-write_page.ensures.follows

pub returns-then-root-eq0-clause-whole : goal.returns-then-root-eq0-clause-whole
returns-then-root-eq0-clause-whole g c = λ w. c.in_ok-write_page.ensures.whole (c.in_ok-page.ensures.whole w)

pub returns-then-root-eq0-clause-refusal : goal.returns-then-root-eq0-clause-refusal
returns-then-root-eq0-clause-refusal g c = tt

pub returns-then-root-eq0-clause-rising : goal.returns-then-root-eq0-clause-rising
returns-then-root-eq0-clause-rising g c = le_trans c.in_ok-page.ensures.rising c.in_ok-write_page.ensures.rising

pub returns-then-root-eq0-clause-follows : goal.returns-then-root-eq0-clause-follows
returns-then-root-eq0-clause-follows g c = g.met.S.PageReader.follows_trans _ _ _ c.in_ok-page.ensures.follows c.in_ok-write_page.ensures.follows

pub returns-in_err-insert_below-clause-inserts : goal.returns-in_err-insert_below-clause-inserts
returns-in_err-insert_below-clause-inserts g c = λ owned entries tree. never_ok c.from_residual-in_err-insert_below.result _ _ c.from_residual-in_err-insert_below.ensures.1

pub returns-in_err-insert_below-clause-keeps : goal.returns-in_err-insert_below-clause-keeps
returns-in_err-insert_below-clause-keeps g c = λ owned entries tree. never_ok c.from_residual-in_err-insert_below.result _ _ c.from_residual-in_err-insert_below.ensures.1

pub returns-in_err-insert_below-clause-whole : goal.returns-in_err-insert_below-clause-whole
returns-in_err-insert_below-clause-whole g c = never_ok c.from_residual-in_err-insert_below.result _ _ c.from_residual-in_err-insert_below.ensures.1

pub returns-in_err-insert_below-clause-rising : goal.returns-in_err-insert_below-clause-rising
returns-in_err-insert_below-clause-rising g c = c.in_err-insert_below.ensures.rising

pub returns-in_err-insert_below-clause-follows : goal.returns-in_err-insert_below-clause-follows
returns-in_err-insert_below-clause-follows g c = c.in_err-insert_below.ensures.follows

pub returns-in-None-clause-whole : goal.returns-in-None-clause-whole
returns-in-None-clause-whole g c = c.in_ok-insert_below.ensures.whole

pub returns-in-None-clause-refusal : goal.returns-in-None-clause-refusal
returns-in-None-clause-refusal g c = tt

pub returns-in-None-clause-rising : goal.returns-in-None-clause-rising
returns-in-None-clause-rising g c = c.in_ok-insert_below.ensures.rising

pub returns-in-None-clause-follows : goal.returns-in-None-clause-follows
returns-in-None-clause-follows g c = c.in_ok-insert_below.ensures.follows

pub returns-in_err-cell-in-Some-clause-inserts : goal.returns-in_err-cell-in-Some-clause-inserts
returns-in_err-cell-in-Some-clause-inserts g c = λ owned entries tree. never_ok c.from_residual-in_err-cell-in-Some.result _ _ c.from_residual-in_err-cell-in-Some.ensures.1

pub returns-in_err-cell-in-Some-clause-keeps : goal.returns-in_err-cell-in-Some-clause-keeps
returns-in_err-cell-in-Some-clause-keeps g c = λ owned entries tree. never_ok c.from_residual-in_err-cell-in-Some.result _ _ c.from_residual-in_err-cell-in-Some.ensures.1

pub returns-in_err-cell-in-Some-clause-whole : goal.returns-in_err-cell-in-Some-clause-whole
returns-in_err-cell-in-Some-clause-whole g c = never_ok c.from_residual-in_err-cell-in-Some.result _ _ c.from_residual-in_err-cell-in-Some.ensures.1

pub returns-in_err-cell-in-Some-clause-refusal : goal.returns-in_err-cell-in-Some-clause-refusal
returns-in_err-cell-in-Some-clause-refusal g c = memory_refused c.from_residual-in_err-cell-in-Some.result (g.S.PageSpace.at_limit c.insert_below.new.space) _ _ _ c.from_residual-in_err-cell-in-Some.ensures.1

pub returns-in_err-cell-in-Some-clause-rising : goal.returns-in_err-cell-in-Some-clause-rising
returns-in_err-cell-in-Some-clause-rising g c = c.in_ok-insert_below.ensures.rising

pub returns-in_err-cell-in-Some-clause-follows : goal.returns-in_err-cell-in-Some-clause-follows
returns-in_err-cell-in-Some-clause-follows g c = c.in_ok-insert_below.ensures.follows

pub returns-in_err-page-in-Some-clause-inserts : goal.returns-in_err-page-in-Some-clause-inserts
returns-in_err-page-in-Some-clause-inserts g c = λ owned entries tree. never_ok c.from_residual-in_err-page-in-Some.result _ _ c.from_residual-in_err-page-in-Some.ensures.1

pub returns-in_err-page-in-Some-clause-keeps : goal.returns-in_err-page-in-Some-clause-keeps
returns-in_err-page-in-Some-clause-keeps g c = λ owned entries tree. never_ok c.from_residual-in_err-page-in-Some.result _ _ c.from_residual-in_err-page-in-Some.ensures.1

pub returns-in_err-page-in-Some-clause-whole : goal.returns-in_err-page-in-Some-clause-whole
returns-in_err-page-in-Some-clause-whole g c = never_ok c.from_residual-in_err-page-in-Some.result _ _ c.from_residual-in_err-page-in-Some.ensures.1

pub returns-in_err-page-in-Some-clause-refusal : goal.returns-in_err-page-in-Some-clause-refusal
returns-in_err-page-in-Some-clause-refusal g c =
    err_passed c.from_residual-in_err-page-in-Some.result c.in_err-page-in-Some.field-0.0 _ c.from_residual-in_err-page-in-Some.ensures.1
    (change_refused (g.S.PageSpace.at_limit c.allocate-in-Some.new.self) _ _ (g.S.PageReader.refused c.args.space.now) (g.S.PageReader.refused c.insert_below.new.space) (g.S.PageReader.refused c.allocate-in-Some.new.self) _ c.in_ok-insert_below.ensures.rising
    (whole_in_tree (g.S.PageReader.pages c.args.space.now) c.args.root (g.S.PageReader.is_whole c.args.space.now) (g.S.PageReader.is_whole c.insert_below.new.space) c.in_ok-insert_below.ensures.whole)
    c.in_err-page-in-Some.ensures.refusal)

pub returns-in_err-page-in-Some-clause-rising : goal.returns-in_err-page-in-Some-clause-rising
returns-in_err-page-in-Some-clause-rising g c = le_trans c.in_ok-insert_below.ensures.rising c.in_err-page-in-Some.ensures.rising

pub returns-in_err-page-in-Some-clause-follows : goal.returns-in_err-page-in-Some-clause-follows
returns-in_err-page-in-Some-clause-follows g c = g.met.S.PageReader.follows_trans _ _ _ c.in_ok-insert_below.ensures.follows c.in_err-page-in-Some.ensures.follows

pub returns-in_err-write_page-in-Some-clause-inserts : goal.returns-in_err-write_page-in-Some-clause-inserts
returns-in_err-write_page-in-Some-clause-inserts g c = λ owned entries tree. never_ok c.from_residual-in_err-write_page-in-Some.result _ _ c.from_residual-in_err-write_page-in-Some.ensures.1

pub returns-in_err-write_page-in-Some-clause-keeps : goal.returns-in_err-write_page-in-Some-clause-keeps
returns-in_err-write_page-in-Some-clause-keeps g c = λ owned entries tree. never_ok c.from_residual-in_err-write_page-in-Some.result _ _ c.from_residual-in_err-write_page-in-Some.ensures.1

pub returns-in_err-write_page-in-Some-clause-whole : goal.returns-in_err-write_page-in-Some-clause-whole
returns-in_err-write_page-in-Some-clause-whole g c = never_ok c.from_residual-in_err-write_page-in-Some.result _ _ c.from_residual-in_err-write_page-in-Some.ensures.1

pub returns-in_err-write_page-in-Some-clause-refusal : goal.returns-in_err-write_page-in-Some-clause-refusal
returns-in_err-write_page-in-Some-clause-refusal g c =
    err_passed c.from_residual-in_err-write_page-in-Some.result c.in_err-write_page-in-Some.field-0.0 _ c.from_residual-in_err-write_page-in-Some.ensures.1
    (change_refused (g.S.PageSpace.at_limit c.write_page-in-Some.new.space) _ _ (g.S.PageReader.refused c.args.space.now) (g.S.PageReader.refused c.allocate-in-Some.new.self) (g.S.PageReader.refused c.write_page-in-Some.new.space) _ (le_trans c.in_ok-insert_below.ensures.rising c.in_ok-page-in-Some.ensures.rising)
    (taken_in_tree (g.S.PageReader.pages c.args.space.now) c.args.root (g.S.PageReader.is_whole c.args.space.now) (g.S.PageReader.pages c.allocate-in-Some.new.self) c.in_ok-page-in-Some.page c.in_ok-page-in-Some.ensures.fresh.used)
    c.in_err-write_page-in-Some.ensures.refusal)

pub returns-in_err-write_page-in-Some-clause-rising : goal.returns-in_err-write_page-in-Some-clause-rising
returns-in_err-write_page-in-Some-clause-rising g c = le_trans (le_trans c.in_ok-insert_below.ensures.rising c.in_ok-page-in-Some.ensures.rising) c.in_err-write_page-in-Some.ensures.rising

pub returns-in_ok-write_page-in-Some-clause-whole : goal.returns-in_ok-write_page-in-Some-clause-whole
returns-in_ok-write_page-in-Some-clause-whole g c = λ w. c.in_ok-write_page-in-Some.ensures.whole (c.in_ok-page-in-Some.ensures.whole (c.in_ok-insert_below.ensures.whole w))

pub returns-in_ok-write_page-in-Some-clause-refusal : goal.returns-in_ok-write_page-in-Some-clause-refusal
returns-in_ok-write_page-in-Some-clause-refusal g c = tt

pub returns-in_ok-write_page-in-Some-clause-rising : goal.returns-in_ok-write_page-in-Some-clause-rising
returns-in_ok-write_page-in-Some-clause-rising g c = le_trans (le_trans c.in_ok-insert_below.ensures.rising c.in_ok-page-in-Some.ensures.rising) c.in_ok-write_page-in-Some.ensures.rising
