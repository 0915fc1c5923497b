use Rattle.std.proofs.Common.{◌≡◌, ◌++◌, ◌∙◌, map, length, take, ap, sym, subst, refl, arith}
use Rattle.std.proofs.lemmas.List.{length-map, take_all}
use Rattle.sqlrecord.specs.declared.kind.PageKind.TheVariants.{Leaf}
use Rattle.btree_read.specs.Nodes.{entry_of}
use Rattle.btree_read.specs.Sorted.{Ascends}
use Rattle.btree.proofs.RunLemmas.{cells_ascend, run_put, shown_run}
use Rattle.btree.proofs.run.put_run.Goals as goal

pub returns-then-branch-clause-written : goal.returns-then-branch-clause-written
returns-then-branch-clause-written g c =
    let all = take_all (length c.args.more.now) (map entry_of c.args.more.now) (omega (arith, length-map c.args.more.now entry_of)) in
    λ node. run_put _ _ _ _ (length c.args.more.now) _ (map entry_of c.args.leaf.now.cells) (map entry_of c.args.more.now) _ c.requires.small refl
    (shown_run c.args.leaf.now.cells c.args.more.now _ (map entry_of c.args.more.now) (length c.args.more.now) refl (sym all)) node (c.in_ok-put_behind.ensures.written c.if-branch.true) c.in_ok-put_behind.ensures.others

pub returns-then-branch-clause-ascends : goal.returns-then-branch-clause-ascends
returns-then-branch-clause-ascends g c =
    let all = take_all (length c.args.more.now) (map entry_of c.args.more.now) (omega (arith, length-map c.args.more.now entry_of)) in
    λ h. subst Ascends (shown_run c.args.leaf.now.cells c.args.more.now _ (map entry_of c.args.more.now) (length c.args.more.now) refl (sym all)) (cells_ascend Leaf _ (c.in_ok-put_behind.ensures.cells c.if-branch.true))
