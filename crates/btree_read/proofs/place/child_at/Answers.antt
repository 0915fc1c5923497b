use Rattle.std.proofs.Common.{◌≡◌, ◌-◌, suc, sym, ap, ◌∙◌, map, arith}
use Rattle.btree_read.specs.Nodes.{branch_of}
use Rattle.btree_read.specs.Search.{child_at as child_of}
use Rattle.btree_read.proofs.PlaceLemmas.{child_first, child_later}
use Rattle.btree_read.proofs.place.child_at.Goals as goal

pub returns-then-at-eq0 : goal.returns-then-at-eq0
returns-then-at-eq0 c = rw (c.if-at-eq0.true, c.link.ensures) (sym (child_first c.args.page.now.link c.args.page.now.cells))

pub returns-else-at-eq0 : goal.returns-else-at-eq0
returns-else-at-eq0 c =
    let e : c.args.at ≡ suc (c.args.at - 1) = omega arith in
    c.child.ensures ∙ sym (ap (child_of c.args.page.now.link (map branch_of c.args.page.now.cells)) e ∙ child_later c.args.page.now.link c.args.page.now.cells (c.args.at - 1) (omega arith))
