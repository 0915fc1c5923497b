use Rattle.btree_read.proofs.NodeLemmas.{never_ok}
use Rattle.std.proofs.Common.{◌≡◌, ◌∙◌, sym, ap, subst, map, IsSome}
use Rattle.sqlrecord.specs.Build.{lent}
use Rattle.btree_read.specs.Nodes.{entry_of}
use Rattle.btree.proofs.CellLemmas.{stocked_put, spliced_in, put_in_written, entry_is}
use Rattle.std.proofs.Common.{true}
use Rattle.sqlrecord.specs.declared.kind.PageKind.TheVariants.{Leaf}
use Rattle.sqlrecord.specs.Page.{AreCells}
use Rattle.btree_read.specs.Nodes.{precedes}
use Rattle.btree_read.proofs.PlaceLemmas.{key_at}
use Rattle.btree.proofs.WithLemmas.{are_with}
use Rattle.btree.proofs.RefusalLemmas.{memory_refused, change_harm_on, put_refused}
use Rattle.btree.proofs.leaf.put_in_leaf.Goals as goal

pub returns-clause-written : goal.returns-clause-written
returns-clause-written g c =
    λ value cell small used stocked.
    put_in_written _ _ _ _ _ _ _ _ c.link-link.ensures (c.place_of-at.ensures.put value _ (entry_is _ _ _ cell) ∙ ap (map entry_of) (sym (ap lent c.as_slice.ensures.value ∙ c.in_ok-cells.ensures.with)))
    (stocked_put c.args.leaf.now.link _ _ _ small stocked) (c.write_leaf.ensures.written used)

pub splice_page-requires-clause-cells : goal.splice_page-requires-clause-cells
splice_page-requires-clause-cells g c =
    rw c.requires.leaf (are_with Leaf c.args.leaf.now.cells _ _ c.args.cell.now c.place_of-at.ensures.order c.place_of-at.ensures.within
    (subst (λ k. AreCells k c.args.leaf.now.cells) c.requires.leaf c.len.ensures.cells) c.requires.cell
    (λ i h. subst (λ k. precedes (key_at c.args.leaf.now.cells i) k ≡ true) (sym c.requires.key) (c.place_of-at.ensures.before i h))
    (λ i h l. subst (λ k. precedes k (key_at c.args.leaf.now.cells i) ≡ true) (sym c.requires.key) (c.place_of-at.ensures.behind i h l)))

pub returns-then-splice_page-clause-written : goal.returns-then-splice_page-clause-written
returns-then-splice_page-clause-written g c =
    λ value cell small used stocked.
    spliced_in _ _ _ _ _ _ _ _ (c.splice_page.ensures.link c.if-splice_page.true ∙ c.link-link.ensures) (c.splice_page.ensures.cells c.if-splice_page.true) (c.place_of-at.ensures.put value _ (entry_is _ _ _ cell))
    (stocked_put c.args.leaf.now.link _ _ _ small stocked) (c.in_ok-write_sound.ensures.node used) c.in_ok-write_sound.ensures.others

pub write_leaf-requires : goal.write_leaf-requires
write_leaf-requires g c =
    subst (AreCells Leaf) (sym (ap lent c.as_slice.ensures.value ∙ c.in_ok-cells.ensures.with))
    (are_with Leaf c.args.leaf.now.cells _ _ c.args.cell.now c.place_of-at.ensures.order c.place_of-at.ensures.within
    (subst (λ k. AreCells k c.args.leaf.now.cells) c.requires.leaf c.in_ok-cells.ensures.cells) c.requires.cell
    (λ i h. subst (λ k. precedes (key_at c.args.leaf.now.cells i) k ≡ true) (sym c.requires.key) (c.place_of-at.ensures.before i h))
    (λ i h l. subst (λ k. precedes k (key_at c.args.leaf.now.cells i) ≡ true) (sym c.requires.key) (c.place_of-at.ensures.behind i h l)))

pub returns-clause-refusal : goal.returns-clause-refusal
returns-clause-refusal g c =
    change_harm_on c.write_leaf.result (g.S.PageSpace.at_limit c.write_leaf.new.space) _ _ (g.S.PageReader.refused c.args.space.now) (g.S.PageReader.refused c.write_leaf.new.space)
    (put_refused (IsSome (g.S.PageReader.pages c.args.space.now c.args.page)) (g.S.PageReader.is_whole c.args.space.now) c.args.leaf.now.cells _ _ _ _ _ c.args.leaf.now.link (ap lent c.as_slice.ensures.value ∙ c.in_ok-cells.ensures.with) c.place_of-at.ensures.order c.requires.fits c.requires.cell c.place_of-at.ensures.put)
    c.write_leaf.ensures.refusal

pub returns-in_err-cells-clause-written : goal.returns-in_err-cells-clause-written
returns-in_err-cells-clause-written g c = λ value cell small used stocked. never_ok c.from_residual-in_err-cells.result _ _ c.from_residual-in_err-cells.ensures.1

pub returns-in_err-cells-clause-small : goal.returns-in_err-cells-clause-small
returns-in_err-cells-clause-small g c = never_ok c.from_residual-in_err-cells.result _ _ c.from_residual-in_err-cells.ensures.1

pub returns-in_err-cells-clause-whole : goal.returns-in_err-cells-clause-whole
returns-in_err-cells-clause-whole g c = never_ok c.from_residual-in_err-cells.result _ _ c.from_residual-in_err-cells.ensures.1

pub returns-in_err-cells-clause-refusal : goal.returns-in_err-cells-clause-refusal
returns-in_err-cells-clause-refusal g c = memory_refused c.from_residual-in_err-cells.result (g.S.PageSpace.at_limit c.args.space.now) _ _ _ c.from_residual-in_err-cells.ensures.1

pub returns-in_err-cells-clause-follows : goal.returns-in_err-cells-clause-follows
returns-in_err-cells-clause-follows g c = g.met.S.PageReader.follows_refl _

pub returns-clause-small : goal.returns-clause-small
returns-clause-small g c = c.write_leaf.ensures.small

pub returns-clause-whole : goal.returns-clause-whole
returns-clause-whole g c = c.write_leaf.ensures.whole

pub returns-clause-rising : goal.returns-clause-rising
returns-clause-rising g c = c.write_leaf.ensures.rising

pub returns-clause-follows : goal.returns-clause-follows
returns-clause-follows g c = c.write_leaf.ensures.follows
