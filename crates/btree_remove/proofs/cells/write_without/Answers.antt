use Rattle.std.proofs.Common.{◌≡◌, sym, subst, true}
use Rattle.sqlrecord.specs.declared.kind.PageKind.{PageKind}
use Rattle.sqlrecord.specs.Page.{IsSound}
use Rattle.btree_remove.proofs.WithoutLemmas.{fits_without, are_without}
use Rattle.btree_remove.proofs.PageSteps.{written_without}
use Rattle.btree_remove.proofs.cells.write_without.Goals as goal

pub splice_page-requires-clause-cells : goal.splice_page-requires-clause-cells
splice_page-requires-clause-cells g c = are_without _ _ _ _ c.requires.order c.requires.within c.len-count.ensures.cells

pub unreachable-requires : goal.unreachable-requires
unreachable-requires g c =
    let yes : c.splice_page.result ≡ true = c.splice_page.ensures.fits.1 (fits_without _ _ _ c.requires.order c.requires.fits) in cc (yes, c.if-not-splice_page.true)

pub write_sound-requires : goal.write_sound-requires
write_sound-requires g c = subst (λ (k : PageKind). IsSound c.splice_page.new.page k) (sym c.kind.ensures) (c.splice_page.ensures.sound c.if-not-splice_page.false)

pub returns-clause-written : goal.returns-clause-written
returns-clause-written g c =
    written_without (g.S.PageReader.pages c.args.space.now) (g.S.PageReader.pages c.write_sound.new.space) _ _ _ _ _ _ _ c.write_sound.result c.kind.ensures (c.splice_page.ensures.link c.if-not-splice_page.false) (c.splice_page.ensures.cells c.if-not-splice_page.false) c.write_sound.ensures.node
