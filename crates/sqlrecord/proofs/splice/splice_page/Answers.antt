use Rattle.std.proofs.Common.{◌≡◌, ◌+◌, ◌-◌, ◌*◌, ◌≤◌, ◌∙◌, length, refl, sym, ap, subst, arith, false, true}
use Rattle.sqlrecord.specs.declared.kind.PageKind.{PageKind}
use Rattle.sqlrecord.specs.Page.{AreCells, IsSound, cells_of, count_of, kind_byte}
use Rattle.sqlrecord.specs.Build.{lent, Fits, page_of}
use Rattle.sqlrecord.specs.Splice.{cells_with}
use Rattle.sqlrecord.proofs.PageLemmas.{length_cells}
use Rattle.sqlrecord.proofs.BuildLemmas.{assembled, put_together}
use Rattle.sqlrecord.proofs.SpliceLemmas.{with_is}
use Rattle.sqlrecord.proofs.splice.splice_page.Goals as goal

pub room_with-requires-clause-within : goal.room_with-requires-clause-within
room_with-requires-clause-within c = omega (arith, c.requires.within, ap length c.bytes-old.ensures.cells, length_cells c.bytes-old.result.now)

pub returns-in_default-clause-fits : goal.returns-in_default-clause-fits
returns-in_default-clause-fits c =
    let count = length_cells c.bytes-old.result.now in
    let same = with_is c.bytes-old.result.now c.args.at c.args.behind (lent c.args.cells.now) c.args.node.now.cells (omega (arith, c.requires.order, c.requires.within, ap length c.bytes-old.ensures.cells, count)) c.bytes-old.ensures.cells in (
      λ wrong. absurd (let no : false ≡ true = wrong in cc no),
      λ fits. absurd (c.in_default.ensures.none refl (subst Fits (sym same) fits)),
    )

pub put_slots_with-place-requires-clause-within : goal.put_slots_with-place-requires-clause-within
put_slots_with-place-requires-clause-within c = omega (arith, c.requires.within, ap length c.bytes-old.ensures.cells, length_cells c.bytes-old.result.now)

pub put_cells_with-requires-clause-within : goal.put_cells_with-requires-clause-within
put_cells_with-requires-clause-within c = omega (arith, c.requires.within, ap length c.bytes-old.ensures.cells, length_cells c.bytes-old.result.now)

pub returns-clause-fits : goal.returns-clause-fits
returns-clause-fits c =
    let count = length_cells c.bytes-old.result.now in
    let same = with_is c.bytes-old.result.now c.args.at c.args.behind (lent c.args.cells.now) c.args.node.now.cells (omega (arith, c.requires.order, c.requires.within, ap length c.bytes-old.ensures.cells, count)) c.bytes-old.ensures.cells in (
      λ yes. subst Fits same c.in-Some.ensures.fits,
      λ fits. refl,
    )

pub returns-clause-bytes : goal.returns-clause-bytes
returns-clause-bytes c =
    let count = length_cells c.bytes-old.result.now in
    let same = with_is c.bytes-old.result.now c.args.at c.args.behind (lent c.args.cells.now) c.args.node.now.cells (omega (arith, c.requires.order, c.requires.within, ap length c.bytes-old.ensures.cells, count)) c.bytes-old.ensures.cells in
    λ yes. put_together (kind_byte c.kind.result) c.args.link (cells_with c.bytes-old.result.now c.args.at c.args.behind (lent c.args.cells.now)) _ _ _ _ c.in-Some.start c.in-Some.slots _ _ c.in-Some.ensures.start c.in-Some.ensures.slots c.put_head-place.ensures.behind
    c.put_head-place.ensures.put (omega (arith, c.put_slots_with-place.ensures.behind, c.in-Some.ensures.slots)) c.put_slots_with-place.ensures.put c.put_zeros.ensures c.put_cells_with.ensures
    ∙ ap (λ k. page_of (kind_byte k) c.args.link (cells_with c.bytes-old.result.now c.args.at c.args.behind (lent c.args.cells.now))) c.kind.ensures
    ∙ ap (page_of (kind_byte c.args.node.now.kind) c.args.link) same

pub returns-clause-sound : goal.returns-clause-sound
returns-clause-sound c =
    let count = length_cells c.bytes-old.result.now in
    let same = with_is c.bytes-old.result.now c.args.at c.args.behind (lent c.args.cells.now) c.args.node.now.cells (omega (arith, c.requires.order, c.requires.within, ap length c.bytes-old.ensures.cells, count)) c.bytes-old.ensures.cells in
    λ yes. subst (λ (k : PageKind). IsSound c.put_cells_with.new.page k) c.kind.ensures
    (assembled c.kind.result c.args.link (cells_with c.bytes-old.result.now c.args.at c.args.behind (lent c.args.cells.now)) _ _ _ _ c.in-Some.start c.in-Some.slots _ _ c.in-Some.ensures.fits
    (subst (λ (k : PageKind). AreCells k (cells_with c.bytes-old.result.now c.args.at c.args.behind (lent c.args.cells.now))) (sym c.kind.ensures) (subst (AreCells c.args.node.now.kind) (sym same) c.requires.cells))
    c.in-Some.ensures.start c.in-Some.ensures.slots c.put_head-place.ensures.behind
    c.put_head-place.ensures.put (omega (arith, c.put_slots_with-place.ensures.behind, c.in-Some.ensures.slots)) c.put_slots_with-place.ensures.put c.put_zeros.ensures c.put_cells_with.ensures).sound

pub returns-clause-cells : goal.returns-clause-cells
returns-clause-cells c =
    let count = length_cells c.bytes-old.result.now in
    let same = with_is c.bytes-old.result.now c.args.at c.args.behind (lent c.args.cells.now) c.args.node.now.cells (omega (arith, c.requires.order, c.requires.within, ap length c.bytes-old.ensures.cells, count)) c.bytes-old.ensures.cells in
    λ yes. (assembled c.kind.result c.args.link (cells_with c.bytes-old.result.now c.args.at c.args.behind (lent c.args.cells.now)) _ _ _ _ c.in-Some.start c.in-Some.slots _ _ c.in-Some.ensures.fits
    (subst (λ (k : PageKind). AreCells k (cells_with c.bytes-old.result.now c.args.at c.args.behind (lent c.args.cells.now))) (sym c.kind.ensures) (subst (AreCells c.args.node.now.kind) (sym same) c.requires.cells))
    c.in-Some.ensures.start c.in-Some.ensures.slots c.put_head-place.ensures.behind
    c.put_head-place.ensures.put (omega (arith, c.put_slots_with-place.ensures.behind, c.in-Some.ensures.slots)) c.put_slots_with-place.ensures.put c.put_zeros.ensures c.put_cells_with.ensures).cells ∙ same
