use Rattle.std.proofs.Common.{◌≡◌, ◌∙◌, ◌+◌, ◌-◌, ◌<◌, ap, true, false, arith}
use Rattle.sqlrecord.specs.Page.{count_of, key_of}
use Rattle.sqlrecord.proofs.PageLemmas.{not_formed, not_rising}
use Rattle.sqlrecord.proofs.sound.has_cells.Goals as goal

pub returns-then-not-is_cell : goal.returns-then-not-is_cell
returns-then-not-is_cell c =
    let within : c.loop-i.i < count_of c.args.page.now = rw c.two-i-end.ensures.value at c.loop-i-test.true in (
      λ wrong. absurd (let no : false ≡ true = wrong in cc no),
      λ cells. absurd (not_formed c.args.page.now _ _ _ within c.cell_in-cell.ensures (λ formed. let yes : c.is_cell.result ≡ true = c.is_cell.ensures.1 formed in cc (yes, c.if-not-is_cell.true)) cells),
    )

pub returns-then-not-precedes : goal.returns-then-not-precedes
returns-then-not-precedes c =
    let within : c.loop-i.i < count_of c.args.page.now = rw c.two-i-end.ensures.value at c.loop-i-test.true in (
      λ wrong. absurd (let no : false ≡ true = wrong in cc no),
      λ cells. absurd (not_rising c.args.page.now _ _ _ _ c.if-i-gt0.true within (c.loop-i.invariant.kept (c.loop-i.i - 1) (let one : c.loop-i.i - 1 + 1 ≡ c.loop-i.i = omega (arith, c.if-i-gt0.true) in one)) (c.key_in-key.ensures ∙ ap key_of c.cell_in-cell.ensures)
          (λ rises. let yes : c.precedes.result ≡ true = c.precedes.ensures ∙ rises in cc (yes, c.if-not-precedes.true)) cells),
    )
