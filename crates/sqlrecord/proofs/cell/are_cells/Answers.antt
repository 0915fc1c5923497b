use Rattle.std.proofs.Common.{◌≡◌, ◌∙◌, true, false, refl}
use Rattle.sqlrecord.proofs.CellLemmas.{are_lent, not_formed_lent, not_rising_lent}
use Rattle.sqlrecord.proofs.cell.are_cells.Goals as goal

pub returns-then-not-is_cell : goal.returns-then-not-is_cell
returns-then-not-is_cell c = (
  λ wrong. absurd (let no : false ≡ true = wrong in cc no),
  λ cells. absurd (not_formed_lent c.args.kind c.args.cells.now _ c.loop-i-test.true (λ formed. let yes : c.is_cell.result ≡ true = c.is_cell.ensures.1 formed in cc (yes, c.if-not-is_cell.true)) cells),
)

pub returns-then-not-precedes : goal.returns-then-not-precedes
returns-then-not-precedes c =
    let test = rw (c.key_in.ensures, c.key_in-then-i-gt0.ensures) at c.precedes.ensures in (
      λ wrong. absurd (let no : false ≡ true = wrong in cc no),
      λ cells. absurd (not_rising_lent c.args.kind c.args.cells.now _ c.if-i-gt0.true c.loop-i-test.true (λ rises. let yes : c.precedes.result ≡ true = test ∙ rises in cc (yes, c.if-not-precedes.true)) cells),
    )

pub returns : goal.returns
returns c = (λ yes. are_lent _ c.args.cells.now _ c.loop-i-test.false c.loop-i.invariant.formed c.loop-i.invariant.rising, λ cells. refl)
