use Rattle.std.proofs.Common.{◌-◌, ap, sym, arith}
use Rattle.std.proofs.lemmas.List.{length-map}
use Rattle.sqlrecord.proofs.BuildLemmas.{all_put, assembled, put_together}
use Rattle.sqlrecord.specs.Build.{lent}
use Rattle.sqlrecord.proofs.build.build_page.Goals as goal

pub returns-clause-bytes : goal.returns-clause-bytes
returns-clause-bytes c =
    put_together _ c.args.link (lent c.args.cells.now) _ _ _ _ _ _ _ _ (ap (λ n. 4096 - n) c.total-start.ensures) (sym (length-map c.args.cells.now _)) c.put_head-at.ensures.behind
    c.put_head-at.ensures.put c.put_slots-at.ensures.behind c.put_slots-at.ensures.put c.put_zeros.ensures (all_put _ _ _ (omega (arith, c.requires.fits, c.total-start.ensures, c.put_cells.ensures.behind, c.put_cells.auto.page)) c.put_cells.ensures.put)

pub returns-clause-sound : goal.returns-clause-sound
returns-clause-sound c =
    (assembled c.args.kind c.args.link (lent c.args.cells.now) _ _ _ _ _ _ _ _ c.requires.fits c.requires.cells (ap (λ n. 4096 - n) c.total-start.ensures) (sym (length-map c.args.cells.now _)) c.put_head-at.ensures.behind
    c.put_head-at.ensures.put c.put_slots-at.ensures.behind c.put_slots-at.ensures.put c.put_zeros.ensures (all_put _ _ _ (omega (arith, c.requires.fits, c.total-start.ensures, c.put_cells.ensures.behind, c.put_cells.auto.page)) c.put_cells.ensures.put)).sound

pub returns-clause-cells : goal.returns-clause-cells
returns-clause-cells c =
    (assembled c.args.kind c.args.link (lent c.args.cells.now) _ _ _ _ _ _ _ _ c.requires.fits c.requires.cells (ap (λ n. 4096 - n) c.total-start.ensures) (sym (length-map c.args.cells.now _)) c.put_head-at.ensures.behind
    c.put_head-at.ensures.put c.put_slots-at.ensures.behind c.put_slots-at.ensures.put c.put_zeros.ensures (all_put _ _ _ (omega (arith, c.requires.fits, c.total-start.ensures, c.put_cells.ensures.behind, c.put_cells.auto.page)) c.put_cells.ensures.put)).cells
