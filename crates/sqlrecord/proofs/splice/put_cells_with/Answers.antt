use Rattle.std.proofs.Common.{◌≡◌, ◌+◌, ◌≤◌, ap, arith}
use Rattle.sqlrecord.specs.Page.{count_of}
use Rattle.sqlrecord.specs.Build.{lent, total_of}
use Rattle.sqlrecord.specs.Splice.{cells_between}
use Rattle.sqlrecord.proofs.SpliceLemmas.{bytes_with, total_with}
use Rattle.sqlrecord.proofs.splice.put_cells_with.Goals as goal

pub put_cells_between-place-requires-clause-room : goal.put_cells_between-place-requires-clause-room
put_cells_between-place-requires-clause-room c = omega (arith, c.requires.room, total_with c.args.old.now c.args.at c.args.behind (lent c.args.cells.now))

pub put_cells-place-requires : goal.put_cells-place-requires
put_cells-place-requires c =
    omega (arith, c.requires.room, total_with c.args.old.now c.args.at c.args.behind (lent c.args.cells.now), c.put_cells_between-place.ensures.behind, c.put_cells_between-place.auto.page)

pub put_cells_between-requires-clause-room : goal.put_cells_between-requires-clause-room
put_cells_between-requires-clause-room c =
    rw c.two.ensures.value (omega (arith, c.requires.room, total_with c.args.old.now c.args.at c.args.behind (lent c.args.cells.now), c.put_cells_between-place.ensures.behind, c.put_cells_between-place.auto.page, c.put_cells-place.ensures.behind, c.put_cells-place.auto.page))

pub returns : goal.returns
returns c =
    let all = total_with c.args.old.now c.args.at c.args.behind (lent c.args.cells.now) in
    let rest : total_of (cells_between c.args.old.now c.args.behind c.two.result) ≡ total_of (cells_between c.args.old.now c.args.behind (count_of c.args.old.now)) =
    ap (λ n. total_of (cells_between c.args.old.now c.args.behind n)) c.two.ensures.value in
    bytes_with _ _ _ _ (cells_between c.args.old.now 0 c.args.at) (lent c.args.cells.now) (cells_between c.args.old.now c.args.behind c.two.result) _ c.put_cells_between.result
    (ap (cells_between c.args.old.now c.args.behind) c.two.ensures.value) c.put_cells_between-place.ensures.put c.put_cells-place.ensures.put c.put_cells_between.ensures.put
    (omega (arith, c.requires.room, all, rest, c.put_cells_between-place.ensures.behind, c.put_cells_between-place.auto.page, c.put_cells-place.ensures.behind, c.put_cells-place.auto.page, c.put_cells_between.auto.page, c.put_cells_between.ensures.behind))
