use Rattle.std.proofs.Common.{◌≡◌, ◌+◌, ◌-◌, ◌*◌, ◌≤◌, ap, arith, true}
use Rattle.sqlrecord.specs.Page.{count_of}
use Rattle.sqlrecord.specs.Build.{lent, total_of, Fits}
use Rattle.sqlrecord.specs.Splice.{cells_between}
use Rattle.sqlrecord.proofs.SpliceLemmas.{length_with, lent_length, total_with}
use Rattle.sqlrecord.proofs.splice.room_with.Goals as goal

pub returns-then-not-fits-clause-none : goal.returns-then-not-fits-clause-none
returns-then-not-fits-clause-none c =
    λ e room. let all = total_with c.args.old.now c.args.at c.args.behind (lent c.args.cells.now) in
    let long = length_with c.args.old.now c.args.at c.args.behind (lent c.args.cells.now) in
    let few : Fits (lent c.args.cells.now) = omega (arith, all, long, room) in
    let yes : c.fits.result ≡ true = c.fits.ensures.1 few in cc (yes, c.if-not-fits.true)

pub returns-then-slots-size-clause-none : goal.returns-then-slots-size-clause-none
returns-then-slots-size-clause-none c =
    λ e room. let all = total_with c.args.old.now c.args.at c.args.behind (lent c.args.cells.now) in
    let long = length_with c.args.old.now c.args.at c.args.behind (lent c.args.cells.now) in
    let rest : total_of (cells_between c.args.old.now c.args.behind c.two-count.result) ≡ total_of (cells_between c.args.old.now c.args.behind (count_of c.args.old.now)) =
    ap (λ n. total_of (cells_between c.args.old.now c.args.behind n)) c.two-count.ensures.value in
    absurd (omega (arith, all, long, rest, room, c.if-slots-size.true, lent_length c.args.cells.now, c.two-count.ensures.value, c.total_between.ensures.total, c.total_between-2.ensures.total, c.total.ensures))

pub returns-clause-fits : goal.returns-clause-fits
returns-clause-fits c =
    let all = total_with c.args.old.now c.args.at c.args.behind (lent c.args.cells.now) in
    let long = length_with c.args.old.now c.args.at c.args.behind (lent c.args.cells.now) in
    let rest : total_of (cells_between c.args.old.now c.args.behind c.two-count.result) ≡ total_of (cells_between c.args.old.now c.args.behind (count_of c.args.old.now)) =
    ap (λ n. total_of (cells_between c.args.old.now c.args.behind n)) c.two-count.ensures.value in
    omega (arith, all, long, rest, c.if-slots-size.false, lent_length c.args.cells.now, c.two-count.ensures.value, c.total_between.ensures.total, c.total_between-2.ensures.total, c.total.ensures)

pub returns-clause-slots : goal.returns-clause-slots
returns-clause-slots c = omega (arith, length_with c.args.old.now c.args.at c.args.behind (lent c.args.cells.now), lent_length c.args.cells.now, c.two-count.ensures.value)

pub returns-clause-start : goal.returns-clause-start
returns-clause-start c =
    let all = total_with c.args.old.now c.args.at c.args.behind (lent c.args.cells.now) in
    let rest : total_of (cells_between c.args.old.now c.args.behind c.two-count.result) ≡ total_of (cells_between c.args.old.now c.args.behind (count_of c.args.old.now)) =
    ap (λ n. total_of (cells_between c.args.old.now c.args.behind n)) c.two-count.ensures.value in
    omega (arith, all, rest, c.two-count.ensures.value, c.total_between.ensures.total, c.total_between-2.ensures.total, c.total.ensures)
