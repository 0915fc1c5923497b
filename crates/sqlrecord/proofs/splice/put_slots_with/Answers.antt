use Rattle.std.proofs.Common.{◌≡◌, ◌+◌, ◌-◌, ◌*◌, ◌<◌, ◌≤◌, ap, arith}
use Rattle.sqlrecord.specs.Build.{lent}
use Rattle.sqlrecord.specs.Splice.{cells_between}
use Rattle.sqlrecord.proofs.SpliceLemmas.{length_with, lent_length, slots_with, total_with}
use Rattle.sqlrecord.proofs.splice.put_slots_with.Goals as goal

pub put_slots_between-place-requires-clause-small : goal.put_slots_between-place-requires-clause-small
put_slots_between-place-requires-clause-small c = omega (arith, c.requires.small, total_with c.args.old.now c.args.at c.args.behind (lent c.args.cells.now))

pub put_slots_between-place-requires-clause-room : goal.put_slots_between-place-requires-clause-room
put_slots_between-place-requires-clause-room c = omega (arith, c.requires.room, length_with c.args.old.now c.args.at c.args.behind (lent c.args.cells.now))

pub put_slots-place-requires-clause-small : goal.put_slots-place-requires-clause-small
put_slots-place-requires-clause-small c = omega (arith, c.requires.small, total_with c.args.old.now c.args.at c.args.behind (lent c.args.cells.now), c.put_slots_between-place.ensures.end)

pub put_slots-place-requires-clause-room : goal.put_slots-place-requires-clause-room
put_slots-place-requires-clause-room c =
    omega (arith, c.requires.room, length_with c.args.old.now c.args.at c.args.behind (lent c.args.cells.now), lent_length c.args.cells.now, c.put_slots_between-place.ensures.behind, c.put_slots_between-place.auto.page)

pub total-requires : goal.total-requires
total-requires c = omega (arith, c.requires.small, total_with c.args.old.now c.args.at c.args.behind (lent c.args.cells.now))

pub overflow_add-next : goal.overflow_add-next
overflow_add-next c = omega (arith, c.requires.small, total_with c.args.old.now c.args.at c.args.behind (lent c.args.cells.now), c.put_slots_between-place.ensures.end, c.total.ensures)

pub put_slots_between-place-requires-2-clause-small : goal.put_slots_between-place-requires-2-clause-small
put_slots_between-place-requires-2-clause-small c =
    rw c.two.ensures.value (omega (arith, c.requires.small, total_with c.args.old.now c.args.at c.args.behind (lent c.args.cells.now), c.put_slots_between-place.ensures.end, c.total.ensures))

pub put_slots_between-place-requires-2-clause-room : goal.put_slots_between-place-requires-2-clause-room
put_slots_between-place-requires-2-clause-room c =
    omega (arith, c.requires.room, length_with c.args.old.now c.args.at c.args.behind (lent c.args.cells.now), lent_length c.args.cells.now, c.two.ensures.value, c.put_slots_between-place.ensures.behind, c.put_slots_between-place.auto.page, c.put_slots-place.ensures.behind, c.put_slots-place.auto.page)

pub returns-clause-put : goal.returns-clause-put
returns-clause-put c =
    slots_with _ _ _ _ (cells_between c.args.old.now 0 c.args.at) (lent c.args.cells.now) (cells_between c.args.old.now c.args.behind c.two.result) _ c.args.start _ _
    (ap (cells_between c.args.old.now c.args.behind) c.two.ensures.value)
    c.put_slots_between-place.ensures.put c.put_slots_between-place.ensures.end c.put_slots-place.ensures.put (ap (λ n. c.put_slots_between-place.result.1 + n) c.total.ensures) c.put_slots_between-place-2.ensures.put

pub returns-clause-behind : goal.returns-clause-behind
returns-clause-behind c =
    omega (arith, length_with c.args.old.now c.args.at c.args.behind (lent c.args.cells.now), lent_length c.args.cells.now, c.two.ensures.value, c.put_slots_between-place.ensures.behind, c.put_slots-place.ensures.behind, c.put_slots_between-place-2.ensures.behind)
