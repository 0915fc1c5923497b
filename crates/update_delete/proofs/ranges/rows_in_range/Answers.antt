use Rattle.std.specs.FinMap.{get}
use Rattle.algebra.specs.Bounds.{is_within}
use Rattle.store.specs.Contents.{Entry}
use Rattle.store.specs.Indexes.{by_columns, entries_of}
use Rattle.store.specs.declared.view.View.TheVariants as at
use Rattle.update_delete.proofs.Ranging.{ranged_sorted, rises_there}
use Rattle.update_delete.proofs.ranges.rows_in_range.Goals as goal

pub returns-in-Ok-by_number-clause-rows : goal.returns-in-Ok-by_number-clause-rows
returns-in-Ok-by_number-clause-rows g c = λ columns sound over.
    let name = c.args.name.now in
    let table = get (g.S.Store.shows c.args.store.now).working name in
    let range = c.args.range in
    rw c.in-Ok-by_number.is at (c.by_number.ensures (by_columns columns)
    (λ (e : Entry). is_within columns range.limits.low range.limits.high e.1) (entries_of table)
    (rises_there table (λ t there. g.met.S.Store.numbers_rise c.args.store.now at.Working name t sound there))
    (ranged_sorted table range.place c.limit_of-low.result c.limit_of-high.result range.limits.low range.limits.high
    columns c.in-Ok.found over c.limit_of-low.ensures.lower c.limit_of-high.ensures.upper (c.in-Ok.ensures.rows sound)))
