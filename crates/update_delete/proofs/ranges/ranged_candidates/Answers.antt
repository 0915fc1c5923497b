use Rattle.std.proofs.Common.{sym, subst}
use Rattle.sqlval.specs.declared.schema.Schema.{Schema}
use Rattle.denote.specs.SchemaOf.{IsSchemaOf}
use Rattle.store.specs.Contents.{database_of}
use Rattle.update_delete.proofs.Selecting.{all_candidates}
use Rattle.update_delete.proofs.Ranging.{range_candidates}
use Rattle.update_delete.proofs.ranges.ranged_candidates.Goals as goal

pub returns-in-Ok-clause-rows : goal.returns-in-Ok-clause-rows
returns-in-Ok-clause-rows g c = λ sound of.
    all_candidates _ c.args.filter.now c.in-Ok.found (c.in-Ok.ensures.rows sound)

pub returns-in-Ok-Some-clause-rows : goal.returns-in-Ok-Some-clause-rows
returns-in-Ok-Some-clause-rows g c = λ sound of.
    let k = (g.S.Store.shows c.args.store.now).working in
    let asked = rw c.in-Ok-Some.field-0-is at c.in-Ok-Some.ensures in
    range_candidates c.ranges_miss_no_row.ensures.quiet c.ranges_miss_no_row.ensures.within k c.schema.result.now
    c.args.name.now c.args.filter.now c.in-Ok-Some.range c.rows_in_range.result
    (subst (λ (s : Schema). IsSchemaOf s (database_of k)) (sym c.schema.ensures) of) asked
    (λ columns over. c.rows_in_range.ensures.rows columns sound over)
