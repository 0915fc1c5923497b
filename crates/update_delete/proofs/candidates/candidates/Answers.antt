use Rattle.std.proofs.Common.{sym, subst}
use Rattle.sqlval.specs.declared.schema.Schema.{Schema}
use Rattle.denote.specs.SchemaOf.{IsSchemaOf}
use Rattle.store.specs.Contents.{database_of}
use Rattle.update_delete.proofs.Selecting.{sought_candidates}
use Rattle.update_delete.proofs.candidates.candidates.Goals as goal

pub returns-in-Ok-clause-rows : goal.returns-in-Ok-clause-rows
returns-in-Ok-clause-rows g c = λ sound of.
    let k = (g.S.Store.shows c.args.store.now).working in
    let found = c.in-Ok.ensures.rows sound in
    let asked = rw c.in-Ok-Some.field-0-is at c.in-Ok-Some.ensures in
    sought_candidates c.look_ups_miss_no_row.ensures.quiet c.look_ups_miss_no_row.ensures.matching k c.schema.result.now c.args.name.now c.args.filter.now c.in-Ok-Some.look_up c.in-Ok.found
    (subst (λ (s : Schema). IsSchemaOf s (database_of k)) (sym c.schema.ensures) of) asked (rw c.as_slice-key.ensures at found)
