use Rattle.std.proofs.Common.{◌∙◌, sym, ap, refl}
use Rattle.constraints.specs.Matched.{has_foreign_keys}
use Rattle.constraints.proofs.Declared.{no_table}
use Rattle.constraints.proofs.Unmatched.{without-keys}
use Rattle.constraints.proofs.Violations.{schema_here}
use Rattle.constraints.proofs.matching.rows_to_match.Goals as goal

pub returns-in_default-table_named-clause-none : goal.returns-in_default-table_named-clause-none
returns-in_default-table_named-clause-none g c = λ table sound there.
    let old = g.S.Store.shows c.args.store.now in
    let of = schema_here _ _ old old c.schema.ensures refl (c.in_default.ensures.prepared sound) in
    let none = no_table c.schema.result.now _ c.args.name.now of c.in_default-table_named.ensures.none in
    absurd (cc (none, there))

pub returns-then-not-has_foreign_keys-clause-none : goal.returns-then-not-has_foreign_keys-clause-none
returns-then-not-has_foreign_keys-clause-none g c = λ table sound there.
    let old = g.S.Store.shows c.args.store.now in
    let of = schema_here _ _ old old c.schema.ensures refl (c.in_default.ensures.prepared sound) in
    without-keys old.working c.schema.result.now c.args.name.now c.in-Some.table.now table of c.in-Some.ensures.there c.in-Some.ensures.named there
    (ap has_foreign_keys (sym c.as_slice.ensures) ∙ sym c.has_foreign_keys.ensures ∙ c.if-not-has_foreign_keys.true)
