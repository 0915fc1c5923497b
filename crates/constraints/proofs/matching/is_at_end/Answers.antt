use Rattle.std.proofs.Common.{◌∙◌, sym, refl}
use Rattle.constraints.proofs.Unmatched.{at-no-end}
use Rattle.constraints.proofs.Violations.{schema_here}
use Rattle.constraints.proofs.matching.is_at_end.Goals as goal

pub returns-clause-none : goal.returns-clause-none
returns-clause-none g c = λ sound none.
    let old = g.S.Store.shows c.args.store.now in
    at-no-end old.working c.schema.result.now c.args.name.now (schema_here _ _ old old c.schema.ensures refl (c.in_default.ensures.prepared sound)) (sym c.has_end.ensures ∙ none)
