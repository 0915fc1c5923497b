use Rattle.std.proofs.Common.{◌∙◌, sym}
use Rattle.std.proofs.lemmas.Result.{IfOk-weaker}
use Rattle.sqlval.specs.Schema.{same_name}
use Rattle.denote.specs.Database.{has_unmatched}
use Rattle.foreign_keys.specs.Sources.{rows_shown}
use Rattle.foreign_keys.proofs.Chaining.{and-none, and-rest}
use Rattle.foreign_keys.proofs.looking.comes_unmatched.Goals as goal

pub returns-then-not-is_named-clause-found : goal.returns-then-not-is_named-clause-found
returns-then-not-is_named-clause-found g c = λ sound leads.
    let shown = g.R.Reading.shows c.args.reading.now in
    let a = c.args.asked.now in
    and-none (same_name a.table c.args.name.now) (has_unmatched a.reference (rows_shown shown a.reference.table) c.args.came.now) (sym c.is_named.ensures ∙ c.if-not-is_named.true)

pub returns-clause-found : goal.returns-clause-found
returns-clause-found g c =
    let shown = g.R.Reading.shows c.args.reading.now in
    let a = c.args.asked.now in
    IfOk-weaker c.any_unmatched.result _ _
    (λ found h sound leads.
    h sound leads ∙ and-rest (same_name a.table c.args.name.now) (has_unmatched a.reference (rows_shown shown a.reference.table) c.args.came.now) (sym c.is_named.ensures ∙ c.if-not-is_named.false))
    c.any_unmatched.ensures.found
