use Rattle.std.proofs.Common.{◌≡◌, [], subst}
use Rattle.algebra.specs.Listing.{groups_listed, listing_step, whole_first}
use Rattle.denote.specs.Outcome.{Outcome}
use Rattle.executor.specs.Arguments.{meant_functions}
use Rattle.executor.specs.Reply.{outcome_of}
use Rattle.places.specs.Left.{rows_by}
use Rattle.streams.specs.Steps.{StepGives}
use Rattle.streams.proofs.whole.group_kept.Goals as goal

pub returns-in-Ok-clause-rows : goal.returns-in-Ok-clause-rows
returns-in-Ok-clause-rows g c = λ entries tree meant same h.
    let here : outcome_of c.in-Ok.part ≡ meant = rw c.in-Ok.is at h in
    let made = c.grouped_listed.ensures.lists (listing_step (g.S.Tables.rows_of c.args.tables.now)) [] (rw c.as_slice-rows.ensures at c.arguments_of_rows-arguments.ensures.gives) in
    subst (λ (o : Outcome). StepGives entries tree (whole_first o (groups_listed c.args.columns.now (meant_functions (rows_by entries) c.args.functions.now) [])) c.kept.result) here
    (c.kept.ensures.rows entries tree _ (rw same at made))

pub returns-in-Ok-clause-reads : goal.returns-in-Ok-clause-reads
returns-in-Ok-clause-reads g c = λ entries tree count limit h. c.kept.ensures.reads entries tree count limit (rw c.in-Ok.is at h)
