use Rattle.std.proofs.Common.{◌≡◌, subst}
use Rattle.algebra.specs.Listing.{listed_rows, whole_first}
use Rattle.algebra.specs.Sorted.{sorted}
use Rattle.denote.specs.Outcome.{Outcome}
use Rattle.executor.specs.Reply.{outcome_of}
use Rattle.streams.specs.Steps.{StepGives}
use Rattle.streams.proofs.whole.sort_kept.Goals as goal

pub returns-in-Ok-clause-rows : goal.returns-in-Ok-clause-rows
returns-in-Ok-clause-rows c = λ entries tree meant h.
    let here : outcome_of c.in-Ok.part ≡ meant = rw c.in-Ok.is at h in
    subst (λ (o : Outcome). StepGives entries tree (whole_first o (λ rows. listed_rows (sorted c.args.keys.now rows))) c.kept.result) here
    (c.kept.ensures.rows entries tree _ c.sorted_listed.ensures.lists)

pub returns-in-Ok-clause-reads : goal.returns-in-Ok-clause-reads
returns-in-Ok-clause-reads c = λ entries tree count limit h. c.kept.ensures.reads entries tree count limit (rw c.in-Ok.is at h)
