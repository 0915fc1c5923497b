use Rattle.std.proofs.Common.{◌≡◌, true, false, sym, ◌∙◌, rules}
use Rattle.std.proofs.lemmas.Bool.{false≢true}
use Rattle.query_answers.proofs.ByItself.{can-run}
use Rattle.query_answers.proofs.planned.run_plan.Goals as goal

pub returns-then-alone-clause-lists : goal.returns-then-alone-clause-lists
returns-then-alone-clause-lists g c = λ sound indexed.
    let alone : c.in-Ok.alone ≡ true = search rules in
    c.run_by_itself.ensures.lists sound
    (can-run c.args.plan.now (g.R.Reading.shows c.args.reading.now) (c.in-Ok.ensures.0 alone) indexed)

pub returns-then-alone-clause-read : goal.returns-then-alone-clause-read
returns-then-alone-clause-read g c = λ sound indexed none once. c.run_by_itself.ensures.read sound
    (can-run c.args.plan.now (g.R.Reading.shows c.args.reading.now) none indexed) once

pub returns-else-alone-clause-lists : goal.returns-else-alone-clause-lists
returns-else-alone-clause-lists g c = λ sound indexed. c.run_whole.ensures.lists sound

pub returns-else-alone-clause-read : goal.returns-else-alone-clause-read
returns-else-alone-clause-read g c = λ sound indexed none once.
    let alone : c.in-Ok.alone ≡ false = search rules in
    absurd (false≢true (sym alone ∙ c.in-Ok.ensures.1 none))

pub returns-then-alone-clause-whole : goal.returns-then-alone-clause-whole
returns-then-alone-clause-whole g c = λ sound named.
    let alone : c.in-Ok.alone ≡ true = search rules in
    absurd (named (c.in-Ok.ensures.0 alone))

pub returns-else-alone-clause-whole : goal.returns-else-alone-clause-whole
returns-else-alone-clause-whole g c = λ sound named. c.run_whole.ensures.read sound
