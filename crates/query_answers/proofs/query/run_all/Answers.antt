use Rattle.std.proofs.Common.{◌≡◌, true, rules}
use Rattle.query_answers.proofs.ByItself.{fewer_read, runs}
use Rattle.query_answers.proofs.query.run_all.Goals as goal

pub returns-then-goes-clause-lists : goal.returns-then-goes-clause-lists
returns-then-goes-clause-lists g c = λ sound.
    let goes : c.in-Ok.goes ≡ true = search rules in
    c.run_by_itself.ensures.lists sound
    (runs c.args.plan.now (g.R.Reading.shows c.args.reading.now) ((rw c.in-Ok.is at c.reads_itself.ensures) goes))

pub returns-then-goes-clause-read : goal.returns-then-goes-clause-read
returns-then-goes-clause-read g c = λ sound.
    let goes : c.in-Ok.goes ≡ true = search rules in
    let itself = (rw c.in-Ok.is at c.reads_itself.ensures) goes in
    let shown = g.R.Reading.shows c.args.reading.now in
    fewer_read shown c.args.plan.now itself _ _ c.run_by_itself.result
    (c.run_by_itself.ensures.read sound (runs c.args.plan.now shown itself) itself.scans.once)
