use Rattle.std.proofs.Common.{sym}
use Rattle.pool.proofs.NoteLemmas.{grows_set, pushed_to, none_within}
use Rattle.pool.proofs.images.note_at.Goals as goal

pub returns-in-Some-clause-grows : goal.returns-in-Some-clause-grows
returns-in-Some-clause-grows c = grows_set c.args.touched.now c.args.place c.in-Some.pages.now c.push.new.self (sym c.in-Some.ensures.value) (pushed_to c.push.result c.in-Some.pages.now c.push.new.self c.args.page c.push.ensures.ok c.push.ensures.err)

pub returns-in-None-clause-noted : goal.returns-in-None-clause-noted
returns-in-None-clause-noted c = absurd (none_within c.args.touched.now c.args.place c.requires (sym c.in-None.ensures.value))
