use Rattle.std.proofs.lemmas.Result.{IfOk-weaker, IfErr-weaker}
use Rattle.store.specs.Contents.{database_of}
use Rattle.sqlcore.proofs.ChangesMade.{has_changed, refuses_change}
use Rattle.sqlcore.proofs.ToldLimits.{change_tells}
use Rattle.sqlcore.proofs.sql.SqlChanges.make.Goals as goal

pub returns-clause-changes : goal.returns-clause-changes
returns-clause-changes g c = IfOk-weaker c.make.result _ _
    (λ reply h rules x are sound of good means. has_changed rules (g.S.Store.shows c.args.store.now) c.args.change reply (g.S.Store.shows c.make.new.store) (h rules.check are.checks sound of good))
    c.make.ensures.changes

pub returns-clause-refused : goal.returns-clause-refused
returns-clause-refused g c = IfErr-weaker c.make.result _ _
    (λ refusal h rules x are sound of good means. refuses_change rules (database_of (g.S.Store.shows c.args.store.now).working) c.args.change refusal (h rules.check are.checks sound of good))
    c.make.ensures.refused

pub returns-clause-reached : goal.returns-clause-reached
returns-clause-reached g c = IfErr-weaker c.make.result _ _
    (λ refusal h. change_tells (g.S.Store.counted c.make.new.store) (g.S.Store.is_sound c.args.store.now) (g.S.Store.prepared c.args.store.now) (g.S.Store.shows c.args.store.now).working c.args.change refusal h)
    c.make.ensures.limits
