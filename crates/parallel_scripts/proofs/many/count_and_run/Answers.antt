use Rattle.std.proofs.Common.{rules, arith, inl, inr, refl}
use Rattle.parallel_scripts.specs.Many.{ComesTo}
use Rattle.parallel_scripts.proofs.Endings.{puts_by}
use Rattle.parallel_scripts.proofs.Histories.{hands_any, hands_device, sessions_are_none, is_unopened, of_unopened, or_else, sessions_are_no_damage}
use Rattle.sessions.specs.Opening.{Stays}
use Rattle.parallel_scripts.specs.Handed.{IsToldUnopened}
use Rattle.parallel_scripts.proofs.many.count_and_run.Goals as goal

pub returns-then-scripts-gt-MOST_SESSIONS-clause-runs : goal.returns-then-scripts-gt-MOST_SESSIONS-clause-runs
returns-then-scripts-gt-MOST_SESSIONS-clause-runs g c = λ db saved.
    puts_by _ _ _ _ _
    (λ text status told.
    ComesTo.too_many (search rules) told
    (hands_device g.S.Store.saved (Stays g.S.Store.saved g.S.Store.is_new g.S.Store.is_begun c.args.device) g.S.Store.settled g.S.Store.calls_refused g.S.Store.refused _ _ c.unopened.result.back c.args.device _ c.unopened.ensures.back (inl saved) sessions_are_none))
    c.unopened.ensures.puts

pub returns-clause-many : goal.returns-clause-many
returns-clause-many g c = λ more. absurd (omega arith)

pub returns-clause-back : goal.returns-clause-back
returns-clause-back g c = λ more. absurd (omega arith)

pub returns-clause-runs : goal.returns-clause-runs
returns-clause-runs g c = λ db saved. puts_by _ _ _ _ _ (λ text status cuts. ComesTo.within (search rules) cuts) (c.cut_and_run.ensures.cuts db saved)

pub returns-then-scripts-gt-MOST_SESSIONS-clause-any_device : goal.returns-then-scripts-gt-MOST_SESSIONS-clause-any_device
returns-then-scripts-gt-MOST_SESSIONS-clause-any_device g c =
    hands_any g.S.Store.settled g.S.Store.calls_refused g.S.Store.refused _ _ c.unopened.result.back c.args.device c.unopened.ensures.back

pub returns-clause-begun : goal.returns-clause-begun
returns-clause-begun g c = λ begun. or_else _ _ _ (λ cuts. puts_by _ _ _ _ _ (λ text status cuts. ComesTo.within (search rules) cuts) cuts) (c.cut_and_run.ensures.begun begun)

pub returns-then-scripts-gt-MOST_SESSIONS-clause-begun : goal.returns-then-scripts-gt-MOST_SESSIONS-clause-begun
returns-then-scripts-gt-MOST_SESSIONS-clause-begun g c = λ begun. inl (is_unopened c.unopened.result.back c.args.device c.unopened.ensures.back)

pub returns-then-scripts-gt-MOST_SESSIONS-clause-unopened : goal.returns-then-scripts-gt-MOST_SESSIONS-clause-unopened
returns-then-scripts-gt-MOST_SESSIONS-clause-unopened g c =
    of_unopened (IsToldUnopened g.S.Store.is_honest g.S.Store.same _ c.args.device) c.unopened.result.back c.args.device c.unopened.ensures.back
    (record { refusal = _; status = _; told = c.unopened.ensures.puts; damage = λ honest is. sessions_are_no_damage is })

pub returns-clause-status : goal.returns-clause-status
returns-clause-status g c = c.cut_and_run.ensures.status

pub returns-clause-any_device : goal.returns-clause-any_device
returns-clause-any_device g c = c.cut_and_run.ensures.any_device

pub returns-clause-unopened : goal.returns-clause-unopened
returns-clause-unopened g c = c.cut_and_run.ensures.unopened

pub returns-then-scripts-gt-MOST_SESSIONS-clause-status : goal.returns-then-scripts-gt-MOST_SESSIONS-clause-status
returns-then-scripts-gt-MOST_SESSIONS-clause-status g c = c.unopened.ensures.status (inr (inl refl))

pub returns-then-scripts-gt-MOST_SESSIONS-clause-many : goal.returns-then-scripts-gt-MOST_SESSIONS-clause-many
returns-then-scripts-gt-MOST_SESSIONS-clause-many g c = λ more. c.unopened.ensures.puts

pub returns-then-scripts-gt-MOST_SESSIONS-clause-back : goal.returns-then-scripts-gt-MOST_SESSIONS-clause-back
returns-then-scripts-gt-MOST_SESSIONS-clause-back g c = λ more. c.unopened.ensures.back
