use Rattle.parallel_scripts.specs.Many.{Opens}
use Rattle.parallel_scripts.proofs.Endings.{puts_by}
use Rattle.parallel_scripts.proofs.Histories.{any_read, hands_any, hands_device, moved, is_unopened, of_unopened, none_unopened}
use Rattle.std.proofs.Common.{inl, inr, refl}
use Rattle.sessions.specs.Opening.{Stays}
use Rattle.parallel_scripts.specs.Handed.{IsToldUnopened}
use Rattle.parallel_scripts.proofs.many.open_and_run.Goals as goal

pub returns-in-Ok-clause-opens : goal.returns-in-Ok-clause-opens
returns-in-Ok-clause-opens g c = λ db saved.
    let begins = c.in-Ok.ensures.opened db saved in
    puts_by _ _ _ _ _ (λ text status runs. Opens.opened runs)
    (moved g.S.Store.saved (Stays g.S.Store.saved g.S.Store.is_new g.S.Store.is_begun c.args.device) g.S.Store.settled g.S.Store.calls_refused g.S.Store.refused (λ device db saved. inl saved) _ c.carry_out.result.back _ _ _ _ _ _ _ _ begins.1
    (c.carry_out.ensures.runs _ c.in-Ok.ensures.counts begins.0))

pub returns-in-Err-clause-opens : goal.returns-in-Err-clause-opens
returns-in-Err-clause-opens g c = λ db saved.
    puts_by _ _ _ _ _
    (λ text status told.
    Opens.not_opened _ (c.in-Err.ensures.refused db saved) told
    (hands_device g.S.Store.saved (Stays g.S.Store.saved g.S.Store.is_new g.S.Store.is_begun c.args.device) g.S.Store.settled g.S.Store.calls_refused g.S.Store.refused _ _ c.unopened.result.back c.in-Err.refused.value _ c.unopened.ensures.back
    (c.in-Err.ensures.left db saved) c.in-Err.ensures.device))
    c.unopened.ensures.puts

pub returns-in-Err-clause-any_device : goal.returns-in-Err-clause-any_device
returns-in-Err-clause-any_device g c =
    hands_any g.S.Store.settled g.S.Store.calls_refused g.S.Store.refused _ _ c.unopened.result.back c.in-Err.refused.value c.unopened.ensures.back

pub returns-in-Ok-clause-any_device : goal.returns-in-Ok-clause-any_device
returns-in-Ok-clause-any_device g c =
    any_read g.S.Store.settled g.S.Store.calls_refused g.S.Store.refused _ _ c.carry_out.result.back c.in-Ok.ensures.readable
    (c.carry_out.ensures.any_device _ c.in-Ok.ensures.counts)

pub returns-in-Ok-clause-begun : goal.returns-in-Ok-clause-begun
returns-in-Ok-clause-begun g c = λ begun.
    let begins = c.in-Ok.ensures.begun begun in
    inr (puts_by _ _ _ _ _ (λ text status runs. Opens.opened runs)
    (moved g.S.Store.saved (Stays g.S.Store.saved g.S.Store.is_new g.S.Store.is_begun c.args.device) g.S.Store.settled g.S.Store.calls_refused g.S.Store.refused (λ device db saved. inl saved) _ c.carry_out.result.back _ _ _ _ _ _ _ _ begins.1
    (c.carry_out.ensures.runs _ c.in-Ok.ensures.counts begins.0)))

pub returns-in-Err-clause-begun : goal.returns-in-Err-clause-begun
returns-in-Err-clause-begun g c = λ begun. inl (is_unopened c.unopened.result.back c.in-Err.refused.value c.unopened.ensures.back)

pub returns-in-Ok-clause-unopened : goal.returns-in-Ok-clause-unopened
returns-in-Ok-clause-unopened g c = none_unopened _ c.carry_out.result.back c.carry_out.ensures.opened

pub returns-in-Err-clause-unopened : goal.returns-in-Err-clause-unopened
returns-in-Err-clause-unopened g c =
    of_unopened (IsToldUnopened g.S.Store.is_honest g.S.Store.same _ c.args.device) c.unopened.result.back c.in-Err.refused.value c.unopened.ensures.back
    (record { refusal = _; status = _; told = c.unopened.ensures.puts; damage = λ honest is. c.in-Err.ensures.same honest is })

pub returns-in-Ok-clause-status : goal.returns-in-Ok-clause-status
returns-in-Ok-clause-status g c = c.carry_out.ensures.status

pub returns-in-Err-clause-status : goal.returns-in-Err-clause-status
returns-in-Err-clause-status g c = c.unopened.ensures.status (inr (inr refl))
