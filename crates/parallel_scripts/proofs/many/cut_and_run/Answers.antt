use Rattle.parallel_scripts.specs.Many.{Cuts}
use Rattle.parallel_scripts.proofs.Endings.{puts_by}
use Rattle.parallel_scripts.proofs.Histories.{hands_any, hands_device, memory_is_none, is_unopened, of_unopened, or_else, memory_is_no_damage}
use Rattle.std.proofs.Common.{inl, inr, refl}
use Rattle.sessions.specs.Opening.{Stays}
use Rattle.parallel_scripts.specs.Handed.{IsToldUnopened}
use Rattle.parallel_scripts.proofs.many.cut_and_run.Goals as goal

pub returns-in-Ok-clause-cuts : goal.returns-in-Ok-clause-cuts
returns-in-Ok-clause-cuts g c = λ db saved. puts_by _ _ _ _ _ (λ text status opens. Cuts.cut _ _ c.in-Ok.ensures opens) (c.open_and_run.ensures.opens db saved)

pub returns-in-Err-clause-cuts : goal.returns-in-Err-clause-cuts
returns-in-Err-clause-cuts g c = λ db saved.
    puts_by _ _ _ _ _
    (λ text status told.
    Cuts.no_room told
    (hands_device g.S.Store.saved (Stays g.S.Store.saved g.S.Store.is_new g.S.Store.is_begun c.args.device) g.S.Store.settled g.S.Store.calls_refused g.S.Store.refused _ _ c.unopened.result.back c.args.device _ c.unopened.ensures.back (inl saved) memory_is_none))
    c.unopened.ensures.puts

pub returns-in-Err-clause-any_device : goal.returns-in-Err-clause-any_device
returns-in-Err-clause-any_device g c =
    hands_any g.S.Store.settled g.S.Store.calls_refused g.S.Store.refused _ _ c.unopened.result.back c.args.device c.unopened.ensures.back

pub returns-in-Ok-clause-begun : goal.returns-in-Ok-clause-begun
returns-in-Ok-clause-begun g c = λ begun. or_else _ _ _ (λ opens. puts_by _ _ _ _ _ (λ text status opens. Cuts.cut _ _ c.in-Ok.ensures opens) opens) (c.open_and_run.ensures.begun begun)

pub returns-in-Err-clause-begun : goal.returns-in-Err-clause-begun
returns-in-Err-clause-begun g c = λ begun. inl (is_unopened c.unopened.result.back c.args.device c.unopened.ensures.back)

pub returns-in-Err-clause-unopened : goal.returns-in-Err-clause-unopened
returns-in-Err-clause-unopened g c =
    of_unopened (IsToldUnopened g.S.Store.is_honest g.S.Store.same _ c.args.device) c.unopened.result.back c.args.device c.unopened.ensures.back
    (record { refusal = _; status = _; told = c.unopened.ensures.puts; damage = λ honest is. memory_is_no_damage is })

pub returns-in-Ok-clause-status : goal.returns-in-Ok-clause-status
returns-in-Ok-clause-status g c = c.open_and_run.ensures.status

pub returns-in-Ok-clause-any_device : goal.returns-in-Ok-clause-any_device
returns-in-Ok-clause-any_device g c = c.open_and_run.ensures.any_device

pub returns-in-Ok-clause-unopened : goal.returns-in-Ok-clause-unopened
returns-in-Ok-clause-unopened g c = c.open_and_run.ensures.unopened

pub returns-in-Err-clause-status : goal.returns-in-Err-clause-status
returns-in-Err-clause-status g c = c.unopened.ensures.status (inr (inr refl))
