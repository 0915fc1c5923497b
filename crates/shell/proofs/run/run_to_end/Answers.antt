use Rattle.std.proofs.Common.{refl, le_refl, inl, inr}
use Rattle.std.specs.FinMap.{empty}
use Rattle.std.proofs.Math.Nat.{le_trans}
use Rattle.sessions.specs.OfCore.{world_of}
use Rattle.scripts.specs.Settled.{store_of}
use Rattle.shell.specs.Runs.{Ends, Runs}
use Rattle.endings.proofs.Said.{told_alone}
use Rattle.shell.proofs.Running.{carried_from, closed_run, is_settled, risen_since, script_counted}
use Rattle.shell.proofs.run.run_to_end.Goals as goal

-- ---- the store was not opened

pub returns-in-Err-clause-runs : goal.returns-in-Err-clause-runs
returns-in-Err-clause-runs g c = λ rules db are saved good.
    Runs.not_opened c.in-Err.refused.refusal (c.in-Err.ensures.refused db saved) refl (told_alone _ _ _ _ c.failed.ensures.tells) c.failed.ensures.status
    (rw c.failed.ensures.device ((c.in-Err.ensures.left db saved, c.in-Err.ensures.device), good))

pub returns-in-Err-clause-unreadable : goal.returns-in-Err-clause-unreadable
returns-in-Err-clause-unreadable g c = λ not. record {
  refusal = c.in-Err.refused.refusal;
  unread = refl;
  told = told_alone _ _ _ _ c.failed.ensures.tells;
  failed = c.failed.ensures.status;
  device = rw c.failed.ensures.device c.in-Err.ensures.device;
  damage = λ is. rw c.failed.ensures.device (λ honest. c.in-Err.ensures.same honest is);
}

pub returns-in-Err-clause-ends : goal.returns-in-Err-clause-ends
returns-in-Err-clause-ends g c = Ends.not_opened (record {
  refusal = c.in-Err.refused.refusal;
  unread = refl;
  told = told_alone _ _ _ _ c.failed.ensures.tells;
  failed = c.failed.ensures.status;
  device = rw c.failed.ensures.device c.in-Err.ensures.device;
  damage = λ is. rw c.failed.ensures.device (λ honest. c.in-Err.ensures.same honest is);
})

pub returns-in-Err-clause-begun : goal.returns-in-Err-clause-begun
returns-in-Err-clause-begun g c = λ rules are begun. inl (record {
  refusal = c.in-Err.refused.refusal;
  unread = refl;
  told = told_alone _ _ _ _ c.failed.ensures.tells;
  failed = c.failed.ensures.status;
  device = rw c.failed.ensures.device c.in-Err.ensures.device;
  damage = λ is. rw c.failed.ensures.device (λ honest. c.in-Err.ensures.same honest is);
})

-- ---- it was closed

pub returns-in-Ok-close-clause-unreadable : goal.returns-in-Ok-close-clause-unreadable
returns-in-Ok-close-clause-unreadable g c = λ not. absurd (not c.in-Ok.ensures.readable)

pub returns-in-Ok-close-clause-ends : goal.returns-in-Ok-close-clause-ends
returns-in-Ok-close-clause-ends g c =
    Ends.closed c.in-Ok-close.device refl c.in-Ok-close.ensures.settled
    (le_trans c.in-Ok.ensures.counts (le_trans c.carry_out-status.ensures.counts c.in-Ok-close.ensures.counts))
    (script_counted _ _ _ _ _ _ _ c.in-Ok.ensures.counts c.in-Ok-close.ensures.counts c.carry_out-status.ensures.ends)

pub returns-in-Ok-close-clause-runs : goal.returns-in-Ok-close-clause-runs
returns-in-Ok-close-clause-runs g c = λ rules db are saved good.
    let begins = c.in-Ok.ensures.opened db saved in
    let start = is_settled g.S.Store.is_sound g.S.Store.shows rules.check c.in-Ok.core db begins.0 begins.1 c.in-Ok.ensures.empty (c.databases_stay_good.ensures.opened rules.check db good) in
    let end = c.carry_out-status.ensures.settled rules are start in
    closed_run _ _ _ _ _ _ _ _ _ _ (world_of g.S.Store.shows c.carry_out-status.new.core) c.in-Ok.ensures.counts c.in-Ok-close.ensures.counts
    (carried_from _ _ _ _ _ _ _ _ _ begins.1 (c.carry_out-status.ensures.carries_out rules are start))
    (λ told counted. ((c.in-Ok-close.ensures.closed end.sound, c.in-Ok-close.ensures.settled, counted), end.good.last))

pub returns-in-Ok-close-clause-begun : goal.returns-in-Ok-close-clause-begun
returns-in-Ok-close-clause-begun g c = λ rules are begun.
    let begins = c.in-Ok.ensures.begun begun in
    let start = is_settled g.S.Store.is_sound g.S.Store.shows rules.check c.in-Ok.core empty begins.0 begins.1 c.in-Ok.ensures.empty (c.databases_stay_good.ensures.new_world rules.check) in
    let end = c.carry_out-status.ensures.settled rules are start in
    inr (closed_run _ _ _ _ _ _ _ _ _ _ (world_of g.S.Store.shows c.carry_out-status.new.core) c.in-Ok.ensures.counts c.in-Ok-close.ensures.counts
    (carried_from _ _ _ _ _ _ _ _ _ begins.1 (c.carry_out-status.ensures.carries_out rules are start))
    (λ told counted. ((c.in-Ok-close.ensures.closed end.sound, c.in-Ok-close.ensures.settled, counted), end.good.last)))

-- ---- it was not closed

pub returns-in-Err-close-clause-unreadable : goal.returns-in-Err-close-clause-unreadable
returns-in-Err-close-clause-unreadable g c = λ not. absurd (not c.in-Ok.ensures.readable)

pub returns-in-Err-close-clause-ends : goal.returns-in-Err-close-clause-ends
returns-in-Err-close-clause-ends g c =
    Ends.not_closed c.carry_out-status.result.status (g.S.Store.refused (store_of c.carry_out-status.new.core)) c.carry_out-status.result.is_told
    (g.W.Write.contents c.carry_out-status.new.writer)
    (script_counted _ _ _ _ _ _ _ c.in-Ok.ensures.counts (le_refl _) c.carry_out-status.ensures.ends)
    (rw c.in-Err-close.ensures.fails.0 at c.failed-in-Err-close.ensures.tells) c.failed-in-Err-close.ensures.status c.failed-in-Err-close.ensures.device
    (rw c.failed-in-Err-close.ensures.unclosed (risen_since _ _ _ _ c.in-Ok.ensures.counts c.carry_out-status.ensures.counts c.in-Err-close.ensures.device))
    (rw c.failed-in-Err-close.ensures.unclosed c.in-Err-close.ensures.device)

pub returns-in-Err-close-clause-runs : goal.returns-in-Err-close-clause-runs
returns-in-Err-close-clause-runs g c = λ rules db are saved good.
    let begins = c.in-Ok.ensures.opened db saved in
    let start = is_settled g.S.Store.is_sound g.S.Store.shows rules.check c.in-Ok.core db begins.0 begins.1 c.in-Ok.ensures.empty (c.databases_stay_good.ensures.opened rules.check db good) in
    Runs.not_closed c.carry_out-status.result.status c.carry_out-status.result.is_told (g.W.Write.contents c.carry_out-status.new.writer) (world_of g.S.Store.shows c.carry_out-status.new.core)
    (carried_from _ _ _ _ _ _ _ _ _ begins.1 (c.carry_out-status.ensures.carries_out rules are start)).carried
    (rw c.in-Err-close.ensures.fails.0 at c.failed-in-Err-close.ensures.tells) c.failed-in-Err-close.ensures.status
    (rw (c.failed-in-Err-close.ensures.device, c.failed-in-Err-close.ensures.unclosed)
    ((refl, risen_since _ _ _ _ c.in-Ok.ensures.counts c.carry_out-status.ensures.counts c.in-Err-close.ensures.device), tt))

pub returns-in-Err-close-clause-begun : goal.returns-in-Err-close-clause-begun
returns-in-Err-close-clause-begun g c = λ rules are begun.
    let begins = c.in-Ok.ensures.begun begun in
    let start = is_settled g.S.Store.is_sound g.S.Store.shows rules.check c.in-Ok.core empty begins.0 begins.1 c.in-Ok.ensures.empty (c.databases_stay_good.ensures.new_world rules.check) in
    inr (Runs.not_closed c.carry_out-status.result.status c.carry_out-status.result.is_told (g.W.Write.contents c.carry_out-status.new.writer) (world_of g.S.Store.shows c.carry_out-status.new.core)
    (carried_from _ _ _ _ _ _ _ _ _ begins.1 (c.carry_out-status.ensures.carries_out rules are start)).carried
    (rw c.in-Err-close.ensures.fails.0 at c.failed-in-Err-close.ensures.tells) c.failed-in-Err-close.ensures.status
    (rw (c.failed-in-Err-close.ensures.device, c.failed-in-Err-close.ensures.unclosed)
    ((refl, risen_since _ _ _ _ c.in-Ok.ensures.counts c.carry_out-status.ensures.counts c.in-Err-close.ensures.device), tt)))

pub returns-in-Err-clause-status : goal.returns-in-Err-clause-status
returns-in-Err-clause-status g c = inr (inr c.failed.ensures.status)

pub returns-in-Ok-close-clause-status : goal.returns-in-Ok-close-clause-status
returns-in-Ok-close-clause-status g c = c.carry_out-status.ensures.status

pub returns-in-Err-close-clause-status : goal.returns-in-Err-close-clause-status
returns-in-Err-close-clause-status g c = inr (inr c.failed-in-Err-close.ensures.status)
