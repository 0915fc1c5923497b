use Rattle.std.proofs.Common.{Some, None, refl, inl}
use Rattle.scripts.specs.Played.{between}
use Rattle.scripts.specs.Settled.{store_of}
use Rattle.lives.proofs.Continued.{or_both, run_again, run_no_more}
use Rattle.lives.proofs.OneRun.{together}
use Rattle.lives.proofs.twice.run_twice.Goals as goal

pub returns-in-Some-clause-runs : goal.returns-in-Some-clause-runs
returns-in-Some-clause-runs g c = λ rules db are saved good. (
  g.W.Write.contents c.run_to_end-first_status.new.writer,
  Some c.in-Some.device,
  or_both _ _ _ _ (λ both. together rules (c.reopened_runs_are_runs.ensures rules) db _ _ _ _ _ _ _ _ both)
      (λ h. record { new = h.0; unopened = h.2; status = c.run_to_end-again.result.status; is = refl; again = c.run_to_end-again.ensures.begun rules are h.1 })
      (run_again g.S.Store.saved g.S.Store.is_new g.S.Store.is_begun g.S.Store.settled g.S.Store.calls_refused (λ core. g.S.Store.refused (store_of core)) rules are c.args.device db _ _ _ _ _ _ _
      c.run_to_end-first_status.result.device c.run_to_end-first_status.result.unclosed c.run_to_end-again.result.unclosed c.in-Some.device c.in-Some.is
      (c.run_to_end-first_status.ensures.runs rules db are saved good) (λ next asked kept sound. c.run_to_end-again.ensures.runs rules next asked kept sound)),
)

pub returns-in-Some-clause-ends : goal.returns-in-Some-clause-ends
returns-in-Some-clause-ends g c = (
  g.W.Write.contents c.run_to_end-first_status.new.writer,
  record {
    again = Some c.in-Some.device;
    one_core = c.run_to_end-first_status.result.unclosed;
    ends = rw c.in-Some.is at c.run_to_end-first_status.ensures.ends;
    goes_on = (c.run_to_end-again.result.status, refl, c.run_to_end-again.ensures.ends);
  },
)

pub returns-in-None-clause-runs : goal.returns-in-None-clause-runs
returns-in-None-clause-runs g c = λ rules db are saved good.
    let writer = g.W.Write.contents c.run_to_end-first_status.new.writer in
    let reader = g.B.Read.remaining c.args.second.now in (
      writer,
      None,
      inl (together rules (c.reopened_runs_are_runs.ensures rules) db _ _ _ _ _ _ _ _
          (run_no_more g.S.Store.saved g.S.Store.is_new g.S.Store.is_begun g.S.Store.settled g.S.Store.calls_refused (λ core. g.S.Store.refused (store_of core)) rules are c.args.device db _ (between reader reader writer writer) _ _
          c.run_to_end-first_status.result.device c.run_to_end-first_status.result.unclosed c.in-None.is refl refl (c.run_to_end-first_status.ensures.runs rules db are saved good))),
    )

pub returns-in-None-clause-ends : goal.returns-in-None-clause-ends
returns-in-None-clause-ends g c = (
  g.W.Write.contents c.run_to_end-first_status.new.writer,
  record {
    again = None;
    one_core = c.run_to_end-first_status.result.unclosed;
    ends = rw c.in-None.is at c.run_to_end-first_status.ensures.ends;
    goes_on = (refl, refl, refl, refl, refl, refl);
  },
)
