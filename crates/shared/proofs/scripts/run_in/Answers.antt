use mir.Syntax.{named, of_param}
use denote.Exit.{unseen}
use denote.Param.{param}
use denote.Param.Send.{shr_send, Quiet-if}
use Rattle.shared.proofs.Crossing.{shared_sync}
use Rattle.shared.proofs.flusher.Flusher.TheSendSync as flusher
use Rattle.shared.proofs.scripts.run_in.Goals as goal

-- The closure owns the flusher, and holds references to the runtime and the core.
pub join-done-requires-send-F : goal.join-done-requires-send-F
join-done-requires-send-F g c = λ κs p. record {
  owned = λ x vs vss. (
    tt,
    (
      flusher.the_send.owned x.0 vss.0,
      (
        (shr_send (named 0) _ _ c.type_bounds.sync-R).owned x.1 vss.1.0,
        (
          (shr_send (named 0) _ _ (shared_sync (param 0 g.row.S) (param 1 g.row.L) (param 2 g.row.J) (param 5 g.row.S-Device) g.S.Store g.J.Room
              c.type_bounds.send-S c.type_bounds.send-L)).owned x.2 vss.1.1.0,
          tt,
        ),
      ),
    ),
  );
  leaving = λ k. Quiet-if (k (of_param 1)) _ unseen (λ x w. ((tt, tt), tt)) (λ x w. tt);
}
