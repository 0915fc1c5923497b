use mir.Syntax.{named}
use denote.Param.{param}
use denote.Param.Send.{shr_slice_sync}
use Rattle.std.proofs.alloc.Global.TheSendSync as global
use Rattle.shared.proofs.Crossing.{shared_sync, texts_sync}
use Rattle.shared.proofs.scripts.play_all.Goals as goal

-- The closure holds references to the scripts, the runtime, the allocator, the core and the gate.
pub map_vec-requires-sync-F : goal.map_vec-requires-sync-F
map_vec-requires-sync-F g c = λ κs p. record {
  shared = λ x b o κ. (
    (
      (shr_slice_sync (named 0) _ _ texts_sync).shared x.0 b o κ,
      (
        ((λ q. tt), c.type_bounds.sync-R.shared x.1.now x.1.ref_ptr.0 x.1.ref_ptr.1 _),
        (
          ((λ q. tt), global.the_sync.shared x.2.now x.2.ref_ptr.0 x.2.ref_ptr.1 κ),
          (
            (
              (λ q. tt),
              (shared_sync (param 0 g.row.S) (param 1 g.row.L) (param 2 g.row.J) (param 5 g.row.S-Device) g.S.Store g.J.Room
                  c.type_bounds.send-S c.type_bounds.send-L).shared x.3.now x.3.ref_ptr.0 x.3.ref_ptr.1 _,
            ),
            (((λ q. tt), c.type_bounds.sync-G.shared x.4.now x.4.ref_ptr.0 x.4.ref_ptr.1 _), tt),
          ),
        ),
      ),
    ),
    (λ q. tt),
  );
}
