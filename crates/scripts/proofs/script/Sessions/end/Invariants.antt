use Rattle.std.specs.Prelude.{◌≤◌, drop}
use Rattle.session_definitions.specs.Rules.{Rules, AreRules}
use Rattle.sessions.specs.OfCore.{world_of}
use Rattle.scripts.specs.Settled.{HoldAll, IsKept, store_of}
use Rattle.scripts.specs.Playing.{AreLive, numbers_of}
use Rattle.scripts.proofs.Ending.{EndsFrom}
use Rattle.scripts.proofs.script.Sessions.end.Given as goal

-- each session that stands is one of those that are left, the core is kept, and the count of
-- refusals has not fallen
abbrev pub invariant-loop-slot : goal.invariant-loop-slot
invariant-loop-slot g l = record {
  ends : AreLive (world_of g.S.Store.shows l.fn.core) (numbers_of l.self.standing)
      → EndsFrom (world_of g.S.Store.shows l.fn.core) l.self.standing l.slot-index (world_of g.S.Store.shows l.core);
  kept : (rules : Rules) → AreRules rules → IsKept g.S.Store.is_sound g.S.Store.shows rules.check l.fn.core → IsKept g.S.Store.is_sound g.S.Store.shows rules.check l.core;
  held : HoldAll l.self.standing (world_of g.S.Store.shows l.fn.core) → HoldAll (drop l.slot-index l.self.standing) (world_of g.S.Store.shows l.core);
  counts : g.S.Store.refused (store_of l.fn.core) ≤ g.S.Store.refused (store_of l.core);
}
