use Rattle.std.specs.Prelude.{◌≡◌, ◌≤◌}
use Rattle.session_definitions.specs.Rules.{Rules}
use Rattle.sessions.specs.OfCore.{world_of}
use Rattle.scripts.specs.Settled.{IsKept, store_of}
use Rattle.scripts.proofs.script.flush_all.Given as goal

-- so many pages are left; the world is the same, what is kept stays kept, and the count of refusals
-- has not fallen
abbrev pub invariant-loop-left : goal.invariant-loop-left
invariant-loop-left g l = record {
  left : l.left ≡ g.S.Store.unwritten (store_of l.core);
  same : world_of g.S.Store.shows l.core ≡ world_of g.S.Store.shows l.fn.core;
  kept : (rules : Rules) → IsKept g.S.Store.is_sound g.S.Store.shows rules.check l.fn.core → IsKept g.S.Store.is_sound g.S.Store.shows rules.check l.core;
  counts : g.S.Store.refused (store_of l.fn.core) ≤ g.S.Store.refused (store_of l.core);
}

abbrev pub decreases-loop-left : goal.decreases-loop-left
decreases-loop-left g l = l.left
