use Rattle.std.specs.Prelude.{◌≡◌, ◌≤◌, length, false}
use Rattle.session_definitions.specs.Rules.{Rules, AreRules}
use Rattle.sessions.specs.OfCore.{world_of}
use Rattle.scripts.specs.Settled.{HoldAll, IsKept, IsKeptBy, store_of}
use Rattle.scripts.specs.Playing.{IsReading, Start}
use Rattle.scripts.proofs.script.play.Given as goal

-- The pieces that end in what was read were carried out; the core is kept, the script has each
-- session that stands, and the count of refusals has not fallen.
abbrev pub invariant-loop : goal.invariant-loop
invariant-loop g l = record {
  plays : (start : Start) → IsKeptBy g.S.Store.is_sound g.S.Store.shows start.known l.fn.core
      → IsReading start (g.R.Read.remaining l.fn.reader) (world_of g.S.Store.shows l.fn.core) l.fn.cutter l.fn.sessions (g.W.Write.contents l.fn.writer) (g.S.Store.refused (store_of l.fn.core))
      → IsReading start (g.R.Read.remaining l.reader) (world_of g.S.Store.shows l.core) l.cutter l.sessions (g.W.Write.contents l.writer) (g.S.Store.refused (store_of l.core));
  kept : (rules : Rules) → AreRules rules → IsKept g.S.Store.is_sound g.S.Store.shows rules.check l.fn.core → IsKept g.S.Store.is_sound g.S.Store.shows rules.check l.core;
  held : HoldAll l.fn.sessions.standing (world_of g.S.Store.shows l.fn.core) → HoldAll l.sessions.standing (world_of g.S.Store.shows l.core);
  counts : g.S.Store.refused (store_of l.fn.core) ≤ g.S.Store.refused (store_of l.core);
  passed : l.waits ≡ false;
  room : length l.chunk ≡ 4096;
}
