use Rattle.std.specs.Prelude.{◌≤◌, List, ℕ, ◌++◌, take}
use Rattle.session_definitions.specs.Rules.{Rules, AreRules}
use Rattle.sessions.specs.OfCore.{world_of}
use Rattle.scripts.specs.Settled.{HoldAll, IsKept, IsKeptBy, store_of}
use Rattle.scripts.specs.Playing.{IsPlaying, Start}
use Rattle.scripts.proofs.script.play_bytes.Given as goal

-- The pieces that end in the bytes so far were carried out; the core is kept, the script has each
-- session that stands, and the count of refusals has not fallen.
abbrev pub invariant-loop-byte : goal.invariant-loop-byte
invariant-loop-byte g l = record {
  plays : (start : Start) (input : List ℕ) → IsKeptBy g.S.Store.is_sound g.S.Store.shows start.known l.fn.core
      → IsPlaying start input (world_of g.S.Store.shows l.fn.core) l.fn.cutter l.fn.sessions (g.W.Write.contents l.fn.writer) (g.S.Store.refused (store_of l.fn.core))
      → IsPlaying start (input ++ take l.byte-index l.bytes) (world_of g.S.Store.shows l.core) l.cutter l.sessions (g.W.Write.contents l.writer) (g.S.Store.refused (store_of l.core));
  kept : (rules : Rules) → AreRules rules → IsKept g.S.Store.is_sound g.S.Store.shows rules.check l.fn.core → IsKept g.S.Store.is_sound g.S.Store.shows rules.check l.core;
  held : HoldAll l.fn.sessions.standing (world_of g.S.Store.shows l.fn.core) → HoldAll l.sessions.standing (world_of g.S.Store.shows l.core);
  counts : g.S.Store.refused (store_of l.fn.core) ≤ g.S.Store.refused (store_of l.core);
}
