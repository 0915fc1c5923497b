use Rattle.std.proofs.Common.{Some, length}
use Rattle.sessions.specs.OfCore.{IsSound, world_of}
use Rattle.shared.specs.Scripts.{store_of}
use Rattle.shared.proofs.scripts.run_scripts.Given as goal

abbrev pub ghosts-run_in : goal.ghosts-run_in
ghosts-run_in g a = record {
  table = a.cell.table.shared.table_id;
  start = world_of g.S.Store.shows a.core;
  refused = g.S.Store.refused (store_of a.core);
  premise = IsSound g.S.Store.is_sound g.S.Store.shows a.core;
  callers = Some (length a.scripts.now);
}
