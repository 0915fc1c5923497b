use Rattle.crossbeam_utils.specs.Seq.{cell_view}
use Rattle.shared.specs.History.{event}
use Rattle.shared.specs.Scripts.{store_of}
use Rattle.shared.specs.Called.{act_of}
use Rattle.shared.proofs.desk.Desk.open_query.Given as goal

abbrev pub ghosts-record : goal.ghosts-record
ghosts-record g a = record { event = event (cell_view a.keeper.now).who (act_of a.call) (g.S.Store.refused (store_of a._core.now)) }
