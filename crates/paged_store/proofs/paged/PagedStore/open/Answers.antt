use Rattle.pool.specs.Versions.{versions_of}
use Rattle.overlay.specs.WriteSet.{fresh_of, settled_of, private_of}
use Rattle.snapshot_pins.specs.Pinned.{numbers_of}
use Rattle.paged_store.proofs.PageLemmas.{none_private}
use Rattle.paged_store.proofs.OpenLemmas.{opened_orderly, opened_sound, opened_shows, saved_owned, saved_shows, begun_empty, saved_back, open_fails}
use Rattle.paged_store.proofs.SteadyLemmas.{steady_none}
use Rattle.std.specs.FinMap.{empty}
use Rattle.paged_store.proofs.paged.PagedStore.open.Goals as goal

pub invariant_of-result : goal.invariant_of-result
invariant_of-result g c = record { ordered = opened_orderly g.D.Disk.is_honest (g.D.Disk.bytes c.args.device) (versions_of c.in-Ok.pool) c.new-in-Ok.result c.in-Ok.ensures.begins c.new-in-Ok.ensures.pinned; steady = steady_none ((versions_of c.in-Ok.pool).pages (versions_of c.in-Ok.pool).last) (fresh_of c.new.result) (settled_of c.new.result) c.new.ensures.fresh c.new.ensures.settled }

pub returns-in-Ok-clause-opened : goal.returns-in-Ok-clause-opened
returns-in-Ok-clause-opened g c = λ db saved. (
  opened_sound g.D.Disk.is_honest (versions_of c.in-Ok.pool) (numbers_of c.new-in-Ok.result) (private_of c.new.result) (settled_of c.new.result) db c.in-Ok.ensures.begins.last c.new-in-Ok.ensures.none
      (none_private (fresh_of c.new.result) (settled_of c.new.result) c.new.ensures.fresh c.new.ensures.settled) c.new.ensures.settled saved.0
      (saved_owned g.D.Disk.is_honest (g.D.Disk.bytes c.args.device) (versions_of c.in-Ok.pool) db c.in-Ok.ensures.owned saved) (saved_shows g.D.Disk.is_honest (g.D.Disk.bytes c.args.device) (versions_of c.in-Ok.pool) db c.in-Ok.ensures.begins saved),
  opened_shows g.D.Disk.is_honest (versions_of c.in-Ok.pool) (numbers_of c.new-in-Ok.result) (private_of c.new.result) (settled_of c.new.result) db c.in-Ok.ensures.begins.last c.new-in-Ok.ensures.none
      (none_private (fresh_of c.new.result) (settled_of c.new.result) c.new.ensures.fresh c.new.ensures.settled) c.new.ensures.settled saved.0
      (saved_owned g.D.Disk.is_honest (g.D.Disk.bytes c.args.device) (versions_of c.in-Ok.pool) db c.in-Ok.ensures.owned saved) (saved_shows g.D.Disk.is_honest (g.D.Disk.bytes c.args.device) (versions_of c.in-Ok.pool) db c.in-Ok.ensures.begins saved),
)

pub returns-in-Ok-clause-readable : goal.returns-in-Ok-clause-readable
returns-in-Ok-clause-readable g c = c.in-Ok.ensures.readable

pub returns-in-Ok-clause-counts : goal.returns-in-Ok-clause-counts
returns-in-Ok-clause-counts g c = c.in-Ok.ensures.counts

pub returns-in-Err-clause-refused : goal.returns-in-Err-clause-refused
returns-in-Err-clause-refused g c = open_fails g.D.Disk.is_honest (g.D.Disk.bytes c.args.device) (g.D.Disk.refused c.args.device) (g.D.Disk.refused c.in-Err.back.value) c.in-Err.back.error c.in-Err.ensures.refused

pub returns-in-Ok-clause-begun : goal.returns-in-Ok-clause-begun
returns-in-Ok-clause-begun g c = λ begun.
    let first = begun_empty g.D.Disk.is_honest (g.D.Disk.bytes c.args.device) (versions_of c.in-Ok.pool) c.in-Ok.ensures.begins c.in-Ok.ensures.owned c.in-Ok.ensures.empty begun in (
      opened_sound g.D.Disk.is_honest (versions_of c.in-Ok.pool) (numbers_of c.new-in-Ok.result) (private_of c.new.result) (settled_of c.new.result) empty c.in-Ok.ensures.begins.last c.new-in-Ok.ensures.none
          (none_private (fresh_of c.new.result) (settled_of c.new.result) c.new.ensures.fresh c.new.ensures.settled) c.new.ensures.settled begun.0
          first.owned first.shows,
      opened_shows g.D.Disk.is_honest (versions_of c.in-Ok.pool) (numbers_of c.new-in-Ok.result) (private_of c.new.result) (settled_of c.new.result) empty c.in-Ok.ensures.begins.last c.new-in-Ok.ensures.none
          (none_private (fresh_of c.new.result) (settled_of c.new.result) c.new.ensures.fresh c.new.ensures.settled) c.new.ensures.settled begun.0
          first.owned first.shows,
    )

pub returns-in-Ok-clause-clean : goal.returns-in-Ok-clause-clean
returns-in-Ok-clause-clean g c =
    none_private (fresh_of c.new.result) (settled_of c.new.result) c.new.ensures.fresh c.new.ensures.settled

pub returns-in-Err-clause-same : goal.returns-in-Err-clause-same
returns-in-Err-clause-same g c = λ honest damaged. c.in-Err.ensures.left.damaged damaged honest

pub returns-in-Err-clause-left : goal.returns-in-Err-clause-left
returns-in-Err-clause-left g c = λ db saved.
    saved_back g.D.Disk.is_honest (g.D.Disk.bytes c.args.device) (g.D.Disk.bytes c.in-Err.back.value) c.in-Err.back.error db c.in-Err.ensures.left saved
