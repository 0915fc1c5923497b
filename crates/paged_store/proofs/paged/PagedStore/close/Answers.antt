use Rattle.std.proofs.Common.{ℕ, ◌≤◌, subst}
use Rattle.pool.specs.Versions.{versions_of, refused_of}
use Rattle.overlay.specs.WriteSet.{fresh_of, settled_of, private_of}
use Rattle.snapshot_pins.specs.Pinned.{numbers_of}
use Rattle.paged_store.proofs.CloseLemmas.{closed_saved, closed_shows, closed_sound, closed_refused}
use Rattle.paged_store.proofs.OrderlyLemmas.{orderly_same, orderly_kept}
use Rattle.paged_store.proofs.SteadyLemmas.{steady_none}
use Rattle.paged_store.proofs.paged.PagedStore.close.Goals as goal

pub returns-in-Ok-clause-closed : goal.returns-in-Ok-clause-closed
returns-in-Ok-clause-closed g c =
    let s = c.args.self in
    closed_saved g.D.Disk.is_honest (g.D.Disk.bytes c.in-Ok.device) (versions_of s.pool) (versions_of c.end_all.new.pool) (numbers_of s.readers) (numbers_of c.end_all.new.self) (private_of s.changes) (settled_of s.changes) c.in-Ok.ensures.saved c.in-Ok.ensures.owned c.in-Ok.ensures.closed c.end_all.ensures.kept

pub returns-clause-left : goal.returns-clause-left
returns-clause-left g c =
    let s = c.args.self in
    (closed_shows g.D.Disk.is_honest (versions_of s.pool) (versions_of c.end_all.new.pool) (versions_of c.in-Err.refused.pool) (numbers_of s.readers) (numbers_of c.end_all.new.self) (private_of s.changes) (settled_of s.changes) (fresh_of c.new.result) (settled_of c.new.result) c.end_all.ensures.ended c.end_all.ensures.kept c.in-Err.ensures.versions c.new.ensures.fresh c.new.ensures.settled, closed_sound g.D.Disk.is_honest (versions_of s.pool) (versions_of c.end_all.new.pool) (versions_of c.in-Err.refused.pool) (numbers_of s.readers) (numbers_of c.end_all.new.self) (private_of s.changes) (settled_of s.changes) (fresh_of c.new.result) (settled_of c.new.result) c.end_all.ensures.ended c.end_all.ensures.kept c.in-Err.ensures.versions c.new.ensures.fresh c.new.ensures.settled)

pub returns-clause-refused : goal.returns-clause-refused
returns-clause-refused g c =
    let s = c.args.self in
    closed_refused (refused_of s.pool) (refused_of c.end_all.new.pool) (refused_of c.in-Err.refused.pool) c.in-Err.refused.cause c.of_pool.result c.of_pool.ensures c.end_all.ensures.refused c.in-Err.ensures.refusal

pub invariant_of-result : goal.invariant_of-result
invariant_of-result g c =
    let s = c.args.self in
    record {
      ordered = orderly_same g.D.Disk.is_honest (versions_of c.end_all.new.pool) (versions_of c.in-Err.refused.pool) c.end_all.new.self s.commits c.in-Err.ensures.versions
          (orderly_kept g.D.Disk.is_honest (versions_of s.pool) (versions_of c.end_all.new.pool) s.readers c.end_all.new.self s.commits (numbers_of c.end_all.new.self) c.end_all.ensures.kept c.end_all.ensures.pinned s.ordered);
      steady = steady_none ((versions_of c.in-Err.refused.pool).pages (versions_of c.in-Err.refused.pool).last) (fresh_of c.new.result) (settled_of c.new.result) c.new.ensures.fresh c.new.ensures.settled;
    }

pub returns-in-Ok-clause-counts : goal.returns-in-Ok-clause-counts
returns-in-Ok-clause-counts g c = subst (λ (k : ℕ). k ≤ g.D.Disk.refused c.in-Ok.device) c.end_all.ensures.refused c.in-Ok.ensures.rising
