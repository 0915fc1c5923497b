use Rattle.std.proofs.Common.{◌≡◌, ◌∙◌, ◌≤◌, ◌*◌, ℕ, List, [], ◌∷◌, Some, None, sym, ap, subst, length}
use Rattle.disk.specs.Crashes.{Always, LeavesOnly}
use Rattle.pagefile.specs.Parts.{gate_part}
use Rattle.journal.specs.Versions.{IsAmong}
use Rattle.last_version.specs.Standing.{padded_of}
use Rattle.pool.specs.Versions.{version_of, device_of, count_of}
use Rattle.pool.proofs.PoolLemmas.{none_above}
use Rattle.pool.proofs.pool.Pool.close.Goals as goal

pub returns-in-Ok-clause-stored : goal.returns-in-Ok-clause-stored
returns-in-Ok-clause-stored g c = λ honest n page e.
    subst (λ (d : g.row.D.Denot). padded_of (g.D.Disk.bytes d) n ≡ Some page) (sym c.abandon.ensures) (c.in-Ok.ensures.stored honest n page e)

pub returns-in-Ok-clause-exact : goal.returns-in-Ok-clause-exact
returns-in-Ok-clause-exact g c = λ honest.
    subst (λ (d : g.row.D.Denot). length (g.D.Disk.bytes d) ≡ 4096 * count_of c.args.self) (sym c.abandon.ensures) (c.in-Ok.ensures.exact honest)

pub returns-in-Ok-clause-size : goal.returns-in-Ok-clause-size
returns-in-Ok-clause-size g c = λ honest m none.
    none_above g.D.Disk.is_honest (count_of c.args.self) (version_of c.args.self).pages c.args.self.slots c.args.self.last _ m honest
    c.args.self.kept.old (ap (λ (d : g.row.D.Denot). length (g.D.Disk.bytes d)) c.abandon.ensures ∙ c.in-Ok.ensures.exact honest) none

pub returns-in-Ok-clause-keeps : goal.returns-in-Ok-clause-keeps
returns-in-Ok-clause-keeps g c = λ durable honest.
    subst (λ (d : g.row.D.Denot). Always (g.D.Disk.may_leave d) (IsAmong (version_of c.args.self) (version_of c.args.self))
    × LeavesOnly g.D.Disk.moment g.D.Disk.left_since (device_of c.args.self) d (IsAmong (version_of c.args.self) (version_of c.args.self))) (sym c.abandon.ensures)
    (c.settle.ensures.keeps durable honest c.in-Ok.ensures.whole)

pub returns-in-Ok-clause-closed : goal.returns-in-Ok-clause-closed
returns-in-Ok-clause-closed g c = λ honest.
    subst (λ (d : g.row.D.Denot). gate_part (g.D.Disk.bytes d) ≡ 0 ∷ []) (sym c.abandon.ensures) (c.in-Ok.ensures.closed honest)
