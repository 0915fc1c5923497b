use Rattle.std.proofs.Common.{◌≡◌, ℕ, ◌+◌, ◌*◌, ◌≤◌, drop, length}
use Rattle.std.specs.Prelude.{IsTrue}
use Rattle.disk.specs.Crashes.{Keeps}
use Rattle.journal.specs.Parts.{place}
use Rattle.journal.specs.Steps.{KeepsOtherPlaces, LiesWithin, AreAmong}
use Rattle.journal.specs.Versions.{Version, IsOpen, laid}
use Rattle.journal.proofs.places.put_all.Given as goal

abbrev pub invariant-loop-number : goal.invariant-loop-number
invariant-loop-number g l = record {
  placed : IsTrue g.D.Disk.is_honest → LiesWithin l.fn.set (g.D.Disk.bytes l.fn.disk) → (n : ℕ) → 4096 * n + 4096 ≤ length (g.D.Disk.bytes l.fn.disk)
      → laid (drop l.number-index l.fn.set) (place (g.D.Disk.bytes l.disk)) n ≡ laid l.fn.set (place (g.D.Disk.bytes l.fn.disk)) n;
  others : IsTrue g.D.Disk.is_honest → LiesWithin l.fn.set (g.D.Disk.bytes l.fn.disk) → KeepsOtherPlaces l.fn.set (g.D.Disk.bytes l.fn.disk) (g.D.Disk.bytes l.disk);
  keeps : IsTrue g.D.Disk.is_durable → (v : Version) → AreAmong l.fn.set v.set → Keeps g.D.Disk.moment g.D.Disk.left_since g.D.Disk.may_leave l.fn.disk l.disk (IsOpen v);
  refused : g.D.Disk.refused l.disk ≡ g.D.Disk.refused l.fn.disk;
  synced : g.D.Disk.synced l.disk ≡ g.D.Disk.synced l.fn.disk;
}
