use Rattle.std.proofs.Common.{◌≡◌, ℕ, ◌+◌, ◌*◌, ◌<◌, ◌≤◌, drop, length}
use Rattle.std.specs.Prelude.{IsTrue}
use Rattle.disk.specs.Crashes.{Keeps}
use Rattle.journal.specs.Headers.{NamesPages}
use Rattle.journal.specs.Lists.{IsList}
use Rattle.journal.specs.Parts.{place}
use Rattle.journal.specs.Versions.{Version, IsOpen, IsReady, laid}
use Rattle.journal.proofs.recovery.copy_images.Given as goal

abbrev pub invariant-loop-i : goal.invariant-loop-i
invariant-loop-i g l = record {
  placed : IsTrue g.D.Disk.is_honest → (v : Version) → NamesPages v l.fn.start l.fn.size l.list → IsReady v (g.D.Disk.bytes l.fn.disk)
      → (n : ℕ) → n < v.count → laid (drop l.i v.set) (place (g.D.Disk.bytes l.disk)) n ≡ laid v.set (place (g.D.Disk.bytes l.fn.disk)) n;
  ready : IsTrue g.D.Disk.is_honest → (v : Version) → NamesPages v l.fn.start l.fn.size l.list → IsReady v (g.D.Disk.bytes l.fn.disk) → IsReady v (g.D.Disk.bytes l.disk);
  size : IsTrue g.D.Disk.is_honest → (v : Version) → NamesPages v l.fn.start l.fn.size l.list → IsReady v (g.D.Disk.bytes l.fn.disk)
      → length (g.D.Disk.bytes l.disk) ≡ length (g.D.Disk.bytes l.fn.disk);
  listed : IsTrue g.D.Disk.is_honest → IsList l.list l.fn.start l.fn.size → 4096 * (l.fn.start + 1 + l.fn.size) ≤ length (g.D.Disk.bytes l.fn.disk)
      → length (g.D.Disk.bytes l.disk) ≡ length (g.D.Disk.bytes l.fn.disk);
  keeps : IsTrue g.D.Disk.is_durable → (v : Version) → NamesPages v l.fn.start l.fn.size l.list
      → Keeps g.D.Disk.moment g.D.Disk.left_since g.D.Disk.may_leave l.fn.disk l.disk (IsOpen v);
  refused : g.D.Disk.refused l.disk ≡ g.D.Disk.refused l.fn.disk;
}
