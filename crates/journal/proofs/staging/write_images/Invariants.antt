use Rattle.std.proofs.Common.{◌≡◌, ℕ, ◌+◌, ◌*◌, ◌<◌, ◌≤◌, length}
use Rattle.std.specs.Prelude.{IsTrue}
use Rattle.disk.specs.Crashes.{Keeps}
use Rattle.journal.specs.Lists.{image_in}
use Rattle.journal.specs.Parts.{block, ChangesOnly}
use Rattle.journal.specs.Versions.{Version, IsShut}
use Rattle.journal.proofs.staging.write_images.Given as goal

abbrev pub invariant-loop-image : goal.invariant-loop-image
invariant-loop-image g l = record {
  at : l.at ≡ l.fn.first + l.image-index;
  images : IsTrue g.D.Disk.is_honest → 4096 * (l.fn.first + length l.fn.set) ≤ length (g.D.Disk.bytes l.fn.disk)
      → (k : ℕ) → k < l.image-index → block (g.D.Disk.bytes l.disk) (l.fn.first + k) ≡ image_in l.fn.set k;
  changes : IsTrue g.D.Disk.is_honest → 4096 * (l.fn.first + length l.fn.set) ≤ length (g.D.Disk.bytes l.fn.disk)
      → ChangesOnly (4096 * l.fn.first) (4096 * l.image-index) (g.D.Disk.bytes l.fn.disk) (g.D.Disk.bytes l.disk);
  keeps : IsTrue g.D.Disk.is_durable → IsTrue g.D.Disk.is_honest → 4096 * (l.fn.first + length l.fn.set) ≤ length (g.D.Disk.bytes l.fn.disk)
      → 1 ≤ l.fn.first → (v : Version) → v.count ≤ l.fn.first
      → Keeps g.D.Disk.moment g.D.Disk.left_since g.D.Disk.may_leave l.fn.disk l.disk (IsShut v);
  refused : g.D.Disk.refused l.disk ≡ g.D.Disk.refused l.fn.disk;
}
