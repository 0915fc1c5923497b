use Rattle.std.proofs.Common.{◌≡◌, ℕ, ◌<◌, ◌≤◌, ◌+◌, false, take, length}
use Rattle.std.specs.Prelude.{slice_index, IsTrue, sum_by}
use Rattle.journal.specs.Reading.{OnlyReads}
use Rattle.last_version.specs.Lasts.{device_under, count_of, shown_by, version_under, refused_of, HoldsAs}
use Rattle.pool.specs.Images.{reads_newest, images_in, needs, pinned_in}
use Rattle.pool.specs.Ready.{MayBeImaged, Grows}
use Rattle.pool.specs.Slots.{slot_at, pages_at}
use Rattle.pool.proofs.steps.prepare_all.Given as goal

abbrev pub invariant-loop-page : goal.invariant-loop-page
invariant-loop-page g l = record {
  len : length l.slots ≡ length l.fn.slots;
  images : (n : ℕ) → MayBeImaged l.numbers l.page-index l.last (pinned_in l.pins) l.touched n (slot_at l.fn.slots n).images (slot_at l.slots n).images;
  ready : (k : ℕ) → k < l.page-index → reads_newest (pinned_in l.pins) (slot_at l.slots (slice_index l.numbers k)).images ≡ false;
  count : images_in l.slots ≡ images_in l.fn.slots + sum_by (needs (count_of l.fn.file) (pinned_in l.pins) l.fn.slots) (take l.page-index l.numbers);
  grows : Grows l.fn.touched l.touched;
  lists : length l.touched ≡ length l.fn.touched;
  shown : IsTrue g.D.Disk.is_honest → (c n : ℕ) → pages_at (shown_by l.fn.file) l.slots c n ≡ pages_at (shown_by l.fn.file) l.fn.slots c n;
  version : IsTrue g.D.Disk.is_honest → version_under l.file ≡ version_under l.fn.file;
  rising : refused_of l.fn.file ≤ refused_of l.file;
  reads : OnlyReads g.D.Disk.is_honest g.D.Disk.is_durable g.D.Disk.bytes g.D.Disk.synced g.D.Disk.writes g.D.Disk.settled g.D.Disk.moment g.D.Disk.left_since g.D.Disk.may_leave (device_under l.fn.file) (device_under l.file);
  holds : HoldsAs l.fn.file l.file;
}
