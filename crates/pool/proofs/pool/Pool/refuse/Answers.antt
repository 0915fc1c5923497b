use Rattle.std.proofs.Common.{ℕ, List, Option, ap, refl}
use Rattle.last_version.specs.Lasts.{count_of, shown_by}
use Rattle.last_version.proofs.HoldLemmas.{shown_same}
use Rattle.pool.specs.Images.{pinned_in}
use Rattle.pool.specs.Pins.{pins_at}
use Rattle.pool.specs.Slots.{pages_at}
use Rattle.pool.proofs.ImageCounts.{needed_same}
use Rattle.pool.proofs.PoolLemmas.{same_versions}
use Rattle.pool.proofs.pool.Pool.refuse.Goals as goal

pub returns-clause-versions : goal.returns-clause-versions
returns-clause-versions g c =
    same_versions g.D.Disk.is_honest c.args.self.now.last (pins_at c.args.self.now.pins)
    (pages_at (shown_by c.refuse.new.self) c.args.self.now.slots)
    (pages_at (shown_by c.args.self.now.file) c.args.self.now.slots)
    (λ honest v n. ap (λ (newest : ℕ → Option (List ℕ)). pages_at newest c.args.self.now.slots v n) (shown_same c.args.self.now.file c.refuse.new.self (c.refuse.ensures.version honest)))

pub returns-clause-holds : goal.returns-clause-holds
returns-clause-holds g c = record {
  images = refl;
  needed = λ numbers. needed_same (count_of c.args.self.now.file) (count_of c.refuse.new.self) (pinned_in c.args.self.now.pins) c.args.self.now.slots c.args.self.now.slots c.refuse.ensures.holds.count (λ n. refl) numbers;
  frames = c.refuse.ensures.holds.room;
}
