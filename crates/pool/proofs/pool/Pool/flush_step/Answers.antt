use Rattle.std.proofs.Common.{ℕ, List, Option, ap, refl}
use Rattle.last_version.specs.Lasts.{count_of, shown_by}
use Rattle.pool.specs.Images.{pinned_in}
use Rattle.pool.specs.Pins.{pins_at}
use Rattle.pool.specs.Slots.{pages_at}
use Rattle.pool.proofs.ImageCounts.{needed_same}
use Rattle.pool.proofs.PoolLemmas.{same_versions, same_over, stored_of, none_of}
use Rattle.pool.proofs.pool.Pool.flush_step.Goals as goal

pub returns-in-Ok-clause-versions : goal.returns-in-Ok-clause-versions
returns-in-Ok-clause-versions g c =
    same_versions g.D.Disk.is_honest c.args.self.now.last (pins_at c.args.self.now.pins)
    (pages_at (shown_by c.flush.new.self) c.args.self.now.slots)
    (pages_at (shown_by c.args.self.now.file) c.args.self.now.slots)
    (λ honest v n. same_over (shown_by c.args.self.now.file) (shown_by c.flush.new.self) c.args.self.now.slots (c.flush.ensures.shown honest) v n)

pub returns-in-Err-clause-versions : goal.returns-in-Err-clause-versions
returns-in-Err-clause-versions g c =
    same_versions g.D.Disk.is_honest c.args.self.now.last (pins_at c.args.self.now.pins)
    (pages_at (shown_by c.flush.new.self) c.args.self.now.slots)
    (pages_at (shown_by c.args.self.now.file) c.args.self.now.slots)
    (λ honest v n. same_over (shown_by c.args.self.now.file) (shown_by c.flush.new.self) c.args.self.now.slots (c.flush.ensures.shown honest) v n)

pub returns-in-Ok-clause-holds : goal.returns-in-Ok-clause-holds
returns-in-Ok-clause-holds g c = record {
  images = refl;
  needed = λ numbers. needed_same (count_of c.args.self.now.file) (count_of c.flush.new.self) (pinned_in c.args.self.now.pins) c.args.self.now.slots c.args.self.now.slots c.flush.ensures.pages (λ n. refl) numbers;
  frames = c.flush.ensures.room;
}

pub returns-in-Err-clause-holds : goal.returns-in-Err-clause-holds
returns-in-Err-clause-holds g c = record {
  images = refl;
  needed = λ numbers. needed_same (count_of c.args.self.now.file) (count_of c.flush.new.self) (pinned_in c.args.self.now.pins) c.args.self.now.slots c.args.self.now.slots c.flush.ensures.pages (λ n. refl) numbers;
  frames = c.flush.ensures.room;
}

pub returns-in-Ok-clause-stored : goal.returns-in-Ok-clause-stored
returns-in-Ok-clause-stored g c = λ n page none honest whole is.
    stored_of c.flush.new.self c.args.self.now.slots c.args.self.now.last n page honest whole (c.args.self.now.kept.old n) none is

pub returns-in-Err-clause-stored : goal.returns-in-Err-clause-stored
returns-in-Err-clause-stored g c = λ n page none honest whole is.
    stored_of c.flush.new.self c.args.self.now.slots c.args.self.now.last n page honest whole (c.args.self.now.kept.old n) none is

pub returns-in-Ok-clause-none : goal.returns-in-Ok-clause-none
returns-in-Ok-clause-none g c = none_of c.flush.new.self

pub returns-in-Err-clause-none : goal.returns-in-Err-clause-none
returns-in-Err-clause-none g c = none_of c.flush.new.self
