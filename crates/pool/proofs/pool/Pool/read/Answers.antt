use Rattle.std.proofs.Common.{◌≡◌, ℕ, List, Option, Some, None, ap, sym, ◌∙◌, refl}
use Rattle.last_version.specs.Lasts.{count_of, shown_by}
use Rattle.last_version.proofs.HoldLemmas.{shown_same}
use Rattle.pool.specs.declared.slot.Slot.{Slot}
use Rattle.pool.specs.Pages.{known}
use Rattle.pool.specs.Pins.{pins_at}
use Rattle.pool.specs.Slots.{pages_at}
use Rattle.pool.proofs.PoolLemmas.{same_versions, known_is, is_known, none_known}
use Rattle.pool.specs.Images.{pinned_in}
use Rattle.pool.proofs.ImageCounts.{needed_same}
use Rattle.pool.proofs.RefusalLemmas.{read_refused}
use Rattle.pool.proofs.pool.Pool.read.Goals as goal

pub returns-in-Ok-clause-versions : goal.returns-in-Ok-clause-versions
returns-in-Ok-clause-versions g c =
    same_versions g.D.Disk.is_honest c.args.self.now.last (pins_at c.args.self.now.pins)
    (pages_at (shown_by c.read_at.new.file) c.args.self.now.slots)
    (pages_at (shown_by c.args.self.now.file) c.args.self.now.slots)
    (λ honest v n. ap (λ (newest : ℕ → Option (List ℕ)). pages_at newest c.args.self.now.slots v n) (shown_same c.args.self.now.file c.read_at.new.file (c.read_at.ensures.version honest)))

pub returns-in-Err-clause-versions : goal.returns-in-Err-clause-versions
returns-in-Err-clause-versions g c =
    same_versions g.D.Disk.is_honest c.args.self.now.last (pins_at c.args.self.now.pins)
    (pages_at (shown_by c.read_at.new.file) c.args.self.now.slots)
    (pages_at (shown_by c.args.self.now.file) c.args.self.now.slots)
    (λ honest v n. ap (λ (newest : ℕ → Option (List ℕ)). pages_at newest c.args.self.now.slots v n) (shown_same c.args.self.now.file c.read_at.new.file (c.read_at.ensures.version honest)))

pub returns-in-Ok-clause-value : goal.returns-in-Ok-clause-value
returns-in-Ok-clause-value g c = λ bytes e.
    known_is (c.read_at.new.into ≡ bytes) g.D.Disk.is_honest
    (pages_at (shown_by c.args.self.now.file) c.args.self.now.slots c.args.at) c.args.page bytes e
    (λ honest is. let same : Some c.read_at.new.into ≡ Some bytes = sym (ap (λ (s : List Slot). pages_at (shown_by c.args.self.now.file) s c.args.at c.args.page) (sym c.as_slice.ensures) ∙ c.in-Ok.ensures.value honest) ∙ is in cc)

pub returns-in-Ok-clause-there : goal.returns-in-Ok-clause-there
returns-in-Ok-clause-there g c = λ honest.
    is_known g.D.Disk.is_honest (pages_at (shown_by c.args.self.now.file) c.args.self.now.slots c.args.at) c.args.page
    c.read_at.new.into honest (ap (λ (s : List Slot). pages_at (shown_by c.args.self.now.file) s c.args.at c.args.page) (sym c.as_slice.ensures) ∙ c.in-Ok.ensures.value honest)

pub returns-in-Err-clause-refusal : goal.returns-in-Err-clause-refusal
returns-in-Err-clause-refusal g c = read_refused _
    (known g.D.Disk.is_honest (pages_at (shown_by c.args.self.now.file) c.args.self.now.slots c.args.at) c.args.page ≡ None)
    _ _ c.in-Err.error
    (λ none. none_known g.D.Disk.is_honest (pages_at (shown_by c.args.self.now.file) c.args.self.now.slots c.args.at) c.args.page (ap (λ (s : List Slot). pages_at (shown_by c.args.self.now.file) s c.args.at c.args.page) (sym c.as_slice.ensures) ∙ none))
    c.in-Err.ensures.refusal

pub returns-in-Ok-clause-holds : goal.returns-in-Ok-clause-holds
returns-in-Ok-clause-holds g c = record {
  images = refl;
  needed = λ numbers. needed_same (count_of c.args.self.now.file) (count_of c.read_at.new.file) (pinned_in c.args.self.now.pins) c.args.self.now.slots c.args.self.now.slots c.read_at.ensures.holds.count (λ n. refl) numbers;
  frames = c.read_at.ensures.holds.room;
}

pub returns-in-Err-clause-holds : goal.returns-in-Err-clause-holds
returns-in-Err-clause-holds g c = record {
  images = refl;
  needed = λ numbers. needed_same (count_of c.args.self.now.file) (count_of c.read_at.new.file) (pinned_in c.args.self.now.pins) c.args.self.now.slots c.args.self.now.slots c.read_at.ensures.holds.count (λ n. refl) numbers;
  frames = c.read_at.ensures.holds.room;
}
