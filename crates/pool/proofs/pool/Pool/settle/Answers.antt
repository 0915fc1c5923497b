use Rattle.std.proofs.Common.{ℕ, List, Option, Some, ap, sym, ◌∙◌, refl}
use Rattle.last_version.specs.Lasts.{count_of, shown_by}
use Rattle.pool.specs.Pins.{pins_at}
use Rattle.pool.specs.Slots.{pages_at}
use Rattle.pool.proofs.PoolLemmas.{known_same, same_versions, same_over, stored_of}
use Rattle.pool.proofs.pool.Pool.settle.Goals as goal

pub returns-in-Ok-clause-versions : goal.returns-in-Ok-clause-versions
returns-in-Ok-clause-versions g c =
    same_versions g.D.Disk.is_honest c.args.self.now.last (pins_at c.args.self.now.pins)
    (pages_at (shown_by c.settle.new.self) c.args.self.now.slots)
    (pages_at (shown_by c.args.self.now.file) c.args.self.now.slots)
    (λ honest v n. same_over (shown_by c.args.self.now.file) (shown_by c.settle.new.self) c.args.self.now.slots (c.settle.ensures.shown honest) v n)

pub returns-in-Err-clause-versions : goal.returns-in-Err-clause-versions
returns-in-Err-clause-versions g c =
    same_versions g.D.Disk.is_honest c.args.self.now.last (pins_at c.args.self.now.pins)
    (pages_at (shown_by c.settle.new.self) c.args.self.now.slots)
    (pages_at (shown_by c.args.self.now.file) c.args.self.now.slots)
    (λ honest v n. same_over (shown_by c.args.self.now.file) (shown_by c.settle.new.self) c.args.self.now.slots (c.settle.ensures.shown honest) v n)

pub returns-in-Ok-clause-stored : goal.returns-in-Ok-clause-stored
returns-in-Ok-clause-stored g c = λ honest n page is.
    stored_of c.settle.new.self c.args.self.now.slots c.args.self.now.last n page honest (c.settle.ensures.broken ∙ c.in-Ok.ensures.whole) (c.args.self.now.kept.old n) (c.in-Ok.ensures.none n)
    ((λ i. known_same g.D.Disk.is_honest (pages_at (shown_by c.settle.new.self) c.args.self.now.slots c.args.self.now.last) (pages_at (shown_by c.args.self.now.file) c.args.self.now.slots c.args.self.now.last)
    (λ h m. same_over (shown_by c.args.self.now.file) (shown_by c.settle.new.self) c.args.self.now.slots (c.settle.ensures.shown h) c.args.self.now.last m) i n) ∙ is)
