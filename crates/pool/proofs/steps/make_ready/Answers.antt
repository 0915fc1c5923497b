use Rattle.std.proofs.Common.{◌≡◌, ℕ, ◌+◌, OnOk, refl, ap, subst}
use Rattle.last_version.specs.Lasts.{count_of}
use Rattle.pool.specs.declared.slot.Slot.{Slot}
use Rattle.pool.specs.Images.{images_in, pinned_in}
use Rattle.pool.proofs.ImageCounts.{same_count, needed_same}
use Rattle.pool.proofs.steps.make_ready.Goals as goal

pub returns-clause-count : goal.returns-clause-count
returns-clause-count g c =
    let images = same_count c.args.slots.now c.reach_all.new.slots (λ n. ap (λ (s : Slot). s.images) (c.reach_all.ensures.same n)) in
    let needed = needed_same (count_of c.args.file.now) (count_of c.args.file.now) (pinned_in c.args.pins.now) c.args.slots.now c.reach_all.new.slots refl
    (λ n. ap (λ (s : Slot). s.images) (c.reach_all.ensures.same n)) c.args.numbers.now in
    subst (λ (m : ℕ). OnOk c.prepare.result (images_in c.prepare.new.slots ≡ m)) (λ i. images i + needed i) c.prepare.ensures.count
