use Rattle.std.proofs.Common.{List, ap, sym, ◌∙◌}
use Rattle.last_version.specs.Lasts.{count_of, shown_by}
use Rattle.pool.specs.declared.slot.Slot.{Slot}
use Rattle.pool.specs.Images.{reads_newest, pinned_in}
use Rattle.pool.specs.Slots.{slot_at}
use Rattle.pool.proofs.SlotLemmas.{shown_with_image}
use Rattle.pool.proofs.ImageCounts.{count_kept}
use Rattle.pool.proofs.steps.prepare_page.Goals as goal

pub returns-clause-count : goal.returns-clause-count
returns-clause-count g c =
    count_kept (count_of c.args.file.now) (pinned_in c.args.pins.now) c.args.slots.now c.keep_at.new.slots c.args.page c.in_ok-image.image c.keep_at.ensures.len c.keep_at.ensures.others c.in_ok-keep_at.ensures.kept
    c.in_ok-image.ensures.there
    (ap (reads_newest (pinned_in c.args.pins.now)) (sym (c.images_at.ensures ∙ ap (λ (s : List Slot). (slot_at s c.args.page).images) c.as_slice.ensures)) ∙ sym c.if-not-is_needed.ensures)

pub returns-clause-shown : goal.returns-clause-shown
returns-clause-shown g c = λ honest v n.
    shown_with_image (shown_by c.args.file.now) c.args.slots.now c.keep_at.new.slots c.args.page c.in_ok-image.image c.in_ok-keep_at.ensures.kept c.keep_at.ensures.others
    (c.in_ok-image.ensures.value honest) v n
