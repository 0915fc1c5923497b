use Rattle.std.proofs.Common.{ap, sym, ◌∙◌, arith, length}
use Rattle.std.proofs.lemmas.List.{get_or-set_same}
use Rattle.std.proofs.lemmas.Option.{slice_get_within}
use Rattle.pool.specs.declared.slot.Slot.{Slot}
use Rattle.pool.specs.Images.{covers, with_bytes}
use Rattle.pool.specs.Slots.{seen, empty_slot}
use Rattle.pool.proofs.ImageCounts.{got}
use Rattle.pool.proofs.PoolLemmas.{past}
use Rattle.pool.proofs.images.drop_at.Goals as goal

pub returns-in-Some-clause-count : goal.returns-in-Some-clause-count
returns-in-Some-clause-count c =
    let slots = c.args.slots.now in
    let slot = c.in-Some.slot.now in
    let now : Slot = record { images = c.drop_unread.new.images } in
    let was_there = ap (λ (s : Slot). with_bytes s.images) (got slots c.args.page slot empty_slot (sym c.in-Some.ensures.value)) in
    let is_there = ap (λ (s : Slot). with_bytes s.images) (get_or-set_same slots c.args.page now empty_slot (slice_get_within slots c.args.page slot (sym c.in-Some.ensures.value))) in
    let count = c.drop_unread.ensures.count in omega (arith, was_there, is_there, count)

pub returns-in-Some-clause-fewer : goal.returns-in-Some-clause-fewer
returns-in-Some-clause-fewer c =
    let slots = c.args.slots.now in
    let slot = c.in-Some.slot.now in
    let now : Slot = record { images = c.drop_unread.new.images } in
    let was_there = ap (λ (s : Slot). with_bytes s.images) (got slots c.args.page slot empty_slot (sym c.in-Some.ensures.value)) in
    let is_there = ap (λ (s : Slot). with_bytes s.images) (get_or-set_same slots c.args.page now empty_slot (slice_get_within slots c.args.page slot (sym c.in-Some.ensures.value))) in
    let fewer = c.drop_unread.ensures.fewer in omega (arith, was_there, is_there, fewer)

pub returns-in-Some-clause-shown : goal.returns-in-Some-clause-shown
returns-in-Some-clause-shown c = λ v some d.
    let slots = c.args.slots.now in
    let slot = c.in-Some.slot.now in
    let now : Slot = record { images = c.drop_unread.new.images } in
    ap (λ (s : Slot). seen v s.images d) (get_or-set_same slots c.args.page now empty_slot (slice_get_within slots c.args.page slot (sym c.in-Some.ensures.value)))
    ∙ c.drop_unread.ensures.shown v some d ∙ sym (ap (λ (s : Slot). seen v s.images d) (got slots c.args.page slot empty_slot (sym c.in-Some.ensures.value)))

pub returns-in-Some-clause-covers : goal.returns-in-Some-clause-covers
returns-in-Some-clause-covers c = λ v h.
    let slots = c.args.slots.now in
    let slot = c.in-Some.slot.now in
    let now : Slot = record { images = c.drop_unread.new.images } in
    ap (λ (s : Slot). covers v s.images) (got slots c.args.page slot empty_slot (sym c.in-Some.ensures.value))
    ∙ c.drop_unread.ensures.covers v (sym (ap (λ (s : Slot). covers v s.images) (get_or-set_same slots c.args.page now empty_slot (slice_get_within slots c.args.page slot (sym c.in-Some.ensures.value)))) ∙ h)

pub returns-in-None-clause-needed : goal.returns-in-None-clause-needed
returns-in-None-clause-needed c = λ i less.
    let none = ap (λ (s : Slot). length s.images) (past c.args.slots.now c.args.page (sym c.in-None.ensures.value)) in absurd (omega (arith, none, less))
