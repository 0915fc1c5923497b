use Rattle.std.proofs.Common.{◌≡◌, true, sym, subst, ap, ◌∙◌, arith, below_more, List, length}
use Rattle.std.specs.List.{list_any}
use Rattle.std.proofs.lemmas.List.Edits.{length-remove}
use Rattle.pool.specs.declared.slot.OldImage.{OldImage}
use Rattle.pool.specs.Images.{covers, reads, pinned_in}
use Rattle.pool.specs.Ready.{KeepsSeen}
use Rattle.pool.proofs.PinLemmas.{none_pinned}
use Rattle.pool.proofs.DropLemmas.{pinned_gone, still_needed, covers_fewer}
use Rattle.pool.proofs.images.look_at.Goals as goal

pub returns-then-is_read-clause-needed : goal.returns-then-is_read-clause-needed
returns-then-is_read-clause-needed c = λ so_far. below_more _ _ so_far (rw c.as_slice.ensures at (sym c.if-is_read.ensures))

pub returns-clause-shown : goal.returns-clause-shown
returns-clause-shown c = subst (λ (os : List OldImage). KeepsSeen c.args.pins.now c.args.images.now os) (sym c.drop_image.ensures.removed)
    (pinned_gone c.args.images.now c.args.place c.args.pins.now (λ p ps v. none_pinned p ps v) c.requires.place (rw c.as_slice.ensures at (sym c.if-is_read.ensures)))

pub returns-clause-needed : goal.returns-clause-needed
returns-clause-needed c = λ so_far i less. subst (λ (os : List OldImage). list_any (reads os i) (pinned_in c.args.pins.now) ≡ true) (sym c.drop_image.ensures.removed)
    (still_needed (pinned_in c.args.pins.now) c.args.images.now c.args.place c.requires.place so_far i less)

pub returns-clause-covers : goal.returns-clause-covers
returns-clause-covers c = λ v h. covers_fewer v c.args.images.now c.args.place (ap (covers v) (sym c.drop_image.ensures.removed) ∙ h)

pub returns-clause-nearer : goal.returns-clause-nearer
returns-clause-nearer c = let shorter = length-remove c.args.images.now c.args.place c.requires.place in let same = ap (λ (os : List OldImage). length os) c.drop_image.ensures.removed in let within = c.requires.place in omega (arith, shorter, same, within)
