use Rattle.std.proofs.lemmas.Option.{slice_get_within}
use Rattle.std.proofs.Common.{arith, ap, ◌∙◌, refl, ◌-◌}
use Rattle.pool.proofs.PinLemmas.{lowered, removed, numbers_set, numbers_removed}
use Rattle.pool.specs.Images.{pinned_in}
use Rattle.pool.proofs.pins.unpin_once.Goals as goal

pub returns-then-more-gt0-clause-unpinned : goal.returns-then-more-gt0-clause-unpinned
returns-then-more-gt0-clause-unpinned c =
    λ n. rw c.set.ensures (lowered c.args.pins.now c.in-Some.place c.args.number c.in-Some.more c.if-more-gt0.true (rw c.as_slice.ensures at c.in-Some.ensures.some) n)

pub remove-requires : goal.remove-requires
remove-requires c = slice_get_within c.args.pins.now c.in-Some.place (record { number = c.args.number; more = c.in-Some.more }) (rw c.as_slice.ensures at c.in-Some.ensures.some)

pub returns-else-more-gt0-clause-unpinned : goal.returns-else-more-gt0-clause-unpinned
returns-else-more-gt0-clause-unpinned c =
    λ n. rw c.remove.ensures.rest (removed c.args.pins.now c.in-Some.place c.args.number c.in-Some.more (omega (arith, c.if-more-gt0.false)) (rw c.as_slice.ensures at c.in-Some.ensures.some) n)

pub returns-then-more-gt0-clause-same : goal.returns-then-more-gt0-clause-same
returns-then-more-gt0-clause-same c = λ none.
    ap pinned_in c.set.ensures ∙ numbers_set c.args.pins.now c.in-Some.place (record { number = c.args.number; more = c.in-Some.more }) (record { number = c.args.number; more = c.in-Some.more - 1 })
    (rw c.as_slice.ensures at c.in-Some.ensures.some) refl

pub returns-else-more-gt0-clause-removed : goal.returns-else-more-gt0-clause-removed
returns-else-more-gt0-clause-removed c = (
  slice_get_within c.args.pins.now c.in-Some.place (record { number = c.args.number; more = c.in-Some.more }) (rw c.as_slice.ensures at c.in-Some.ensures.some),
  ap pinned_in c.remove.ensures.rest ∙ numbers_removed c.args.pins.now c.in-Some.place,
)
