use Rattle.std.proofs.Common.{ap, ◌∙◌, refl, inl, ◌+◌}
use Rattle.pool.specs.Images.{pinned_in}
use Rattle.pool.proofs.PinLemmas.{raised, numbers_set}
use Rattle.pool.proofs.pins.pin_once.Goals as goal

pub returns-then-more-lt18446744073709551615-clause-pinned : goal.returns-then-more-lt18446744073709551615-clause-pinned
returns-then-more-lt18446744073709551615-clause-pinned c =
    λ n. rw c.set.ensures (raised c.args.pins.now c.in-Some.place c.args.number c.in-Some.more (rw c.as_slice.ensures at c.in-Some.ensures.some) n)

pub returns-then-more-lt18446744073709551615-clause-numbers : goal.returns-then-more-lt18446744073709551615-clause-numbers
returns-then-more-lt18446744073709551615-clause-numbers c =
    inl (ap pinned_in c.set.ensures ∙ numbers_set c.args.pins.now c.in-Some.place (record { number = c.args.number; more = c.in-Some.more }) (record { number = c.args.number; more = c.in-Some.more + 1 })
    (rw c.as_slice.ensures at c.in-Some.ensures.some) refl)
