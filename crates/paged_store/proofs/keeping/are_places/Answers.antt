use Rattle.std.proofs.Common.{ℕ, ◌<◌, ◌^◌, arith}
use Rattle.paged_store.proofs.KeepingLemmas.{all_step}
use Rattle.paged_store.proofs.keeping.are_places.Goals as goal

pub loop-place-preserved : goal.loop-place-preserved
loop-place-preserved c =
    all_step (λ (n : ℕ). n < 2 ^ 64) c.args.places.now c.loop-place.place-index 0 (omega arith) (c.type_inv.places c.loop-place.place-index).fits c.loop-place.invariant
