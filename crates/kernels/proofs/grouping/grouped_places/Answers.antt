use Rattle.std.proofs.Common.{◌∙◌}
use Rattle.kernels.proofs.Growing.{all-grown}
use Rattle.kernels.proofs.GroupsGrown.{groups-grown}
use Rattle.kernels.proofs.grouping.grouped_places.Goals as goal

pub returns : goal.returns
returns c = all-grown c.loop-place.groups c.loop-place.place c.args.keys.now c.loop-place-test.false c.loop-place.invariant.grown ∙ groups-grown c.args.keys.now
