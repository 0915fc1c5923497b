use Rattle.std.proofs.Common.{rules, ◌<◌, ◌≤◌, length}
use Rattle.parallel_scripts.proofs.AllCut.{pushed_at, cut_whole}
use Rattle.parallel_scripts.proofs.cut.cut_all.Goals as goal

pub loop-bytes-preserved : goal.loop-bytes-preserved
loop-bytes-preserved c =
    let less : c.loop-bytes.bytes-index < length c.args.scripts.now = search rules in
    pushed_at c.args.scripts.now c.loop-bytes.bytes-index _ _ _ _ c.bytes-item.result _ less (search rules) c.as_slice.ensures.value c.loop-bytes.invariant c.in_ok-push.ensures

pub returns : goal.returns
returns c =
    let past : length c.args.scripts.now ≤ c.loop-bytes.bytes-index = search rules in
    cut_whole _ _ _ _ past c.loop-bytes.invariant
