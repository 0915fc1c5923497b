use Rattle.std.proofs.Common.{◌≤◌, ◌+◌, length, ap, ◌∙◌, Some, arith}
use Rattle.places.specs.Left.{before}
use Rattle.places.proofs.Wholes.{left_ended}
use Rattle.streams.specs.Ahead.{ReadsAhead}
use Rattle.streams.proofs.Ahead.{ahead_ended, ahead_fewer}
use Rattle.streams.proofs.Blocks.{block-ends, block-goes_on}
use Rattle.streams.proofs.ReadNodes.{read_ended}
use Rattle.streams.proofs.made.settled.Goals as goal

pub returns-in-Some-clause-rows : goal.returns-in-Some-clause-rows
returns-in-Some-clause-rows c = λ entries tree list given rest h n.
    rw (c.ended.ensures, left_ended entries (Some c.in-Some.fault) tree)
    (block-ends list given c.args.listed.rows c.in-Some.fault rest (rw c.in-Some.is at h))

pub returns-in-Ok-clause-rows : goal.returns-in-Ok-clause-rows
returns-in-Ok-clause-rows c = λ entries tree list given rest h n.
    ap (λ o. before c.args.listed.rows o) (rw c.in-Ok.is at n)
    ∙ block-goes_on list given c.args.listed.rows rest (rw c.in-None.is at h)

pub returns-in-Some-clause-reads : goal.returns-in-Some-clause-reads
returns-in-Some-clause-reads c = λ entries tree count limit le n. rw c.ended.ensures (omega (arith, le, read_ended entries (Some c.in-Some.fault) tree))

pub returns-in-Ok-clause-reads : goal.returns-in-Ok-clause-reads
returns-in-Ok-clause-reads c = λ entries tree count limit le n. rw c.in-Ok.is at n

pub returns-in-Some-clause-refused : goal.returns-in-Some-clause-refused
returns-in-Some-clause-refused c = rw c.ended.ensures tt

pub returns-in-Some-clause-ahead : goal.returns-in-Some-clause-ahead
returns-in-Some-clause-ahead c = λ entries tree below inner to_come was count most given few here next.
    let more : length c.args.listed.rows + 1 ≤ length given = rw c.in-Some.is at few in
    rw c.ended.ensures (ahead_ended entries tree below to_come was count most given c.args.listed.rows inner c.in-Some.fault here more)

pub returns-in-Ok-clause-ahead : goal.returns-in-Ok-clause-ahead
returns-in-Ok-clause-ahead c = λ entries tree below inner to_come was count most given few here next.
    let placed : ReadsAhead entries tree to_come was count most given c.in-Ok.place = rw c.in-Ok.is at next in
    let fewer : length c.args.listed.rows ≤ length given = omega (arith, few) in
    ahead_fewer entries tree to_come was count most given c.args.listed.rows c.in-Ok.place placed fewer
