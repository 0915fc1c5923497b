use Rattle.std.proofs.Common.{[], ap, sym, ◌∙◌, ◌≤◌, ◌+◌, arith}
use Rattle.algebra.specs.declared.tree.Tree.TheVariants as t
use Rattle.places.specs.declared.place.Place.{Place}
use Rattle.places.specs.Left.{before, left}
use Rattle.streams.proofs.Blocks.{same-members}
use Rattle.streams.proofs.Nodes.{member-begins}
use Rattle.streams.proofs.ReadNodes.{asked_read, read_start}
use Rattle.streams.specs.Reads.{to_begin, to_read}
use Rattle.places.specs.declared.place.Place.TheVariants as p
use Rattle.streams.proofs.made.members_known.Goals as goal

pub returns-in-Ok-member_begun-clause-rows : goal.returns-in-Ok-member_begun-clause-rows
returns-in-Ok-member_begun-clause-rows c = λ entries operand is_negated others below h.
    let tree = t.Member operand is_negated others below in
    let begun = rw c.in-Ok-member_begun.is at c.member_begun.ensures in
    let listed = sym (same-members begun.members c.in-Ok.listed.rows c.in-Ok.listed.fault begun.rows begun.fault) ∙ (rw c.in-Ok.is at h) in
    rw c.new.ensures (ap (λ (q : Place). before [] (left entries q tree)) begun.is
    ∙ ap (λ o. before [] o) (member-begins entries operand is_negated others below begun.members listed))

pub returns-in-Ok-member_begun-clause-reads : goal.returns-in-Ok-member_begun-clause-reads
returns-in-Ok-member_begun-clause-reads c = λ entries operand is_negated others below count limit h.
    let tree = t.Member operand is_negated others below in
    let here : count + to_begin entries below ≤ limit = rw c.in-Ok.is at h in
    let begun = rw c.in-Ok-member_begun.is at c.member_begun.ensures in
    let same = ap (λ (q : Place). to_read entries q tree) begun.is in
    let le = asked_read entries begun.members p.Start operand is_negated others below in
    omega (arith, here, same, le, read_start entries below)
