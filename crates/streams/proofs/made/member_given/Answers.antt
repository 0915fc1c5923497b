use Rattle.std.proofs.Common.{◌≡◌, ap, [], ◌≤◌, ◌+◌, arith, refl, inl, inr}
use Rattle.algebra.specs.Joined.{is_member}
use Rattle.algebra.specs.Listing.{ended, onwards, row_by_row, value_listing}
use Rattle.algebra.specs.declared.tree.Tree.TheVariants as t
use Rattle.denote.specs.From.{kept_row}
use Rattle.places.specs.Left.{before, left, members_listed, rows_by}
use Rattle.places.specs.Views.{asked_above}
use Rattle.places.proofs.Aboves.{above_member}
use Rattle.places.proofs.Blocks.{IfOk-same}
use Rattle.streams.proofs.Blocks.{alike-members, place-is}
use Rattle.streams.proofs.TableReads.{read-on}
use Rattle.streams.proofs.ReadNodes.{asked_read}
use Rattle.streams.specs.Reads.{to_read}
use Rattle.streams.proofs.made.member_given.Goals as goal

pub returns-in-Ok-kept-clause-rows : goal.returns-in-Ok-kept-clause-rows
returns-in-Ok-kept-clause-rows g c = λ entries others below meant same given.
    let rows = c.in-Ok.rows in
    let operand = c.args.operand.now in
    let members = c.kept_among-kept.result.1 in
    let alike = alike-members members c.args.members c.kept_among-kept.ensures.same.0 c.kept_among-kept.ensures.same.1 in
    let f = kept_row (is_member (value_listing (rows_by entries) operand) c.args.negated (members_listed c.args.members)) [] in
    let listed = rw (same, c.as_slice-found.ensures, c.in-Ok-kept.is) at c.kept_among-kept.ensures.lists.ok in
    let here : before rows (left entries c.args.inner below) ≡ meant = rw c.in-Ok.is at given in
    let next = place-is entries (t.Member operand c.args.negated others below) c.asked_above.result (asked_above members c.args.inner) _
    c.asked_above.ensures (rw alike at (above_member entries members c.args.inner operand c.args.negated others below)) in
    IfOk-same _ _ _ (c.settled.ensures.rows entries (t.Member operand c.args.negated others below) (λ row. ended (f row)) rows (left entries c.args.inner below) listed next)
    (ap (λ o. onwards o (row_by_row f)) here)

pub returns-in-Ok-kept-clause-reads : goal.returns-in-Ok-kept-clause-reads
returns-in-Ok-kept-clause-reads g c = λ entries others below count limit given.
    let here : count + to_read entries c.args.inner below ≤ limit = rw c.in-Ok.is at given in
    let tree = t.Member c.args.operand.now c.args.negated others below in
    let members = c.kept_among-kept.result.1 in
    let next = read-on entries tree c.asked_above.result (asked_above members c.args.inner) count (to_read entries c.args.inner below) limit c.asked_above.ensures
    (asked_read entries members c.args.inner c.args.operand.now c.args.negated others below) here in
    c.settled.ensures.reads entries tree count limit (omega (arith, here)) next

pub returns-in-Err-clause-rows : goal.returns-in-Err-clause-rows
returns-in-Err-clause-rows g c = λ entries others below meant same given. rw c.refused.ensures tt

pub returns-in-Err-clause-reads : goal.returns-in-Err-clause-reads
returns-in-Err-clause-reads g c = λ entries others below count limit given. rw c.refused.ensures tt

pub returns-in-Err-clause-refused : goal.returns-in-Err-clause-refused
returns-in-Err-clause-refused g c = rw c.refused.ensures (inr c.in-Err.is)
