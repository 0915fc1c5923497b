use Rattle.std.proofs.Common.{◌≡◌, ap, [], map, ◌≤◌, ◌+◌, arith, refl, inl, inr}
use Rattle.algebra.specs.Listing.{ended, onwards, row_by_row, value_listing}
use Rattle.algebra.specs.declared.tree.Tree.TheVariants as t
use Rattle.denote.specs.Select.{shown_row}
use Rattle.places.specs.Left.{before, left, rows_by}
use Rattle.places.specs.Views.{above}
use Rattle.places.proofs.Aboves.{above_project}
use Rattle.places.proofs.Blocks.{IfOk-same}
use Rattle.streams.specs.Ahead.{ReadsAhead}
use Rattle.streams.proofs.Ahead.{ahead_above, ahead_placed, listed_lengths, shown_at_most_one}
use Rattle.streams.proofs.Blocks.{place-is}
use Rattle.streams.proofs.TableReads.{read-on}
use Rattle.streams.proofs.ReadNodes.{above_read, read_project}
use Rattle.streams.specs.Reads.{to_read}
use Rattle.streams.proofs.made.project_given.Goals as goal

pub returns-in-Ok-projected-clause-rows : goal.returns-in-Ok-projected-clause-rows
returns-in-Ok-projected-clause-rows g c = λ entries below meant same given.
    let rows = c.in-Ok.rows in
    let items = c.args.items.now in
    let f = shown_row (map (value_listing (rows_by entries)) items) [] in
    let listed = rw (same, c.as_slice.ensures) at c.in-Ok-projected.ensures.lists.ok in
    let here : before rows (left entries c.args.inner below) ≡ meant = rw c.in-Ok.is at given in
    let next = place-is entries (t.Project items below) c.above.result (above c.args.inner) _ c.above.ensures
    (above_project entries c.args.inner items below) in
    IfOk-same _ _ _ (c.settled.ensures.rows entries (t.Project items below) (λ row. ended (f row)) rows (left entries c.args.inner below) listed next)
    (ap (λ o. onwards o (row_by_row f)) here)

pub returns-in-Ok-projected-clause-reads : goal.returns-in-Ok-projected-clause-reads
returns-in-Ok-projected-clause-reads g c = λ entries below count limit given.
    let here : count + to_read entries c.args.inner below ≤ limit = rw c.in-Ok.is at given in
    let next = read-on entries (t.Project c.args.items.now below) c.above.result (above c.args.inner) count (to_read entries c.args.inner below) limit c.above.ensures
    (above_read entries c.args.inner (t.Project c.args.items.now below) below (λ place goes. read_project entries place c.args.items.now below goes)) here in
    c.settled.ensures.reads entries (t.Project c.args.items.now below) count limit (omega (arith, here)) next

pub returns-in-Err-clause-rows : goal.returns-in-Err-clause-rows
returns-in-Err-clause-rows g c = λ entries below meant same given. rw c.refused.ensures tt

pub returns-in-Err-clause-reads : goal.returns-in-Err-clause-reads
returns-in-Err-clause-reads g c = λ entries below count limit given. rw c.refused.ensures tt

pub returns-in-Err-clause-refused : goal.returns-in-Err-clause-refused
returns-in-Err-clause-refused g c = rw c.refused.ensures (inr c.in-Err.is)

pub returns-in-Ok-projected-clause-ahead : goal.returns-in-Ok-projected-clause-ahead
returns-in-Ok-projected-clause-ahead g c = λ entries below to_come was count most given.
    let rows = c.in-Ok.rows in
    let items = c.args.items.now in
    let tree = t.Project items below in
    let meant = map (value_listing (g.S.Tables.rows_of c.args.tables.now)) items in
    let few = listed_lengths (λ row. ended (shown_row meant [] row)) (shown_at_most_one meant []) rows c.in-Ok-projected.listed
    (rw c.as_slice.ensures at c.in-Ok-projected.ensures.lists.ok) in
    let here : ReadsAhead entries below to_come was count most rows c.args.inner = rw c.in-Ok.is at given in
    let next = ahead_placed entries tree to_come was count most rows c.above.result (above c.args.inner) c.above.ensures
    (ahead_above entries tree below (λ place goes. read_project entries place items below goes) to_come was count most rows c.args.inner here) in
    c.settled.ensures.ahead entries tree below c.args.inner to_come was count most rows few here next

pub returns-in-Err-clause-ahead : goal.returns-in-Err-clause-ahead
returns-in-Err-clause-ahead g c = λ entries below to_come was count most given. rw c.refused.ensures tt
