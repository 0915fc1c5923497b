use Rattle.std.proofs.Common.{◌≡◌, ap, [], ◌≤◌, ◌+◌, arith, refl, inl, inr}
use Rattle.algebra.specs.Listing.{ended, onwards, row_by_row, truth_listing}
use Rattle.algebra.specs.declared.tree.Tree.TheVariants as t
use Rattle.denote.specs.From.{kept_row}
use Rattle.places.specs.Left.{before, left, rows_by}
use Rattle.places.specs.Views.{above}
use Rattle.places.proofs.Aboves.{above_filter}
use Rattle.places.proofs.Blocks.{IfOk-same}
use Rattle.streams.specs.Ahead.{ReadsAhead}
use Rattle.streams.proofs.Ahead.{ahead_above, ahead_placed, kept_at_most_one, listed_lengths}
use Rattle.streams.proofs.Blocks.{place-is}
use Rattle.streams.proofs.TableReads.{read-on}
use Rattle.streams.proofs.ReadNodes.{above_read, read_filter}
use Rattle.streams.specs.Reads.{to_read}
use Rattle.streams.proofs.made.filter_given.Goals as goal

pub returns-in-Ok-filtered_moving-clause-rows : goal.returns-in-Ok-filtered_moving-clause-rows
returns-in-Ok-filtered_moving-clause-rows g c = λ entries below meant same given.
    let rows = c.in-Ok.rows in
    let condition = c.args.condition.now in
    let f = kept_row (truth_listing (rows_by entries) condition) [] in
    let listed = rw same at c.in-Ok-filtered_moving.ensures.lists.ok in
    let here : before rows (left entries c.args.inner below) ≡ meant = rw c.in-Ok.is at given in
    let next = place-is entries (t.Filter condition below) c.above.result (above c.args.inner) _ c.above.ensures
    (above_filter entries c.args.inner condition below) in
    IfOk-same _ _ _ (c.settled.ensures.rows entries (t.Filter condition below) (λ row. ended (f row)) rows (left entries c.args.inner below) listed next)
    (ap (λ o. onwards o (row_by_row f)) here)

pub returns-in-Ok-filtered_moving-clause-reads : goal.returns-in-Ok-filtered_moving-clause-reads
returns-in-Ok-filtered_moving-clause-reads g c = λ entries below count limit given.
    let here : count + to_read entries c.args.inner below ≤ limit = rw c.in-Ok.is at given in
    let next = read-on entries (t.Filter c.args.condition.now below) c.above.result (above c.args.inner) count (to_read entries c.args.inner below) limit c.above.ensures
    (above_read entries c.args.inner (t.Filter c.args.condition.now below) below (λ place goes. read_filter entries place c.args.condition.now below goes)) here in
    c.settled.ensures.reads entries (t.Filter c.args.condition.now below) count limit (omega (arith, here)) next

pub returns-in-Err-clause-rows : goal.returns-in-Err-clause-rows
returns-in-Err-clause-rows g c = λ entries below meant same given. rw c.refused.ensures tt

pub returns-in-Err-clause-reads : goal.returns-in-Err-clause-reads
returns-in-Err-clause-reads g c = λ entries below count limit given. rw c.refused.ensures tt

pub returns-in-Err-clause-refused : goal.returns-in-Err-clause-refused
returns-in-Err-clause-refused g c = rw c.refused.ensures (inr c.in-Err.is)

pub returns-in-Err-filtered_moving-clause-rows : goal.returns-in-Err-filtered_moving-clause-rows
returns-in-Err-filtered_moving-clause-rows g c = λ entries below meant same given. rw c.refused-in-Err-filtered_moving.ensures tt

pub returns-in-Err-filtered_moving-clause-reads : goal.returns-in-Err-filtered_moving-clause-reads
returns-in-Err-filtered_moving-clause-reads g c = λ entries below count limit given. rw c.refused-in-Err-filtered_moving.ensures tt

pub returns-in-Err-filtered_moving-clause-refused : goal.returns-in-Err-filtered_moving-clause-refused
returns-in-Err-filtered_moving-clause-refused g c = rw c.refused-in-Err-filtered_moving.ensures (inl refl)

pub returns-in-Ok-filtered_moving-clause-ahead : goal.returns-in-Ok-filtered_moving-clause-ahead
returns-in-Ok-filtered_moving-clause-ahead g c = λ entries below to_come was count most given.
    let rows = c.in-Ok.rows in
    let condition = c.args.condition.now in
    let tree = t.Filter condition below in
    let f = kept_row (truth_listing (g.S.Tables.rows_of c.args.tables.now) condition) [] in
    let few = listed_lengths (λ row. ended (f row)) (kept_at_most_one (truth_listing (g.S.Tables.rows_of c.args.tables.now) condition) []) rows c.in-Ok-filtered_moving.listed
    c.in-Ok-filtered_moving.ensures.lists.ok in
    let here : ReadsAhead entries below to_come was count most rows c.args.inner = rw c.in-Ok.is at given in
    let next = ahead_placed entries tree to_come was count most rows c.above.result (above c.args.inner) c.above.ensures
    (ahead_above entries tree below (λ place goes. read_filter entries place condition below goes) to_come was count most rows c.args.inner here) in
    c.settled.ensures.ahead entries tree below c.args.inner to_come was count most rows few here next

pub returns-in-Err-clause-ahead : goal.returns-in-Err-clause-ahead
returns-in-Err-clause-ahead g c = λ entries below to_come was count most given. rw c.refused.ensures tt

pub returns-in-Err-filtered_moving-clause-ahead : goal.returns-in-Err-filtered_moving-clause-ahead
returns-in-Err-filtered_moving-clause-ahead g c = λ entries below to_come was count most given. rw c.refused-in-Err-filtered_moving.ensures tt
