use Rattle.std.proofs.Common.{List, [], ap, sym, ◌∙◌, None, length}
use Rattle.algebra.specs.declared.tree.Tree.TheVariants as t
use Rattle.algebra.specs.Listing.{listing_step}
use Rattle.algebra.proofs.Nodes.{tree_range}
use Rattle.places.specs.Left.{entries_in, rows_by}
use Rattle.places.proofs.Blocks.{IfOk-same}
use Rattle.streams.proofs.TableReads.{whole-read}
use Rattle.streams.proofs.ReadNodes.{read_range}
use Rattle.store.specs.Contents.{Entry}
use Rattle.places.proofs.Begun.{all_beyond}
use Rattle.store.specs.Indexes.{beyond}
use Rattle.std.specs.Prelude.{Some}
use Rattle.streams.proofs.ranges.ranged_whole.Goals as goal

pub returns-in-Ok-clause-rows : goal.returns-in-Ok-clause-rows
returns-in-Ok-clause-rows g c = λ sound.
    let entries = entries_in (g.R.Reading.shows c.args.reading.now) in
    let table = c.args.table.now in
    let columns = c.args.columns.now in
    let low = c.args.low.now in
    let high = c.args.high.now in
    let found = rw c.in-Ok.is at c.scan.ensures.rows sound in
    let listed = rw (c.as_slice.ensures, found.rows) at c.ranged_rows.ensures.lists in
    IfOk-same _ _ _ (c.kept.ensures.rows entries (t.Range table columns low high) _ listed)
    (ap (λ m. m []) (sym (tree_range (listing_step (rows_by entries)) table columns low high)))

pub returns-in-Ok-clause-reads : goal.returns-in-Ok-clause-reads
returns-in-Ok-clause-reads g c = λ sound place known goes none.
    let entries = entries_in (g.R.Reading.shows c.args.reading.now) in
    let table = c.args.table.now in
    let columns = c.args.columns.now in
    let low = c.args.low.now in
    let high = c.args.high.now in
    let found = rw c.in-Ok.is at c.scan.ensures.rows sound in
    let counts = rw c.in-Ok.is at c.scan.ensures.read in
    let all = read_range entries table columns low high None known place goes
    ∙ ap (λ at. length (beyond at (Some columns) (entries table.name))) none
    ∙ ap (λ (es : List Entry). length es) (all_beyond columns (entries table.name)) in
    c.kept.ensures.reads entries (t.Range table columns low high) _ _ (whole-read (entries table.name) c.in-Ok.found.rows _ _ _ found.rows all counts)
