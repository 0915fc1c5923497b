use Rattle.std.proofs.Common.{◌≡◌, Some, refl, take, subst}
use Rattle.algebra.specs.declared.tree.Tree.TheVariants as t
use Rattle.std.specs.Option.{option_map}
use Rattle.store.specs.Indexes.{beyond, some_ranged}
use Rattle.store.specs.View.{AreEntries, position_of, table_named}
use Rattle.places.specs.Left.{entries_in, entries_within}
use Rattle.places.specs.Views.{last_position}
use Rattle.streams.proofs.RangeBlocks.{goes-on-within, range-given, range-in-index, ranged-within}
use Rattle.streams.proofs.TableBlocks.{goes-on-in, plain}
use Rattle.streams.proofs.TableReads.{range-read}
use Rattle.streams.proofs.ReadNodes.{read_range}
use Rattle.streams.proofs.ranges.ranged_by_index.Goals as goal

pub returns-in-Ok-place_behind-clause-rows : goal.returns-in-Ok-place_behind-clause-rows
returns-in-Ok-place_behind-clause-rows g c = λ sound here goes.
    let law = g.met.R.Reading in
    let shown = g.R.Reading.shows c.args.reading.now in
    let table = c.args.table.now in
    let columns = c.args.columns.now in
    let low = c.args.low.now in
    let high = c.args.high.now in
    let entries = entries_in shown in
    let most = c.max-most.result in
    let within = entries_within columns low high (entries table.name) in
    let tree = t.Range table columns low high in
    let rising = goes-on-in shown table.name (λ stored is. law.numbers_rise _ _ _ sound is) in
    let ranged = ranged-within columns (table_named shown table.name) c.args.index c.in_ok-low.low c.in_ok-high.high low high here c.in_ok-low.ensures.lower c.in_ok-high.ensures.upper rising in
    let block : some_ranged (table_named shown table.name) c.args.index c.in_ok-low.low c.in_ok-high.high (option_map (λ p. position_of p.now) c.last_position-after.result) most
    ≡ take most (beyond (last_position c.args.place.now) (Some columns) within) = λ i. take most (beyond (c.last_position-after.ensures i) (here i) (ranged i)) in
    let found = subst (AreEntries c.in-Ok.found) block (rw c.in-Ok.is at c.range_block.ensures.rows sound) in
    let is = range-in-index columns entries table low high in
    let next = rw c.in-Ok-place_behind.is at (c.place_behind.ensures.left entries tree within plain _ (goes-on-within columns low high (entries table.name) rising) is refl found) in
    range-given columns entries tree within is c.args.place.now c.in-Ok-place_behind.place c.in-Ok.found.rows most goes found.rows next

pub returns-in-Ok-place_behind-clause-reads : goal.returns-in-Ok-place_behind-clause-reads
returns-in-Ok-place_behind-clause-reads g c = λ sound here known goes.
    let law = g.met.R.Reading in
    let shown = g.R.Reading.shows c.args.reading.now in
    let table = c.args.table.now in
    let columns = c.args.columns.now in
    let low = c.args.low.now in
    let high = c.args.high.now in
    let entries = entries_in shown in
    let most = c.max-most.result in
    let within = entries_within columns low high (entries table.name) in
    let tree = t.Range table columns low high in
    let rising = goes-on-in shown table.name (λ stored is. law.numbers_rise _ _ _ sound is) in
    let ranged = ranged-within columns (table_named shown table.name) c.args.index c.in_ok-low.low c.in_ok-high.high low high here c.in_ok-low.ensures.lower c.in_ok-high.ensures.upper rising in
    let block : some_ranged (table_named shown table.name) c.args.index c.in_ok-low.low c.in_ok-high.high (option_map (λ p. position_of p.now) c.last_position-after.result) most
    ≡ take most (beyond (last_position c.args.place.now) (Some columns) within) = λ i. take most (beyond (c.last_position-after.ensures i) (here i) (ranged i)) in
    let found = subst (AreEntries c.in-Ok.found) block (rw c.in-Ok.is at c.range_block.ensures.rows sound) in
    let counts = rw c.in-Ok.is at c.range_block.ensures.read in
    let is = read_range entries table columns low high (Some c.args.index) known in
    let next = rw c.in-Ok-place_behind.is at (c.place_behind.ensures.reads entries tree within _ (goes-on-within columns low high (entries table.name) rising) is found) in
    range-read columns entries tree within is c.args.place.now c.in-Ok-place_behind.place c.in-Ok.found.rows most _ _ goes found.rows next counts
