use Rattle.std.proofs.Common.{sym, ap, ◌∙◌}
use Rattle.std.specs.Option.{option_map}
use Rattle.store.specs.View.{position_of}
use Rattle.places.specs.Left.{entries_in}
use Rattle.places.proofs.Blocks.{IfOk-same}
use Rattle.streams.proofs.RangeBlocks.{range-anew}
use Rattle.streams.proofs.TableBlocks.{index-columns}
use Rattle.streams.proofs.ranges.range_given.Goals as goal

pub returns-in-Some-clause-rows : goal.returns-in-Some-clause-rows
returns-in-Some-clause-rows g c = λ sound indexed goes.
    let shown = g.R.Reading.shows c.args.reading.now in
    c.ranged_by_index.ensures.rows sound
    (index-columns shown.contents c.args.table.now c.args.columns.now c.in-Some.index indexed (sym c.index_place.ensures ∙ c.in-Some.is)) goes

pub returns-in-None-last_position-clause-rows : goal.returns-in-None-last_position-clause-rows
returns-in-None-last_position-clause-rows g c = λ sound indexed goes.
    let entries = entries_in (g.R.Reading.shows c.args.reading.now) in
    IfOk-same _ _ _ (c.ranged_whole.ensures.rows sound)
    (range-anew entries c.args.place.now c.args.table.now c.args.columns.now c.args.low.now c.args.high.now goes
    (sym c.last_position.ensures ∙ ap (option_map (λ found. position_of found.now)) c.in-None-last_position.is))

pub returns-in-Some-clause-reads : goal.returns-in-Some-clause-reads
returns-in-Some-clause-reads g c = λ sound indexed goes.
    let shown = g.R.Reading.shows c.args.reading.now in
    let known = sym c.index_place.ensures ∙ c.in-Some.is in
    c.ranged_by_index.ensures.reads sound
    (index-columns shown.contents c.args.table.now c.args.columns.now c.in-Some.index indexed known) known goes

pub returns-in-None-last_position-clause-reads : goal.returns-in-None-last_position-clause-reads
returns-in-None-last_position-clause-reads g c = λ sound indexed goes.
    c.ranged_whole.ensures.reads sound c.args.place.now (sym c.index_place.ensures ∙ c.in-None.is) goes
    (sym c.last_position.ensures ∙ ap (option_map (λ found. position_of found.now)) c.in-None-last_position.is)
