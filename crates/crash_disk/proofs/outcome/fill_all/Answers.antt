use Rattle.std.proofs.Common.{◌∙◌, sym}
use Rattle.crash_disk.proofs.AddedLemmas.{filled_left, filled_all}
use Rattle.crash_disk.proofs.outcome.fill_all.Goals as goal

pub returns-clause-left : goal.returns-clause-left
returns-clause-left c =
    filled_left c.args.o.now c.args.bytes.now c.fill_range.new.bytes c.fill_ranges.new.bytes _ _ c.requires (c.len.ensures ∙ c.args.o.now.synced.ok.0) c.fill_range.ensures.size c.fill_range.ensures.outside
    c.fill_ranges.ensures.size (λ i none. c.fill_ranges.ensures.outside i (rw c.as_slice.ensures.value none))

pub returns-clause-filled : goal.returns-clause-filled
returns-clause-filled c =
    filled_all c.args.o.now c.fill_range.new.bytes c.fill_ranges.new.bytes _ _ (c.len.ensures ∙ c.args.o.now.synced.ok.0)
    (sym c.fill_range.ensures.size) c.fill_range.ensures.inside
    c.fill_ranges.ensures.size (λ i within is. c.fill_ranges.ensures.inside i within (rw c.as_slice.ensures.value is))
    (λ i none. c.fill_ranges.ensures.outside i (rw c.as_slice.ensures.value none))
