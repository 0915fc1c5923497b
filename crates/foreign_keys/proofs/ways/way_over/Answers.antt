use Rattle.std.proofs.Common.{◌∙◌, sym, ap, Some}
use Rattle.std.proofs.lemmas.Option.{slice_get-get_or}
use Rattle.foreign_keys.proofs.ways.way_over.Goals as goal

pub returns-then-are_same_pairs : goal.returns-then-are_same_pairs
returns-then-are_same_pairs c = record {
  index = c.index-indexes-place.result;
  there = slice_get-get_or c.args.indexes.now c.loop-place.place c.index-indexes-place.result c.loop-place-test.true ∙ ap Some (sym c.index-indexes-place.is);
  pairs = rw (c.as_slice-in-loop-place.ensures, c.as_slice-in-loop-place-2.ensures) at (sym c.are_same_pairs.ensures ∙ c.if-are_same_pairs.true);
}
