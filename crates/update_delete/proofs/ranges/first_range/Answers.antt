use Rattle.std.proofs.Common.{◌∙◌, sym, ap, Some}
use Rattle.std.proofs.lemmas.Option.{slice_get-get_or}
use Rattle.std.specs.Option.{option_map}
use Rattle.sqlval.specs.declared.schema.Index.{Index}
use Rattle.update_delete.proofs.ranges.first_range.Goals as goal

pub returns-in-Some : goal.returns-in-Some
returns-in-Some c =
    let index = c.index-indexes-place.result in
    record {
      both = c.args.both;
      columns = index.columns;
      over = ap (option_map (λ (i : Index). i.columns))
          (slice_get-get_or c.args.indexes.now c.loop-place.place index c.loop-place-test.true
          ∙ ap (λ (i : Index). Some i) (sym c.index-indexes-place.is));
      sought = sym (rw c.as_slice.ensures at c.in_ok-limits.ensures) ∙ c.in-Some.is;
    }
