use Rattle.std.proofs.Common.{Option, Some, None, IfSome}
use Rattle.update_delete.specs.declared.ranges.RangeLookUp.{RangeLookUp}
use Rattle.update_delete.specs.Ranges.{AsksRange, AsksRangeIn}
use Rattle.update_delete.proofs.ranges.range_in.Goals as goal

some_weaker : (o : Option RangeLookUp) (P Q : RangeLookUp → Type 0) → ((l : RangeLookUp) → P l → Q l) → IfSome o P
    → IfSome o Q
some_weaker None P Q f h = h
some_weaker (Some l) P Q f h = f l h

pub returns-in-Ok : goal.returns-in-Ok
returns-in-Ok c = some_weaker c.in-Ok.found (λ l. AsksRange c.as_slice.result.now c.in-Some.condition l)
    (λ l. AsksRangeIn c.args.schema.now c.args.name.now c.args.filter.now l)
    (λ l h. record {
      table = c.in-Some-table_named.table.now;
      inside = c.in-Some-table_named.ensures.there;
      named = c.in-Some-table_named.ensures.named;
      condition = c.in-Some.condition;
      is = c.in-Some.is;
      asks = rw c.as_slice.ensures at h;
    })
    c.in-Ok.ensures
