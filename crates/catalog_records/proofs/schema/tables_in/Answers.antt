use Rattle.std.proofs.Common.{◌≡◌, [], sym, ◌∙◌}
use Rattle.catalog_records.specs.Records.{table_records, schema_records}
use Rattle.catalog_records.specs.Keepable.{IsTable}
use Rattle.catalog_records.proofs.Exits.{refused}
use Rattle.catalog_records.proofs.NumberedLemmas.{all_more}
use Rattle.catalog_records.proofs.Repeats.{remains_none, remains_one, remains_next, read_more, no_more}
use Rattle.catalog_records.proofs.TableLemmas.{schema_ends, some_records}
use Rattle.catalog_records.proofs.schema.tables_in.Goals as goal

pub returns-in_err-table-clause-again : goal.returns-in_err-table-clause-again
returns-in_err-table-clause-again c = λ all good e.
    remains_one table_records IsTable all _ _ _ _ _ (c.loop-first.invariant.again all good e) c.in-Some.ensures.cases.0
    (λ y ys keep others left whole. refused _ c.in_err-table.field-0.0 all c.from_residual.ensures.1
    (c.in_err-table.ensures.again y (schema_records ys) keep (schema_ends ys) (left ∙ c.in-Some.ensures.cases.0)))

pub loop-first-preserved : goal.loop-first-preserved
loop-first-preserved c =
    let put = c.in_ok-push.ensures.ok in
    record {
      sound = rw put (read_more table_records _ _ _ c.in_ok-table.table _ c.loop-first.invariant.sound (c.in_ok-table.ensures.sound ∙ sym c.in-Some.ensures.cases.0));
      range = rw put (all_more IsTable _ c.in_ok-table.table c.loop-first.invariant.range c.in_ok-table.ensures.range);
      again = λ all good e. rw put (
          remains_next table_records IsTable all _ _ _ _ c.in_ok-table.table _ (c.loop-first.invariant.again all good e) c.in-Some.ensures.cases.0
          (λ y ys keep others left. c.in_ok-table.ensures.again y (schema_records ys) keep (schema_ends ys) (left ∙ c.in-Some.ensures.cases.0)));
    }

pub returns-clause-again : goal.returns-clause-again
returns-clause-again c = λ all good e.
    let gone : c.loop-first.rest.now ≡ [] = no_more _ c.in_default.ensures.cases in
    remains_none table_records IsTable all _ some_records (rw gone at (c.loop-first.invariant.again all good e))
