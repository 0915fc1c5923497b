use Rattle.std.proofs.Common.{refl, subst, List, rules, ◌≡◌, map}
use Rattle.std.specs.Prelude.{IfOk, IfErr}
use Rattle.csv.specs.Records.{fields_of}
use Rattle.csv_rows.specs.Written.{AreRowsBy}
use Rattle.csv_rows.specs.declared.source.Source.{Source}
use Rattle.csvio.specs.Forms.{RefusesRows, named_sources}
use Rattle.csvio.proofs.formed.named_rows.Goals as goal

pub returns-in-Ok-clause-rows : goal.returns-in-Ok-clause-rows
returns-in-Ok-clause-rows c =
    let same : c.as_slice.result.now ≡ named_sources c.args.plain c.args.names.now c.args.columns.now = search rules in
    subst (λ (sources : List Source). IfOk c.rows_from.result (AreRowsBy sources (map fields_of c.args.records.now))) same c.rows_from.ensures.rows

pub returns-in-Ok-clause-refused : goal.returns-in-Ok-clause-refused
returns-in-Ok-clause-refused c =
    let same : c.as_slice.result.now ≡ named_sources c.args.plain c.args.names.now c.args.columns.now = search rules in
    subst (λ (sources : List Source). IfErr c.rows_from.result (RefusesRows sources (map fields_of c.args.records.now))) same c.rows_from.ensures.refused

pub returns-in-Err-clause-refused : goal.returns-in-Err-clause-refused
returns-in-Err-clause-refused c = RefusesRows.wanting refl
