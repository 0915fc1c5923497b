use Rattle.std.proofs.Common.{◌≡◌, ◌∙◌, sym, subst, ℕ, List, [], Ok}
use Rattle.std.proofs.lemmas.Result.{IfOk-weaker, IfErr-weaker}
use Rattle.typing.specs.declared.statement.InsertSource.TheVariants as from
use Rattle.algebra.specs.declared.tree.Condition.{Condition}
use Rattle.denote.specs.Change.{inserted_rows}
use Rattle.denote.specs.Database.{checks_of, rows_in, table_of}
use Rattle.denote.specs.Evaluation.{Evaluation, faults_in}
use Rattle.sqlval.specs.Value.{Row}
use Rattle.query_answers.specs.Refused.{GivesFaults}
use Rattle.query_answers.specs.Sources.{AreChecksOf}
use Rattle.change.proofs.Given.{same_rows}
use Rattle.change.proofs.Named.{declares}
use Rattle.change.proofs.value_rows.stored_rows.Goals as goal

pub returns-in-Some-clause-gives : goal.returns-in-Some-clause-gives
returns-in-Some-clause-gives c = IfOk-weaker c.rows_to_insert.result _ _
    (λ rows h reading db table values of there checks are agree.
    let conditions = checks_of reading c.args.name.now table in
    let same = same_rows c.in-Some.table.now table (declares c.args.schema.now db c.args.name.now c.in-Some.table.now table of c.in-Some.ensures.there c.in-Some.ensures.named there)
    conditions (rows_in db) c.args.columns.now values in
    let found : inserted_rows conditions (rows_in db) (table_of c.in-Some.table.now []) c.args.columns.now (from.Values values) ≡ Ok rows =
    subst (λ (places : List ℕ). inserted_rows conditions (rows_in db) (table_of c.in-Some.table.now []) places (from.Values values) ≡ Ok rows) c.as_slice-in-Some.ensures
    (h (rows_in db) conditions values agree are (subst (λ (trees : List Condition). AreChecksOf conditions trees) (sym c.as_slice.ensures) checks)) in
    sym same ∙ found)
    c.rows_to_insert.ensures.gives

pub returns-in-Some-clause-refused : goal.returns-in-Some-clause-refused
returns-in-Some-clause-refused c = IfErr-weaker c.rows_to_insert.result _ _
    (λ refusal h reading db table values of there checks are agree.
    let conditions = checks_of reading c.args.name.now table in
    let same = same_rows c.in-Some.table.now table (declares c.args.schema.now db c.args.name.now c.in-Some.table.now table of c.in-Some.ensures.there c.in-Some.ensures.named there)
    conditions (rows_in db) c.args.columns.now values in
    let found : GivesFaults (faults_in (inserted_rows conditions (rows_in db) (table_of c.in-Some.table.now []) c.args.columns.now (from.Values values))) refusal =
    subst (λ (places : List ℕ). GivesFaults (faults_in (inserted_rows conditions (rows_in db) (table_of c.in-Some.table.now []) places (from.Values values))) refusal) c.as_slice-in-Some.ensures
    (h (rows_in db) conditions values agree are (subst (λ (trees : List Condition). AreChecksOf conditions trees) (sym c.as_slice.ensures) checks)) in
    subst (λ (e : Evaluation (List Row)). GivesFaults (faults_in e) refusal) same found)
    c.rows_to_insert.ensures.refused

pub returns-in-Some-clause-limits : goal.returns-in-Some-clause-limits
returns-in-Some-clause-limits c = c.rows_to_insert.ensures.limits

pub returns-in-Some-clause-device : goal.returns-in-Some-clause-device
returns-in-Some-clause-device c = c.rows_to_insert.ensures.device
