use Rattle.std.proofs.Common.{◌≡◌, ◌∙◌, refl, sym, subst, List}
use Rattle.std.proofs.lemmas.Result.{IfOk-weaker, IfErr-weaker}
use Rattle.typing.specs.declared.statement.InsertSource.TheVariants as from
use Rattle.algebra.specs.declared.tree.Expression.{Expression}
use Rattle.denote.specs.Database.{rows_in}
use Rattle.query_answers.specs.Lent.{rows_lent}
use Rattle.query_answers.specs.Sources.{AreTreesOf, tables_in_rows}
use Rattle.tree_tables.specs.TablesRead.{Agree}
use Rattle.table_changes.specs.Given.{into}
use Rattle.change.specs.Listed.{constants, typed_rows}
use Rattle.change.proofs.Given.{given_values, refuses_values}
use Rattle.change.proofs.Listed.{all_agree, are_trees}
use Rattle.change.proofs.given_rows.rows_given.Goals as goal

pub returns-clause-gives : goal.returns-clause-gives
returns-clause-gives c = IfOk-weaker c.stored_rows.result _ _
    (λ stored h reading db table of there checks.
    let is : c.as_slice.result.now ≡ constants c.args.rows = c.as_slice.ensures ∙ c.in-Ok.ensures in
    given_values reading db (into c.args.name.now c.args.columns.now (from.Values (typed_rows c.args.rows))) table there (typed_rows c.args.rows) stored refl
    (h reading db table (typed_rows c.args.rows) of there checks
    (subst (λ (trees : List (List Expression)). AreTreesOf (rows_in db) (typed_rows c.args.rows) trees) (sym is) (are_trees (rows_in db) c.args.rows))
    (subst (λ (trees : List (List Expression)). Agree (rows_lent c.new.result) (rows_in db) (tables_in_rows trees)) (sym is) (all_agree (rows_lent c.new.result) (rows_in db) c.args.rows))))
    c.stored_rows.ensures.gives

pub returns-clause-refused : goal.returns-clause-refused
returns-clause-refused c = IfErr-weaker c.stored_rows.result _ _
    (λ refusal h reading db table of there checks.
    let is : c.as_slice.result.now ≡ constants c.args.rows = c.as_slice.ensures ∙ c.in-Ok.ensures in
    refuses_values reading db (into c.args.name.now c.args.columns.now (from.Values (typed_rows c.args.rows))) table there (typed_rows c.args.rows) refusal refl
    (h reading db table (typed_rows c.args.rows) of there checks
    (subst (λ (trees : List (List Expression)). AreTreesOf (rows_in db) (typed_rows c.args.rows) trees) (sym is) (are_trees (rows_in db) c.args.rows))
    (subst (λ (trees : List (List Expression)). Agree (rows_lent c.new.result) (rows_in db) (tables_in_rows trees)) (sym is) (all_agree (rows_lent c.new.result) (rows_in db) c.args.rows))))
    c.stored_rows.ensures.refused

pub returns-clause-limits : goal.returns-clause-limits
returns-clause-limits c = c.stored_rows.ensures.limits

pub returns-clause-device : goal.returns-clause-device
returns-clause-device c = c.stored_rows.ensures.device

pub returns-in-Err-clause-gives : goal.returns-in-Err-clause-gives
returns-in-Err-clause-gives c = tt

pub returns-in-Err-clause-limits : goal.returns-in-Err-clause-limits
returns-in-Err-clause-limits c = tt

pub returns-in-Err-clause-device : goal.returns-in-Err-clause-device
returns-in-Err-clause-device c = λ is. cc
