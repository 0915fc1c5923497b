use Rattle.std.proofs.Common.{◌≡◌, ◌∙◌, sym, ap, ℕ, Some, None, List, Ok, map, rules}
use Rattle.typing.specs.declared.statement.InsertSource.TheVariants as from
use Rattle.typing.specs.Insert.{targets_from}
use Rattle.typing.specs.Known.{known, known_table}
use Rattle.table_changes.specs.Given.{into}
use Rattle.change.specs.Fits.{first_fault}
use Rattle.change.specs.Listed.{typed_rows}
use Rattle.change.proofs.Fitted.{all_fit, one_wrong}
use Rattle.change.proofs.given_rows.columns_for.Goals as goal

pub returns-in-Some-first_fault-clause-refused : goal.returns-in-Some-first_fault-clause-refused
returns-in-Some-first_fault-clause-refused c =
    let is : first_fault c.in-Some.table.now.columns c.args.rows.now ≡ Some c.in-Some-first_fault.reason = search rules in
    one_wrong (known c.args.schema.now) c.args.name.now c.args.rows.now (known_table c.in-Some.table.now) c.in-Some.ensures.there c.in-Some-first_fault.reason is

pub returns-in-Ok-clause-found : goal.returns-in-Ok-clause-found
returns-in-Ok-clause-found c =
    let is : first_fault c.in-Some.table.now.columns c.args.rows.now ≡ None = search rules in
    let places : c.in-Ok.places ≡ map (λ target. target.0) (targets_from 0 c.in-Some.table.now.columns) = search rules in
    all_fit (known c.args.schema.now) c.args.name.now c.args.rows.now (known_table c.in-Some.table.now) c.in-Some.ensures.there is
    ∙ ap (λ (columns : List ℕ). Ok (into c.args.name.now columns (from.Values (typed_rows c.args.rows.now)))) (sym places)

pub returns-in-Ok-clause-refused : goal.returns-in-Ok-clause-refused
returns-in-Ok-clause-refused c = tt

pub returns-in-Ok-clause-causes : goal.returns-in-Ok-clause-causes
returns-in-Ok-clause-causes c = tt

pub returns-in-Some-first_fault-clause-found : goal.returns-in-Some-first_fault-clause-found
returns-in-Some-first_fault-clause-found c = tt
