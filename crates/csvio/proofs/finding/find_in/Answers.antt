use Rattle.std.proofs.Common.{◌≡◌, refl, Some, None, rules}
use Rattle.std.proofs.lemmas.Result.{IfOk-weaker, IfErr-weaker}
use Rattle.csvio.specs.Forms.{columns_named}
use Rattle.csvio.specs.Formed.{RefusesIn}
use Rattle.csvio.proofs.finding.find_in.Goals as goal

pub returns-in-Some-clause-rows : goal.returns-in-Some-clause-rows
returns-in-Some-clause-rows g c =
    let is : columns_named c.args.schema.now.tables c.args.name.now ≡ Some c.in-Some.columns.now = search rules in
    IfOk-weaker c.read_for.result _ _ (λ rows has. record { columns = c.in-Some.columns.now; is = is; formed = has }) c.read_for.ensures.rows

pub returns-in-Some-clause-refused : goal.returns-in-Some-clause-refused
returns-in-Some-clause-refused g c =
    let is : columns_named c.args.schema.now.tables c.args.name.now ≡ Some c.in-Some.columns.now = search rules in
    IfErr-weaker c.read_for.result _ _ (λ refusal why. RefusesIn.refused c.in-Some.columns.now is why) c.read_for.ensures.refused

pub returns-in-None-clause-refused : goal.returns-in-None-clause-refused
returns-in-None-clause-refused g c =
    let none : columns_named c.args.schema.now.tables c.args.name.now ≡ None = search rules in RefusesIn.no_table none refl
