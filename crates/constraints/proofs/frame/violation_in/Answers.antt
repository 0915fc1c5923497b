use Rattle.std.proofs.Common.{◌≡◌, [], Contains}
use Rattle.std.proofs.lemmas.Result.{IfOk-weaker}
use Rattle.std.specs.Prelude.{MatchOption}
use Rattle.denote.specs.Database.{Name, CheckReading, table_of, violated_by}
use Rattle.constraints.specs.Rules.{broken_checks}
use Rattle.constraints.proofs.Broken.{is_check_broken_too}
use Rattle.constraints.proofs.Violations.{match_weaker}
use Rattle.constraints.proofs.frame.violation_in.Goals as goal

pub returns-in-Ok-clause-found : goal.returns-in-Ok-clause-found
returns-in-Ok-clause-found g c =
    let found = rw c.in-Ok-Some.field-0-is at c.in-Ok-Some.ensures.found in
    rw c.in-Ok.ensures.copied (λ reading name decided. found reading name)

pub returns-in-Ok-None-clause-found : goal.returns-in-Ok-None-clause-found
returns-in-Ok-None-clause-found g c = let none_found = rw c.in-Ok-None.field-0-is at c.in-Ok-None.ensures.none in IfOk-weaker c.violated.result _
    (λ found. (reading : CheckReading) (name : Name) → g.C.Checks.decides c.args.checks.now reading name c.args.table.now.columns c.args.table.now.constraints
    → MatchOption found (violated_by reading name (table_of c.args.table.now c.args.rows.now) ≡ []) (λ constraint. Contains (violated_by reading name (table_of c.args.table.now c.args.rows.now)) constraint))
    (λ found h reading name decided. match_weaker found
    (broken_checks reading name (table_of c.args.table.now c.args.rows.now) ≡ []) (violated_by reading name (table_of c.args.table.now c.args.rows.now) ≡ [])
    (λ constraint. Contains (broken_checks reading name (table_of c.args.table.now c.args.rows.now)) constraint) (λ constraint. Contains (violated_by reading name (table_of c.args.table.now c.args.rows.now)) constraint)
    (λ none. none_found reading name none)
    (λ constraint one. is_check_broken_too reading name (table_of c.args.table.now c.args.rows.now) constraint one)
    (h reading name decided))
    c.violated.ensures.found
