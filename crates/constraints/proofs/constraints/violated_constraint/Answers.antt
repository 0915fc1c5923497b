use Rattle.std.proofs.Common.{◌≡◌, [], Option, Some, None, IfSome, IfNone, Contains}
use Rattle.std.specs.Borrow.{Bor}
use Rattle.std.proofs.lemmas.Result.{IfOk-weaker}
use Rattle.denote.specs.Database.{Name, CheckReading, table_of, violated_by}
use Rattle.constraints.specs.Rules.{broken, broken_checks}
use Rattle.constraints.proofs.Broken.{is_broken_too, none_violated}
use Rattle.constraints.proofs.constraints.violated_constraint.Goals as goal

some_weaker : {X : Type 0} (o : Option X) (P Q : X → Type 0) → ((x : X) → P x → Q x) → IfSome o P → IfSome o Q
some_weaker None P Q f h = h
some_weaker (Some x) P Q f h = f x h

none_weaker : {X : Type 0} (o : Option X) (P Q : Type 0) → (P → Q) → IfNone o P → IfNone o Q
none_weaker None P Q f h = f h
none_weaker (Some x) P Q f h = h

pub returns-clause-found : goal.returns-clause-found
returns-clause-found c = IfOk-weaker c.broken_constraint.result
    (λ (o : Option (Bor Name)). IfSome o (λ found. Contains (broken c.args.table.now.constraints c.args.rows.now) found.now))
    (λ (o : Option (Bor Name)). IfSome o (λ found. (reading : CheckReading) (name : Name) → Contains (violated_by reading name (table_of c.args.table.now c.args.rows.now)) found.now))
    (λ o h. some_weaker o
    (λ (found : Bor Name). Contains (broken c.args.table.now.constraints c.args.rows.now) found.now)
    (λ (found : Bor Name). (reading : CheckReading) (name : Name) → Contains (violated_by reading name (table_of c.args.table.now c.args.rows.now)) found.now)
    (λ found one reading name. is_broken_too reading name (table_of c.args.table.now c.args.rows.now) found.now one) h)
    c.broken_constraint.ensures.found

pub returns-clause-none : goal.returns-clause-none
returns-clause-none c = IfOk-weaker c.broken_constraint.result
    (λ (o : Option (Bor Name)). IfNone o (broken c.args.table.now.constraints c.args.rows.now ≡ []))
    (λ (o : Option (Bor Name)). IfNone o ((reading : CheckReading) (name : Name) → broken_checks reading name (table_of c.args.table.now c.args.rows.now) ≡ []
    → violated_by reading name (table_of c.args.table.now c.args.rows.now) ≡ []))
    (λ o h. none_weaker o
    (broken c.args.table.now.constraints c.args.rows.now ≡ [])
    ((reading : CheckReading) (name : Name) → broken_checks reading name (table_of c.args.table.now c.args.rows.now) ≡ [] → violated_by reading name (table_of c.args.table.now c.args.rows.now) ≡ [])
    (λ e reading name checks. none_violated reading name (table_of c.args.table.now c.args.rows.now) checks e) h)
    c.broken_constraint.ensures.none
