use Rattle.std.proofs.Common.{sym, ◌∙◌, subst}
use Rattle.denote.specs.Database.{IsReadable}
use Rattle.check_constraints.specs.Conditions.{Stands}
use Rattle.check_constraints.proofs.Kept.{left_next, left_rest, left_here, none_left, same_text, conditions_next, conditions_same}
use Rattle.check_constraints.proofs.reading.read_checks.Goals as goal
use Rattle.check_constraints.proofs.reading.read_checks.Goals.{in-Check+in-Ok+in_ok-push-in-Ok, in_default}

pub returns-in-Err-clause-unreadable : goal.returns-in-Err-clause-unreadable
returns-in-Err-clause-unreadable c = λ is readable. c.in-Err.ensures.unreadable is
    (left_here (IsReadable c.args.table.now.name c.args.table.now.columns) c.as_slice-constraint-items.result.now c.loop-constraint.constraint-index c.constraint-item.result c.loop-constraint-test.true c.constraint-item.is
    _ c.in-Check.is (c.loop-constraint.invariant.readable (rw c.as_slice-constraint-items.ensures readable)))

pub loop-constraint-preserved : goal.loop-constraint-preserved
loop-constraint-preserved c = record {
  rules = λ reading is_reading. elim c.match-constraint.branch [
    | in-Check+in-Ok+in_ok-push-in-Ok w ↦ conditions_next reading c.args.table.now.name c.args.table.now.columns c.as_slice-constraint-items.result.now c.loop-constraint.constraint-index c.constraint-item.result
        c.loop-constraint-test.true c.constraint-item.is c.loop-constraint.conditions c.match-constraint.conditions (c.loop-constraint.invariant.rules reading is_reading)
        w.in-Check.text w.in-Check.is w.in-Ok.condition (w.conditions-is ∙ w.in_ok-push-in-Ok.ensures.ok) (w.in-Ok.ensures.rules reading is_reading)
    | in_default w ↦ conditions_same reading c.args.table.now.name c.args.table.now.columns c.as_slice-constraint-items.result.now c.loop-constraint.constraint-index c.constraint-item.result
        c.loop-constraint-test.true c.constraint-item.is c.loop-constraint.conditions c.match-constraint.conditions (c.loop-constraint.invariant.rules reading is_reading) w.in_default.not-Check w.conditions-is
  ];
  stand = λ rest. c.loop-constraint.invariant.stand
      (left_next (Stands c.args.table.now.name c.args.table.now.columns) c.as_slice-constraint-items.result.now c.loop-constraint.constraint-index c.constraint-item.result c.loop-constraint-test.true c.constraint-item.is
      (λ text e. elim c.match-constraint.branch [
        | in-Check+in-Ok+in_ok-push-in-Ok w ↦ subst (Stands c.args.table.now.name c.args.table.now.columns) (same_text w.in-Check.text text (sym w.in-Check.is ∙ e)) w.in-Ok.ensures.stands
        | in_default w ↦ absurd (w.in_default.not-Check text e)
      ]) rest);
  readable = λ all. left_rest (IsReadable c.args.table.now.name c.args.table.now.columns) c.as_slice-constraint-items.result.now c.loop-constraint.constraint-index c.constraint-item.result c.loop-constraint-test.true c.constraint-item.is
      (c.loop-constraint.invariant.readable all);
}

pub returns-clause-stand : goal.returns-clause-stand
returns-clause-stand c = rw c.as_slice-constraint-items.ensures at (c.loop-constraint.invariant.stand
    (none_left (Stands c.args.table.now.name c.args.table.now.columns) c.as_slice-constraint-items.result.now c.loop-constraint.constraint-index c.loop-constraint-test.false))
