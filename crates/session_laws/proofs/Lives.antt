-- Runs one after another.
use Rattle.std.proofs.Common.{List, [], ◌∷◌, ◌++◌, refl, sym, subst}
use Rattle.session_definitions.specs.Rules.{Rules}
use Rattle.session_definitions.specs.Run.{Moment, Run}
use Rattle.session_definitions.specs.World.{World, opened}
use Rattle.session_laws.specs.Reopening.{reopening}

run_on : (rules : Rules) (start mid : World) (earlier : List Moment) → Run rules start earlier mid → (later : List Moment) (end : World) → Run rules mid later end
    → Run rules start (later ++ earlier) end
run_on rules start mid earlier first [] end run = subst (Run rules start earlier) (sym run) first
run_on rules start mid earlier first (moment ∷ later) end run = (run_on rules start mid earlier first later moment.before run.0, run.1)

pub reopened : (rules : Rules) (start mid end : World) (first second : List Moment) → Run rules start first mid → Run rules (opened mid.last) second end
    → Run rules start (second ++ reopening mid ∷ first) end
reopened rules start mid end first second before after = run_on rules start (opened mid.last) (reopening mid ∷ first) (before, refl) second end after
