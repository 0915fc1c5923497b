use Rattle.std.proofs.Common.{◌≡◌, ◌∙◌, refl, sym, subst, []}
use Rattle.denote.specs.Database.{Table, violated_by}
use Rattle.constraints.specs.Settled.{Breaks}
use Rattle.constraints.specs.Foreseen.{with_more}
use Rattle.constraints.proofs.Violations.{same_some}
use Rattle.table_changes.proofs.deciding.known_to_hold.Goals as goal

pub returns-in-Ok-Fits-clause-known : goal.returns-in-Ok-Fits-clause-known
returns-in-Ok-Fits-clause-known g c = λ reading made sound decided holds has known t found.
    let h = rw c.in-Ok-Fits.field-0-is at (c.in-Ok-Fits.ensures.found reading has.table sound has.there (decided has.table has.there) (holds has.table has.there)) in
    subst (λ (u : Table). violated_by reading c.args.name.now u ≡ []) (same_some (with_more has.table c.args.rows.now) t (sym has.more ∙ found)) h

pub returns-in-Ok-Violates-clause-refused : goal.returns-in-Ok-Violates-clause-refused
returns-in-Ok-Violates-clause-refused g c = λ reading made sound decided holds has.
    let h = rw c.in-Ok-Violates.field-0-is at (c.in-Ok-Violates.ensures.found reading has.table sound has.there (decided has.table has.there) (holds has.table has.there)) in
    Breaks.violates (with_more has.table c.args.rows.now) c.in-Ok-Violates.constraint has.more refl h

pub returns-in-Ok-Open-clause-known : goal.returns-in-Ok-Open-clause-known
returns-in-Ok-Open-clause-known g c = λ reading made sound decided holds has known. absurd (cc known)

pub returns-in-Err-clause-refused : goal.returns-in-Err-clause-refused
returns-in-Err-clause-refused g c = λ reading made sound decided holds has. Breaks.withheld (c.in-Err.ensures.refused sound)
