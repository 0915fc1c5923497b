use Rattle.check_laws.proofs.Referenced.{created-free, nothing-references, references-there}
use Rattle.check_laws.proofs.laws.what_is_referenced_is_there.Goals as goal

pub returns-clause-free : goal.returns-clause-free
returns-clause-free c = created-free

pub returns-clause-referenced : goal.returns-clause-referenced
returns-clause-referenced c = λ schema db tree table of names found. references-there schema db of names tree table found

pub returns-clause-dropped : goal.returns-clause-dropped
returns-clause-dropped c = nothing-references
