use Rattle.std.proofs.Common.{refl, Ok}
use Rattle.sqlval.specs.declared.truth.Truth.TheVariants.{True}
use Rattle.sqlval.specs.Truth.{same_truth}
use Rattle.denote.proofs.GivesLemmas.{Gives-first}
use Rattle.update_delete.proofs.Steps.{touched_if}
use Rattle.update_delete.proofs.touched.is_touched.Goals as goal

pub returns-in-None : goal.returns-in-None
returns-in-None c = rw c.in-None.is (record { ok = refl; err = tt })

pub returns-in-Ok : goal.returns-in-Ok
returns-in-Ok c = rw c.in-Some.is (touched_if c.is_true.result c.in-Ok.truth _ c.in-Ok.ensures c.is_true.ensures)

pub returns-in-Err : goal.returns-in-Err
returns-in-Err c = rw c.in-Some.is (Gives-first c.in-Err.stop _ (λ t. Ok (same_truth t True)) c.in-Err.ensures)
