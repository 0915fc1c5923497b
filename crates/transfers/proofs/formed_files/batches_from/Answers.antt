use Rattle.std.proofs.Common.{inr}
use Rattle.transfers.proofs.formed_files.batches_from.Goals as goal

pub returns-in-Ok : goal.returns-in-Ok
returns-in-Ok g c = rw c.status_of.ensures c.load_formed_batches_to_end.ensures.status

pub returns-in-Err : goal.returns-in-Err
returns-in-Err g c = rw c.status_of-in-Err.ensures (inr (inr c.without_csv.ensures.failed))
