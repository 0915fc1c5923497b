use Rattle.check_reader.proofs.Conditions.{reads-found, reads-only}
use Rattle.check_reader.proofs.reading.condition_of.Goals as goal

pub returns-in-Ok : goal.returns-in-Ok
returns-in-Ok c = record {
  reads = reads-found c.args.table.now.name c.args.table.now.columns c.args.text.now c.in-Ok.tree c.typed_in.result (rw c.as_slice.ensures.codes at c.in-Ok.ensures.found) c.typed_in.ensures;
  only = λ condition read nested.
      reads-only c.args.table.now.name c.args.table.now.columns c.args.text.now c.in-Ok.tree c.typed_in.result condition read
      ((rw c.as_slice.ensures.codes at c.in-Ok.ensures.only) read.kinds read.tree read.spelled read.parsed nested) c.typed_in.ensures;
}

pub returns-in-Err : goal.returns-in-Err
returns-in-Err c = record {
  reads = tt;
  only = λ condition read nested. (rw c.as_slice.ensures.codes at c.in-Err.ensures.only) read.kinds read.tree read.spelled read.parsed nested;
}
