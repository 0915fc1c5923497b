use Rattle.check_reader.proofs.reading.typed_in.Goals as goal

pub returns : goal.returns
returns c = rw c.in_ok-frame.ensures at c.typed_check.ensures
