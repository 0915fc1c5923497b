use Rattle.round_trip.proofs.Again.{read_as, read_as_condition}
use Rattle.round_trip.proofs.printed_texts_are_read_as_what_they_are_of.Goals as goal

pub returns-clause-statement : goal.returns-clause-statement
returns-clause-statement c = read_as

pub returns-clause-condition : goal.returns-clause-condition
returns-clause-condition c = read_as_condition
