use Rattle.denote_laws.proofs.Violated.{violated-at, violated-in, unviolated-in}
use Rattle.denote_laws.proofs.changes.a_database_violates_what_its_tables_violate.Goals as goal

pub returns : goal.returns
returns c = record { at = violated-at; only = violated-in; nothing = unviolated-in }
