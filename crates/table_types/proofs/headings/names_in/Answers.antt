use Rattle.table_types.proofs.headings.names_in.Goals as goal

pub returns : goal.returns
returns c = rw (c.as_slice.ensures, c.in_ok-headings.ensures) at c.names_found.ensures
