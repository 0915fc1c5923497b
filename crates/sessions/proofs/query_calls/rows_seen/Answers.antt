use Rattle.sessions.proofs.query_calls.rows_seen.Goals as goal

pub returns-clause-rows : goal.returns-clause-rows
returns-clause-rows g c = c.next_rows.ensures.rows

pub returns-clause-fits : goal.returns-clause-fits
returns-clause-fits g c = c.next_rows.ensures.fits

pub returns-clause-refused : goal.returns-clause-refused
returns-clause-refused g c = c.next_rows.ensures.refused

pub returns-clause-most : goal.returns-clause-most
returns-clause-most g c = c.next_rows.ensures.most

pub returns-clause-limits : goal.returns-clause-limits
returns-clause-limits g c = c.next_rows.ensures.limits
