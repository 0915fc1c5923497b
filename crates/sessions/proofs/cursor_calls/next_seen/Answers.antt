use Rattle.sessions.proofs.cursor_calls.next_seen.Goals as goal

pub returns-clause-next : goal.returns-clause-next
returns-clause-next g c = c.next_row.ensures.next

pub returns-clause-fits : goal.returns-clause-fits
returns-clause-fits g c = c.next_row.ensures.fits

pub returns-clause-refused : goal.returns-clause-refused
returns-clause-refused g c = c.next_row.ensures.refused

pub returns-clause-limits : goal.returns-clause-limits
returns-clause-limits g c = c.next_row.ensures.limits
