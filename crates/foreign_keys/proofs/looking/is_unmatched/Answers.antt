use Rattle.std.proofs.Common.{◌≡◌, ◌∙◌, ap, sym, true, false, not}
use Rattle.std.specs.List.{list_any}
use Rattle.sqlval.specs.Matching.{key_of}
use Rattle.sqlval.specs.Value.{is_null}
use Rattle.foreign_keys.specs.Sources.{is_found, rows_shown}
use Rattle.foreign_keys.proofs.Chaining.{not-either, not-none}
use Rattle.foreign_keys.proofs.looking.is_unmatched.Goals as goal

pub returns-then-has_null-clause-found : goal.returns-then-has_null-clause-found
returns-then-has_null-clause-found g c = λ sound source.
    let r = c.args.asked.now.reference in
    let null : list_any is_null (key_of r.columns c.args.row.now) ≡ true = rw (c.as_slice-own.ensures, c.as_slice.ensures) at (sym c.has_null.ensures ∙ c.if-has_null.true) in
    not-either (list_any is_null (key_of r.columns c.args.row.now)) (is_found (rows_shown (g.R.Reading.shows c.args.reading.now) r.table) r.columns r.referenced c.args.row.now) (sym null)

pub returns-in-Ok-clause-found : goal.returns-in-Ok-clause-found
returns-in-Ok-clause-found g c = λ sound source.
    let r = c.args.asked.now.reference in
    let null : list_any is_null (key_of r.columns c.args.row.now) ≡ false = rw (c.as_slice-own.ensures, c.as_slice.ensures) at (sym c.has_null.ensures ∙ c.if-has_null.false) in
    let found = (rw (c.as_slice-own.ensures, c.as_slice-referenced.ensures, c.as_slice-2.ensures) at c.in-Ok.ensures.found) sound source in
    ap not found ∙ not-none (list_any is_null (key_of r.columns c.args.row.now)) (is_found (rows_shown (g.R.Reading.shows c.args.reading.now) r.table) r.columns r.referenced c.args.row.now) null
