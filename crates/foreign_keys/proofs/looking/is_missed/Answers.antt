use Rattle.std.proofs.Common.{◌≡◌, ap, sym, subst, true, false, Option, rules}
use Rattle.std.specs.FinMap.{get}
use Rattle.store.specs.Contents.{Contents, StoredTable, rows_of}
use Rattle.store.specs.Indexes.{entries_of}
use Rattle.store.specs.View.{table_named}
use Rattle.foreign_keys.specs.Sources.{IsSource, is_found, rows_shown}
use Rattle.foreign_keys.proofs.Chaining.{missed-next, not-either}
use Rattle.foreign_keys.proofs.Following.{same-table}
use Rattle.foreign_keys.proofs.looking.is_missed.Goals as goal

pub returns-in-Ok-true-clause-found : goal.returns-in-Ok-true-clause-found
returns-in-Ok-true-clause-found g c = λ sound others referencing.
    let is : c.in-Ok-true.field-0 ≡ true = search rules in
    let own = rw (c.as_slice-referenced.ensures, c.as_slice.ensures) at c.in-Ok-true.ensures.found in
    not-either _ _ (rw is at (own sound others))

pub returns-in-Ok-false-clause-found : goal.returns-in-Ok-false-clause-found
returns-in-Ok-false-clause-found g c =
    let f = c.is_in.ensures.follows in
    let before = g.R.Reading.shows c.args.reading.now in
    let after = g.R.Reading.shows c.is_in.new.reading in
    let same = (g.met.R.Reading.follows_keeps _ _ f).contents in
    let is : c.in-Ok-false.field-0 ≡ false = search rules in
    let a = c.args.asked.now in
    let r = a.reference in
    let first = rw (c.as_slice-referenced.ensures, c.as_slice.ensures) at c.in-Ok-false.ensures.found in
    let second = rw (c.as_slice-referenced.ensures, c.as_slice-own.ensures, c.as_slice-in-Ok-false.ensures) at c.is_in-in-Ok-false.ensures.found in
    missed-next c.is_in-in-Ok-false.result (g.R.Reading.is_sound c.args.reading.now) (g.R.Reading.is_sound c.is_in.new.reading)
    (IsSource (table_named before r.table) r.referenced r.referenced c.args.others.now) (IsSource (table_named before a.table) r.referenced r.columns c.args.referencing.now)
    (IsSource (table_named after a.table) r.referenced r.columns c.args.referencing.now)
    (is_found (rows_shown before r.table) r.referenced r.referenced c.args.row.now) (is_found (rows_shown before a.table) r.referenced r.columns c.args.row.now)
    (is_found (rows_shown after a.table) r.referenced r.columns c.args.row.now)
    (g.met.R.Reading.follows_sound _ _ f)
    (subst (λ (t : Option StoredTable). IsSource t r.referenced r.columns c.args.referencing.now) (sym (same-table before after a.table same)))
    (λ sound others. rw is at (first sound others))
    (ap (λ (m : Contents). is_found (rows_of (entries_of (get m a.table))) r.referenced r.columns c.args.row.now) same)
    second

pub returns-in-Ok-false-clause-follows : goal.returns-in-Ok-false-clause-follows
returns-in-Ok-false-clause-follows g c = g.met.R.Reading.follows_trans _ _ _ c.is_in.ensures.follows c.is_in-in-Ok-false.ensures.follows
