use Rattle.std.proofs.Common.{ap, sym, subst, Option}
use Rattle.std.specs.Prelude.{IfSome}
use Rattle.std.specs.FinMap.{get}
use Rattle.store.specs.Contents.{Contents, StoredTable, rows_of}
use Rattle.store.specs.Indexes.{entries_of}
use Rattle.store.specs.View.{table_named}
use Rattle.foreign_keys.specs.Sources.{IsSource, LeadsAt, has_missed, rows_shown}
use Rattle.foreign_keys.proofs.Chaining.{from-sources}
use Rattle.foreign_keys.proofs.Following.{same-table}
use Rattle.foreign_keys.proofs.looking.any_missed_among.Goals as goal

pub returns-in-Ok-clause-found : goal.returns-in-Ok-clause-found
returns-in-Ok-clause-found g c =
    let f = c.source_of.ensures.follows in
    let before = g.R.Reading.shows c.args.reading.now in
    let after = g.R.Reading.shows c.source_of.new.reading in
    let same = (g.met.R.Reading.follows_keeps _ _ f).contents in
    let a = c.args.asked.now in
    let r = a.reference in
    from-sources c.any_missed_in.result (g.R.Reading.is_sound c.args.reading.now) (g.R.Reading.is_sound c.source_of.new.reading)
    (IsSource (table_named before r.table) r.referenced r.referenced c.args.others.now) (IsSource (table_named after r.table) r.referenced r.referenced c.args.others.now)
    (IfSome a.referencing (LeadsAt (table_named before a.table) r.referenced r.columns)) (IsSource (table_named after a.table) r.referenced r.columns c.in-Ok.referencing)
    (has_missed r (rows_shown before r.table) (rows_shown before a.table) c.args.rows.now) (has_missed r (rows_shown after r.table) (rows_shown after a.table) c.args.rows.now)
    (g.met.R.Reading.follows_sound _ _ f)
    (subst (λ (t : Option StoredTable). IsSource t r.referenced r.referenced c.args.others.now) (sym (same-table before after r.table same)))
    (λ sound leads. subst (λ (t : Option StoredTable). IsSource t r.referenced r.columns c.in-Ok.referencing) (sym (same-table before after a.table same)) (c.in-Ok.ensures.is r.referenced r.columns sound leads))
    (ap (λ (m : Contents). has_missed r (rows_of (entries_of (get m r.table))) (rows_of (entries_of (get m a.table))) c.args.rows.now) same)
    c.any_missed_in.ensures.found

pub returns-in-Ok-clause-follows : goal.returns-in-Ok-clause-follows
returns-in-Ok-clause-follows g c = g.met.R.Reading.follows_trans _ _ _ c.source_of.ensures.follows c.any_missed_in.ensures.follows
