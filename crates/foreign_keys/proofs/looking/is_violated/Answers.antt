use Rattle.std.proofs.Common.{◌≡◌, ap, ◌&&◌, true, false, rules}
use Rattle.std.specs.FinMap.{get}
use Rattle.sqlval.specs.Schema.{same_name}
use Rattle.denote.specs.Database.{has_unmatched}
use Rattle.store.specs.Contents.{Contents, rows_of}
use Rattle.store.specs.Indexes.{entries_of}
use Rattle.foreign_keys.specs.Sources.{Leads, has_missed, rows_shown}
use Rattle.foreign_keys.proofs.Chaining.{or-true, or-next}
use Rattle.foreign_keys.proofs.Following.{leads-still}
use Rattle.foreign_keys.proofs.looking.is_violated.Goals as goal

pub returns-in-Ok-true-clause-found : goal.returns-in-Ok-true-clause-found
returns-in-Ok-true-clause-found g c = λ sound leads.
    let is : c.in-Ok-true.field-0 ≡ true = search rules in
    let shown = g.R.Reading.shows c.args.reading.now in
    let a = c.args.asked.now in
    or-true (same_name a.table c.args.name.now && has_unmatched a.reference (rows_shown shown a.reference.table) c.args.came.now)
    (same_name a.reference.table c.args.name.now && has_missed a.reference (rows_shown shown a.reference.table) (rows_shown shown a.table) c.args.gone.now)
    (rw is at (c.in-Ok-true.ensures.found sound leads))

pub returns-in-Ok-false-clause-found : goal.returns-in-Ok-false-clause-found
returns-in-Ok-false-clause-found g c =
    let f = c.comes_unmatched.ensures.follows in
    let before = g.R.Reading.shows c.args.reading.now in
    let after = g.R.Reading.shows c.comes_unmatched.new.reading in
    let same = (g.met.R.Reading.follows_keeps _ _ f).contents in
    let is : c.in-Ok-false.field-0 ≡ false = search rules in
    let a = c.args.asked.now in
    or-next c.goes_missed.result (g.R.Reading.is_sound c.args.reading.now) (g.R.Reading.is_sound c.comes_unmatched.new.reading) (Leads before a) (Leads after a)
    (same_name a.table c.args.name.now && has_unmatched a.reference (rows_shown before a.reference.table) c.args.came.now)
    (same_name a.reference.table c.args.name.now && has_missed a.reference (rows_shown before a.reference.table) (rows_shown before a.table) c.args.gone.now)
    (same_name a.reference.table c.args.name.now && has_missed a.reference (rows_shown after a.reference.table) (rows_shown after a.table) c.args.gone.now)
    (g.met.R.Reading.follows_sound _ _ f) (leads-still before after a same) (λ sound leads. rw is at (c.in-Ok-false.ensures.found sound leads))
    (ap (λ (m : Contents). same_name a.reference.table c.args.name.now
    && has_missed a.reference (rows_of (entries_of (get m a.reference.table))) (rows_of (entries_of (get m a.table))) c.args.gone.now) same)
    c.goes_missed.ensures.found

pub returns-in-Ok-false-clause-follows : goal.returns-in-Ok-false-clause-follows
returns-in-Ok-false-clause-follows g c = g.met.R.Reading.follows_trans _ _ _ c.comes_unmatched.ensures.follows c.goes_missed.ensures.follows
