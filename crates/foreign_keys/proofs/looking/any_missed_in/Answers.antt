use Rattle.std.proofs.Common.{◌≡◌, ◌∙◌, sym, ap, subst, true, false, not, Option, rules}
use Rattle.std.specs.FinMap.{get}
use Rattle.sqlval.specs.Value.{Row}
use Rattle.denote_laws.specs.Difference.{may_go}
use Rattle.store.specs.Contents.{Contents, StoredTable, rows_of}
use Rattle.store.specs.Indexes.{entries_of}
use Rattle.foreign_keys.specs.Sources.{IsSource, rows_shown}
use Rattle.foreign_keys.proofs.Following.{any-next, same-table}
use Rattle.foreign_keys.proofs.looking.any_missed_in.Goals as goal

pub loop-row-preserved : goal.loop-row-preserved
loop-row-preserved g c =
    let f = c.loop-row.invariant.0 in
    let before = g.R.Reading.shows c.args.reading.now in
    let same = (g.met.R.Reading.follows_keeps _ _ f).contents in
    let is : c.in-Ok-false.field-0 ≡ false = search rules in (
      g.met.R.Reading.follows_trans _ _ _ f c.is_missed.ensures.follows,
      (λ sound from1 from2.
          let found = rw is at (c.in-Ok-false.ensures.found (g.met.R.Reading.follows_sound _ _ f sound)
          (subst (λ (t : Option StoredTable). IsSource t c.args.asked.now.reference.referenced c.args.asked.now.reference.referenced c.args.others.now) (sym (same-table before (g.R.Reading.shows c.loop-row.reading) c.args.asked.now.reference.table same)) from1)
          (subst (λ (t : Option StoredTable). IsSource t c.args.asked.now.reference.referenced c.args.asked.now.reference.columns c.args.referencing.now) (sym (same-table before (g.R.Reading.shows c.loop-row.reading) c.args.asked.now.table same)) from2)) in
          sym (any-next (λ (row : Row). not (may_go c.args.asked.now.reference (rows_shown before c.args.asked.now.reference.table) (rows_shown before c.args.asked.now.table) row)) c.args.rows.now c.loop-row.row-index c.row-item.result false c.loop-row-test.true c.row-item.is
          (found ∙ ap (λ (m : Contents). not (may_go c.args.asked.now.reference (rows_of (entries_of (get m c.args.asked.now.reference.table))) (rows_of (entries_of (get m c.args.asked.now.table))) c.row-item.result)) same))
          ∙ c.loop-row.invariant.1 sound from1 from2),
    )

pub returns-in-Ok-true-clause-found : goal.returns-in-Ok-true-clause-found
returns-in-Ok-true-clause-found g c =
    let f = c.loop-row.invariant.0 in
    let before = g.R.Reading.shows c.args.reading.now in
    let same = (g.met.R.Reading.follows_keeps _ _ f).contents in
    let is : c.in-Ok-true.field-0 ≡ true = search rules in λ sound from1 from2.
    let found = rw is at (c.in-Ok-true.ensures.found (g.met.R.Reading.follows_sound _ _ f sound)
    (subst (λ (t : Option StoredTable). IsSource t c.args.asked.now.reference.referenced c.args.asked.now.reference.referenced c.args.others.now) (sym (same-table before (g.R.Reading.shows c.loop-row.reading) c.args.asked.now.reference.table same)) from1)
    (subst (λ (t : Option StoredTable). IsSource t c.args.asked.now.reference.referenced c.args.asked.now.reference.columns c.args.referencing.now) (sym (same-table before (g.R.Reading.shows c.loop-row.reading) c.args.asked.now.table same)) from2)) in
    sym (any-next (λ (row : Row). not (may_go c.args.asked.now.reference (rows_shown before c.args.asked.now.reference.table) (rows_shown before c.args.asked.now.table) row)) c.args.rows.now c.loop-row.row-index c.row-item.result true c.loop-row-test.true c.row-item.is
    (found ∙ ap (λ (m : Contents). not (may_go c.args.asked.now.reference (rows_of (entries_of (get m c.args.asked.now.reference.table))) (rows_of (entries_of (get m c.args.asked.now.table))) c.row-item.result)) same))
    ∙ c.loop-row.invariant.1 sound from1 from2

pub returns-in-Ok-true-clause-follows : goal.returns-in-Ok-true-clause-follows
returns-in-Ok-true-clause-follows g c = g.met.R.Reading.follows_trans _ _ _ c.loop-row.invariant.0 c.is_missed.ensures.follows
