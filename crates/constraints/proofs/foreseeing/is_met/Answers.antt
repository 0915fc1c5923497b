use Rattle.std.proofs.Common.{◌≡◌, ◌∙◌, sym, ap, true, false, rules}
use Rattle.std.specs.FinMap.{get}
use Rattle.store.specs.Contents.{Contents}
use Rattle.constraints.proofs.Looking.{met-next}
use Rattle.constraints.proofs.foreseeing.is_met.Goals as goal

pub loop-row-preserved : goal.loop-row-preserved
loop-row-preserved g c =
    let f = c.loop-row.invariant.0 in
    let same = (g.met.R.Reading.follows_keeps _ _ f).contents in
    let is : c.in-Ok-false.field-0 ≡ false = search rules in (
      g.met.R.Reading.follows_trans _ _ _ f c.has_twin.ensures.follows,
      (λ sound.
          let found = rw (is, c.as_slice.ensures) at (c.in-Ok-false.ensures.found (g.met.R.Reading.follows_sound _ _ f sound)) in
          sym (met-next c.args.own _ _ c.args.place c.args.columns.now c.args.rows.now c.loop-row.row-index c.row-item.result false (ap (λ (m : Contents). get m c.args.name.now) same)
          c.loop-row-test.true c.row-item.is found)
          ∙ c.loop-row.invariant.1 sound),
    )

pub returns-in-Ok-true-clause-found : goal.returns-in-Ok-true-clause-found
returns-in-Ok-true-clause-found g c =
    let f = c.loop-row.invariant.0 in
    let same = (g.met.R.Reading.follows_keeps _ _ f).contents in
    let is : c.in-Ok-true.field-0 ≡ true = search rules in λ sound.
    let found = rw (is, c.as_slice.ensures) at (c.in-Ok-true.ensures.found (g.met.R.Reading.follows_sound _ _ f sound)) in
    sym (met-next c.args.own _ _ c.args.place c.args.columns.now c.args.rows.now c.loop-row.row-index c.row-item.result true (ap (λ (m : Contents). get m c.args.name.now) same)
    c.loop-row-test.true c.row-item.is found)
    ∙ c.loop-row.invariant.1 sound

pub returns-in-Ok-true-clause-follows : goal.returns-in-Ok-true-clause-follows
returns-in-Ok-true-clause-follows g c = g.met.R.Reading.follows_trans _ _ _ c.loop-row.invariant.0 c.has_twin.ensures.follows
