use Rattle.query_answers.proofs.Lending.{lent_next, read_next}
use Rattle.query_answers.proofs.lent.lent_tables.Goals as goal

pub loop-name-preserved : goal.loop-name-preserved
loop-name-preserved g c =
    let f = c.loop-name.invariant.0 in
    let same = (g.met.R.Reading.follows_keeps _ _ f).contents in (
      g.met.R.Reading.follows_trans _ _ _ f c.in_ok-lend.ensures.follows,
      (λ sound. lent_next _ _ _ _ c.args.names.now c.loop-name.name-index c.name-item.result same c.loop-name-test.true c.name-item.is (c.in_ok-lend.ensures.lent (g.met.R.Reading.follows_sound _ _ f sound)) (c.loop-name.invariant.1 sound)),
      (λ sound. read_next _ _ _ c.args.names.now c.loop-name.name-index c.name-item.result same c.loop-name-test.true c.name-item.is (c.loop-name.invariant.1 sound) _ _ _ (c.loop-name.invariant.2 sound)
          (c.in_ok-lend.ensures.read (g.met.R.Reading.follows_sound _ _ f sound))),
    )
