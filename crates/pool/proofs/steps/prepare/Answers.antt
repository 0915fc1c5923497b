use Rattle.pool.specs.Images.{pinned_in}
use Rattle.pool.proofs.ReadyLemmas.{all_back}
use Rattle.pool.proofs.steps.prepare.Goals as goal

pub returns-in-Err-clause-left : goal.returns-in-Err-clause-left
returns-in-Err-clause-left g c =
    all_back c.args.numbers.now c.args.last (pinned_in c.args.pins.now) c.prepare_all.new.touched c.args.slots.now c.prepare_all.new.slots c.take_back.new.slots c.requires.old c.prepare_all.ensures.images c.take_back.ensures.same c.take_back.ensures.taken
