use Rattle.pool.specs.Pages.{pages_in}
use Rattle.overlay.proofs.LayerLemmas.{settled_one}
use Rattle.overlay.proofs.layers.settle_page.Goals as goal

pub returns-in_ok-put_counted-in-Some-clause-settled : goal.returns-in_ok-put_counted-in-Some-clause-settled
returns-in_ok-put_counted-in-Some-clause-settled c =
    settled_one c.args.number c.in-Some.page.now (pages_in c.args.fresh.now) (pages_in c.args.settled.now) _ c.in-Some.ensures c.in_ok-put_counted-in-Some.ensures.put
