use Rattle.pool.specs.Slots.{seen}
use Rattle.pool.proofs.PoolLemmas.{found_image}
use Rattle.pool.proofs.found.find_in.Goals as goal

pub returns-in-Some : goal.returns-in-Some
returns-in-Some c = found_image (λ newest. seen c.args.at c.args.images.now newest) c.in-Some.image.now.page c.copy_frame.new.into c.copy_frame.result c.in-Some.ensures c.copy_frame.ensures
