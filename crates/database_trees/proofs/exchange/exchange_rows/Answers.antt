use Rattle.btree.proofs.PageLossLemmas.{no_page_lost}
use Rattle.database_trees.proofs.KeptLemmas.{stays_put_back}
use Rattle.database_trees.proofs.exchange.exchange_rows.Goals as goal

pub returns-then-is_put_back-clause-exchanged : goal.returns-then-is_put_back-clause-exchanged
returns-then-is_put_back-clause-exchanged g c = λ h. stays_put_back (g.S.PageReader.pages c.args.space.now) c.args.root c.args.columns.now c.args.exchange.now (c.is_put_back.ensures c.if-is_put_back.true) h

pub returns-then-is_put_back-clause-keeps : goal.returns-then-is_put_back-clause-keeps
returns-then-is_put_back-clause-keeps g c = no_page_lost (g.S.PageReader.pages c.args.space.now) c.args.root
