use Rattle.std.proofs.Common.{◌≡◌, Some, take, ap, ◌∙◌}
use Rattle.std.proofs.lemmas.Result.{IfOk-weaker}
use Rattle.store.specs.Indexes.{some_after}
use Rattle.btree_read.specs.Blocks.{entries_in_block}
use Rattle.btree_read.specs.declared.leaf_block.Block.{Block}
use Rattle.btree_read.specs.declared.entry.Start.TheVariants.{Behind}
use Rattle.btree_read.specs.Nodes.{Key}
use Rattle.btree_read.specs.Sorted.{from_on}
use Rattle.tablestore.specs.Held.{entries_of}
use Rattle.tablestore.proofs.BlockLemmas.{some_behind}
use Rattle.tablestore.proofs.reading.block_above.Goals as goal

pub returns-clause-found : goal.returns-clause-found
returns-clause-found g c = λ owned rows held.
    IfOk-weaker c.block_from.result (λ (b : Block). entries_in_block c.args.most b ≡ take c.args.most (from_on Behind c.to_be_bytes.result (entries_of rows))) (λ (b : Block). entries_in_block c.args.most b ≡ entries_of (some_after (Some c.args.number) c.args.most rows))
    (λ b e. e ∙ ap (λ (k : Key). take c.args.most (from_on Behind k (entries_of rows))) c.to_be_bytes.ensures ∙ some_behind c.args.number c.args.most rows c.ranges.number.fits held.kept)
    (c.block_from.ensures.found owned (entries_of rows) held.tree)
