use Rattle.std.proofs.Common.{◌≡◌, ℕ, Option, [], take, sym, ap, ◌∙◌}
use Rattle.std.proofs.lemmas.Result.{IfOk-weaker}
use Rattle.store.specs.Indexes.{some_after}
use Rattle.btree_read.specs.Blocks.{entries_in_block}
use Rattle.btree_read.specs.declared.leaf_block.Block.{Block}
use Rattle.btree_read.specs.declared.entry.Start.TheVariants.{At}
use Rattle.btree_read.specs.Sorted.{from_on}
use Rattle.tablestore.specs.Held.{entries_of}
use Rattle.tablestore.proofs.BlockLemmas.{some_first}
use Rattle.tablestore.proofs.reading.block_behind.Goals as goal

pub returns-in-None-clause-found : goal.returns-in-None-clause-found
returns-in-None-clause-found g c = λ owned rows held.
    IfOk-weaker c.block_from.result (λ (b : Block). entries_in_block c.args.most b ≡ take c.args.most (from_on At [] (entries_of rows))) (λ (b : Block). entries_in_block c.args.most b ≡ entries_of (some_after c.args.after c.args.most rows))
    (λ b e. e ∙ some_first c.args.most rows ∙ ap (λ (a : Option ℕ). entries_of (some_after a c.args.most rows)) (sym c.in-None.is))
    (c.block_from.ensures.found owned (entries_of rows) held.tree)
