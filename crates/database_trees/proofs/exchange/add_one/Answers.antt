use Rattle.std.proofs.Common.{◌+◌, ◌<◌}
use Rattle.sqlval.specs.CodedLength.{key_length}
use Rattle.sqlval.specs.Matching.{key_of}
use Rattle.index_trees.specs.Indexed.{HoldsNoIndexIn}
use Rattle.database_trees.proofs.RefusalLemmas.{index_refused, index_reaches}
use Rattle.database_trees.proofs.exchange.add_one.Goals as goal

pub returns-in-Err-clause-limits : goal.returns-in-Err-clause-limits
returns-in-Err-clause-limits g c =
    index_reaches c.in-Err.error c.of_index.result (g.S.PageSpace.at_limit c.add_row.new.space) (HoldsNoIndexIn (g.S.PageReader.pages c.args.space.now) c.args.root c.args.columns.now (g.S.PageReader.is_whole c.args.space.now))
    (600 < key_length (key_of c.args.columns.now c.args.row.now) + 8) (g.S.PageReader.refused c.args.space.now) (g.S.PageReader.refused c.add_row.new.space) c.args.columns.now c.args.row.now c.of_index.ensures (λ long. long) c.in-Err.ensures.refusal

pub returns-in-Err-clause-refusal : goal.returns-in-Err-clause-refusal
returns-in-Err-clause-refusal g c =
    index_refused c.in-Err.error c.of_index.result (g.S.PageSpace.at_limit c.add_row.new.space) (HoldsNoIndexIn (g.S.PageReader.pages c.args.space.now) c.args.root c.args.columns.now (g.S.PageReader.is_whole c.args.space.now))
    (HoldsNoIndexIn (g.S.PageReader.pages c.args.space.now) c.args.root c.args.columns.now (g.S.PageReader.is_whole c.args.space.now))
    (g.S.PageReader.refused c.args.space.now) (g.S.PageReader.refused c.add_row.new.space) c.args.columns.now c.args.row.now c.of_index.ensures (λ none. none) c.in-Err.ensures.refusal
