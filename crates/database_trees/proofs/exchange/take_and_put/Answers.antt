use Rattle.std.proofs.Common.{arith}
use Rattle.index_trees.specs.Indexed.{IndexWritten}
use Rattle.btree.proofs.PageLossLemmas.{no_page_lost_on_by}
use Rattle.database_trees.specs.Exchanged.{HasTaken, IsOpen, IsExchangeable, HasLongKeyIn}
use Rattle.database_trees.proofs.IndexLemmas.{to_take, to_put, index_on_by}
use Rattle.stored_tables.proofs.ChangeLemmas.{whole_later}
use Rattle.database_trees.proofs.RefusalLemmas.{later, refused_later, reaches, reaches_so}
use Rattle.database_trees.proofs.exchange.take_and_put.Goals as goal

pub returns-in-Ok-clause-exchanged : goal.returns-in-Ok-clause-exchanged
returns-in-Ok-clause-exchanged g c = λ h.
    let w = c.in-Ok.ensures.taken (to_take (g.S.PageReader.pages c.args.space.now) c.args.root c.args.columns.now c.args.exchange.now h) in
    index_on_by c.add_rows.result (g.S.PageReader.pages c.args.space.now) (g.S.PageReader.pages c.take_row.new.space) (g.S.PageReader.pages c.add_rows.new.space) h.owned c.args.columns.now h.left _ c.in-Ok.top w
    (c.add_rows.ensures.added (to_put (g.S.PageReader.pages c.args.space.now) (g.S.PageReader.pages c.take_row.new.space) c.args.root c.in-Ok.top c.args.columns.now c.args.exchange.now h w))

pub returns-in-Ok-clause-whole : goal.returns-in-Ok-clause-whole
returns-in-Ok-clause-whole g c = whole_later c.add_rows.result (g.S.PageReader.is_whole c.args.space.now) (g.S.PageReader.is_whole c.take_row.new.space) (g.S.PageReader.is_whole c.add_rows.new.space) c.in-Ok.ensures.whole c.add_rows.ensures.whole

pub returns-in-Ok-clause-follows : goal.returns-in-Ok-clause-follows
returns-in-Ok-clause-follows g c = g.met.S.PageReader.follows_trans _ _ _ c.take_row.ensures.follows c.add_rows.ensures.follows

pub returns-in-Ok-clause-limits : goal.returns-in-Ok-clause-limits
returns-in-Ok-clause-limits g c = c.add_rows.ensures.limits

pub returns-in-Ok-clause-refusal : goal.returns-in-Ok-clause-refusal
returns-in-Ok-clause-refusal g c =
    refused_later c.add_rows.result (g.S.PageSpace.at_limit c.add_rows.new.space) (IsOpen (g.S.PageReader.pages c.take_row.new.space) c.in-Ok.top c.args.columns.now c.args.exchange.now.put → g.S.PageReader.is_whole c.take_row.new.space → ⊥)
    (IsExchangeable (g.S.PageReader.pages c.args.space.now) c.args.root c.args.columns.now c.args.exchange.now → g.S.PageReader.is_whole c.args.space.now → ⊥)
    (g.S.PageReader.refused c.args.space.now) (g.S.PageReader.refused c.take_row.new.space) (g.S.PageReader.refused c.add_rows.new.space)
    (λ none h whole. let w = c.in-Ok.ensures.taken (to_take (g.S.PageReader.pages c.args.space.now) c.args.root c.args.columns.now c.args.exchange.now h) in
    none (to_put (g.S.PageReader.pages c.args.space.now) (g.S.PageReader.pages c.take_row.new.space) c.args.root c.in-Ok.top c.args.columns.now c.args.exchange.now h w) (c.in-Ok.ensures.whole whole))
    c.take_row.ensures.rising c.add_rows.ensures.refusal

pub returns-in-Err-clause-limits : goal.returns-in-Err-clause-limits
returns-in-Err-clause-limits g c =
    reaches c.in-Err.error ⊥ ⊥ ⊥ ⊥ (HasLongKeyIn c.args.columns.now c.args.exchange.now.put.rows) ⊥ (λ no_row. no_row) (λ no_key. absurd no_key) (λ no_number. no_number) c.in-Err.ensures.limits

pub returns-in-Err-clause-refusal : goal.returns-in-Err-clause-refusal
returns-in-Err-clause-refusal g c =
    later c.in-Err.error (g.S.PageSpace.at_limit c.take_row.new.space) (HasTaken (g.S.PageReader.pages c.args.space.now) c.args.root c.args.columns.now c.args.exchange.now.taken → g.S.PageReader.is_whole c.args.space.now → ⊥)
    (IsExchangeable (g.S.PageReader.pages c.args.space.now) c.args.root c.args.columns.now c.args.exchange.now → g.S.PageReader.is_whole c.args.space.now → ⊥)
    (g.S.PageReader.refused c.args.space.now) (g.S.PageReader.refused c.args.space.now) (g.S.PageReader.refused c.take_row.new.space)
    (λ none h whole. none (to_take (g.S.PageReader.pages c.args.space.now) c.args.root c.args.columns.now c.args.exchange.now h) whole) (omega arith) c.in-Err.ensures.refusal

pub returns-in-Ok-clause-keeps : goal.returns-in-Ok-clause-keeps
returns-in-Ok-clause-keeps g c =
    no_page_lost_on_by c.add_rows.result (g.S.PageReader.pages c.args.space.now) (g.S.PageReader.pages c.take_row.new.space) (g.S.PageReader.pages c.add_rows.new.space) c.args.root c.in-Ok.top c.in-Ok.ensures.keeps c.add_rows.ensures.keeps
