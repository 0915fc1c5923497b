use Rattle.std.proofs.Common.{arith, false}
use Rattle.std.proofs.Common.{map}
use Rattle.denote.specs.SchemaOf.{index_of}
use Rattle.store.specs.Errors.{HasLongKey}
use Rattle.btree_read.proofs.SearchLemmas.{if_ok}
use Rattle.stored_tables.proofs.ChangeLemmas.{whole_later}
use Rattle.database_trees.specs.Exchanged.{AreExchangeable, HasTable, TablePut, table_with, IsUnsettled, IsSettled}
use Rattle.database_trees.proofs.SettleLemmas.{to_exchange, to_put, range_then, settled_by}
use Rattle.database_trees.proofs.RefusalLemmas.{later, refused_later, reaches_so}
use Rattle.database_trees.proofs.settling.settle.Goals as goal

pub returns-in-Ok-clause-settled : goal.returns-in-Ok-clause-settled
returns-in-Ok-clause-settled g c = λ alone h.
    let w = c.in-Ok.ensures.exchanged _ (to_exchange (g.S.PageReader.pages c.args.space.now) c.args.root c.args.table.now c.args.rows c.args.exchange.now h) in
    let p = to_put (g.S.PageReader.pages c.args.space.now) c.args.root c.args.table.now c.args.rows c.args.exchange.now h (g.S.PageReader.pages c.exchange_each.new.space) c.in-Ok.roots w in
    let good = range_then (g.S.PageReader.pages c.args.space.now) c.args.root c.args.table.now c.args.rows c.args.exchange.now h (g.S.PageReader.pages c.exchange_each.new.space) c.in-Ok.roots w (λ n i. g.met.S.PageReader.bounded _ n i) in
    if_ok (TablePut alone (g.S.PageReader.pages c.put_roots.new.space) p.front (table_with c.args.rows c.in-Ok.roots c.args.table.now) p.back p.others) (IsSettled alone (g.S.PageReader.pages c.put_roots.new.space) h.front h.back h.before h.behind h.at h.rows) c.put_roots.result
    (λ top put. settled_by (g.S.PageReader.pages c.args.space.now) c.args.root c.args.table.now c.args.rows c.args.exchange.now h (g.S.PageReader.pages c.exchange_each.new.space) c.in-Ok.roots w (g.S.PageReader.pages c.put_roots.new.space) top put)
    (c.put_roots.ensures.put _ p good)

pub returns-in-Ok-clause-limits : goal.returns-in-Ok-clause-limits
returns-in-Ok-clause-limits g c =
    reaches_so c.put_roots.result ⊥ ⊥ ⊥ ⊥ (HasLongKey (map index_of c.args.table.now.indexes) c.args.exchange.now.put.rows) ⊥ (λ no_row. no_row) (λ no_key. absurd no_key) (λ no_number. no_number) c.put_roots.ensures.limits

pub returns-in-Ok-clause-whole : goal.returns-in-Ok-clause-whole
returns-in-Ok-clause-whole g c = whole_later c.put_roots.result (g.S.PageReader.is_whole c.args.space.now) (g.S.PageReader.is_whole c.exchange_each.new.space) (g.S.PageReader.is_whole c.put_roots.new.space) c.in-Ok.ensures.whole c.put_roots.ensures.whole

pub returns-in-Ok-clause-follows : goal.returns-in-Ok-clause-follows
returns-in-Ok-clause-follows g c = g.met.S.PageReader.follows_trans _ _ _ c.exchange_each.ensures.follows c.put_roots.ensures.follows

pub returns-in-Ok-clause-refusal : goal.returns-in-Ok-clause-refusal
returns-in-Ok-clause-refusal g c =
    refused_later c.put_roots.result (g.S.PageSpace.at_limit c.put_roots.new.space) (HasTable false (g.S.PageReader.pages c.exchange_each.new.space) c.args.root c.args.table.now → g.S.PageReader.is_whole c.exchange_each.new.space → ⊥)
    (IsUnsettled false (g.S.PageReader.pages c.args.space.now) c.args.root c.args.table.now c.args.rows c.args.exchange.now → g.S.PageReader.is_whole c.args.space.now → ⊥)
    (g.S.PageReader.refused c.args.space.now) (g.S.PageReader.refused c.exchange_each.new.space) (g.S.PageReader.refused c.put_roots.new.space)
    (λ none h whole. let w = c.in-Ok.ensures.exchanged _ (to_exchange (g.S.PageReader.pages c.args.space.now) c.args.root c.args.table.now c.args.rows c.args.exchange.now h) in
    none (to_put (g.S.PageReader.pages c.args.space.now) c.args.root c.args.table.now c.args.rows c.args.exchange.now h (g.S.PageReader.pages c.exchange_each.new.space) c.in-Ok.roots w) (c.in-Ok.ensures.whole whole))
    c.exchange_each.ensures.rising c.put_roots.ensures.refusal

pub returns-in-Err-clause-limits : goal.returns-in-Err-clause-limits
returns-in-Err-clause-limits g c = c.in-Err.ensures.limits

pub returns-in-Err-clause-refusal : goal.returns-in-Err-clause-refusal
returns-in-Err-clause-refusal g c =
    later c.in-Err.error (g.S.PageSpace.at_limit c.exchange_each.new.space) (AreExchangeable false (g.S.PageReader.pages c.args.space.now) c.args.table.now.indexes c.args.exchange.now → g.S.PageReader.is_whole c.args.space.now → ⊥)
    (IsUnsettled false (g.S.PageReader.pages c.args.space.now) c.args.root c.args.table.now c.args.rows c.args.exchange.now → g.S.PageReader.is_whole c.args.space.now → ⊥)
    (g.S.PageReader.refused c.args.space.now) (g.S.PageReader.refused c.args.space.now) (g.S.PageReader.refused c.exchange_each.new.space)
    (λ none h whole. none (to_exchange (g.S.PageReader.pages c.args.space.now) c.args.root c.args.table.now c.args.rows c.args.exchange.now h) whole) (omega arith) c.in-Err.ensures.refusal
