use Rattle.std.proofs.Common.{arith, map, List, [], ◌≡◌, subst, false}
use Rattle.denote.specs.SchemaOf.{index_of}
use Rattle.sqlval.specs.Value.{Row}
use Rattle.store.specs.Errors.{HasLongKey}
use Rattle.btree_read.proofs.SearchLemmas.{if_ok}
use Rattle.stored_tables.proofs.ChangeLemmas.{whole_later}
use Rattle.tablestore.specs.Appended.{HoldsNoRowsIn}
use Rattle.tablestore.specs.Rows.{without_number}
use Rattle.database_trees.specs.Exchanged.{IsUnsettled, IsSettled, IsExchangeableAt, RowsExchanged}
use Rattle.database_trees.proofs.DatabaseLemmas.{rows_of_it, fits_of_it, rows_exchanged}
use Rattle.database_trees.proofs.FitLemmas.{fits_without}
use Rattle.database_trees.proofs.ChangeLemmas.{delete_unsettled, no_long_key}
use Rattle.database_trees.proofs.RefusalLemmas.{refused_later, reaches_so, fault_refused}
use Rattle.database_trees.proofs.rows.delete_row.Goals as goal

pub returns-in-Ok-clause-deleted : goal.returns-in-Ok-clause-deleted
returns-in-Ok-clause-deleted g c = λ alone h.
    let w = c.in-Ok.ensures.deleted h.its.at.owned h.its.at.rows (rows_of_it (g.S.PageReader.pages c.args.space.now) c.args.root c.args.table.now h.its) in
    let u = delete_unsettled (g.S.PageReader.pages c.args.space.now) (g.S.PageReader.pages c.delete.new.space) c.args.root c.in-Ok.top c.args.number c.args.table.now c.args.exchange.now h w in
    if_ok (IsSettled alone (g.S.PageReader.pages c.settle.new.space) u.front u.back u.before u.behind u.at u.rows) (RowsExchanged alone (g.S.PageReader.pages c.settle.new.space) h.its.before h.its.at h.its.behind (without_number c.args.number h.its.at.rows)) c.settle.result
    (λ now s. rows_exchanged (g.S.PageReader.pages c.args.space.now) c.args.root c.args.table.now h.its (g.S.PageReader.pages c.settle.new.space) now (without_number c.args.number h.its.at.rows)
    (fits_without c.args.table.now.columns c.args.number h.its.at.rows (fits_of_it (g.S.PageReader.pages c.args.space.now) c.args.root c.args.table.now h.its)) s) (c.settle.ensures.settled _ u)

pub returns-in-Ok-clause-limits : goal.returns-in-Ok-clause-limits
returns-in-Ok-clause-limits g c = λ are.
    reaches_so c.settle.result ⊥ (HasLongKey (map index_of c.args.table.now.indexes) c.args.exchange.now.put.rows) ⊥ ⊥ ⊥ ⊥ (λ none. none) (λ key. no_long_key (map index_of c.args.table.now.indexes) c.args.exchange.now.put.rows are.rows key) (λ none. none) c.settle.ensures.limits

pub returns-in-Ok-clause-whole : goal.returns-in-Ok-clause-whole
returns-in-Ok-clause-whole g c = whole_later c.settle.result (g.S.PageReader.is_whole c.args.space.now) (g.S.PageReader.is_whole c.delete.new.space) (g.S.PageReader.is_whole c.settle.new.space) c.in-Ok.ensures.whole c.settle.ensures.whole

pub returns-in-Ok-clause-follows : goal.returns-in-Ok-clause-follows
returns-in-Ok-clause-follows g c = g.met.S.PageReader.follows_trans _ _ _ c.delete.ensures.follows c.settle.ensures.follows

pub returns-in-Ok-clause-refusal : goal.returns-in-Ok-clause-refusal
returns-in-Ok-clause-refusal g c =
    refused_later c.settle.result (g.S.PageSpace.at_limit c.settle.new.space) (IsUnsettled false (g.S.PageReader.pages c.delete.new.space) c.args.root c.args.table.now c.in-Ok.top c.args.exchange.now → (g.S.PageReader.is_whole c.delete.new.space) → ⊥) (IsExchangeableAt false (g.S.PageReader.pages c.args.space.now) c.args.root c.args.table.now c.args.number c.args.exchange.now [] → (g.S.PageReader.is_whole c.args.space.now) → ⊥) (g.S.PageReader.refused c.args.space.now) (g.S.PageReader.refused c.delete.new.space) (g.S.PageReader.refused c.settle.new.space)
    (λ none h whole. let w = c.in-Ok.ensures.deleted h.its.at.owned h.its.at.rows (rows_of_it (g.S.PageReader.pages c.args.space.now) c.args.root c.args.table.now h.its) in
    none (delete_unsettled (g.S.PageReader.pages c.args.space.now) (g.S.PageReader.pages c.delete.new.space) c.args.root c.in-Ok.top c.args.number c.args.table.now c.args.exchange.now h w) (c.in-Ok.ensures.whole whole))
    c.delete.ensures.rising c.settle.ensures.refusal

pub returns-in-Err-clause-refusal : goal.returns-in-Err-clause-refusal
returns-in-Err-clause-refusal g c =
    fault_refused c.in-Err.fault (g.S.PageSpace.at_limit c.delete.new.space) (HoldsNoRowsIn (g.S.PageReader.pages c.args.space.now) c.args.table.now.root (g.S.PageReader.is_whole c.args.space.now)) (IsExchangeableAt false (g.S.PageReader.pages c.args.space.now) c.args.root c.args.table.now c.args.number c.args.exchange.now [] → (g.S.PageReader.is_whole c.args.space.now) → ⊥) (g.S.PageReader.refused c.args.space.now) (g.S.PageReader.refused c.args.space.now) (g.S.PageReader.refused c.delete.new.space)
    (λ none h whole. none h.its.at.owned h.its.at.rows (rows_of_it (g.S.PageReader.pages c.args.space.now) c.args.root c.args.table.now h.its) whole) (omega arith) c.in-Err.ensures.refusal
