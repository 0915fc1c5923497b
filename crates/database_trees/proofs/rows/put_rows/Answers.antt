use Rattle.std.proofs.Common.{arith, ◌+◌, ◌++◌, ◌^◌, ◌<◌, List, length, map, subst, false}
use Rattle.std.specs.List.{enumerate_from}
use Rattle.sqlval.specs.Value.{Row}
use Rattle.denote.specs.SchemaOf.{index_of}
use Rattle.store.specs.Contents.{next_number}
use Rattle.store.specs.Errors.{HasLongRow, HasLongKey}
use Rattle.btree_read.proofs.SearchLemmas.{if_ok}
use Rattle.stored_tables.proofs.ChangeLemmas.{whole_later}
use Rattle.tablestore.specs.Appended.{RowsWritten, HoldsNoRowsIn}
use Rattle.database_trees.specs.Changed.{Reaches, SpaceRefused}
use Rattle.database_trees.specs.Exchanged.{IsUnsettled, IsSettled, IsAppendable, RowsExchanged}
use Rattle.database_trees.proofs.DatabaseLemmas.{rows_of_it, fits_of_it, rows_exchanged}
use Rattle.database_trees.proofs.FitLemmas.{fits_appended}
use Rattle.database_trees.proofs.ChangeLemmas.{append_unsettled, append_refused, append_reaches}
use Rattle.database_trees.proofs.RefusalLemmas.{refused_later, reaches_so}
use Rattle.database_trees.proofs.rows.put_rows.Goals as goal

pub returns-in-Ok-clause-appended : goal.returns-in-Ok-clause-appended
returns-in-Ok-clause-appended g c = λ alone h.
    let w = subst (λ (rs : List Row). RowsWritten (g.S.PageReader.pages c.args.space.now) (g.S.PageReader.pages c.append.new.space) h.its.at.owned (h.its.at.rows ++ enumerate_from (next_number h.its.at.rows) rs) c.in-Ok.top) c.as_slice.ensures (c.in-Ok.ensures.appended h.its.at.owned h.its.at.rows (rows_of_it (g.S.PageReader.pages c.args.space.now) c.args.root c.args.table.now h.its)) in
    let u = append_unsettled (g.S.PageReader.pages c.args.space.now) (g.S.PageReader.pages c.append.new.space) c.args.root c.in-Ok.top c.args.table.now c.args.exchange.now h w c.in-Ok.ensures.keeps in
    if_ok (IsSettled alone (g.S.PageReader.pages c.settle.new.space) u.front u.back u.before u.behind u.at u.rows) (RowsExchanged alone (g.S.PageReader.pages c.settle.new.space) h.its.before h.its.at h.its.behind (h.its.at.rows ++ enumerate_from (next_number h.its.at.rows) c.args.exchange.now.put.rows)) c.settle.result
    (λ now s. rows_exchanged (g.S.PageReader.pages c.args.space.now) c.args.root c.args.table.now h.its (g.S.PageReader.pages c.settle.new.space) now (h.its.at.rows ++ enumerate_from (next_number h.its.at.rows) c.args.exchange.now.put.rows)
    (fits_appended c.args.table.now.columns h.its.at.rows (next_number h.its.at.rows) c.args.exchange.now.put.rows (fits_of_it (g.S.PageReader.pages c.args.space.now) c.args.root c.args.table.now h.its) c.requires) s) (c.settle.ensures.settled _ u)

pub returns-in-Ok-clause-limits : goal.returns-in-Ok-clause-limits
returns-in-Ok-clause-limits g c =
    reaches_so c.settle.result ⊥ (HasLongKey (map index_of c.args.table.now.indexes) c.args.exchange.now.put.rows) ⊥ (HasLongRow c.args.exchange.now.put.rows) (HasLongKey (map index_of c.args.table.now.indexes) c.args.exchange.now.put.rows) ((h : IsAppendable false (g.S.PageReader.pages c.args.space.now) c.args.root c.args.table.now c.args.exchange.now) → 2 ^ 63 < next_number h.its.at.rows + length c.args.exchange.now.put.rows)
    (λ none. absurd none) (λ key. key) (λ none. absurd none) c.settle.ensures.limits

pub returns-in-Ok-clause-whole : goal.returns-in-Ok-clause-whole
returns-in-Ok-clause-whole g c = whole_later c.settle.result (g.S.PageReader.is_whole c.args.space.now) (g.S.PageReader.is_whole c.append.new.space) (g.S.PageReader.is_whole c.settle.new.space) c.in-Ok.ensures.whole c.settle.ensures.whole

pub returns-in-Ok-clause-follows : goal.returns-in-Ok-clause-follows
returns-in-Ok-clause-follows g c = g.met.S.PageReader.follows_trans _ _ _ c.append.ensures.follows c.settle.ensures.follows

pub returns-in-Ok-clause-refusal : goal.returns-in-Ok-clause-refusal
returns-in-Ok-clause-refusal g c =
    refused_later c.settle.result (g.S.PageSpace.at_limit c.settle.new.space) (IsUnsettled false (g.S.PageReader.pages c.append.new.space) c.args.root c.args.table.now c.in-Ok.top c.args.exchange.now → (g.S.PageReader.is_whole c.append.new.space) → ⊥) (IsAppendable false (g.S.PageReader.pages c.args.space.now) c.args.root c.args.table.now c.args.exchange.now → (g.S.PageReader.is_whole c.args.space.now) → ⊥) (g.S.PageReader.refused c.args.space.now) (g.S.PageReader.refused c.append.new.space) (g.S.PageReader.refused c.settle.new.space)
    (λ none h whole. let w = subst (λ (rs : List Row). RowsWritten (g.S.PageReader.pages c.args.space.now) (g.S.PageReader.pages c.append.new.space) h.its.at.owned (h.its.at.rows ++ enumerate_from (next_number h.its.at.rows) rs) c.in-Ok.top) c.as_slice.ensures (c.in-Ok.ensures.appended h.its.at.owned h.its.at.rows (rows_of_it (g.S.PageReader.pages c.args.space.now) c.args.root c.args.table.now h.its)) in
    none (append_unsettled (g.S.PageReader.pages c.args.space.now) (g.S.PageReader.pages c.append.new.space) c.args.root c.in-Ok.top c.args.table.now c.args.exchange.now h w c.in-Ok.ensures.keeps) (c.in-Ok.ensures.whole whole))
    c.append.ensures.rising c.settle.ensures.refusal

pub returns-in-Err-clause-limits : goal.returns-in-Err-clause-limits
returns-in-Err-clause-limits g c =
    append_reaches c.in-Err.error c.of_append.result (g.S.PageSpace.at_limit c.append.new.space) (HoldsNoRowsIn (g.S.PageReader.pages c.args.space.now) c.args.table.now.root (g.S.PageReader.is_whole c.args.space.now)) (HasLongKey (map index_of c.args.table.now.indexes) c.args.exchange.now.put.rows)
    (IsAppendable false (g.S.PageReader.pages c.args.space.now) c.args.root c.args.table.now c.args.exchange.now) (g.S.PageReader.refused c.args.space.now) (g.S.PageReader.refused c.append.new.space) c.as_slice.result.now c.args.exchange.now.put.rows (λ h. h.its.at.rows) c.of_append.ensures c.as_slice.ensures c.in-Err.ensures.refusal
    (λ h. c.in-Err.ensures.numbers h.its.at.owned h.its.at.rows (rows_of_it (g.S.PageReader.pages c.args.space.now) c.args.root c.args.table.now h.its))

pub returns-in-Err-clause-refusal : goal.returns-in-Err-clause-refusal
returns-in-Err-clause-refusal g c =
    append_refused c.in-Err.error c.of_append.result (g.S.PageSpace.at_limit c.append.new.space) (HoldsNoRowsIn (g.S.PageReader.pages c.args.space.now) c.args.table.now.root (g.S.PageReader.is_whole c.args.space.now)) (IsAppendable false (g.S.PageReader.pages c.args.space.now) c.args.root c.args.table.now c.args.exchange.now → (g.S.PageReader.is_whole c.args.space.now) → ⊥) (g.S.PageReader.refused c.args.space.now) (g.S.PageReader.refused c.args.space.now) (g.S.PageReader.refused c.append.new.space) c.as_slice.result.now c.of_append.ensures
    (λ none h whole. none h.its.at.owned h.its.at.rows (rows_of_it (g.S.PageReader.pages c.args.space.now) c.args.root c.args.table.now h.its) whole) (omega arith) c.in-Err.ensures.refusal
