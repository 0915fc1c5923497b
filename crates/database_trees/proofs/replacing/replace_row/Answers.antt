use Rattle.std.proofs.Common.{arith, map, List, [], ◌∷◌, subst, Some, false}
use Rattle.denote.specs.SchemaOf.{index_of}
use Rattle.sqlval.specs.Value.{Row}
use Rattle.store.specs.Errors.{HasLongRow, HasLongKey}
use Rattle.btree_read.proofs.SearchLemmas.{if_ok}
use Rattle.stored_tables.proofs.ChangeLemmas.{whole_later}
use Rattle.tablestore.specs.Appended.{HoldsNoRowsIn}
use Rattle.tablestore.specs.Rows.{with_number}
use Rattle.database_trees.specs.Exchanged.{IsUnsettled, IsSettled, HasRow, RowsExchanged}
use Rattle.database_trees.proofs.DatabaseLemmas.{rows_of_it, fits_of_it, rows_exchanged}
use Rattle.database_trees.proofs.FitLemmas.{fits_with}
use Rattle.database_trees.proofs.ChangeLemmas.{replace_unsettled, row_refused, row_reaches}
use Rattle.database_trees.proofs.RefusalLemmas.{refused_later, reaches, reaches_so, memory_refused}
use Rattle.database_trees.proofs.replacing.replace_row.Goals as goal

pub returns-in-Ok-one_row-clause-replaced : goal.returns-in-Ok-one_row-clause-replaced
returns-in-Ok-one_row-clause-replaced g c = λ alone h.
    let w = c.in-Ok.ensures.replaced h.its.at.owned h.its.at.rows (rows_of_it (g.S.PageReader.pages c.args.space.now) c.args.root c.args.table.now h.its) in
    let u = replace_unsettled (g.S.PageReader.pages c.args.space.now) (g.S.PageReader.pages c.replace.new.space) c.args.root c.in-Ok.top c.args.table.now c.args.found c.args.row c.in-Ok-one_row.put c.in-Ok-one_row.ensures.entries h w c.in-Ok.ensures.keeps in
    if_ok (IsSettled alone (g.S.PageReader.pages c.settle.new.space) u.front u.back u.before u.behind u.at u.rows) (RowsExchanged alone (g.S.PageReader.pages c.settle.new.space) h.its.before h.its.at h.its.behind (with_number c.args.found.number c.args.row h.its.at.rows)) c.settle.result
    (λ now s. rows_exchanged (g.S.PageReader.pages c.args.space.now) c.args.root c.args.table.now h.its (g.S.PageReader.pages c.settle.new.space) now (with_number c.args.found.number c.args.row h.its.at.rows)
    (fits_with c.args.table.now.columns c.args.found.number c.args.row h.its.at.rows (fits_of_it (g.S.PageReader.pages c.args.space.now) c.args.root c.args.table.now h.its) c.requires) s) (c.settle.ensures.settled _ u)

pub returns-in-Ok-one_row-clause-limits : goal.returns-in-Ok-one_row-clause-limits
returns-in-Ok-one_row-clause-limits g c =
    reaches_so c.settle.result ⊥ (HasLongKey (map index_of c.args.table.now.indexes) c.in-Ok-one_row.put.rows) ⊥ (HasLongRow (c.args.row ∷ [])) (HasLongKey (map index_of c.args.table.now.indexes) (c.args.row ∷ [])) ⊥ (λ none. absurd none)
    (λ key. subst (λ (rs : List Row). HasLongKey (map index_of c.args.table.now.indexes) rs) c.in-Ok-one_row.ensures.entries.rows key) (λ none. none) c.settle.ensures.limits

pub returns-in-Ok-one_row-clause-whole : goal.returns-in-Ok-one_row-clause-whole
returns-in-Ok-one_row-clause-whole g c = whole_later c.settle.result (g.S.PageReader.is_whole c.args.space.now) (g.S.PageReader.is_whole c.replace.new.space) (g.S.PageReader.is_whole c.settle.new.space) c.in-Ok.ensures.whole c.settle.ensures.whole

pub returns-in-Ok-one_row-clause-follows : goal.returns-in-Ok-one_row-clause-follows
returns-in-Ok-one_row-clause-follows g c = g.met.S.PageReader.follows_trans _ _ _ c.replace.ensures.follows c.settle.ensures.follows

pub returns-in-Ok-one_row-clause-refusal : goal.returns-in-Ok-one_row-clause-refusal
returns-in-Ok-one_row-clause-refusal g c =
    refused_later c.settle.result (g.S.PageSpace.at_limit c.settle.new.space) (IsUnsettled false (g.S.PageReader.pages c.replace.new.space) c.args.root c.args.table.now c.in-Ok.top (record { taken = Some c.args.found; put = c.in-Ok-one_row.put }) → (g.S.PageReader.is_whole c.replace.new.space) → ⊥) (HasRow false (g.S.PageReader.pages c.args.space.now) c.args.root c.args.table.now c.args.found → (g.S.PageReader.is_whole c.args.space.now) → ⊥) (g.S.PageReader.refused c.args.space.now) (g.S.PageReader.refused c.replace.new.space) (g.S.PageReader.refused c.settle.new.space)
    (λ none h whole. let w = c.in-Ok.ensures.replaced h.its.at.owned h.its.at.rows (rows_of_it (g.S.PageReader.pages c.args.space.now) c.args.root c.args.table.now h.its) in
    none (replace_unsettled (g.S.PageReader.pages c.args.space.now) (g.S.PageReader.pages c.replace.new.space) c.args.root c.in-Ok.top c.args.table.now c.args.found c.args.row c.in-Ok-one_row.put c.in-Ok-one_row.ensures.entries h w c.in-Ok.ensures.keeps) (c.in-Ok.ensures.whole whole))
    c.replace.ensures.rising c.settle.ensures.refusal

pub returns-in-Err-one_row-clause-limits : goal.returns-in-Err-one_row-clause-limits
returns-in-Err-one_row-clause-limits g c = reaches c.in-Err-one_row.error ⊥ ⊥ ⊥ (HasLongRow (c.args.row ∷ [])) (HasLongKey (map index_of c.args.table.now.indexes) (c.args.row ∷ [])) ⊥ (λ none. absurd none) (λ none. absurd none) (λ none. none) c.in-Err-one_row.ensures.limits

pub returns-in-Err-one_row-clause-refusal : goal.returns-in-Err-one_row-clause-refusal
returns-in-Err-one_row-clause-refusal g c = memory_refused c.in-Err-one_row.error (g.S.PageSpace.at_limit c.replace.new.space) (HasRow false (g.S.PageReader.pages c.args.space.now) c.args.root c.args.table.now c.args.found → (g.S.PageReader.is_whole c.args.space.now) → ⊥) (g.S.PageReader.refused c.args.space.now) (g.S.PageReader.refused c.replace.new.space) c.in-Err-one_row.ensures.memory

pub returns-in-Err-clause-limits : goal.returns-in-Err-clause-limits
returns-in-Err-clause-limits g c = row_reaches c.in-Err.error c.of_append.result (g.S.PageSpace.at_limit c.replace.new.space) (HoldsNoRowsIn (g.S.PageReader.pages c.args.space.now) c.args.table.now.root (g.S.PageReader.is_whole c.args.space.now)) (HasLongKey (map index_of c.args.table.now.indexes) (c.args.row ∷ [])) (g.S.PageReader.refused c.args.space.now) (g.S.PageReader.refused c.replace.new.space) c.args.row c.of_append.ensures c.in-Err.ensures.refusal

pub returns-in-Err-clause-refusal : goal.returns-in-Err-clause-refusal
returns-in-Err-clause-refusal g c =
    row_refused c.in-Err.error c.of_append.result (g.S.PageSpace.at_limit c.replace.new.space) (HoldsNoRowsIn (g.S.PageReader.pages c.args.space.now) c.args.table.now.root (g.S.PageReader.is_whole c.args.space.now)) (HasRow false (g.S.PageReader.pages c.args.space.now) c.args.root c.args.table.now c.args.found → (g.S.PageReader.is_whole c.args.space.now) → ⊥) (g.S.PageReader.refused c.args.space.now) (g.S.PageReader.refused c.args.space.now) (g.S.PageReader.refused c.replace.new.space) c.args.row c.of_append.ensures
    (λ none h whole. none h.its.at.owned h.its.at.rows (rows_of_it (g.S.PageReader.pages c.args.space.now) c.args.root c.args.table.now h.its) whole) (omega arith) c.in-Err.ensures.refusal
