use Rattle.std.proofs.Common.{arith, sym, ap, subst, ◌≡◌, ◌∙◌, ◌++◌, ◌∷◌, IfOk, false}
use Rattle.sqlval.specs.declared.schema.Table.{Table}
use Rattle.stored_tables.proofs.ChangeLemmas.{whole_later}
use Rattle.page_space.specs.Space.{PageMap}
use Rattle.catalog.specs.Held.{HoldsNoSchema}
use Rattle.catalog_records.specs.Keepable.{IsTable}
use Rattle.database_trees.specs.Exchanged.{HasTable, TablePut, table_with}
use Rattle.database_trees.proofs.SettleLemmas.{schema_held, has_table, table_there, roots_there, itself_found, itself_absent}
use Rattle.database_trees.proofs.RefusalLemmas.{refused_later, read_refused}
use Rattle.database_trees.proofs.settling.put_roots.Goals as goal

pub returns-in-Ok-Some-clause-put : goal.returns-in-Ok-Some-clause-put
returns-in-Ok-Some-clause-put g c = λ alone h good.
    let is = c.table_with-changed.ensures ∙ ap (λ (t : Table). table_with c.args.rows c.args.roots.now t) (itself_found (g.S.PageReader.pages c.args.space.now) c.args.root c.args.table.now c.in-Ok-Some.found h (c.in-Ok-Some.ensures.found h.owned (h.front ++ c.args.table.now ∷ h.back) (schema_held (g.S.PageReader.pages c.args.space.now) c.args.root c.args.table.now h)) c.in-Ok-Some.field-0-is) in
    subst (λ (t : Table). IfOk c.put_table.result (TablePut alone (g.S.PageReader.pages c.put_table.new.space) h.front t h.back h.others)) is
    (c.put_table.ensures.put _ (has_table (g.S.PageReader.pages c.args.space.now) (g.S.PageReader.pages c.read_table.new.space) c.args.root c.args.table.now c.read_table.ensures.same h) (subst IsTable (sym is) good) (ap (λ (t : Table). t.name) is) (ap (λ (t : Table). t.columns) is) (ap (λ (t : Table). t.constraints) is))

pub returns-in-Ok-Some-clause-whole : goal.returns-in-Ok-Some-clause-whole
returns-in-Ok-Some-clause-whole g c = whole_later c.put_table.result (g.S.PageReader.is_whole c.args.space.now) (g.S.PageReader.is_whole c.read_table.new.space) (g.S.PageReader.is_whole c.put_table.new.space) c.read_table.ensures.whole c.put_table.ensures.whole

pub returns-in-Ok-Some-clause-follows : goal.returns-in-Ok-Some-clause-follows
returns-in-Ok-Some-clause-follows g c = g.met.S.PageReader.follows_trans _ _ _ c.read_table.ensures.follows c.put_table.ensures.follows

pub returns-in-Ok-Some-clause-refusal : goal.returns-in-Ok-Some-clause-refusal
returns-in-Ok-Some-clause-refusal g c =
    refused_later c.put_table.result (g.S.PageSpace.at_limit c.put_table.new.space) (HasTable false (g.S.PageReader.pages c.read_table.new.space) c.args.root c.args.table.now → (g.S.PageReader.is_whole c.read_table.new.space) → ⊥) (HasTable false (g.S.PageReader.pages c.args.space.now) c.args.root c.args.table.now → (g.S.PageReader.is_whole c.args.space.now) → ⊥) (g.S.PageReader.refused c.args.space.now) (g.S.PageReader.refused c.read_table.new.space) (g.S.PageReader.refused c.put_table.new.space)
    (λ none h whole. none (has_table (g.S.PageReader.pages c.args.space.now) (g.S.PageReader.pages c.read_table.new.space) c.args.root c.args.table.now c.read_table.ensures.same h) (c.read_table.ensures.whole whole)) c.read_table.ensures.rising c.put_table.ensures.refusal

pub returns-in-Ok-None-clause-refusal : goal.returns-in-Ok-None-clause-refusal
returns-in-Ok-None-clause-refusal g c = λ h whole. (itself_absent (g.S.PageReader.pages c.args.space.now) c.args.root c.args.table.now h (c.in-Ok-None.ensures.found h.owned (h.front ++ c.args.table.now ∷ h.back) (schema_held (g.S.PageReader.pages c.args.space.now) c.args.root c.args.table.now h)) c.in-Ok-None.field-0-is)

pub returns-in-Err-clause-refusal : goal.returns-in-Err-clause-refusal
returns-in-Err-clause-refusal g c = read_refused c.in-Err.fault (g.S.PageSpace.at_limit c.read_table.new.space) (HoldsNoSchema (g.S.PageReader.pages c.args.space.now) c.args.root) (HasTable false (g.S.PageReader.pages c.args.space.now) c.args.root c.args.table.now → (g.S.PageReader.is_whole c.args.space.now) → ⊥) (g.S.PageReader.refused c.args.space.now) (g.S.PageReader.refused c.read_table.new.space) (λ none h whole. none h.owned (h.front ++ c.args.table.now ∷ h.back) (schema_held (g.S.PageReader.pages c.args.space.now) c.args.root c.args.table.now h)) c.in-Err.ensures.refusal
