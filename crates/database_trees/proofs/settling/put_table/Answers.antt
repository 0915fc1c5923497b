use Rattle.std.proofs.Common.{arith, false}
use Rattle.catalog_records.proofs.ReferenceLemmas.{references_around}
use Rattle.catalog.specs.Left.{HoldsNoneWith}
use Rattle.database_trees.specs.Exchanged.{HasTable}
use Rattle.database_trees.proofs.SettleLemmas.{schema_held, table_put}
use Rattle.database_trees.proofs.RefusalLemmas.{change_refused_by, schema_reaches}
use Rattle.database_trees.proofs.settling.put_table.Goals as goal

pub returns-in-Ok-clause-put : goal.returns-in-Ok-clause-put
returns-in-Ok-clause-put g c = λ alone h good same columns constraints.
    let held = schema_held (g.S.PageReader.pages c.args.space.now) c.args.root c.args.table.now h in
    table_put (g.S.PageReader.pages c.args.space.now) (g.S.PageReader.pages c.alter_table.new.space) c.args.root c.in-Ok.top c.args.table.now c.args.changed.now h
    (c.in-Ok.ensures.altered h.owned h.front h.back held same (references_around h.front h.back c.args.table.now c.args.changed.now same columns constraints held.references) good) c.in-Ok.ensures.keeps

pub returns-in-Err-clause-limits : goal.returns-in-Err-clause-limits
returns-in-Err-clause-limits g c = schema_reaches c.in-Err.error c.of_change.result ⊥ ⊥ ⊥ c.of_change.ensures

pub returns-in-Err-clause-refusal : goal.returns-in-Err-clause-refusal
returns-in-Err-clause-refusal g c =
    change_refused_by c.in-Err.error c.of_change.result (g.S.PageSpace.at_limit c.alter_table.new.space) (HoldsNoneWith (g.S.PageReader.pages c.args.space.now) c.args.root c.args.table.now (g.S.PageReader.is_whole c.args.space.now))
    (HasTable false (g.S.PageReader.pages c.args.space.now) c.args.root c.args.table.now → g.S.PageReader.is_whole c.args.space.now → ⊥)
    (g.S.PageReader.refused c.args.space.now) (g.S.PageReader.refused c.args.space.now) (g.S.PageReader.refused c.alter_table.new.space) c.of_change.ensures
    (λ none h whole. none h.owned h.front h.back (schema_held (g.S.PageReader.pages c.args.space.now) c.args.root c.args.table.now h) whole) (omega arith) c.in-Err.ensures.refusal
