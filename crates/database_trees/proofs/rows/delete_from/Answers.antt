use Rattle.std.proofs.Common.{sym, ap, ◌∙◌, [], Some, false, subst, List}
use Rattle.sqlval.specs.declared.schema.Column.{Column}
use Rattle.std.specs.Option.{option_map}
use Rattle.store.specs.View.{entry_of}
use Rattle.stored_tables.proofs.ChangeLemmas.{whole_later}
use Rattle.tablestore.specs.Held.{HoldsFitting, HoldsNoFitting}
use Rattle.tablestore.specs.Rows.{without_number}
use Rattle.database_trees.specs.Exchanged.{IsTableOf, IsExchangeableAt}
use Rattle.database_trees.proofs.RowLemmas.{without_none}
use Rattle.database_trees.proofs.DatabaseLemmas.{fitting_of_it, rows_kept}
use Rattle.database_trees.proofs.ChangeLemmas.{to_exchange_at}
use Rattle.database_trees.proofs.RefusalLemmas.{refused_later, read_refused}
use Rattle.database_trees.proofs.rows.delete_from.Goals as goal

pub returns-in-Ok-Some-clause-deleted : goal.returns-in-Ok-Some-clause-deleted
returns-in-Ok-Some-clause-deleted g c = λ alone h. c.delete_row.ensures.deleted _ (to_exchange_at (g.S.PageReader.pages c.args.space.now) (g.S.PageReader.pages c.row_of.new.space) c.args.root c.args.number c.args.table.now c.nothing_put-exchange.result c.in-Ok-Some.found [] c.row_of.ensures.same c.nothing_put-exchange.ensures.taken c.nothing_put-exchange.ensures.put h (sym (c.in-Ok-Some.ensures.found h.at.owned h.at.rows (subst (λ (cs : List Column). HoldsFitting (g.S.PageReader.pages c.args.space.now) c.args.table.now.root h.at.owned cs h.at.rows) (sym c.as_slice.ensures) (fitting_of_it (g.S.PageReader.pages c.args.space.now) c.args.root c.args.table.now h))) ∙ ap (option_map entry_of) c.in-Ok-Some.field-0-is))

pub returns-in-Ok-Some-clause-limits : goal.returns-in-Ok-Some-clause-limits
returns-in-Ok-Some-clause-limits g c = c.delete_row.ensures.limits c.nothing_put-exchange.ensures.put

pub returns-in-Ok-Some-clause-whole : goal.returns-in-Ok-Some-clause-whole
returns-in-Ok-Some-clause-whole g c = whole_later c.delete_row.result (g.S.PageReader.is_whole c.args.space.now) (g.S.PageReader.is_whole c.row_of.new.space) (g.S.PageReader.is_whole c.delete_row.new.space) c.row_of.ensures.whole c.delete_row.ensures.whole

pub returns-in-Ok-Some-clause-follows : goal.returns-in-Ok-Some-clause-follows
returns-in-Ok-Some-clause-follows g c = g.met.S.PageReader.follows_trans _ _ _ c.row_of.ensures.follows c.delete_row.ensures.follows

pub returns-in-Ok-Some-clause-refusal : goal.returns-in-Ok-Some-clause-refusal
returns-in-Ok-Some-clause-refusal g c =
    refused_later c.delete_row.result (g.S.PageSpace.at_limit c.delete_row.new.space) (IsExchangeableAt false (g.S.PageReader.pages c.row_of.new.space) c.args.root c.args.table.now c.args.number c.nothing_put-exchange.result [] → (g.S.PageReader.is_whole c.row_of.new.space) → ⊥) (IsTableOf false (g.S.PageReader.pages c.args.space.now) c.args.root c.args.table.now → (g.S.PageReader.is_whole c.args.space.now) → ⊥) (g.S.PageReader.refused c.args.space.now) (g.S.PageReader.refused c.row_of.new.space) (g.S.PageReader.refused c.delete_row.new.space)
    (λ none h whole. none (to_exchange_at (g.S.PageReader.pages c.args.space.now) (g.S.PageReader.pages c.row_of.new.space) c.args.root c.args.number c.args.table.now c.nothing_put-exchange.result c.in-Ok-Some.found [] c.row_of.ensures.same c.nothing_put-exchange.ensures.taken c.nothing_put-exchange.ensures.put h (sym (c.in-Ok-Some.ensures.found h.at.owned h.at.rows (subst (λ (cs : List Column). HoldsFitting (g.S.PageReader.pages c.args.space.now) c.args.table.now.root h.at.owned cs h.at.rows) (sym c.as_slice.ensures) (fitting_of_it (g.S.PageReader.pages c.args.space.now) c.args.root c.args.table.now h))) ∙ ap (option_map entry_of) c.in-Ok-Some.field-0-is)) (c.row_of.ensures.whole whole)) c.row_of.ensures.rising c.delete_row.ensures.refusal

pub returns-in-Ok-None-clause-deleted : goal.returns-in-Ok-None-clause-deleted
returns-in-Ok-None-clause-deleted g c = λ alone h. rows_kept (g.S.PageReader.pages c.args.space.now) c.args.root c.args.table.now h (g.S.PageReader.pages c.row_of.new.space) (without_number c.args.number h.at.rows) c.row_of.ensures.same (without_none c.args.number h.at.rows (sym (c.in-Ok-None.ensures.found h.at.owned h.at.rows (subst (λ (cs : List Column). HoldsFitting (g.S.PageReader.pages c.args.space.now) c.args.table.now.root h.at.owned cs h.at.rows) (sym c.as_slice.ensures) (fitting_of_it (g.S.PageReader.pages c.args.space.now) c.args.root c.args.table.now h))) ∙ ap (option_map entry_of) c.in-Ok-None.field-0-is))

pub returns-in-Err-clause-refusal : goal.returns-in-Err-clause-refusal
returns-in-Err-clause-refusal g c = read_refused c.in-Err.fault (g.S.PageSpace.at_limit c.row_of.new.space) (HoldsNoFitting (g.S.PageReader.pages c.args.space.now) c.args.table.now.root c.as_slice.result.now) (IsTableOf false (g.S.PageReader.pages c.args.space.now) c.args.root c.args.table.now → (g.S.PageReader.is_whole c.args.space.now) → ⊥) (g.S.PageReader.refused c.args.space.now) (g.S.PageReader.refused c.row_of.new.space) (λ none h whole. none h.at.owned h.at.rows (subst (λ (cs : List Column). HoldsFitting (g.S.PageReader.pages c.args.space.now) c.args.table.now.root h.at.owned cs h.at.rows) (sym c.as_slice.ensures) (fitting_of_it (g.S.PageReader.pages c.args.space.now) c.args.root c.args.table.now h))) c.in-Err.ensures.refusal
