use Rattle.std.proofs.Common.{arith, ℕ, List, [], ◌∷◌, sym, subst, false}
use Rattle.sqlval.specs.declared.schema.Column.{Column}
use Rattle.denote.specs.SchemaOf.{index_of}
use Rattle.store.specs.Contents.{Entry, rows_of}
use Rattle.store.specs.Errors.{HasLongKey}
use Rattle.stored_tables.proofs.ChangeLemmas.{whole_later}
use Rattle.btree_read.proofs.SearchLemmas.{if_ok}
use Rattle.tablestore.specs.Held.{HoldsFitting}
use Rattle.index_trees.specs.Indexed.{IndexWritten}
use Rattle.database_trees.specs.Exchanged.{HasTable, TablePut, IsTableOf, HasLongKeyIn}
use Rattle.database_trees.specs.Indexed.{table_indexed, IndexMade}
use Rattle.database_trees.proofs.DatabaseLemmas.{fitting_of_it}
use Rattle.database_trees.proofs.IndexingLemmas.{to_put_index, range_indexed, index_made, long_one}
use Rattle.database_trees.proofs.RefusalLemmas.{later, refused_later, reaches, reaches_so}
use Rattle.database_trees.proofs.indexing.index_on.Goals as goal

pub returns-in-Ok-clause-indexed : goal.returns-in-Ok-clause-indexed
returns-in-Ok-clause-indexed g c = λ alone h places among.
    let w = subst (λ (cs : List ℕ). IndexWritten (g.S.PageReader.pages c.args.space.now) (g.S.PageReader.pages c.filled.new.space) [] cs h.at.rows c.in-Ok.top) c.as_slice-2.ensures (c.in-Ok.ensures.filled h.at.owned h.at.rows (subst (λ (cs : List Column). HoldsFitting (g.S.PageReader.pages c.args.space.now) c.args.table.now.root h.at.owned cs h.at.rows) (sym c.as_slice.ensures) (fitting_of_it (g.S.PageReader.pages c.args.space.now) c.args.root c.args.table.now h))) in
    let p = to_put_index (g.S.PageReader.pages c.args.space.now) (g.S.PageReader.pages c.filled.new.space) c.args.root c.args.table.now c.args.index c.in-Ok.top h w c.in-Ok.ensures.keeps in
    if_ok (TablePut alone (g.S.PageReader.pages c.put_index.new.space) p.front (table_indexed c.args.table.now c.args.index c.in-Ok.top) p.back p.others) (IndexMade alone (g.S.PageReader.pages c.put_index.new.space) h.before h.at h.behind c.args.index) c.put_index.result
    (λ now put. index_made (g.S.PageReader.pages c.args.space.now) (g.S.PageReader.pages c.filled.new.space) c.args.root c.args.table.now c.args.index c.in-Ok.top h w c.in-Ok.ensures.keeps (g.S.PageReader.pages c.put_index.new.space) now put)
    (c.put_index.ensures.put _ p (range_indexed (g.S.PageReader.pages c.args.space.now) (g.S.PageReader.pages c.filled.new.space) c.args.root c.args.table.now c.args.index c.in-Ok.top h w c.in-Ok.ensures.keeps (λ n i. g.met.S.PageReader.bounded _ n i) places among))

pub returns-in-Ok-clause-limits : goal.returns-in-Ok-clause-limits
returns-in-Ok-clause-limits g c = λ h. reaches_so c.put_index.result ⊥ ⊥ ⊥ ⊥ (HasLongKey (index_of c.args.index ∷ []) (rows_of h.at.rows)) ⊥ (λ none. none) (λ none. absurd none) (λ none. none) c.put_index.ensures.limits

pub returns-in-Ok-clause-whole : goal.returns-in-Ok-clause-whole
returns-in-Ok-clause-whole g c = whole_later c.put_index.result (g.S.PageReader.is_whole c.args.space.now) (g.S.PageReader.is_whole c.filled.new.space) (g.S.PageReader.is_whole c.put_index.new.space) c.in-Ok.ensures.whole c.put_index.ensures.whole

pub returns-in-Ok-clause-follows : goal.returns-in-Ok-clause-follows
returns-in-Ok-clause-follows g c = g.met.S.PageReader.follows_trans _ _ _ c.filled.ensures.follows c.put_index.ensures.follows

pub returns-in-Ok-clause-refusal : goal.returns-in-Ok-clause-refusal
returns-in-Ok-clause-refusal g c =
    refused_later c.put_index.result (g.S.PageSpace.at_limit c.put_index.new.space) (HasTable false (g.S.PageReader.pages c.filled.new.space) c.args.root c.args.table.now → (g.S.PageReader.is_whole c.filled.new.space) → ⊥) (IsTableOf false (g.S.PageReader.pages c.args.space.now) c.args.root c.args.table.now → (g.S.PageReader.is_whole c.args.space.now) → ⊥) (g.S.PageReader.refused c.args.space.now) (g.S.PageReader.refused c.filled.new.space) (g.S.PageReader.refused c.put_index.new.space)
    (λ none h whole. let w = subst (λ (cs : List ℕ). IndexWritten (g.S.PageReader.pages c.args.space.now) (g.S.PageReader.pages c.filled.new.space) [] cs h.at.rows c.in-Ok.top) c.as_slice-2.ensures (c.in-Ok.ensures.filled h.at.owned h.at.rows (subst (λ (cs : List Column). HoldsFitting (g.S.PageReader.pages c.args.space.now) c.args.table.now.root h.at.owned cs h.at.rows) (sym c.as_slice.ensures) (fitting_of_it (g.S.PageReader.pages c.args.space.now) c.args.root c.args.table.now h))) in
    none (to_put_index (g.S.PageReader.pages c.args.space.now) (g.S.PageReader.pages c.filled.new.space) c.args.root c.args.table.now c.args.index c.in-Ok.top h w c.in-Ok.ensures.keeps) (c.in-Ok.ensures.whole whole)) c.filled.ensures.rising c.put_index.ensures.refusal

pub returns-in-Err-clause-limits : goal.returns-in-Err-clause-limits
returns-in-Err-clause-limits g c = λ h.
    reaches c.in-Err.error ⊥ (HasLongKeyIn c.as_slice-2.result.now (rows_of h.at.rows)) ⊥ ⊥ (HasLongKey (index_of c.args.index ∷ []) (rows_of h.at.rows)) ⊥ (λ none. none)
    (λ key. long_one c.args.index (rows_of h.at.rows) (subst (λ (cs : List ℕ). HasLongKeyIn cs (rows_of h.at.rows)) c.as_slice-2.ensures key)) (λ none. none) (c.in-Err.ensures.limits h.at.owned h.at.rows (subst (λ (cs : List Column). HoldsFitting (g.S.PageReader.pages c.args.space.now) c.args.table.now.root h.at.owned cs h.at.rows) (sym c.as_slice.ensures) (fitting_of_it (g.S.PageReader.pages c.args.space.now) c.args.root c.args.table.now h)))

pub returns-in-Err-clause-refusal : goal.returns-in-Err-clause-refusal
returns-in-Err-clause-refusal g c =
    later c.in-Err.error (g.S.PageSpace.at_limit c.filled.new.space) ((owned : List ℕ) (held : List Entry) → HoldsFitting (g.S.PageReader.pages c.args.space.now) c.args.table.now.root owned c.as_slice.result.now held → (g.S.PageReader.is_whole c.args.space.now) → ⊥) (IsTableOf false (g.S.PageReader.pages c.args.space.now) c.args.root c.args.table.now → (g.S.PageReader.is_whole c.args.space.now) → ⊥) (g.S.PageReader.refused c.args.space.now) (g.S.PageReader.refused c.args.space.now) (g.S.PageReader.refused c.filled.new.space) (λ none h whole. none h.at.owned h.at.rows (subst (λ (cs : List Column). HoldsFitting (g.S.PageReader.pages c.args.space.now) c.args.table.now.root h.at.owned cs h.at.rows) (sym c.as_slice.ensures) (fitting_of_it (g.S.PageReader.pages c.args.space.now) c.args.root c.args.table.now h)) whole) (omega arith) c.in-Err.ensures.refusal
