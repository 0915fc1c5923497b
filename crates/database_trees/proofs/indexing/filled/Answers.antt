use Rattle.std.proofs.Common.{ℕ, List, [], None, refl, subst}
use Rattle.sqlval.specs.Value.{Row}
use Rattle.store.specs.Contents.{Entry, rows_of}
use Rattle.stored_tables.proofs.ChangeLemmas.{whole_later}
use Rattle.tablestore.specs.Held.{HoldsFitting, HoldsNoFitting}
use Rattle.btree.proofs.PageLossLemmas.{no_page_lost_behind}
use Rattle.database_trees.specs.Exchanged.{HasLongKeyIn, IsExchangeable}
use Rattle.database_trees.proofs.IndexingLemmas.{from_nothing, from_old}
use Rattle.database_trees.proofs.RefusalLemmas.{refused_later, read_refused, reaches_so}
use Rattle.database_trees.proofs.indexing.filled.Goals as goal

pub returns-in-Ok-clause-filled : goal.returns-in-Ok-clause-filled
returns-in-Ok-clause-filled g c = λ owned held h. from_old c.exchange_rows.result (g.S.PageReader.pages c.args.space.now) (g.S.PageReader.pages c.scan.new.space) (g.S.PageReader.pages c.exchange_rows.new.space) c.args.columns.now held c.scan.ensures.same (c.exchange_rows.ensures.exchanged (from_nothing (g.S.PageReader.pages c.args.space.now) (g.S.PageReader.pages c.scan.new.space) c.args.rows c.args.columns.now owned held (record { taken = None; put = c.in-Ok.put }) refl (c.in-Ok.ensures.found owned held h) h.holds))

pub returns-in-Ok-clause-limits : goal.returns-in-Ok-clause-limits
returns-in-Ok-clause-limits g c = λ owned held h.
    reaches_so c.exchange_rows.result ⊥ (HasLongKeyIn c.args.columns.now c.in-Ok.put.rows) ⊥ ⊥ (HasLongKeyIn c.args.columns.now (rows_of held)) ⊥ (λ none. none)
    (λ key. subst (λ (rs : List Row). HasLongKeyIn c.args.columns.now rs) (c.in-Ok.ensures.found owned held h).rows key) (λ none. none) c.exchange_rows.ensures.limits

pub returns-in-Ok-clause-whole : goal.returns-in-Ok-clause-whole
returns-in-Ok-clause-whole g c = whole_later c.exchange_rows.result (g.S.PageReader.is_whole c.args.space.now) (g.S.PageReader.is_whole c.scan.new.space) (g.S.PageReader.is_whole c.exchange_rows.new.space) c.scan.ensures.whole c.exchange_rows.ensures.whole

pub returns-in-Ok-clause-follows : goal.returns-in-Ok-clause-follows
returns-in-Ok-clause-follows g c = g.met.S.PageReader.follows_trans _ _ _ c.scan.ensures.follows c.exchange_rows.ensures.follows

pub returns-in-Ok-clause-refusal : goal.returns-in-Ok-clause-refusal
returns-in-Ok-clause-refusal g c =
    refused_later c.exchange_rows.result (g.S.PageSpace.at_limit c.exchange_rows.new.space) (IsExchangeable (g.S.PageReader.pages c.scan.new.space) 0 c.args.columns.now (record { taken = None; put = c.in-Ok.put }) → (g.S.PageReader.is_whole c.scan.new.space) → ⊥) ((owned : List ℕ) (held : List Entry) → HoldsFitting (g.S.PageReader.pages c.args.space.now) c.args.rows owned c.args.types.now held → (g.S.PageReader.is_whole c.args.space.now) → ⊥) (g.S.PageReader.refused c.args.space.now) (g.S.PageReader.refused c.scan.new.space) (g.S.PageReader.refused c.exchange_rows.new.space)
    (λ none owned held h whole. none (from_nothing (g.S.PageReader.pages c.args.space.now) (g.S.PageReader.pages c.scan.new.space) c.args.rows c.args.columns.now owned held (record { taken = None; put = c.in-Ok.put }) refl (c.in-Ok.ensures.found owned held h) h.holds) (c.scan.ensures.whole whole)) c.scan.ensures.rising c.exchange_rows.ensures.refusal

pub returns-in-Err-clause-refusal : goal.returns-in-Err-clause-refusal
returns-in-Err-clause-refusal g c = read_refused c.in-Err.fault (g.S.PageSpace.at_limit c.scan.new.space) (HoldsNoFitting (g.S.PageReader.pages c.args.space.now) c.args.rows c.args.types.now) ((owned : List ℕ) (held : List Entry) → HoldsFitting (g.S.PageReader.pages c.args.space.now) c.args.rows owned c.args.types.now held → (g.S.PageReader.is_whole c.args.space.now) → ⊥) (g.S.PageReader.refused c.args.space.now) (g.S.PageReader.refused c.scan.new.space) (λ none owned held h whole. none owned held h) c.in-Err.ensures.refusal

pub returns-in-Ok-clause-keeps : goal.returns-in-Ok-clause-keeps
returns-in-Ok-clause-keeps g c =
    no_page_lost_behind c.exchange_rows.result (g.S.PageReader.pages c.args.space.now) (g.S.PageReader.pages c.scan.new.space) (g.S.PageReader.pages c.exchange_rows.new.space) 0 c.scan.ensures.same c.exchange_rows.ensures.keeps
