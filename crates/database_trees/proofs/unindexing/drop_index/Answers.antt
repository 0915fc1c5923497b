use Rattle.std.proofs.Common.{sym, subst, ◌≡◌, List, false, true}
use Rattle.stored_tables.proofs.ChangeLemmas.{whole_later}
use Rattle.page_space.specs.Space.{PageMap}
use Rattle.catalog.specs.Held.{HoldsNoSchema}
use Rattle.database_trees.specs.Held.{TableAt, declared_of, HoldsDatabase, HoldsFor}
use Rattle.database_trees.specs.Changed.{HoldsNoDatabaseIn}
use Rattle.database_trees.proofs.UnindexLemmas.{database_unindexed}
use Rattle.database_trees.proofs.RefusalLemmas.{refused_later, read_refused}
use Rattle.database_trees.proofs.unindexing.drop_index.Goals as goal

pub returns-in-Ok-clause-unindexed : goal.returns-in-Ok-clause-unindexed
returns-in-Ok-clause-unindexed g c = λ tables h. database_unindexed _ c.unindex_each.result (g.S.PageReader.pages c.unindex_each.new.space) c.args.name.now tables (c.unindex_each.ensures.unindexed _ tables (subst (λ (p : PageMap). HoldsFor false p c.args.root tables) (sym c.read_schema.ensures.same) h) (sym (c.in-Ok.ensures.found h.owned (declared_of tables) h.trees.each.0)))

pub returns-in-Ok-clause-owned : goal.returns-in-Ok-clause-owned
returns-in-Ok-clause-owned g c = λ tables h. database_unindexed _ c.unindex_each.result (g.S.PageReader.pages c.unindex_each.new.space) c.args.name.now tables (c.unindex_each.ensures.unindexed _ tables (subst (λ (p : PageMap). HoldsFor true p c.args.root tables) (sym c.read_schema.ensures.same) h) (sym (c.in-Ok.ensures.found h.owned (declared_of tables) h.trees.each.0)))

pub returns-in-Ok-clause-whole : goal.returns-in-Ok-clause-whole
returns-in-Ok-clause-whole g c = whole_later c.unindex_each.result (g.S.PageReader.is_whole c.args.space.now) (g.S.PageReader.is_whole c.read_schema.new.space) (g.S.PageReader.is_whole c.unindex_each.new.space) c.read_schema.ensures.whole c.unindex_each.ensures.whole

pub returns-in-Ok-clause-follows : goal.returns-in-Ok-clause-follows
returns-in-Ok-clause-follows g c = g.met.S.PageReader.follows_trans _ _ _ c.read_schema.ensures.follows c.unindex_each.ensures.follows

pub returns-in-Ok-clause-refusal : goal.returns-in-Ok-clause-refusal
returns-in-Ok-clause-refusal g c =
    refused_later c.unindex_each.result (g.S.PageSpace.at_limit c.unindex_each.new.space) ((its : List TableAt) → HoldsDatabase (g.S.PageReader.pages c.read_schema.new.space) c.args.root its → declared_of its ≡ c.in-Ok.schema.tables → (g.S.PageReader.is_whole c.read_schema.new.space) → ⊥) (HoldsNoDatabaseIn (g.S.PageReader.pages c.args.space.now) c.args.root (g.S.PageReader.is_whole c.args.space.now)) (g.S.PageReader.refused c.args.space.now) (g.S.PageReader.refused c.read_schema.new.space) (g.S.PageReader.refused c.unindex_each.new.space)
    (λ none tables h whole. none tables (subst (λ (p : PageMap). HoldsDatabase p c.args.root tables) (sym c.read_schema.ensures.same) h) (sym (c.in-Ok.ensures.found h.owned (declared_of tables) h.trees.each.0)) (c.read_schema.ensures.whole whole)) c.read_schema.ensures.rising c.unindex_each.ensures.refusal

pub returns-in-Err-clause-refusal : goal.returns-in-Err-clause-refusal
returns-in-Err-clause-refusal g c = read_refused c.in-Err.fault (g.S.PageSpace.at_limit c.read_schema.new.space) (HoldsNoSchema (g.S.PageReader.pages c.args.space.now) c.args.root) (HoldsNoDatabaseIn (g.S.PageReader.pages c.args.space.now) c.args.root (g.S.PageReader.is_whole c.args.space.now)) (g.S.PageReader.refused c.args.space.now) (g.S.PageReader.refused c.read_schema.new.space) (λ none tables h whole. none h.owned (declared_of tables) h.trees.each.0) c.in-Err.ensures.refusal
