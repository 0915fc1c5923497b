use Rattle.std.proofs.Common.{◌≡◌, ◌∷◌, ◌++◌, ◌∙◌, sym, arith, false}
use Rattle.stored_tables.proofs.ChangeLemmas.{whole_later}
use Rattle.catalog_records.specs.References.{is_referenced}
use Rattle.catalog.specs.Held.{HoldsNoSchema}
use Rattle.database_trees.specs.Held.{declared_of}
use Rattle.database_trees.specs.Exchanged.{IsTableOf}
use Rattle.database_trees.proofs.DatabaseLemmas.{schema_of_it, table_in}
use Rattle.database_trees.proofs.RefusalLemmas.{read_refused, refused_later}
use Rattle.database_trees.proofs.dropping.drop_found.Goals as goal

pub returns-else-referenced-clause-dropped : goal.returns-else-referenced-clause-dropped
returns-else-referenced-clause-dropped g c = λ alone h. c.drop_free.ensures.dropped _ (table_in (g.S.PageReader.pages c.args.space.now) (g.S.PageReader.pages c.is_referenced_in.new.space) c.args.root c.args.table.now c.is_referenced_in.ensures.same h)
    (sym (c.in-Ok.ensures.found h.holds.owned (declared_of h.before ++ c.args.table.now ∷ declared_of h.behind) (schema_of_it (g.S.PageReader.pages c.args.space.now) c.args.root c.args.table.now h)) ∙ c.if-referenced.false)

pub returns-else-referenced-clause-limits : goal.returns-else-referenced-clause-limits
returns-else-referenced-clause-limits g c = c.drop_free.ensures.limits

pub returns-else-referenced-clause-whole : goal.returns-else-referenced-clause-whole
returns-else-referenced-clause-whole g c = whole_later c.drop_free.result (g.S.PageReader.is_whole c.args.space.now) (g.S.PageReader.is_whole c.is_referenced_in.new.space) (g.S.PageReader.is_whole c.drop_free.new.space) c.is_referenced_in.ensures.whole c.drop_free.ensures.whole

pub returns-else-referenced-clause-refusal : goal.returns-else-referenced-clause-refusal
returns-else-referenced-clause-refusal g c =
    refused_later c.drop_free.result (g.S.PageSpace.at_limit c.drop_free.new.space) ((h : IsTableOf false (g.S.PageReader.pages c.is_referenced_in.new.space) c.args.root c.args.table.now) → is_referenced c.args.table.now.name (declared_of h.before ++ c.args.table.now ∷ declared_of h.behind) ≡ false → (g.S.PageReader.is_whole c.is_referenced_in.new.space) → ⊥) (IsTableOf false (g.S.PageReader.pages c.args.space.now) c.args.root c.args.table.now → (g.S.PageReader.is_whole c.args.space.now) → ⊥) (g.S.PageReader.refused c.args.space.now) (g.S.PageReader.refused c.is_referenced_in.new.space) (g.S.PageReader.refused c.drop_free.new.space)
    (λ none h whole. none (table_in (g.S.PageReader.pages c.args.space.now) (g.S.PageReader.pages c.is_referenced_in.new.space) c.args.root c.args.table.now c.is_referenced_in.ensures.same h)
    (sym (c.in-Ok.ensures.found h.holds.owned (declared_of h.before ++ c.args.table.now ∷ declared_of h.behind) (schema_of_it (g.S.PageReader.pages c.args.space.now) c.args.root c.args.table.now h)) ∙ c.if-referenced.false) (c.is_referenced_in.ensures.whole whole)) c.is_referenced_in.ensures.rising c.drop_free.ensures.refusal

pub returns-else-referenced-clause-rising : goal.returns-else-referenced-clause-rising
returns-else-referenced-clause-rising g c = omega (arith, c.is_referenced_in.ensures.rising, c.drop_free.ensures.rising)

pub returns-else-referenced-clause-follows : goal.returns-else-referenced-clause-follows
returns-else-referenced-clause-follows g c = g.met.S.PageReader.follows_trans _ _ _ c.is_referenced_in.ensures.follows c.drop_free.ensures.follows

pub returns-then-referenced-clause-rising : goal.returns-then-referenced-clause-rising
returns-then-referenced-clause-rising g c = c.is_referenced_in.ensures.rising

pub returns-then-referenced-clause-follows : goal.returns-then-referenced-clause-follows
returns-then-referenced-clause-follows g c = c.is_referenced_in.ensures.follows

pub returns-in-Err-clause-refusal : goal.returns-in-Err-clause-refusal
returns-in-Err-clause-refusal g c =
    read_refused c.in-Err.fault (g.S.PageSpace.at_limit c.is_referenced_in.new.space) (HoldsNoSchema (g.S.PageReader.pages c.args.space.now) c.args.root) (IsTableOf false (g.S.PageReader.pages c.args.space.now) c.args.root c.args.table.now → (g.S.PageReader.is_whole c.args.space.now) → ⊥) (g.S.PageReader.refused c.args.space.now) (g.S.PageReader.refused c.is_referenced_in.new.space)
    (λ none h whole. none h.holds.owned (declared_of h.before ++ c.args.table.now ∷ declared_of h.behind) (schema_of_it (g.S.PageReader.pages c.args.space.now) c.args.root c.args.table.now h)) c.in-Err.ensures.refusal
