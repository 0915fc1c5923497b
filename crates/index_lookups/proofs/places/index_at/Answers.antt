use Rattle.std.proofs.Common.{sym, ◌∙◌}
use Rattle.catalog.specs.Held.{HoldsNoSchema}
use Rattle.stored_tables.proofs.RefusalLemmas.{read_harm}
use Rattle.database_trees.specs.Held.{declared_of, HoldsNoDatabase}
use Rattle.index_lookups.proofs.PlaceLemmas.{place_found, place_absent}
use Rattle.std.specs.Prelude.{slice_get}
use Rattle.stored_tables.specs.Named.{table_named}
use Rattle.index_lookups.proofs.TypeLemmas.{place_types}
use Rattle.index_lookups.proofs.places.index_at.Goals as goal

pub returns-in-Ok-Some-clause-found : goal.returns-in-Ok-Some-clause-found
returns-in-Ok-Some-clause-found g c = λ tables h.
    place_found (g.R.PageReader.pages c.args.space.now) c.args.root c.args.name.now tables c.in-Ok-Some.table c.args.at c.place_in.result h
    (sym (c.in-Ok-Some.ensures.found h.owned (declared_of tables) h.trees.each.0) ∙ c.in-Ok-Some.field-0-is) c.place_in.ensures

pub returns-in-Ok-None-clause-found : goal.returns-in-Ok-None-clause-found
returns-in-Ok-None-clause-found g c = λ tables h.
    place_absent (g.R.PageReader.pages c.args.space.now) c.args.name.now tables c.args.at (sym (c.in-Ok-None.ensures.found h.owned (declared_of tables) h.trees.each.0) ∙ c.in-Ok-None.field-0-is)

pub returns-in-Err-clause-refusal : goal.returns-in-Err-clause-refusal
returns-in-Err-clause-refusal g c =
    read_harm c.in-Err.fault (HoldsNoSchema (g.R.PageReader.pages c.args.space.now) c.args.root) (HoldsNoDatabase (g.R.PageReader.pages c.args.space.now) c.args.root)
    (g.R.PageReader.refused c.args.space.now) (g.R.PageReader.refused c.find_table.new.space) (λ none tables h. none h.owned (declared_of tables) h.trees.each.0) c.in-Err.ensures.refusal

pub returns-in-Ok-Some-clause-types : goal.returns-in-Ok-Some-clause-types
returns-in-Ok-Some-clause-types g c = λ owned tables h.
    place_types c.in-Ok-Some.table (table_named c.args.name.now tables) (slice_get c.in-Ok-Some.table.indexes c.args.at) c.place_in.result
    (sym c.in-Ok-Some.field-0-is ∙ c.in-Ok-Some.ensures.found owned tables h) c.place_in.ensures

pub returns-in-Ok-None-clause-types : goal.returns-in-Ok-None-clause-types
returns-in-Ok-None-clause-types g c = λ owned tables h. tt
