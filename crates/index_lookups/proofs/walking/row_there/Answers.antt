use Rattle.std.proofs.Common.{◌≡◌, ◌∙◌, sym, ap, subst, ℕ, List, Option, Some, None, IfSome}
use Rattle.store.specs.declared.rows.NumberedRow.{NumberedRow}
use Rattle.std.specs.Option.{option_map}
use Rattle.store.specs.Contents as stored
use Rattle.store.specs.View.{entry_of}
use Rattle.stored_tables.proofs.RefusalLemmas.{read_harm}
use Rattle.tablestore.specs.Held.{HoldsFitting, HoldsNoFitting, Fits}
use Rattle.database_trees.specs.Named.{row_numbered}
use Rattle.index_lookups.proofs.walking.row_there.Goals as goal

pub returns-in-Ok-Some-clause-row : goal.returns-in-Ok-Some-clause-row
returns-in-Ok-Some-clause-row g c = λ owned rows h. sym (c.in-Ok-Some.ensures.found owned rows h) ∙ ap (option_map entry_of) c.in-Ok-Some.field-0-is

pub returns-in-Ok-None-clause-refusal : goal.returns-in-Ok-None-clause-refusal
returns-in-Ok-None-clause-refusal g c = λ owned rows e h is.
    let none : None ≡ Some e = sym (ap (option_map entry_of) c.in-Ok-None.field-0-is) ∙ c.in-Ok-None.ensures.found owned rows h ∙ is in absurd (cc)

pub returns-in-Err-clause-refusal : goal.returns-in-Err-clause-refusal
returns-in-Err-clause-refusal g c =
    read_harm c.in-Err.fault (HoldsNoFitting (g.R.PageReader.pages c.args.space.now) c.args.rows_root c.args.types.now) ((owned : List ℕ) (rows : List stored.Entry) (e : stored.Entry) → HoldsFitting (g.R.PageReader.pages c.args.space.now) c.args.rows_root owned c.args.types.now rows → row_numbered c.args.number rows ≡ Some e → ⊥)
    (g.R.PageReader.refused c.args.space.now) (g.R.PageReader.refused c.row_near.new.space) (λ none owned rows e h is. none owned rows h) c.in-Err.ensures.refusal

pub returns-in-Ok-Some-clause-typed : goal.returns-in-Ok-Some-clause-typed
returns-in-Ok-Some-clause-typed g c = subst (λ (found : Option NumberedRow). IfSome found (λ row. Fits c.args.types.now (entry_of row))) c.in-Ok-Some.field-0-is c.in-Ok-Some.ensures.typed
