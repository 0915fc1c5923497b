use Rattle.std.proofs.Common.{◌≡◌, ◌∙◌, ◌+◌, ◌<◌, sym, ap, subst, ℕ, List, Some, arith}
use Rattle.std.specs.Prelude.{slice_get}
use Rattle.std.proofs.lemmas.Result.{IfOk-weaker}
use Rattle.sqlval.specs.CodedLength.{key_length}
use Rattle.sqlval.specs.Matching.{key_of}
use Rattle.store.specs.declared.rows.NumberedRow.{NumberedRow}
use Rattle.store.specs.View.{entry_of}
use Rattle.tablestore.specs.Held.{Fits}
use Rattle.index_trees.specs.Indexed.{index_entry}
use Rattle.stored_tables.proofs.RefusalLemmas.{reads_later}
use Rattle.index_lookups.specs.Walked.{StandsNowhere}
use Rattle.index_lookups.proofs.StandLemmas.{entry_is, never_long}
use Rattle.index_lookups.proofs.walking.row_of_entry.Goals as goal

pub returns-in-Ok-clause-row : goal.returns-in-Ok-clause-row
returns-in-Ok-clause-row g c = λ rows left h s.
    IfOk-weaker c.if_entry.result (λ (row : NumberedRow). row ≡ c.in-Ok.found) (λ (row : NumberedRow). slice_get left 0 ≡ Some (entry_of row))
    (λ row e. c.in-Ok.ensures.row rows left h s ∙ ap (λ (r : NumberedRow). Some (entry_of r)) (sym e)) c.if_entry.ensures.row

pub returns-in-Ok-clause-typed : goal.returns-in-Ok-clause-typed
returns-in-Ok-clause-typed g c =
    IfOk-weaker c.if_entry.result (λ (row : NumberedRow). row ≡ c.in-Ok.found) (λ (row : NumberedRow). Fits c.args.place.now.types (entry_of row))
    (λ row e. subst (λ (r : NumberedRow). Fits c.args.place.now.types (entry_of r)) (sym e) c.in-Ok.ensures.typed) c.if_entry.ensures.row

pub returns-in-Ok-clause-entry : goal.returns-in-Ok-clause-entry
returns-in-Ok-clause-entry g c =
    IfOk-weaker c.if_entry.result (λ (row : NumberedRow). c.args.entry.now ≡ index_entry c.as_slice.result.now (entry_of row)) (λ (row : NumberedRow). c.args.entry.now ≡ index_entry c.args.place.now.columns (entry_of row))
    (λ row e. e ∙ ap (λ (cs : List ℕ). index_entry cs (entry_of row)) c.as_slice.ensures) c.if_entry.ensures.entry

pub returns-in-Ok-clause-refusal : goal.returns-in-Ok-clause-refusal
returns-in-Ok-clause-refusal g c =
    reads_later c.if_entry.result (c.args.entry.now ≡ index_entry c.as_slice.result.now (entry_of c.in-Ok.found) → 600 < key_length (key_of c.as_slice.result.now c.in-Ok.found.row) + 8)
    (StandsNowhere (g.R.PageReader.pages c.args.space.now) c.args.place.now.root c.args.place.now.rows_root c.args.place.now.types c.args.place.now.columns (Some c.args.entry.now))
    (g.R.PageReader.refused c.args.space.now) (g.R.PageReader.refused c.args.space.now) (g.R.PageReader.refused c.row_named.new.space)
    (λ short rows left h s.
    let is = c.in-Ok.ensures.row rows left h s in
    never_long (g.R.PageReader.pages c.args.space.now) c.args.place.now.root c.args.place.now.rows_root c.args.place.now.types c.args.place.now.columns rows h c.args.entry.now left (entry_of c.in-Ok.found) s is
    (subst (λ (cs : List ℕ). 600 < key_length (key_of cs c.in-Ok.found.row) + 8) c.as_slice.ensures
    (short (entry_is (g.R.PageReader.pages c.args.space.now) c.args.place.now.root c.args.place.now.rows_root c.args.place.now.types c.args.place.now.columns rows h c.args.entry.now left (entry_of c.in-Ok.found) s is
    ∙ ap (λ (cs : List ℕ). index_entry cs (entry_of c.in-Ok.found)) (sym c.as_slice.ensures)))))
    (omega arith) (c.if_entry.ensures.refusal (g.R.PageReader.refused c.args.space.now) (g.R.PageReader.refused c.row_named.new.space))
