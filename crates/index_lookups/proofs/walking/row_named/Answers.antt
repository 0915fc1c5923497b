use Rattle.std.proofs.Common.{◌≡◌, ◌∙◌, sym, ap, subst, ℕ, List, Some, IfOk, refl, arith}
use Rattle.sqlval.specs.declared.schema.Column.{Column}
use Rattle.std.specs.Prelude.{slice_get}
use Rattle.std.proofs.lemmas.Result.{IfOk-weaker}
use Rattle.sqlval.specs.Matching.{key_of}
use Rattle.store.specs.declared.rows.NumberedRow.{NumberedRow}
use Rattle.store.specs.Contents as stored
use Rattle.store.specs.View.{entry_of}
use Rattle.stored_tables.proofs.RefusalLemmas.{reads_later}
use Rattle.tablestore.specs.Held.{HoldsFitting, Fits}
use Rattle.database_trees.specs.Named.{row_numbered}
use Rattle.index_lookups.specs.Walked.{StandsNowhere}
use Rattle.index_lookups.proofs.StandLemmas.{has_first, row_by_number, too_short}
use Rattle.index_lookups.proofs.walking.row_named.Goals as goal

pub returns-in-Some-clause-row : goal.returns-in-Some-clause-row
returns-in-Some-clause-row g c = λ rows left h s.
    IfOk-weaker c.row_there.result (λ (found : NumberedRow). row_numbered c.in-Some.number rows ≡ Some (entry_of found)) (λ (found : NumberedRow). slice_get left 0 ≡ Some (entry_of found))
    (λ found e. sym (row_by_number (g.R.PageReader.pages c.args.space.now) c.args.place.now.root c.args.place.now.rows_root c.args.place.now.types c.args.place.now.columns rows h c.args.entry.now left c.in-Some.number (λ key n small is. c.in-Some.ensures.some key n small (c.as_slice.ensures ∙ is)) s) ∙ e)
    (c.row_there.ensures.row h.rows_owned rows (subst (λ (cs : List Column). HoldsFitting (g.R.PageReader.pages c.args.space.now) c.args.place.now.rows_root h.rows_owned cs rows) (sym c.as_slice-in-Some.ensures) h.table))

pub returns-in-Some-clause-refusal : goal.returns-in-Some-clause-refusal
returns-in-Some-clause-refusal g c =
    reads_later c.row_there.result ((owned : List ℕ) (rows : List stored.Entry) (e : stored.Entry) → HoldsFitting (g.R.PageReader.pages c.args.space.now) c.args.place.now.rows_root owned c.as_slice-in-Some.result.now rows → row_numbered c.in-Some.number rows ≡ Some e → ⊥)
    (StandsNowhere (g.R.PageReader.pages c.args.space.now) c.args.place.now.root c.args.place.now.rows_root c.args.place.now.types c.args.place.now.columns (Some c.args.entry.now))
    (g.R.PageReader.refused c.args.space.now) (g.R.PageReader.refused c.args.space.now) (g.R.PageReader.refused c.row_there.new.space)
    (λ none rows left h s. let w = has_first (g.R.PageReader.pages c.args.space.now) c.args.place.now.root c.args.place.now.rows_root c.args.place.now.types c.args.place.now.columns rows h c.args.entry.now left s in
    none h.rows_owned rows w.e (subst (λ (cs : List Column). HoldsFitting (g.R.PageReader.pages c.args.space.now) c.args.place.now.rows_root h.rows_owned cs rows) (sym c.as_slice-in-Some.ensures) h.table) (row_by_number (g.R.PageReader.pages c.args.space.now) c.args.place.now.root c.args.place.now.rows_root c.args.place.now.types c.args.place.now.columns rows h c.args.entry.now left c.in-Some.number (λ key n small is. c.in-Some.ensures.some key n small (c.as_slice.ensures ∙ is)) s ∙ ap (λ (xs : List stored.Entry). slice_get xs 0) w.is))
    (omega arith) c.row_there.ensures.refusal

pub returns-in-None-clause-refusal : goal.returns-in-None-clause-refusal
returns-in-None-clause-refusal g c = λ rows left h s.
    let w = has_first (g.R.PageReader.pages c.args.space.now) c.args.place.now.root c.args.place.now.rows_root c.args.place.now.types c.args.place.now.columns rows h c.args.entry.now left s in
    too_short c.as_slice.result.now (key_of c.args.place.now.columns w.e.1) w.e.0 (c.as_slice.ensures ∙ w.key) (c.in-None.ensures.none.0 refl)

pub returns-in-Some-clause-typed : goal.returns-in-Some-clause-typed
returns-in-Some-clause-typed g c = subst (λ (cs : List Column). IfOk c.row_there.result (λ found. Fits cs (entry_of found))) c.as_slice-in-Some.ensures c.row_there.ensures.typed
