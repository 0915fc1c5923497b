-- A change in which subqueries stand as what they give is given the same at each row.
use Rattle.std.proofs.Common.{◌≡◌, ◌∙◌, refl, subst, ap, List, [], ◌∷◌, map, Option, Some, None, Result, Ok}
use Rattle.sqlval.specs.declared.truth.Truth.TheVariants.{True}
use Rattle.sqlval.specs.Truth.{same_truth}
use Rattle.sqlval.specs.Value.{Row}
use Rattle.algebra.specs.declared.tree.Condition.{Condition}
use Rattle.algebra.specs.declared.tree.Expression.{Expression}
use Rattle.algebra.specs.Listing.{truth_listing, value_listing}
use Rattle.denote.specs.declared.fault.Stop.{Stop}
use Rattle.denote.specs.Database.{Table}
use Rattle.denote.specs.Evaluation.{Evaluation, ◌>>=◌, together}
use Rattle.denote.specs.Meaning.{Tables}
use Rattle.denote.specs.Stop.{Gives}
use Rattle.denote.specs.StoredRow.{row_with}
use Rattle.uncorrelated_subqueries.specs.Kept.{kept_condition, kept_expression}
use Rattle.query_answers.specs.Sources.{admitted_row}
use Rattle.update_delete.specs.declared.change.RowChange.{RowChange}
use Rattle.update_delete.specs.declared.change.RowUpdate.{RowUpdate}
use Rattle.update_delete.specs.Given.{touched_given, gone_if, deletion_given, value_at, replaced_if, update_given}
use Rattle.update_delete.specs.KeptChanges.{filter_kept, update_kept}

-- the law, as the call of it says
abbrev pub TruthsStay : Type 0
TruthsStay = (tables : Tables) (condition : Condition) → truth_listing tables (kept_condition tables condition) ≡ truth_listing tables condition

abbrev pub ValuesStay : Type 0
ValuesStay = (tables : Tables) (expression : Expression) → value_listing tables (kept_expression tables expression) ≡ value_listing tables expression

touched-kept : TruthsStay → (tables : Tables) (filter : Option Condition) → touched_given tables (filter_kept tables filter) ≡ touched_given tables filter
touched-kept stay tables None = refl
touched-kept stay tables (Some condition) = λ i row. stay tables condition i (row ∷ []) >>= (λ t. Ok (same_truth t True))

deletion-kept : TruthsStay → (tables : Tables) (filter : Option Condition) → deletion_given tables (filter_kept tables filter) ≡ deletion_given tables filter
deletion-kept stay tables filter = λ i row. touched-kept stay tables filter i row >>= (λ touched. Ok (gone_if touched))

sources-kept : ValuesStay → (tables : Tables) (row : Row) (sources : List Expression) → map (value_at tables row) (map (kept_expression tables) sources) ≡ map (value_at tables row) sources
sources-kept stay tables row [] = refl
sources-kept stay tables row (source ∷ sources) = λ i. stay tables source i (row ∷ []) ∷ sources-kept stay tables row sources i

update-kept : TruthsStay → ValuesStay → (tables : Tables) (checks : List Condition) (table : Table) (u : RowUpdate)
    → update_given tables checks table (update_kept tables u) ≡ update_given tables checks table u
update-kept truths values tables checks table u =
    λ i row. touched-kept truths tables u.filter i row >>= replaced_if (admitted_row checks table (row_with table.columns u.columns (sources-kept values tables row u.sources i) row))

pub deletions_stay : TruthsStay → (tables : Tables) (kept filter : Option Condition) (rows : List Row) (reply : Result (List RowChange) Stop) → kept ≡ filter_kept tables filter
    → Gives reply (together (map (deletion_given tables kept) rows)) → Gives reply (together (map (deletion_given tables filter) rows))
deletions_stay stay tables kept filter rows reply is gives =
    subst (λ (f : Row → Evaluation RowChange). Gives reply (together (map f rows))) (ap (deletion_given tables) is ∙ deletion-kept stay tables filter) gives

pub updates_stay : TruthsStay → ValuesStay → (tables : Tables) (checks : List Condition) (table : Table) (kept u : RowUpdate) (rows : List Row) (reply : Result (List RowChange) Stop)
    → kept ≡ update_kept tables u → Gives reply (together (map (update_given tables checks table kept) rows)) → Gives reply (together (map (update_given tables checks table u) rows))
updates_stay truths values tables checks table kept u rows reply is gives =
    subst (λ (f : Row → Evaluation RowChange). Gives reply (together (map f rows))) (ap (update_given tables checks table) is ∙ update-kept truths values tables checks table u) gives
