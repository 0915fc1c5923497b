-- What is left above a place of the tree below.
use Rattle.std.proofs.Common.{◌≡◌, refl, sym, ap, ◌∙◌, Bool, List, [], map, Option, Some, None}
use Rattle.sqlval.specs.Value.{Row}
use Rattle.algebra.specs.declared.tree.Condition.{Condition}
use Rattle.algebra.specs.declared.tree.Expression.{Expression}
use Rattle.algebra.specs.declared.tree.Tree.{Tree, out-Tree}
use Rattle.algebra.specs.declared.tree.Tree.TheVariants as t
use Rattle.algebra.specs.Joined.{is_member}
use Rattle.algebra.specs.Listing.{first_only, onwards, row_by_row, truth_listing, value_listing}
use Rattle.denote.specs.declared.fault.Fault.{Fault}
use Rattle.denote.specs.Evaluation.{Evaluation}
use Rattle.denote.specs.From.{kept_row}
use Rattle.denote.specs.Outcome.{Outcome}
use Rattle.denote.specs.Select.{shown_row}
use Rattle.places.specs.declared.place.Members.{Members}
use Rattle.places.specs.declared.place.Place.{Place, Place-F, out-Place}
use Rattle.places.specs.declared.place.Place.TheVariants as p
use Rattle.places.specs.Left.{Entries, left, left_at, members_listed, no_more, rows_by, unseen}
use Rattle.places.specs.Views.{Layer, above, above_in, asked_above, asked_over, seen_above, seen_over}
use Rattle.places.proofs.Layers.{asked_among, below_through, seen_seen, whole_among, whole_seen, whole_through}
use Rattle.places.proofs.LeftNodes.{at_node, distinct_left, left_distinct, left_filter, left_member, left_project, meant, member_left}
use Rattle.places.proofs.Wholes.{left_ended}

-- a list that has ended gives nothing more to what is made row by row
pub no_more_made : (f : Row → Evaluation (List Row)) (fault : Option Fault)
    → no_more fault ≡ onwards (no_more fault) (row_by_row f)
no_more_made f None = refl
no_more_made f (Some fault) = refl

module _ (entries : Entries) where
  pub left_over : (place : Place) (fault : Option Fault) (tree : Tree) → out-Place place ≡ Place-F.Ended fault
      → left entries place tree ≡ no_more fault
  left_over place fault tree e = at_node entries place tree (out-Tree tree) refl
      ∙ ap (λ y. left_at entries (meant entries y) tree (out-Tree tree)) e

  pub above_filter : (inner : Place) (condition : Condition) (rows : Tree)
      → left entries (above inner) (t.Filter condition rows)
      ≡ onwards (left entries inner rows) (row_by_row (kept_row (truth_listing (rows_by entries) condition) []))
  above_filter inner condition rows = go (out-Place inner) refl
    where
      go : (y : Layer) → out-Place inner ≡ y
          → left entries (above_in y inner) (t.Filter condition rows)
          ≡ onwards (left entries inner rows) (row_by_row (kept_row (truth_listing (rows_by entries) condition) []))
      go (Place-F.Ended fault) e =
          left_ended entries fault (t.Filter condition rows)
          ∙ no_more_made (kept_row (truth_listing (rows_by entries) condition) []) fault
          ∙ ap (λ o. onwards o (row_by_row (kept_row (truth_listing (rows_by entries) condition) [])))
          (sym (left_over inner fault rows e))
      go _ e =
          left_filter entries (p.Through inner) condition rows (whole_through inner)
          ∙ ap (λ q. onwards (left entries q rows)
          (row_by_row (kept_row (truth_listing (rows_by entries) condition) []))) (below_through inner)

  pub above_project : (inner : Place) (items : List Expression) (rows : Tree)
      → left entries (above inner) (t.Project items rows)
      ≡ onwards (left entries inner rows) (row_by_row (shown_row (map (value_listing (rows_by entries)) items) []))
  above_project inner items rows = go (out-Place inner) refl
    where
      go : (y : Layer) → out-Place inner ≡ y
          → left entries (above_in y inner) (t.Project items rows)
          ≡ onwards (left entries inner rows) (row_by_row (shown_row (map (value_listing (rows_by entries)) items) []))
      go (Place-F.Ended fault) e =
          left_ended entries fault (t.Project items rows)
          ∙ no_more_made (shown_row (map (value_listing (rows_by entries)) items) []) fault
          ∙ ap (λ o. onwards o (row_by_row (shown_row (map (value_listing (rows_by entries)) items) [])))
          (sym (left_over inner fault rows e))
      go _ e =
          left_project entries (p.Through inner) items rows (whole_through inner)
          ∙ ap (λ q. onwards (left entries q rows)
          (row_by_row (shown_row (map (value_listing (rows_by entries)) items) []))) (below_through inner)

  pub above_distinct : (given : List Row) (inner : Place) (rows : Tree)
      → left entries (seen_above given inner) (t.Distinct rows) ≡ distinct_left entries rows (given, inner)
  above_distinct given inner rows = go (out-Place inner) refl
    where
      nothing : (fault : Option Fault)
          → no_more fault ≡ record {
            rows = unseen given (no_more fault).rows;
            faults =
                first_only (no_more fault).faults;
          }
      nothing None = refl
      nothing (Some fault) = refl

      go : (y : Layer) → out-Place inner ≡ y → left entries (seen_over y given inner) (t.Distinct rows)
          ≡ distinct_left entries rows (given, inner)
      go (Place-F.Ended fault) e =
          left_ended entries fault (t.Distinct rows)
          ∙ nothing fault
          ∙ ap (λ (o : Outcome). record { rows = unseen given o.rows; faults = first_only o.faults })
          (sym (left_over inner fault rows e))
      go _ e = left_distinct entries (p.Seen given inner) rows (whole_seen given inner)
          ∙ ap (λ at. distinct_left entries rows at) (seen_seen given inner)

  pub above_member : (members : Members) (inner : Place) (operand : Expression) (is_negated : Bool) (others rows : Tree)
      → left entries (asked_above members inner) (t.Member operand is_negated others rows)
      ≡ member_left entries operand is_negated others rows (Some (members, inner))
  above_member members inner operand is_negated others rows = go (out-Place inner) refl
    where
      go : (y : Layer) → out-Place inner ≡ y
          → left entries (asked_over y members inner) (t.Member operand is_negated others rows)
          ≡ member_left entries operand is_negated others rows (Some (members, inner))
      go (Place-F.Ended fault) e =
          left_ended entries fault (t.Member operand is_negated others rows)
          ∙ no_more_made (kept_row (is_member (value_listing (rows_by entries) operand) is_negated
          (members_listed members)) []) fault
          ∙ ap (λ o. onwards o (row_by_row
          (kept_row (is_member (value_listing (rows_by entries) operand) is_negated (members_listed members)) [])))
          (sym (left_over inner fault rows e))
      go _ e =
          left_member entries (p.Among members inner) operand is_negated others rows (whole_among members inner)
          ∙ ap (member_left entries operand is_negated others rows) (asked_among members inner)
