-- What is left of a node at its place, made of what is left below it.
use Rattle.std.proofs.Common.{◌≡◌, refl, sym, ap, ◌∙◌, ℕ, Bool, false, List, [], Option, Some, None}
use Rattle.std.specs.Option.{option_map, option_to_list}
use Rattle.std.specs.Vec.Iter.{into_iter_items}
use Rattle.std.specs.declared.vec.IntoIter.{IntoIter}
use Rattle.sqlval.specs.Value.{Row}
use Rattle.typing.specs.declared.typed.OrderKey.{OrderKey}
use Rattle.typing.specs.declared.typed.SetOperation.{SetOperation}
use Rattle.algebra.specs.declared.tree.Condition.{Condition}
use Rattle.algebra.specs.declared.tree.Expression.{Expression}
use Rattle.algebra.specs.declared.tree.SetFunction.{SetFunction}
use Rattle.algebra.specs.declared.tree.Tree.{Tree}
use Rattle.algebra.specs.declared.tree.Tree.TheVariants as t
use Rattle.algebra.specs.Joined.{is_member}
use Rattle.algebra.specs.Listing.{combined_in_order, groups_listed, listed_rows, listing_step, onwards, row_by_row, tree_listing, value_listing, whole_first}
use Rattle.algebra.specs.Sorted.{sorted}
use Rattle.algebra.proofs.Nodes.{tree_group, tree_member, tree_set, tree_sort}
use Rattle.denote.specs.declared.fault.Fault.{Fault}
use Rattle.denote.specs.From.{kept_row}
use Rattle.denote.specs.Outcome.{Outcome}
use Rattle.executor.specs.declared.listed.Listed.{Listed}
use Rattle.executor.specs.Arguments.{meant_functions}
use Rattle.executor.specs.Reply.{as_list, outcome_of}
use Rattle.places.specs.declared.place.Members.{Members}
use Rattle.places.specs.declared.place.Place.{Place}
use Rattle.places.specs.declared.place.Place.TheVariants as p
use Rattle.places.specs.Left.{Entries, before, left, members_listed, rows_by}
use Rattle.places.specs.declared.turn.KeyedTurn.{KeyedTurn}
use Rattle.places.specs.Turns.{keyed_turn_left}
use Rattle.places.specs.Views.{ByKeys, asked, asked_above, by_keys, is_whole, keyed_left}
use Rattle.places.proofs.Aboves.{above_member}
use Rattle.places.proofs.JoinNodes.{hash_left, inner_join, left_hash}
use Rattle.places.proofs.LeftNodes.{left_group, left_member, left_set, left_sort, left_start, member_left}
use Rattle.places.proofs.Wholes.{left_kept}
use Rattle.streams.proofs.Blocks.{same-ending}

module _ (entries : Entries) where
  pub sort-left : (place : Place) (keys : List OrderKey) (rows : Tree) → is_whole place ≡ false
      → whole_first (left entries p.Start rows) (λ zs. listed_rows (sorted keys zs)) ≡ left entries place (t.Sort keys rows)
  sort-left place keys rows goes =
      ap (λ o. whole_first o (λ zs. listed_rows (sorted keys zs))) (left_start entries rows)
      ∙ ap (λ m. m []) (sym (tree_sort (listing_step (rows_by entries)) keys rows))
      ∙ sym (left_sort entries place keys rows goes)

  pub group-left : (place : Place) (columns : Option (List ℕ)) (functions : List SetFunction) (rows : Tree) → is_whole place ≡ false
      → whole_first (left entries p.Start rows) (groups_listed columns (meant_functions (rows_by entries) functions) [])
      ≡ left entries place (t.Group columns functions rows)
  group-left place columns functions rows goes =
      ap (λ o. whole_first o (groups_listed columns (meant_functions (rows_by entries) functions) [])) (left_start entries rows)
      ∙ ap (λ m. m []) (sym (tree_group (listing_step (rows_by entries)) columns functions rows))
      ∙ sym (left_group entries place columns functions rows goes)

  pub set-left : (place : Place) (op : SetOperation) (l r : Tree) → is_whole place ≡ false
      → whole_first (left entries p.Start l) (λ rows. whole_first (left entries p.Start r) (λ more. listed_rows (combined_in_order op rows more)))
      ≡ left entries place (t.Set op l r)
  set-left place op l r goes =
      ap (λ o. whole_first o (λ rows. whole_first (left entries p.Start r) (λ more. listed_rows (combined_in_order op rows more)))) (left_start entries l)
      ∙ ap (λ o. whole_first (tree_listing (rows_by entries) l []) (λ rows. whole_first o (λ more. listed_rows (combined_in_order op rows more)))) (left_start entries r)
      ∙ ap (λ m. m []) (sym (tree_set (listing_step (rows_by entries)) op l r))
      ∙ sym (left_set entries place op l r goes)

  -- ---- Member

  member-start : (operand : Expression) (is_negated : Bool) (others rows : Tree)
      → left entries p.Start (t.Member operand is_negated others rows) ≡ member_left entries operand is_negated others rows None
  member-start operand is_negated others rows =
      left_start entries (t.Member operand is_negated others rows)
      ∙ ap (λ m. m []) (tree_member (listing_step (rows_by entries)) operand is_negated others rows)

  pub member-anew : (place : Place) (operand : Expression) (is_negated : Bool) (others rows : Tree) → is_whole place ≡ false
      → asked place ≡ None
      → left entries p.Start (t.Member operand is_negated others rows) ≡ left entries place (t.Member operand is_negated others rows)
  member-anew place operand is_negated others rows goes none =
      member-start operand is_negated others rows
      ∙ ap (member_left entries operand is_negated others rows) (sym none)
      ∙ sym (left_member entries place operand is_negated others rows goes)

  pub member-begins : (operand : Expression) (is_negated : Bool) (others rows : Tree) (members : Members)
      → members_listed members ≡ left entries p.Start others
      → left entries (asked_above members p.Start) (t.Member operand is_negated others rows)
      ≡ left entries p.Start (t.Member operand is_negated others rows)
  member-begins operand is_negated others rows members e =
      let asks : Outcome → List Row → Outcome = λ o. row_by_row (kept_row (is_member (value_listing (rows_by entries) operand) is_negated o) []) in
      let same : members_listed members ≡ tree_listing (rows_by entries) others [] = e ∙ left_start entries others in
      above_member entries members p.Start operand is_negated others rows
      ∙ ap (λ o. onwards o (asks (members_listed members))) (left_start entries rows)
      ∙ ap (λ o. onwards (tree_listing (rows_by entries) rows []) (asks o)) same
      ∙ sym (member-start operand is_negated others rows)

  pub member-goes_on : (place : Place) (operand : Expression) (is_negated : Bool) (others rows : Tree) (known : Members × Place) → is_whole place ≡ false
      → Some known ≡ asked place
      → onwards (left entries known.1 rows) (row_by_row (kept_row (is_member (value_listing (rows_by entries) operand) is_negated (members_listed known.0)) []))
      ≡ left entries place (t.Member operand is_negated others rows)
  member-goes_on place operand is_negated others rows known goes e =
      ap (member_left entries operand is_negated others rows) e
      ∙ sym (left_member entries place operand is_negated others rows goes)

  -- ---- HashJoin

  none-of : {A : Type 0} (f : A → Outcome) (o : Option A) → None ≡ option_map f o → o ≡ None
  none-of f None e = refl
  none-of f (Some x) e = absurd (cc)

  pub hash-anew : (place : Place) (on : Condition) (l r : Tree) (places columns : List ℕ) → is_whole place ≡ false
      → None ≡ option_map (keyed_left entries (inner_join entries on l r)) (by_keys place)
      → tree_listing (rows_by entries) (t.HashJoin on l r places columns) [] ≡ left entries place (t.HashJoin on l r places columns)
  hash-anew place on l r places columns goes none =
      sym (left_hash entries place on l r places columns goes
      ∙ ap (hash_left entries on l r places columns) (none-of (keyed_left entries (inner_join entries on l r)) (by_keys place) none))

  pub hash-turned : (place : Place) (on : Condition) (l r : Tree) (places columns : List ℕ) (turn : KeyedTurn)
      → Some (keyed_turn_left entries (inner_join entries on l r).pairing l turn)
      ≡ option_map (keyed_left entries (inner_join entries on l r)) (by_keys place)
      → keyed_turn_left entries (inner_join entries on l r).pairing l turn ≡ hash_left entries on l r places columns (by_keys place)
  hash-turned place on l r places columns turn e = go (keyed_turn_left entries (inner_join entries on l r).pairing l turn) (by_keys place) e
    where
      value : {a b : Outcome} → Some a ≡ Some b → a ≡ b
      value {a = a} q = ap (λ o. elim o [ None ↦ a | Some z ↦ z ]) q

      go : (whole : Outcome) (o : Option ByKeys) → Some whole ≡ option_map (keyed_left entries (inner_join entries on l r)) o
          → whole ≡ hash_left entries on l r places columns o
      go whole None q = absurd (cc)
      go whole (Some at) q = value q

  -- ---- lists that are kept

  pub kept-left : (tree : Tree) (rows : IntoIter Row _) (items : List Row) (fault : Option Fault) (whole : Outcome)
      → into_iter_items rows ≡ items → record { rows = items; faults = as_list fault } ≡ whole
      → before [] (left entries (p.Kept rows fault) tree) ≡ whole
  kept-left tree rows items fault whole same e =
      ap (λ o. before [] o) (left_kept entries rows fault tree)
      ∙ ap (λ zs. record { rows = zs; faults = option_to_list fault }) same
      ∙ ap (λ faults. record { rows = items; faults = faults }) (sym (same-ending fault))
      ∙ e
