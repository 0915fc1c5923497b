-- What a node takes from a place: what the place keeps of such a node, and from any other place its
-- beginning.
use Rattle.std.specs.Prelude.{ℕ, Bool, true, false, List, [], Option, Some, None, drop}
use Rattle.std.specs.Vec.Iter.{into_iter_items}
use Rattle.sqlval.specs.Value.{Row}
use Rattle.algebra.specs.Listing.{tree_listing, whole_first}
use Rattle.denote.specs.Outcome.{Outcome}
use Rattle.store.specs.Indexes.{Position}
use Rattle.store.specs.View.{position_of}
use Rattle.places.specs.declared.place.KeyedRows.{KeyedRows}
use Rattle.places.specs.declared.place.Members.{Members}
use Rattle.places.specs.declared.place.Place.{Place, Place-F, out-Place}
use Rattle.places.specs.declared.place.Place.TheVariants as p
use Rattle.places.specs.Joins.{Join, joined_from, joined_on, kept_for}
use Rattle.places.specs.Left.{Entries, before, left, right_rows, rows_by}

-- one layer of a place
abbrev pub Layer : Type 0
Layer = Place-F Place

-- whether all that is left is kept at the place
abbrev pub whole_in : Layer → Bool
whole_in (Place-F.Kept rows fault) = true
whole_in (Place-F.Ended fault) = true
whole_in _ = false

abbrev pub is_whole : Place → Bool
is_whole place = whole_in (out-Place place)

-- ---- of nodes that read one table

-- the number of the last row, if one was given
abbrev pub number_in : Layer → Option ℕ
number_in (Place-F.After number) = Some number
number_in _ = None

abbrev pub last_number : Place → Option ℕ
last_number place = number_in (out-Place place)

-- the place of the last row in an index, if one was given
abbrev pub position_in : Layer → Option Position
position_in (Place-F.Beyond position) = Some (position_of position)
position_in _ = None

abbrev pub last_position : Place → Option Position
last_position place = position_in (out-Place place)

-- ---- of nodes with one tree below

-- of a `Filter` or a `Project`
abbrev pub below_in : Layer → Place
below_in (Place-F.Through below) = below
below_in _ = p.Start

abbrev pub below : Place → Place
below place = below_in (out-Place place)

-- and the place above: where the list below has ended this one has too
abbrev pub above_in : Layer → Place → Place
above_in (Place-F.Ended fault) below = p.Ended fault
above_in _ below = p.Through below

abbrev pub above : Place → Place
above below = above_in (out-Place below) below

-- of a `Distinct`: the rows that were given, and the place below
abbrev pub seen_in : Layer → List Row × Place
seen_in (Place-F.Seen seen below) = (seen, below)
seen_in _ = ([], p.Start)

abbrev pub seen : Place → List Row × Place
seen place = seen_in (out-Place place)

abbrev pub seen_over : Layer → List Row → Place → Place
seen_over (Place-F.Ended fault) given below = p.Ended fault
seen_over _ given below = p.Seen given below

abbrev pub seen_above : List Row → Place → Place
seen_above given below = seen_over (out-Place below) given below

-- of a `Member`: what IN looks for, once that is known, and the place of the rows
abbrev pub asked_in : Layer → Option (Members × Place)
asked_in (Place-F.Among members below) = Some (members, below)
asked_in _ = None

abbrev pub asked : Place → Option (Members × Place)
asked place = asked_in (out-Place place)

abbrev pub asked_over : Layer → Members → Place → Place
asked_over (Place-F.Ended fault) members below = p.Ended fault
asked_over _ members below = p.Among members below

abbrev pub asked_above : Members → Place → Place
asked_above members below = asked_over (out-Place below) members below

-- ---- of joins

-- where a join stands that reads its right side anew for each left row: the rows that are `ahead`
-- were read of the left side, `row` is being joined
pub record Paired : Type 0 where
  pub left : Place
  pub ahead : List Row
  pub row : Option Row
  pub matched : Bool
  pub right : Place

-- and one that keeps its right rows by keys
pub record ByKeys : Type 0 where
  pub left : Place
  pub ahead : List Row
  pub row : Option Row
  pub matched : Bool
  pub tried : ℕ
  pub side : KeyedRows

pub data Standing : Type 0 where
  Tests : Place → Standing
  Pairs : Paired → Standing

-- from the beginning the right side is run through
abbrev pub standing_in : Layer → Standing
standing_in (Place-F.Testing right) = Tests right
standing_in (Place-F.Pairs left ahead row matched right) =
    Pairs (record { left = left; ahead = into_iter_items ahead; row = row; matched = matched; right = right })
standing_in _ = Tests p.Start

abbrev pub standing : Place → Standing
standing place = standing_in (out-Place place)

-- an `IndexLoop` has no right side to be run through
abbrev pub paired_in : Layer → Paired
paired_in (Place-F.Pairs left ahead row matched right) =
    record { left = left; ahead = into_iter_items ahead; row = row; matched = matched; right = right }
paired_in _ = record { left = p.Start; ahead = []; row = None; matched = false; right = p.Start }

abbrev pub paired : Place → Paired
paired place = paired_in (out-Place place)

-- a `HashJoin`, once its right side is kept
abbrev pub keys_in : Layer → Option ByKeys
keys_in (Place-F.Keyed left ahead row matched tried side) =
    Some (record {
      left = left;
      ahead = into_iter_items ahead;
      row = row;
      matched = matched;
      tried = tried;
      side =
          side;
    })
keys_in _ = None

abbrev pub by_keys : Place → Option ByKeys
by_keys place = keys_in (out-Place place)

module _ (entries : Entries) where
  -- what a join has still to give where it stands
  abbrev pub paired_left : Join → Paired → Outcome
  paired_left join at =
      joined_on join.pairing (right_rows entries join) at.row at.matched (λ _. (left entries at.right join.right).rows)
      (before at.ahead (left entries at.left join.left))

  abbrev pub keyed_left : Join → ByKeys → Outcome
  keyed_left join at =
      joined_on join.pairing (kept_for at.side) at.row at.matched (λ one. drop at.tried (kept_for at.side one))
      (before at.ahead (left entries at.left join.left))

  abbrev pub tested_left : Join → Place → Outcome
  tested_left join right =
      whole_first (left entries right join.right)
      (λ _. joined_from join.pairing (right_rows entries join) (tree_listing (rows_by entries) join.left []))

  abbrev pub standing_left : Join → Standing → Outcome
  standing_left join (Tests right) = tested_left join right
  standing_left join (Pairs at) = paired_left join at
