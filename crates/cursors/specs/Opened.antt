-- What an open cursor is in the world, over what its session reads.
use Rattle.std.specs.Prelude.{◌≡◌, ◌⊎◌, ℕ, ◌<◌, ◌-◌, true, List, [], ◌∷◌, length, take, Option, None, Some}
use Rattle.std.specs.FinMap.{get}
use Rattle.std.specs.Vec.Iter.{into_iter_items}
use Rattle.sqlval.specs.Value.{Row}
use Rattle.refusals.specs.declared.refusal.Refusal.{Refusal}
use Rattle.algebra.specs.declared.tree.Tree.{Tree}
use Rattle.algebra.specs.Listing.{tree_listing}
use Rattle.algebra.specs.OrderKeys.{ordered_outcome}
use Rattle.denote.specs.declared.fault.Fault.{Fault}
use Rattle.denote.specs.Outcome.{Outcome}
use Rattle.places.specs.declared.place.Place.{Place}
use Rattle.places.specs.Indexes.{HasIndexes}
use Rattle.places.specs.Left.{Entries, before, left}
use Rattle.places.specs.Views.{is_whole}
use Rattle.query_answers.specs.Answered.{rows_found}
use Rattle.rules.specs.Same.{IsSameTree}
use Rattle.session_definitions.specs.Cursor.{IsAtEnd, MayGive, MayGiveRows, MayRaise, having_given}
use Rattle.session_definitions.specs.Refusals.{IsReserved, refusal_of}
use Rattle.session_definitions.specs.World.{Cursor}
use Rattle.store.specs.Contents.{Contents}
use Rattle.store.specs.Indexes.{entries_of}
use Rattle.streams.specs.Parts.{names_in_parts}
use Rattle.cursors.specs.declared.cursor.OpenCursor.{OpenCursor}

abbrev pub entries_at : Contents → Entries
entries_at contents name = entries_of (get contents name)

-- the list of its plan, and what is left of it: the rows that were read ahead, and what the plan
-- gives behind its place
abbrev pub whole_list : OpenCursor → Contents → Outcome
whole_list cursor contents = tree_listing (rows_found contents) cursor.plan []

abbrev pub rest_list : OpenCursor → Contents → Outcome
rest_list cursor contents = before (into_iter_items cursor.ahead) (left (entries_at contents) cursor.place cursor.plan)

-- the rows of the list that are not left were given
abbrev pub rows_given : List Row → List Row → List Row
rows_given whole rest = take (length whole - length rest) whole

abbrev pub cursor_of : OpenCursor → Contents → Cursor
cursor_of cursor contents = record {
  outcome = ordered_outcome (rows_found contents) cursor.tree;
  given = rows_given (whole_list cursor contents).rows (rest_list cursor contents).rows;
}

-- All that the plan has still to give is kept at its place; or no subquery of it names a table, and
-- the tables have the indexes that it reads by.
abbrev pub CanGoOn : Tree → Place → Contents → Type 0
CanGoOn plan place contents = (is_whole place ≡ true) ⊎ ((names_in_parts plan ≡ []) × HasIndexes contents plan)

-- What is left of the list is all of it but the rows that were given, and the plan can go on. It
-- stands for the tree.
pub record Fits (cursor : OpenCursor) (contents : Contents) : Type 0 where
  pub same : IsSameTree (rows_found contents) cursor.plan cursor.tree
  pub whole : before (cursor_of cursor contents).given (rest_list cursor contents) ≡ whole_list cursor contents
  pub goes_on : CanGoOn cursor.plan cursor.place contents

-- and no row was given yet
pub record BeginsAt (cursor : OpenCursor) (contents : Contents) : Type 0 where
  pub fits : Fits cursor contents
  pub given : (cursor_of cursor contents).given ≡ []

-- however many rows were read ahead since, it is the same in the world
pub record IsAlike (old new : OpenCursor) (contents : Contents) : Type 0 where
  pub fits : Fits new contents
  pub same : cursor_of new contents ≡ cursor_of old contents

-- a row that may come next, or the end
abbrev pub HasNext : Option Row → Cursor → Cursor → Type 0
HasNext (Some row) old new = MayGive old row × (new ≡ having_given old (row ∷ []))
HasNext None old new = IsAtEnd old × (new ≡ old)

-- so many rows that may come next, or fewer and the end
pub record IsAhead (rows : List Row) (count : ℕ) (old new : Cursor) : Type 0 where
  pub may : MayGiveRows old rows
  pub leaves : new ≡ having_given old rows
  pub all : (length rows ≡ count) ⊎ ((length rows < count) × IsAtEnd new)

-- what may stand in place of any reply, or a fault, where a row was asked for
abbrev pub MayTake : Refusal → ℕ → Cursor → Type 0
MayTake refusal count old = IsReserved refusal
    ⊎ ((0 < count) × ((fault : Fault) × (refusal ≡ refusal_of fault) × MayRaise old fault))
