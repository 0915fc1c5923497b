-- What a cursor may give (ISO/IEC 9075:1992, 13.3).
use Rattle.std.specs.Prelude.{◌≡◌, List, [], ◌∷◌, ◌++◌, Contains, IsSorted}
use Rattle.sqlval.specs.Value.{Row}
use Rattle.denote.specs.declared.fault.Fault.{Fault}
use Rattle.denote.specs.Answer.{by_keys}
use Rattle.denote.specs.Bag.{Permutes}
use Rattle.denote.specs.Outcome.{OrderedOutcome}
use Rattle.session_definitions.specs.World.{Cursor}

-- All rows of an outcome in an order in which a cursor may give them: sorted by the order keys
-- where there are no faults, so that they answer the outcome; and in any order where there are some
-- (our own choice).
pub record IsWhole (o : OrderedOutcome) (rows : List Row) : Type 0 where
  pub bag : Permutes o.unordered.rows rows
  pub sorted : o.unordered.faults ≡ [] → IsSorted (by_keys o.keys) rows

-- The rows begin all rows: without faults they begin an answer, and with faults none comes more
-- often than in the bag.
pub record Begins (o : OrderedOutcome) (rows : List Row) : Type 0 where
  pub others : List Row
  pub all : IsWhole o (rows ++ others)

-- these rows may come next, in this order
abbrev pub MayGiveRows : Cursor → List Row → Type 0
MayGiveRows cursor rows = Begins cursor.outcome (cursor.given ++ rows)

-- the row may come next
abbrev pub MayGive : Cursor → Row → Type 0
MayGive cursor row = MayGiveRows cursor (row ∷ [])

-- the cursor when they have come
abbrev pub having_given : Cursor → List Row → Cursor
having_given cursor rows = record cursor { given = cursor.given ++ rows }

-- the end comes only where the rows given are an answer, and so never where there are faults; no
-- row may come there
pub record IsAtEnd (cursor : Cursor) : Type 0 where
  pub clean : cursor.outcome.unordered.faults ≡ []
  pub all : IsWhole cursor.outcome cursor.given

-- a refusal for an evaluation names one of the faults
abbrev pub MayRaise : Cursor → Fault → Type 0
MayRaise cursor fault = Contains cursor.outcome.unordered.faults fault
