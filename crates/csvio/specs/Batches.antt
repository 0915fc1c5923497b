-- What `load_batches` does: an INSERT and a COMMIT for each so many rows of a text. All of it is
-- our own choice.
use Rattle.std.specs.Prelude.{◌≡◌, ◌≢◌, ◌≤◌, ◌+◌, ◌⊎◌, ℕ, true, false, List, [], ◌∷◌, ◌++◌, length, Option, Some}
use Rattle.refusals.specs.declared.refusal.Refusal.TheVariants.{Disk, Invalid, Memory}
use Rattle.refusals.specs.declared.reason.Reason.TheVariants as reason
use Rattle.sqlval.specs.Value.{Row}
use Rattle.lexer.specs.Token.{Bytes}
use Rattle.denote.specs.Database.{Name}
use Rattle.replies.specs.declared.reply.Reply.{Reply}
use Rattle.replies.specs.declared.reply.Reply.TheVariants as says
use Rattle.replies.specs.Refused.{is_refusal}
use Rattle.session_definitions.specs.Rules.{Rules}
use Rattle.session_definitions.specs.Statements.{counted}
use Rattle.session_definitions.specs.World.{World}
use Rattle.csvio.specs.Loading.{HasNoRows, HasRows, PutsIn}
use Rattle.csvio.specs.TableName.{IsNameIn}

-- ---- rows in batches

-- how many rows some batches have
abbrev pub rows_in : List (List Row) → ℕ
rows_in [] = 0
rows_in (batch ∷ batches) = length batch + rows_in batches

-- Rows are cut into batches of `most`, of which the last may have fewer: one batch, or a full one
-- and the batches of the rows behind it, of which there are some.
pub data AreBatches (most : ℕ) : List Row → List (List Row) → Type 0 where
  last : (batch : List Row) → length batch ≤ most → AreBatches most batch (batch ∷ [])
  more : (batch behind : List Row) (batches : List (List Row)) → length batch ≡ most → behind ≢ []
      → AreBatches most behind batches → AreBatches most (batch ++ behind) (batch ∷ batches)

-- ---- batches put in

-- Batches are put in one after another, each by an INSERT and a COMMIT, of which none is refused.
pub data PutsAll (rules : Rules) (old : World) (s : ℕ) (table : Name) : List (List Row) → World → Type 0 where
  none : PutsAll rules old s table [] old
  more : (before : List (List Row)) (batch : List Row) (mid new : World) (reply : Reply)
      → PutsAll rules old s table before mid → PutsIn rules mid s table batch reply new → is_refusal reply ≡ false
      → PutsAll rules old s table (before ++ batch ∷ []) new

-- All batches are put in, and the reply counts their rows; or some are, and the INSERT or the
-- COMMIT of the next one is refused, which is the reply. So many rows stand committed.
pub data PutsBatches (rules : Rules) (old : World) (s : ℕ) (table : Name) (batches : List (List Row)) (reply : Reply) (committed : ℕ) (new : World) : Type 0 where
  all : PutsAll rules old s table batches new → committed ≡ rows_in batches → reply ≡ counted (Some (rows_in batches))
      → PutsBatches rules old s table batches reply committed new
  stopped : (before behind : List (List Row)) (batch : List Row) (mid : World) → batches ≡ before ++ batch ∷ behind
      → PutsAll rules old s table before mid → PutsIn rules mid s table batch reply new → is_refusal reply ≡ true
      → committed ≡ rows_in before → PutsBatches rules old s table batches reply committed new

-- Rows are put in by batches; or there was no memory for the batches.
pub data PutsCut (rules : Rules) (old : World) (s : ℕ) (table : Name) (most : ℕ) (rows : List Row) (reply : Reply) (committed : ℕ) (new : World) : Type 0 where
  uncut : reply ≡ says.Refused Memory → committed ≡ 0 → new ≡ old
      → PutsCut rules old s table most rows reply committed new
  puts : (batches : List (List Row)) → AreBatches most rows batches
      → PutsBatches rules old s table batches reply committed new
      → PutsCut rules old s table most rows reply committed new

-- The text names no table that could be; or it was not read, for want of memory or since the reader
-- refused; or no rows have it; or its rows are put in, by batches.
pub data LoadsBatches (rules : Rules) (old : World) (s : ℕ) (table : Bytes) (most : ℕ) (input : Option (List ℕ)) (reply : Reply) (committed : ℕ) (new : World) : Type 0 where
  no_name : ((name : Name) → IsNameIn table name → ⊥) → reply ≡ says.Refused (Invalid reason.Name) → committed ≡ 0
      → new ≡ old → LoadsBatches rules old s table most input reply committed new
  unread : (reply ≡ says.Refused Memory) ⊎ (reply ≡ says.Refused Disk) → committed ≡ 0 → new ≡ old
      → LoadsBatches rules old s table most input reply committed new
  no_rows : HasNoRows input → reply ≡ says.Refused (Invalid reason.Field) → committed ≡ 0 → new ≡ old
      → LoadsBatches rules old s table most input reply committed new
  puts_in : (name : Name) (rows : List Row) → IsNameIn table name → HasRows input rows
      → PutsCut rules old s name most rows reply committed new
      → LoadsBatches rules old s table most input reply committed new
