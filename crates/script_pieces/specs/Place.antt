-- Where the next byte of a piece stands, by what was read of the piece.
use Rattle.std.specs.Prelude.{◌≡◌, ℕ, ◌==◌, ◌||◌, Bool, true, false, if◌then◌else◌, List, [], ◌∷◌, ◌++◌, Contains}
use Rattle.script_pieces.specs.declared.place.Place.{Place}
use Rattle.script_pieces.specs.declared.place.Place.TheVariants.{Outside, AfterMinus, InString, InComment}
use Rattle.script_pieces.specs.Pieces.{quote, minus, newline, Passes}

-- the place after a byte outside strings and comments
abbrev pub begun_by : ℕ → Place
begun_by b = if b == minus then AfterMinus else (if b == quote then InString else Outside)

-- the place after one more byte
abbrev pub place_after : Place → ℕ → Place
place_after Outside b = begun_by b
place_after AfterMinus b = if b == minus then InComment else begun_by b
place_after InString b = if b == quote then Outside else InString
place_after InComment b = if b == newline then Outside else InComment

abbrev pub is_outside : Place → Bool
is_outside Outside = true
is_outside AfterMinus = true
is_outside InString = false
is_outside InComment = false

-- a string began behind `before`, and `inside` is what was read of it
pub record IsInString (bytes : List ℕ) : Type 0 where
  pub before : List ℕ
  pub inside : List ℕ
  pub whole : bytes ≡ before ++ quote ∷ inside
  pub passed : (rest : List ℕ) → Passes (before ++ quote ∷ rest) (quote ∷ rest)
  pub unclosed : Contains inside quote → ⊥

-- a comment began behind `before`, and `inside` is what was read of it
pub record IsInComment (bytes : List ℕ) : Type 0 where
  pub before : List ℕ
  pub inside : List ℕ
  pub whole : bytes ≡ before ++ minus ∷ minus ∷ inside
  pub passed : (rest : List ℕ) → Passes (before ++ minus ∷ minus ∷ rest) (minus ∷ minus ∷ rest)
  pub unclosed : Contains inside newline → ⊥

-- a minus was read last, with which a comment may begin
pub record IsAfterMinus (bytes : List ℕ) : Type 0 where
  pub before : List ℕ
  pub whole : bytes ≡ before ++ minus ∷ []
  pub passed : (rest : List ℕ) → Passes (before ++ rest) rest

-- what was read of a piece leads to this place
abbrev pub LeadsTo : Place → List ℕ → Type 0
LeadsTo Outside bytes = (rest : List ℕ) → Passes (bytes ++ rest) rest
LeadsTo AfterMinus bytes = IsAfterMinus bytes
LeadsTo InString bytes = IsInString bytes
LeadsTo InComment bytes = IsInComment bytes

abbrev pub is_space : ℕ → Bool
is_space b = b == 32 || (b == 9 || (b == 10 || b == 13))

-- white space and comments up to here go on with this byte: a minus may begin a comment
abbrev pub goes_on_blank : Place → ℕ → Bool
goes_on_blank Outside b = b == minus || is_space b
goes_on_blank AfterMinus b = b == minus
goes_on_blank InString b = false
goes_on_blank InComment b = true
