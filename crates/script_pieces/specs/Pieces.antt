-- Pieces of an input: where each ends, and what it stands for.
-- That a semicolon ends a statement given directly is SQL-92, 20.1; `@k` and `@flush` are our own
-- choice.
use Rattle.std.specs.Prelude.{◌≡◌, ◌≢◌, ◌⊎◌, ℕ, List, [], ◌∷◌, ◌++◌, Contains}

-- the codes that decide where a piece ends
abbrev pub semicolon : ℕ
semicolon = 59

abbrev pub quote : ℕ
quote = 39

abbrev pub minus : ℕ
minus = 45

abbrev pub newline : ℕ
newline = 10

abbrev pub at_sign : ℕ
at_sign = 64

-- a string that begins here: its closing quote stands before `following`
pub record IsString (bytes following : List ℕ) : Type 0 where
  pub inside : List ℕ
  pub closed : Contains inside quote → ⊥
  pub whole : bytes ≡ (quote ∷ inside) ++ quote ∷ following

-- a comment that begins here: its line feed stands before `following`
pub record IsComment (bytes following : List ℕ) : Type 0 where
  pub inside : List ℕ
  pub closed : Contains inside newline → ⊥
  pub whole : bytes ≡ (minus ∷ minus ∷ inside) ++ newline ∷ following

-- a comment begins here
abbrev pub BeginsComment : List ℕ → Type 0
BeginsComment bytes = (inside : List ℕ) × (bytes ≡ minus ∷ minus ∷ inside)

-- between `bytes` and what follows stand whole strings, whole comments, and other bytes but
-- semicolons
pub data Passes : List ℕ → List ℕ → Type 0 where
  here : (bytes : List ℕ) → Passes bytes bytes
  string : (bytes following rest : List ℕ) → IsString bytes following → Passes following rest → Passes bytes rest
  comment : (bytes following rest : List ℕ) → IsComment bytes following → Passes following rest → Passes bytes rest
  byte : (b : ℕ) (following rest : List ℕ) → b ≢ semicolon → b ≢ quote → (BeginsComment (b ∷ following) → ⊥)
      → Passes following rest → Passes (b ∷ following) rest

-- the bytes end in a string or a comment that nothing closes
pub record IsUnclosed (bytes : List ℕ) : Type 0 where
  pub rest : List ℕ
  pub before : Passes bytes rest
  pub open_end : ((inside : List ℕ) × (rest ≡ quote ∷ inside) × (Contains inside quote → ⊥))
      ⊎ ((inside : List ℕ) × (rest ≡ minus ∷ minus ∷ inside) × (Contains inside newline → ⊥))

-- no semicolon of theirs ends a statement
abbrev pub IsUnended : List ℕ → Type 0
IsUnended bytes = Passes bytes [] ⊎ IsUnclosed bytes

-- the first piece of the bytes: it ends with its only semicolon outside strings and comments
pub record IsFirstPiece (bytes piece rest : List ℕ) : Type 0 where
  pub before : Passes bytes (semicolon ∷ rest)
  pub whole : bytes ≡ piece ++ rest

-- no piece of theirs ends
pub record EndsNowhere (bytes : List ℕ) : Type 0 where
  pub unended : IsUnended bytes
  pub no_piece : (piece rest : List ℕ) → IsFirstPiece bytes piece rest → ⊥

-- the pieces of an input, in order; a last one may lack its semicolon
abbrev pub ArePieces : List ℕ → List (List ℕ) → Type 0
ArePieces bytes [] = bytes ≡ []
ArePieces bytes (piece ∷ pieces) =
    ((rest : List ℕ) × IsFirstPiece bytes piece rest × ArePieces rest pieces)
    ⊎ ((bytes ≢ []) × IsUnended bytes × (piece ≡ bytes) × (pieces ≡ []))

-- these pieces, each with its semicolon, stand before `rest`
abbrev pub StandBefore : List ℕ → List (List ℕ) → List ℕ → Type 0
StandBefore bytes [] rest = bytes ≡ rest
StandBefore bytes (piece ∷ pieces) rest = (more : List ℕ) × IsFirstPiece bytes piece more × StandBefore more pieces rest

-- the pieces that end in these bytes, of an input that may go on
pub record AreEnded (bytes : List ℕ) (pieces : List (List ℕ)) : Type 0 where
  pub rest : List ℕ
  pub before : StandBefore bytes pieces rest
  pub unended : IsUnended rest
