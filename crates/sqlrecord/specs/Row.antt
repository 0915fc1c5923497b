-- The code of a row. Our own choice.
use Rattle.std.specs.Prelude.{◌≡◌, ℕ, ◌≤◌, List, [], ◌∷◌, ◌++◌, length, drop}
use Rattle.std.specs.Int.{w16, w64, to_be_bytes, cast_unsigned}
use Rattle.std.specs.List.{flat_map}
use Rattle.sqlval.specs.declared.value.Value.{Value}
use Rattle.sqlval.specs.declared.value.Value.TheVariants.{Null, Int, Text}
use Rattle.sqlrecord.specs.Storable.{IsStorable, AllStorable}

-- null is 0; an integer is 1 and its 8 bytes in two's complement, the highest first; a text is 2,
-- its length in two bytes and its codes
abbrev pub value_code : Value → List ℕ
value_code Null = 0 ∷ []
value_code (Int number) = 1 ∷ to_be_bytes w64 (cast_unsigned w64 number)
value_code (Text codes) = 2 ∷ (to_be_bytes w16 (length codes) ++ codes)

-- the values' codes one after another
abbrev pub row_code : List Value → List ℕ
row_code row = flat_map value_code row

-- the bytes are the code of this row, of at most 1,000 bytes
pub record IsCodeOf (bytes : List ℕ) (row : List Value) : Type 0 where
  pub storable : AllStorable row
  pub code : row_code row ≡ bytes
  pub short : length bytes ≤ 1000

-- the bytes are the code of some row, and of none
pub record HasRow (bytes : List ℕ) : Type 0 where
  pub row : List Value
  pub code : IsCodeOf bytes row

abbrev pub IsNoCode : List ℕ → Type 0
IsNoCode bytes = (row : List Value) → IsCodeOf bytes row → ⊥

-- the bytes begin with the code of this value, which takes n bytes
pub record IsPartOf (bytes : List ℕ) (value : Value) (n : ℕ) : Type 0 where
  pub storable : IsStorable value
  pub code : value_code value ++ drop n bytes ≡ bytes
  pub some : 1 ≤ n
  pub within : n ≤ length bytes

-- the bytes begin with the code of some value, which takes n bytes
pub record HasPart (bytes : List ℕ) (n : ℕ) : Type 0 where
  pub value : Value
  pub part : IsPartOf bytes value n

-- the bytes begin with the code of no value
abbrev pub HasNoPart : List ℕ → Type 0
HasNoPart bytes = (value : Value) (rest : List ℕ) → IsStorable value → bytes ≡ value_code value ++ rest → ⊥
