-- The code of a key, whose bytes have the order of its values. Our own choice.
use Rattle.std.specs.Prelude.{◌≡◌, ℕ, ◌+◌, ◌-◌, ◌^◌, ◌≤◌, List, [], ◌∷◌, ◌++◌, length, drop, ℤ, pos, negsuc}
use Rattle.std.specs.Int.{w64, to_be_bytes}
use Rattle.std.specs.List.{flat_map}
use Rattle.std.specs.declared.cmp.Ordering.{Ordering}
use Rattle.std.specs.declared.cmp.Ordering.TheVariants.{Less, Equal, Greater}
use Rattle.std.specs.Ordering.{nat_cmp, ordering_then}
use Rattle.std.specs.Cmp.Lexicographic.{slice_cmp}
use Rattle.sqlval.specs.declared.value.Value.{Value}
use Rattle.sqlval.specs.declared.value.Value.TheVariants.{Null, Int, Text}
use Rattle.sqlval.specs.Comparison.{value_order}
use Rattle.sqlrecord.specs.Storable.{IsStorable, AllStorable}

-- an integer above 2^63, so that the least one is 0: its 64 bits with the sign bit flipped
abbrev pub biased : ℤ → ℕ
biased (pos n) = 2 ^ 63 + n
biased (negsuc n) = 2 ^ 63 - 1 - n

-- null is 0; an integer is 1 and its 8 bytes with the sign bit flipped, the highest first; a text
-- is 2, its codes and 0
abbrev pub value_key : Value → List ℕ
value_key Null = 0 ∷ []
value_key (Int number) = 1 ∷ to_be_bytes w64 (biased number)
value_key (Text codes) = 2 ∷ (codes ++ 0 ∷ [])

-- the values' keys one after another
abbrev pub key_code : List Value → List ℕ
key_code key = flat_map value_key key

-- the row number in 8 bytes, the highest first
abbrev pub number_code : ℕ → List ℕ
number_code number = to_be_bytes w64 number

-- an index key: the key, and the row number
abbrev pub index_key_code : List Value → ℕ → List ℕ
index_key_code key number = key_code key ++ number_code number

-- two rows of bytes: the first that differ decide, else a beginning is less than the longer one
abbrev pub byte_order : List ℕ → List ℕ → Ordering
byte_order = slice_cmp nat_cmp

-- two keys, column by column: the first that differ decide, else a beginning is less than the
-- longer one
abbrev pub key_order : List Value → List Value → Ordering
key_order [] [] = Equal
key_order [] (y ∷ ys) = Less
key_order (x ∷ xs) [] = Greater
key_order (x ∷ xs) (y ∷ ys) = ordering_then (value_order x y) (key_order xs ys)

-- the bytes are the code of this key
pub record IsKeyOf (bytes : List ℕ) (key : List Value) : Type 0 where
  pub storable : AllStorable key
  pub code : key_code key ≡ bytes

-- the bytes are the code of some key, and of none
pub record HasKey (bytes : List ℕ) : Type 0 where
  pub key : List Value
  pub code : IsKeyOf bytes key

abbrev pub IsNoKey : List ℕ → Type 0
IsNoKey bytes = (key : List Value) → IsKeyOf bytes key → ⊥

-- the bytes begin with the key of this value, which takes n bytes
pub record IsKeyPartOf (bytes : List ℕ) (value : Value) (n : ℕ) : Type 0 where
  pub storable : IsStorable value
  pub code : value_key value ++ drop n bytes ≡ bytes
  pub some : 1 ≤ n
  pub within : n ≤ length bytes

-- the bytes begin with the key of some value, which takes n bytes
pub record HasKeyPart (bytes : List ℕ) (n : ℕ) : Type 0 where
  pub value : Value
  pub part : IsKeyPartOf bytes value n

-- the bytes begin with the key of no value
abbrev pub HasNoKeyPart : List ℕ → Type 0
HasNoKeyPart bytes = (value : Value) (rest : List ℕ) → IsStorable value → bytes ≡ value_key value ++ rest → ⊥
