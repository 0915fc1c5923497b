-- What values a row's bytes are, whatever they are. Our own choice.
use Rattle.std.specs.Prelude.{ℕ, zero, suc, ◌==◌, if◌then◌else◌, List, [], ◌∷◌, length, take, drop}
use Rattle.std.specs.Int.{w16, w64, from_be_bytes, cast_signed}
use Rattle.sqlval.specs.declared.value.Value.{Value}
use Rattle.sqlval.specs.declared.value.Value.TheVariants.{Null, Int, Text}

-- the number in eight bytes, the highest first
abbrev pub number_in : List ℕ → ℕ
number_in bytes = from_be_bytes w64 (take 8 bytes)

-- how long a text is, in two bytes before it
abbrev pub size_in : List ℕ → ℕ
size_in bytes = from_be_bytes w16 (take 2 bytes)

-- the value of this kind that the bytes begin with, and what stands behind it
abbrev pub value_in : ℕ → List ℕ → Value × List ℕ
value_in kind bytes =
    if kind == 1 then (Int (cast_signed w64 (number_in bytes)), drop 8 bytes)
    else if kind == 2 then (Text (take (size_in bytes) (drop 2 bytes)), drop (size_in bytes) (drop 2 bytes)) else (Null, bytes)

-- so many values at most
abbrev pub values_in : ℕ → List ℕ → List Value
values_in zero bytes = []
values_in (suc n) [] = []
values_in (suc n) (kind ∷ bytes) = (value_in kind bytes).0 ∷ values_in n (value_in kind bytes).1

-- all values
abbrev pub row_in : List ℕ → List Value
row_in bytes = values_in (length bytes) bytes

-- the text that a key begins with: behind its kind, up to the first 0
abbrev pub upto_0 : List ℕ → List ℕ
upto_0 [] = []
upto_0 (b ∷ bytes) = if b == 0 then [] else b ∷ upto_0 bytes

abbrev pub name_in : List ℕ → List ℕ
name_in key = upto_0 (drop 1 key)
