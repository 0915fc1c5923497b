-- How the bytes of a text stand in a line. All of this is our own choice.
use Rattle.std.specs.Prelude.{◌≢◌, ◌<◌, ◌+◌, ◌-◌, ◌*◌, ◌==◌, ◌&&◌, ℕ, nat_le, length, List, [], ◌∷◌, if◌then◌else◌}
use Rattle.std.specs.List.{flat_map}

-- a byte as it is written: a backslash (92) twice
abbrev pub written : ℕ → List ℕ
written byte = if byte == 92 then 92 ∷ 92 ∷ [] else byte ∷ []

-- a text as it is written
abbrev pub line_of : List ℕ → List ℕ
line_of = flat_map written

-- the value of a hexadecimal digit, and 0 of any other byte
abbrev pub digit_value : ℕ → ℕ
digit_value byte =
    if nat_le 48 byte && nat_le byte 57 then byte - 48
    else (if nat_le 97 byte && nat_le byte 102 then byte - 97 + 10
    else (if nat_le 65 byte && nat_le byte 70 then byte - 65 + 10 else 0))

-- the byte that \n, \t and \r mean; another byte behind a backslash means itself
abbrev pub meaning : ℕ → ℕ
meaning byte =
    if byte == 110 then 10 else (if byte == 116 then 9 else (if byte == 114 then 13 else byte))

-- what stands behind a backslash, the byte that it means, and what is left. An x (120) that has no
-- two bytes behind it means itself, and so does a backslash at the end
pub data Means : List ℕ → ℕ → List ℕ → Type 0 where
  sign : (byte : ℕ) (rest : List ℕ) → byte ≢ 120 → Means (byte ∷ rest) (meaning byte) rest
  digits : (high low : ℕ) (rest : List ℕ)
      → Means (120 ∷ high ∷ low ∷ rest) (digit_value high * 16 + digit_value low) rest
  no_digits : (rest : List ℕ) → length rest < 2 → Means (120 ∷ rest) 120 rest
  at_end : Means [] 92 []

-- a line, and the bytes for which it stands
pub data Spells : List ℕ → List ℕ → Type 0 where
  nothing : Spells [] []
  plain : (byte : ℕ) (line text : List ℕ) → byte ≢ 92 → Spells line text → Spells (byte ∷ line) (byte ∷ text)
  special : (byte : ℕ) (after rest text : List ℕ) → Means after byte rest → Spells rest text
      → Spells (92 ∷ after) (byte ∷ text)
