-- Which lists of codes are identifiers.
-- SQL-92, 5.2 <regular identifier>, with letters folded to upper case there too. That the letters
-- are those of ASCII, and the limit of 64 characters in place of 128, is our own choice.
use Rattle.std.specs.Prelude.{ℕ, Bool, false, ◌&&◌, ◌||◌, ◌==◌, nat_le, List, [], ◌∷◌, length, is_none, Option, Some, None, if◌then◌else◌}
use Rattle.std.specs.Char.{is_ascii_uppercase, is_ascii_digit}
use Rattle.std.specs.List.{list_all}
use Rattle.lexer.specs.Words.{reserved}

-- a letter, a digit or an underscore
abbrev pub is_name_character : ℕ → Bool
is_name_character code = is_ascii_uppercase code || is_ascii_digit code || code == 95

-- a letter stands first
abbrev pub begins_name : List ℕ → Bool
begins_name [] = false
begins_name (code ∷ codes) = is_ascii_uppercase code

-- a letter, then letters, digits and underscores
abbrev pub is_identifier : List ℕ → Bool
is_identifier text = begins_name text && list_all is_name_character text

-- the greatest number of characters of a name
abbrev pub longest_name : ℕ
longest_name = 64

-- a name: such a text, not longer than that, which is no reserved word
abbrev pub is_name : List ℕ → Bool
is_name text = nat_le (length text) longest_name && is_identifier text && is_none (reserved text)

-- the name that this text is, if it is one
abbrev pub as_name : List ℕ → Option (List ℕ)
as_name text = if is_name text then Some text else None
