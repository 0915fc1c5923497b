-- The text of a row, from left to right.
use Rattle.std.proofs.Common.{codes, append_assoc, ◌≡◌, ℕ, ◌+◌, ◌<◌, ◌≤◌, arith, List, [], ◌∷◌, ◌++◌, length, drop, get_or, ap, drop-cons, sym, add-one, Option, ◌∙◌}
use Rattle.sqlval.specs.declared.value.Value.{Value}
use Rattle.replies.specs.Printed.{quotes_doubled, spelled_character, other_field, other_fields, printed_value, printed_fields, printed_row, printed_rows, printed_line, printed_lines}
use Rattle.std.proofs.KnownBytes.{Appends-nil}
use Rattle.replies.proofs.Written.{HasTaken, HasTaken-none}

pub quotes_doubled-drop : (text : List ℕ) (i d : ℕ) → i < length text
    → quotes_doubled (drop i text) ≡ spelled_character (get_or text i d) ++ quotes_doubled (drop (i + 1) text)
quotes_doubled-drop text i d within =
    rw (add-one i) (ap quotes_doubled (drop-cons text i d within))

-- the next character is what is left of a text, and then the others
pub next_character : (old new : Option (List ℕ)) (whole text part : List ℕ) (i d : ℕ) → i < length text → part ≡ spelled_character (get_or text i d)
    → HasTaken old new whole (quotes_doubled (drop i text)) → HasTaken old new whole (part ++ quotes_doubled (drop (i + 1) text))
next_character old new whole text part i d within is before =
    rw (is, ← quotes_doubled-drop text i d within) before

other_fields-drop : (values : List Value) (i : ℕ) (d : Value) → i < length values
    → other_fields (drop i values) ≡ other_field (get_or values i d) ++ other_fields (drop (i + 1) values)
other_fields-drop values i d within = rw (add-one i) (ap other_fields (drop-cons values i d within))

-- the next field is what is left of a row, and then the others
pub next_field : (old new : Option (List ℕ)) (whole : List ℕ) (values : List Value) (value : Value) (i : ℕ) → i < length values
    → value ≡ get_or values i value → HasTaken old new whole (other_fields (drop i values))
    → HasTaken old new whole (other_field value ++ other_fields (drop (i + 1) values))
next_field old new whole values value i within is before =
    rw (is, ← other_fields-drop values i value within) before

-- the first field, and then the others
pub first_field : (old : Option (List ℕ)) (row : List Value) (value : Value) → 1 ≤ length row → value ≡ get_or row 0 value
    → HasTaken old old (printed_fields row) (printed_value value ++ other_fields (drop 1 row))
first_field old [] value some is = absurd (omega (arith, some))
first_field old (first ∷ others) value some is = rw (is) (HasTaken-none _ _)

printed_rows-drop : (rows : List (List Value)) (i : ℕ) (d : List Value) → i < length rows
    → printed_rows (drop i rows) ≡ printed_row (get_or rows i d) ++ printed_rows (drop (i + 1) rows)
printed_rows-drop rows i d within = rw (add-one i) (ap printed_rows (drop-cons rows i d within))

-- the next row is what is left of an answer, and then the others
pub next_row : (old new : Option (List ℕ)) (whole : List ℕ) (rows : List (List Value)) (row : List Value) (i : ℕ) → i < length rows
    → row ≡ get_or rows i row → HasTaken old new whole (printed_rows (drop i rows)) → HasTaken old new whole (printed_row row ++ printed_rows (drop (i + 1) rows))
next_row old new whole rows row i within is before = rw (is, ← printed_rows-drop rows i row within) before

printed_lines-drop : (lines : List (List ℕ)) (i : ℕ) (d : List ℕ) → i < length lines
    → printed_lines (drop i lines) ≡ printed_line (get_or lines i d) ++ printed_lines (drop (i + 1) lines)
printed_lines-drop lines i d within = rw (add-one i) (ap printed_lines (drop-cons lines i d within))

-- the next line is what is left of a listing, and then the others
pub next_line : (old new : Option (List ℕ)) (whole : List ℕ) (lines : List (List ℕ)) (line : List ℕ) (i : ℕ) → i < length lines
    → line ≡ get_or lines i line → HasTaken old new whole (printed_lines (drop i lines)) → HasTaken old new whole (printed_line line ++ printed_lines (drop (i + 1) lines))
next_line old new whole lines line i within is before = rw (is, ← printed_lines-drop lines i line within) before

-- a refusal in two parts
pub refusal_parts : (old : Option (List ℕ)) (code detail : List ℕ)
    → HasTaken old old (codes "ERROR " ++ ((code ++ 32 ∷ detail) ++ codes "\n")) ((codes "ERROR " ++ (code ++ 32 ∷ [])) ++ (detail ++ codes "\n"))
refusal_parts old code detail = record {
  front = [];
  whole = ap (λ l. codes "ERROR " ++ l) (ap (λ l. l ++ codes "\n") (sym (append_assoc code (32 ∷ []) detail)) ∙ append_assoc (code ++ 32 ∷ []) detail (codes "\n"));
  taken = Appends-nil old;
}
