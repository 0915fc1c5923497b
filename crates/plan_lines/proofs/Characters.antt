-- Characters of lines.
use Rattle.std.proofs.Common.{◌≡◌, ℕ, ◌+◌, ◌^◌, ◌%◌, ◌<◌, ◌≤◌, IsTrue, List, [], ◌∷◌, ◌++◌, take, Some, None, if◌then◌else◌, ap, arith}
use Rattle.std.specs.Fmt.{decimal}
use Rattle.std.specs.List.{list_all}
use Rattle.std.proofs.lemmas.Fmt.{decimal_by_steps}
use Rattle.std.proofs.lemmas.Grind.{common_steps}
use Rattle.std.proofs.lemmas.List.{length-take}
use Rattle.std.proofs.lemmas.List.Folds.{list_all-append}
use Rattle.items.specs.Text.{as_text, is_character, is_text}
use Rattle.items.proofs.TextLemmas.{list_all-take}

-- those of one list and then of another
pub characters-append : (xs ys : List ℕ) → IsTrue (list_all is_character xs) → IsTrue (list_all is_character ys)
    → IsTrue (list_all is_character (xs ++ ys))
characters-append xs ys x y = grind (arith, common_steps, list_all-append is_character xs ys)

digit : (n : ℕ) → n < 10 → IsTrue (list_all is_character ((48 + n) ∷ []))
digit n small = grind (arith, common_steps)

-- a number in decimal has characters alone
pub decimal_characters : (n : ℕ) → n < 2 ^ 64 → IsTrue (list_all is_character (decimal n))
decimal_characters n small = decimal_by_steps (λ m ds. IsTrue (list_all is_character ds)) digit
    (λ m ds h g. characters-append ds ((48 + m % 10) ∷ []) g (digit (m % 10) (omega arith))) n small

-- the first characters of a line are a text
pub first_text : (n : ℕ) (codes : List ℕ) → n ≤ 1000 → IsTrue (list_all is_character codes) → IsTrue (is_text (take n codes))
first_text n codes few all = grind (arith, common_steps, length-take n codes, list_all-take is_character n codes)

pub first_kept : (codes : List ℕ) → IsTrue (list_all is_character codes) → as_text (take 1000 codes) ≡ Some (take 1000 codes)
first_kept codes all = ap (λ is. if is then Some (take 1000 codes) else None) (first_text 1000 codes (omega arith) all)
