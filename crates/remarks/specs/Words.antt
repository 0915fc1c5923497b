-- The option for words for people among the words of a command line. It is our own choice.
use Rattle.std.specs.Prelude.{◌≡◌, ◌++◌, ℕ, Bool, true, false, List, Some, codes, slice_get, take, drop}

-- The words ask for them: the third is `--verbose`, behind the program's name and the command's
-- word.
abbrev pub AsksWords : List (List ℕ) → Type 0
AsksWords words = slice_get words 2 ≡ Some (codes "--verbose")

-- the words without the third, where that is asked for
abbrev pub without_third : {A : Type 0} → Bool → List A → List A
without_third true words = take 2 words ++ drop 3 words
without_third false words = words
