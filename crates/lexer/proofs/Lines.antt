-- What the table of words says of a word, line by line.
use Rattle.std.proofs.Common.{◌≡◌, ℕ, ◌≤◌, ◌-◌, true, false, List, [], ◌∷◌, map, length, take, drop, get_or, refl, arith}
use Rattle.std.specs.Borrow.{Bor}
use denote.Enum.Bare.{sameb}
use Rattle.std.proofs.lemmas.List.{take_rest}
use Rattle.lexer.specs.contracts.words.Support as support
use Rattle.lexer.specs.declared.words.Support.{Support}
use Rattle.lexer.specs.declared.words.Support.TheVariants.{Now}
use Rattle.lexer.specs.declared.words.Word.{Word}
use Rattle.lexer.specs.Words.{Entry, is_word, supports}

-- a line as the code holds it
abbrev pub Line : Type 0
Line = Bor (List ℕ) × Word × Support

pub supports_here : (lines : List Line) (d : Line) (w : Word) → 1 ≤ length lines → is_word (get_or lines 0 d).1 w ≡ true
    → supports (map {B = Entry} (λ entry. (entry.0.now, entry.1, entry.2)) lines) w ≡ sameb support.the_type (get_or lines 0 d).2 Now
supports_here [] d w some is = absurd (omega (arith, some))
supports_here (line ∷ lines) d w some is = rw is refl

pub supports_later : (lines : List Line) (d : Line) (w : Word) → 1 ≤ length lines → is_word (get_or lines 0 d).1 w ≡ false
    → supports (map {B = Entry} (λ entry. (entry.0.now, entry.1, entry.2)) lines) w
    ≡ supports (map {B = Entry} (λ entry. (entry.0.now, entry.1, entry.2)) (take (length lines - 1) (drop 1 lines))) w
supports_later [] d w some is = absurd (omega (arith, some))
supports_later (line ∷ lines) d w some is = let rest : take (length (line ∷ lines) - 1) lines ≡ lines = take_rest (line ∷ lines) 1 in rw (rest, is) refl
