-- What the words of a command line of `sqlsh` ask for. All of this is our own choice.
use Rattle.std.specs.Prelude.{◌≡◌, ◌⊎◌, ◌++◌, ℕ, false, List, [], ◌∷◌, codes, Option, Some, None}
use Rattle.std.specs.Borrow.{Bor}
use Rattle.std.specs.Option.{option_map}
use Rattle.frame_count.specs.Written.{WritesFrames}
use Rattle.endings.specs.Words.{is_option}

-- FILE, which is no option, or no more words
abbrev pub AsksFile : List (List ℕ) → Option (List ℕ) → Type 0
AsksFile [] file = file ≡ None
AsksFile (word ∷ []) file = (is_option word ≡ false) × (file ≡ Some word)
AsksFile (word ∷ next ∷ words) file = ⊥

-- `--frames=N`, and then FILE or no more words
pub record AsksInOne (word : List ℕ) (words : List (List ℕ)) (count : ℕ) (file : Option (List ℕ)) : Type 0 where
  pub text : List ℕ
  pub whole : word ≡ codes "--frames=" ++ text
  pub writes : WritesFrames text count
  pub others : AsksFile words file

-- `--frames N`, and then FILE or no more words
abbrev pub AsksInTwo : List ℕ → List (List ℕ) → ℕ → Option (List ℕ) → Type 0
AsksInTwo option [] count file = ⊥
AsksInTwo option (text ∷ words) count file = (option ≡ codes "--frames") × WritesFrames text count × AsksFile words file

-- 256 frames, and FILE or no more words
abbrev pub AsksForNone : List (List ℕ) → ℕ → Option (List ℕ) → Type 0
AsksForNone words count file = (count ≡ 256) × AsksFile words file

-- the words behind `run`: `[--frames N | --frames=N] [FILE]`
abbrev pub AsksBehind : List (List ℕ) → ℕ → Option (List ℕ) → Type 0
AsksBehind [] count file = AsksForNone [] count file
AsksBehind (word ∷ words) count file = AsksForNone (word ∷ words) count file ⊎ AsksInOne word words count file
    ⊎ AsksInTwo word words count file

-- The words, of which the first is the program's name, ask for so many frames and this file, or
-- none.
abbrev pub Asks : List (List ℕ) → ℕ → Option (List ℕ) → Type 0
Asks [] count file = ⊥
Asks (name ∷ []) count file = ⊥
Asks (name ∷ command ∷ options) count file = (command ≡ codes "run") × AsksBehind options count file

-- the name that is lent, if there is one
abbrev pub name_of : Option (Bor (List ℕ)) → Option (List ℕ)
name_of file = option_map (λ (name : Bor (List ℕ)). name.now) file
