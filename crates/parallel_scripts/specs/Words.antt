-- What the words of a command line of `sqlmany` ask for. All of this is our own choice.
use Rattle.std.specs.Prelude.{◌≡◌, ◌⊎◌, ◌++◌, ◌==◌, ℕ, Bool, false, List, [], ◌∷◌, codes}
use Rattle.std.specs.List.{list_any}
use Rattle.frame_count.specs.Written.{WritesFrames}

-- an option begins with `-`, whose code is 45
abbrev pub is_option : List ℕ → Bool
is_option [] = false
is_option (code ∷ codes) = code == 45

-- the names of scripts: at least one, and none is an option
abbrev pub AreNames : List (List ℕ) → List (List ℕ) → Type 0
AreNames [] names = ⊥
AreNames (word ∷ words) names = (list_any is_option (word ∷ words) ≡ false) × (names ≡ word ∷ words)

-- `--frames=N`, and then names
pub record AsksInOne (word : List ℕ) (words : List (List ℕ)) (count : ℕ) (names : List (List ℕ)) : Type 0 where
  pub text : List ℕ
  pub whole : word ≡ codes "--frames=" ++ text
  pub writes : WritesFrames text count
  pub others : AreNames words names

-- `--frames N`, and then names
abbrev pub AsksInTwo : List ℕ → List (List ℕ) → ℕ → List (List ℕ) → Type 0
AsksInTwo option [] count names = ⊥
AsksInTwo option (text ∷ words) count names = (option ≡ codes "--frames") × WritesFrames text count
    × AreNames words names

-- 256 frames, and names
abbrev pub AsksForNone : List (List ℕ) → ℕ → List (List ℕ) → Type 0
AsksForNone words count names = (count ≡ 256) × AreNames words names

-- the words behind the program's name: `[--frames N | --frames=N] SCRIPT ..`
abbrev pub AsksBehind : List (List ℕ) → ℕ → List (List ℕ) → Type 0
AsksBehind [] count names = ⊥
AsksBehind (word ∷ words) count names = AsksForNone (word ∷ words) count names ⊎ AsksInOne word words count names
    ⊎ AsksInTwo word words count names

-- The words, of which the first is the program's name, ask for so many frames and these scripts.
abbrev pub Asks : List (List ℕ) → ℕ → List (List ℕ) → Type 0
Asks [] count names = ⊥
Asks (name ∷ words) count names = AsksBehind words count names
