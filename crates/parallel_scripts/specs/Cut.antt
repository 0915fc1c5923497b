-- What the pieces of a script are to a program in which each script has one session. All of this is
-- our own choice.
use Rattle.std.specs.Prelude.{◌≡◌, ℕ, List, [], ◌∷◌, ◌++◌, map}
use Rattle.std.specs.Global.{Vec}
use Rattle.script_pieces.specs.Pieces.{ArePieces}
use Rattle.script_pieces.specs.PieceMeaning.{Request, Asks}
use Rattle.parallel_scripts.specs.declared.part.Part.{Part}
use Rattle.parallel_scripts.specs.declared.part.Part.TheVariants as part
use Rattle.shared.specs.Scripts.{Script, Text}

abbrev pub texts_in : List Text → List (List ℕ)
texts_in texts = map (λ t. t.items) texts

-- a piece that begins with `@` is wrong, whatever it asks for
abbrev pub parts_of : Request → List Part
parts_of Request.Nothing = []
parts_of (Request.Calls text) = part.Calls ∷ []
parts_of (Request.Chooses session) = part.Wrong ∷ []
parts_of (Request.ChoosesAndCalls session text) = part.Wrong ∷ []
parts_of Request.Flushes = part.Wrong ∷ []
parts_of Request.Wrong = part.Wrong ∷ []

-- the text of a call
abbrev pub texts_of : Request → List (List ℕ)
texts_of Request.Nothing = []
texts_of (Request.Calls text) = text ∷ []
texts_of (Request.Chooses session) = []
texts_of (Request.ChoosesAndCalls session text) = []
texts_of Request.Flushes = []
texts_of Request.Wrong = []

-- the pieces ask for these, one after another, with these texts and parts
abbrev pub Ask : List (List ℕ) → List (List ℕ) → List Part → Type 0
Ask [] texts parts = (texts ≡ []) × (parts ≡ [])
Ask (piece ∷ pieces) texts parts =
    (request : Request) × (others : List (List ℕ)) × (more : List Part)
    × Asks piece request × (texts ≡ texts_of request ++ others) × (parts ≡ parts_of request ++ more)
    × Ask pieces others more

-- The pieces of these bytes have these texts of calls, and are these parts.
pub record IsCut (bytes : List ℕ) (texts : List (List ℕ)) (parts : List Part) : Type 0 where
  pub pieces : List (List ℕ)
  pub are : ArePieces bytes pieces
  pub ask : Ask pieces texts parts

-- what the pieces of a script are
abbrev pub Parts : Type 0
Parts = Vec Part

-- each of these scripts has these texts of calls, and is these parts
abbrev pub AreCut : List Text → List Script → List Parts → Type 0
AreCut [] texts parts = (texts ≡ []) × (parts ≡ [])
AreCut (script ∷ scripts) texts parts =
    (first : Script) × (others : List Script) × (kinds : Parts) × (more : List Parts)
    × IsCut script.items (texts_in first.items) kinds.items × (texts ≡ first ∷ others) × (parts ≡ kinds ∷ more)
    × AreCut scripts others more

-- one script more, of these bytes
pub record HasPushed (bytes : List ℕ) (old_texts new_texts : List Script) (old_parts new_parts : List Parts) : Type 0 where
  pub texts : Script
  pub parts : Parts
  pub cut : IsCut bytes (texts_in texts.items) parts.items
  pub texts_are : new_texts ≡ old_texts ++ texts ∷ []
  pub parts_are : new_parts ≡ old_parts ++ parts ∷ []
