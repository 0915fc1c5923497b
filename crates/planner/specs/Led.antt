-- Steps that lead from one tree to another, while a plan is looked for part by part.
use Rattle.std.specs.Prelude.{◌≡◌, ℕ, Bool, true, false, not, ◌||◌, if◌then◌else◌, List, [], ◌∷◌, ◌++◌, map, reverse, Option, Some, None, option_and_then}
use Rattle.algebra.specs.declared.tree.Tree.{Tree}
use Rattle.rules.specs.Applied.{here}
use Rattle.rules.specs.Nodes.{given}
use Rattle.rules.specs.Paths.{applied_at}
use Rattle.rules.specs.Quiet.{conditions_quiet}
use Rattle.rules.specs.declared.rule.Rule.{Rule}
use Rattle.rules.specs.declared.rule.Rule.TheVariants as by
use Rattle.rules.specs.declared.rule.Step.{Step}
use Rattle.rule_steps.specs.declared.attempt.Attempt.{Attempt}
use Rattle.planner.specs.declared.outline.Outline.{Outline}
use Rattle.planner.specs.declared.nodes.Part.{Part}
use Rattle.planner.specs.declared.nodes.Sides.{Sides}

-- A step's path stands the other way round while it grows: what comes in front of it is put at its
-- end.
abbrev pub turned : Step → Step
turned step = record { rule = step.rule; path = record { places = reverse step.path.places } }

-- the step as one of a whole in which this was the part at a place
abbrev pub in_part : ℕ → Step → Step
in_part place step = record { rule = step.rule; path = record { places = step.path.places ++ place ∷ [] } }

-- One step after another in a part of a tree. `calm`: no condition of the whole tree may raise, so
-- none of the part before any step.
abbrev pub walked : Bool → List Step → Tree → Option Tree
walked calm [] tree = Some tree
walked calm (step ∷ steps) tree = given (not calm || conditions_quiet tree) (option_and_then (walked calm steps)
    (applied_at (here calm step.rule) (reverse step.path.places) tree))

abbrev pub IsCalm : Bool → Tree → Type 0
IsCalm calm tree = calm ≡ true → conditions_quiet tree ≡ true

-- the steps of an outline lead to its tree, which is calm if the old one was to be
pub record Led (calm : Bool) (old : Tree) (outline : Outline) : Type 0 where
  pub steps : walked calm outline.steps old ≡ Some outline.tree
  pub quiet : IsCalm calm outline.tree

-- those of the node lead to the child at a place
pub record LedAt (place : ℕ) (calm : Bool) (old : Tree) (part : Part) : Type 0 where
  pub own : List Step
  pub are : part.steps ≡ map (in_part place) own
  pub leads : walked calm own old ≡ Some part.tree
  pub quiet : IsCalm calm part.tree

-- those of the node lead to its two children
pub record LedBoth (calm : Bool) (l r : Tree) (sides : Sides) : Type 0 where
  pub first : List Step
  pub second : List Step
  pub are : sides.steps ≡ map (in_part 0) first ++ map (in_part 1) second
  pub left : walked calm first l ≡ Some sides.left
  pub right : walked calm second r ≡ Some sides.right
  pub left_quiet : IsCalm calm sides.left
  pub right_quiet : IsCalm calm sides.right

-- a child over these steps, a right child behind those of the left one, and both
abbrev pub with_steps : List Step → Tree → Part
with_steps steps tree = record { steps = steps; tree = tree }

abbrev pub behind : List Step → Part → Part
behind steps part = with_steps (steps ++ part.steps) part.tree

abbrev pub with_left : Tree → Part → Sides
with_left left part = record { steps = part.steps; left = left; right = part.tree }

-- the root, or a child of it
abbrev pub path_of : Option ℕ → List ℕ
path_of None = []
path_of (Some place) = place ∷ []

abbrev pub step_at : Rule → Option ℕ → Step
step_at rule child = record { rule = rule; path = record { places = path_of child } }

-- with a step more, if it changed the tree
abbrev pub with_step : List Step → Rule → Option ℕ → Attempt Tree → Outline
with_step steps rule child tried = record {
  steps = if tried.changed then steps ++ step_at rule child ∷ [] else steps;
  tree = tried.part;
}

-- rules that move conditions down, and make none that may raise of those that may not
abbrev pub moves_down : Rule → Bool
moves_down by.FilterBelowProduct = true
moves_down by.FilterLeftOfLeftJoin = true
moves_down by.OnIntoRightSide = true
moves_down by.LeftToInner = true
moves_down _ = false

-- and the rule that parts a filter before they move
abbrev pub keeps_calm : Rule → Bool
keeps_calm by.FilterBelowProduct = true
keeps_calm by.FilterLeftOfLeftJoin = true
keeps_calm by.OnIntoRightSide = true
keeps_calm by.LeftToInner = true
keeps_calm by.SplitFilter = true
keeps_calm _ = false
