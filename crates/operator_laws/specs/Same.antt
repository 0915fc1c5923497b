-- Meanings that are the same up to the order of rows.
use Rattle.std.specs.Prelude.{◌≡◌, List, [], ◌∷◌, Option, Some, None, Ok, Err}
use Rattle.sqlval.specs.Value.{Row}
use Rattle.denote.specs.Evaluation.{Env, Evaluation}
use Rattle.denote.specs.Outcome.{Outcome}
use Rattle.denote.specs.Group.{SetFunctionMeaning}
use Rattle.denote.specs.Bag.{Permutes, HasSame, IsSame}

-- values that are related so, or the same set of faults
abbrev pub IsAlikeBy : {A B : Type 0} → (A → B → Type 0) → Evaluation A → Evaluation B → Type 0
IsAlikeBy R (Ok x) (Ok y) = R x y
IsAlikeBy R (Ok x) (Err faults) = ⊥
IsAlikeBy R (Err faults) (Ok y) = ⊥
IsAlikeBy R (Err faults) (Err others) = HasSame faults others

-- the same value, or the same set of faults
abbrev pub IsSameValue : {A : Type 0} → Evaluation A → Evaluation A → Type 0
IsSameValue {A} = IsAlikeBy (λ (x y : A). x ≡ y)

-- the same bag, or the same set of faults
abbrev pub IsSameBag : {A : Type 0} → Evaluation (List A) → Evaluation (List A) → Type 0
IsSameBag {A} = IsAlikeBy (λ (xs ys : List A). Permutes xs ys)

-- a fact of each element
abbrev pub Every : {A : Type 0} → (A → Type 0) → List A → Type 0
Every P [] = Unit {0}
Every P (x ∷ xs) = P x × Every P xs

-- elements at the same places are related
abbrev pub Each : {A B : Type 0} → (A → B → Type 0) → List A → List B → Type 0
Each R [] [] = Unit {0}
Each R [] (y ∷ ys) = ⊥
Each R (x ∷ xs) [] = ⊥
Each R (x ∷ xs) (y ∷ ys) = R x y × Each R xs ys

-- both are there and related, or neither is
abbrev pub IfBoth : {A B : Type 0} → (A → B → Type 0) → Option A → Option B → Type 0
IfBoth R None None = Unit {0}
IfBoth R None (Some y) = ⊥
IfBoth R (Some x) None = ⊥
IfBoth R (Some x) (Some y) = R x y

-- ---- meanings

-- of expressions and of conditions: the same at each row
abbrev pub Agree : {A : Type 0} → (Env → Evaluation A) → (Env → Evaluation A) → Type 0
Agree f g = (env : Env) → IsSameValue (f env) (g env)

-- of queries: the same rows and faults
abbrev pub AgreeOnRows : (Env → Outcome) → (Env → Outcome) → Type 0
AgreeOnRows f g = (env : Env) → IsSame (f env) (g env)

-- of set functions: the same for groups of the same rows
abbrev pub AgreeOnGroups : SetFunctionMeaning → SetFunctionMeaning → Type 0
AgreeOnGroups f g = (env : Env) (rows others : List Row) → Permutes rows others
    → IsSameValue (f env rows) (g env others)

-- of what is made of a part: the same of the same parts
abbrev pub AgreeOnParts : (Env → Outcome → Outcome) → (Env → Outcome → Outcome) → Type 0
AgreeOnParts f g = (env : Env) (part other : Outcome) → IsSame part other → IsSame (f env part) (g env other)
