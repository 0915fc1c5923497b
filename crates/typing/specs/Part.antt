-- Where an expression or a condition stands in a statement, and what is found of it there (ISO/IEC
-- 9075:1992, 6.5, 7.6 and 7.8, for where a set function may stand).
use Rattle.std.specs.Prelude.{ℕ, ◌+◌, List, [], ◌∷◌, ◌++◌, map, flat_map, length, Option, Some, None, Ok}
use Rattle.std.specs.List.{zip}
use Rattle.typing.specs.declared.typed.SetFunction.{SetFunction}
use Rattle.typing.specs.Finding.{Finding, ◌>>=◌}
use Rattle.typing.specs.Scope.{Scope}

-- Where it stands: in a select list or HAVING, where the values of its set functions stand in the
-- row that is seen, from this place on (0, and no matter, where there is none); in WHERE or ON, or
-- as a source, where no set function may stand; in the argument of a set function; in a CHECK.
pub data Clause : Type 0 where
  Shown : (first : ℕ) → Clause
  Plain : Clause
  Argument : Clause
  Checked : Clause

-- what it sees there
pub record View : Type 0 where
  pub scope : Scope
  pub clause : Clause

-- a set function, in the FROMs that its SELECT sees
abbrev pub FunctionFinding : Type 0
FunctionFinding = Scope → Finding SetFunction

-- A part of a SELECT: the name of the column that it is, if it is one alone; its set functions in
-- the order of the text, those of queries inside it left out; and what it is found to be.
pub record Part (A : Type 0) : Type 0 where
  pub name : Option (List ℕ)
  pub functions : List FunctionFinding
  pub found : View → Finding A

-- ---- one part after the other

abbrev pub moved : ℕ → Clause → Clause
moved count (Shown first) = Shown (first + count)
moved count Plain = Plain
moved count Argument = Argument
moved count Checked = Checked

-- what is seen after a part: the values of its set functions come first
abbrev pub past : {A : Type 0} → Part A → View → View
past x view = record { scope = view.scope; clause = moved (length x.functions) view.clause }

-- what is found of parts that stand one after the other
abbrev pub in_turn : {A : Type 0} → List (Part A) → View → List (Finding A)
in_turn [] view = []
in_turn (x ∷ xs) view = x.found view ∷ in_turn xs (past x view)

abbrev pub functions_of : {A : Type 0} → List (Part A) → List FunctionFinding
functions_of xs = flat_map (λ x. x.functions) xs

-- ---- what is made of parts is no column

abbrev pub part : {A : Type 0} → List FunctionFinding → (View → Finding A) → Part A
part functions found = record { name = None; functions = functions; found = found }

abbrev pub of_none : {A : Type 0} → (View → Finding A) → Part A
of_none found = part [] found

abbrev pub of_one : {A B : Type 0} → (Finding A → Finding B) → Part A → Part B
of_one made x = part x.functions (λ view. made (x.found view))

abbrev pub of_two : {A B C : Type 0} → (Finding A → Finding B → Finding C) → Part A → Part B → Part C
of_two made x y = part (x.functions ++ y.functions) (λ view. made (x.found view) (y.found (past x view)))

abbrev pub of_three : {A B C D : Type 0} → (Finding A → Finding B → Finding C → Finding D) → Part A → Part B
    → Part C → Part D
of_three made x y z =
    part (x.functions ++ y.functions ++ z.functions) (λ view. made (x.found view) (y.found (past x view)) (z.found (past y (past x view))))

abbrev pub of_all : {A B : Type 0} → (List (Finding A) → Finding B) → List (Part A) → Part B
of_all made xs = part (functions_of xs) (λ view. made (in_turn xs view))

-- a chain: a first operand, and operators with their operands
abbrev pub of_chain : {O A B : Type 0} → (Finding A → List (O × Finding A) → Finding B) → Part A
    → List (O × Part A) → Part B
of_chain made first others =
    part (first.functions ++ functions_of (map (λ other. other.1) others))
    (λ view. made (first.found view) (zip (map (λ other. other.0) others) (in_turn (map (λ other. other.1) others) (past first view))))

-- a chain of one operand is that operand
abbrev pub if_chain : {O A : Type 0} → (Finding A → List (O × Finding A) → Finding A) → Part A
    → List (O × Part A) → Part A
if_chain made first [] = first
if_chain made first (other ∷ others) = of_chain made first (other ∷ others)

-- a part that may be left out
abbrev pub if_written : {A : Type 0} → Option (Part A) → Part (Option A)
if_written None = of_none (λ view. Ok None)
if_written (Some x) = of_one (λ found. found >>= (λ a. Ok (Some a))) x
