-- What is put together of parts that find with reasons finds with reasons.
use Rattle.std.proofs.Common.{List, [], ◌∷◌, ◌++◌, map, Ok, Option, Some, None}
use Rattle.std.specs.List.{AllByRecursion, zip}
use Rattle.typing.specs.Finding.{Finding, ◌>>=◌}
use Rattle.typing.specs.Part.{FunctionFinding, Part, View, past, in_turn, functions_of, of_none, of_one, of_two, of_three, of_all, if_chain, if_written}
use Rattle.typing.specs.Scope.{Scope}
use Rattle.typing_laws.specs.Reasons.{IsReasoned}
use Rattle.typing_laws.proofs.TypeFindings.{found, goes_on}

-- a set function has its reasons in whatever FROMs
abbrev pub IsSafeFunction : FunctionFinding → Type 0
IsSafeFunction function = (scope : Scope) → IsReasoned (function scope)

-- a part has its reasons wherever it stands
pub record IsSafe {A : Type 0} (x : Part A) : Type 0 where
  pub functions : AllByRecursion IsSafeFunction x.functions
  pub found : (view : View) → IsReasoned (x.found view)

pub appended : {X : Type 0} (P : X → Type 0) (xs ys : List X) → AllByRecursion P xs → AllByRecursion P ys → AllByRecursion P (xs ++ ys)
appended P [] ys h k = k
appended P (x ∷ xs) ys h k = (h.0, appended P xs ys h.1 k)

pub all_functions : {A : Type 0} (xs : List (Part A)) → AllByRecursion IsSafe xs → AllByRecursion IsSafeFunction (functions_of xs)
all_functions [] h = tt
all_functions (x ∷ xs) h = appended IsSafeFunction x.functions (functions_of xs) h.0.functions (all_functions xs h.1)

pub turns : {A : Type 0} (xs : List (Part A)) (view : View) → AllByRecursion IsSafe xs → AllByRecursion IsReasoned (in_turn xs view)
turns [] view h = tt
turns (x ∷ xs) view h = (h.0.found view, turns xs (past x view) h.1)

-- ---- parts put together

pub none : {A : Type 0} {found : View → Finding A} → ((view : View) → IsReasoned (found view)) → IsSafe (of_none found)
none h = record { functions = tt; found = h }

pub one : {A B : Type 0} (made : Finding A → Finding B) (x : Part A) → ((a : Finding A) → IsReasoned a → IsReasoned (made a)) → IsSafe x → IsSafe (of_one made x)
one made x good h = record { functions = h.functions; found = λ view. good (x.found view) (h.found view) }

-- what follows from a part
pub followed : {A B : Type 0} (next : A → Finding B) (x : Part A) → ((a : A) → IsReasoned (next a)) → IsSafe x → IsSafe (of_one (λ found. found >>= next) x)
followed next x good h = one (λ found. found >>= next) x (λ a k. goes_on k good) h

pub two : {A B C : Type 0} (made : Finding A → Finding B → Finding C) (x : Part A) (y : Part B)
    → ((a : Finding A) (b : Finding B) → IsReasoned a → IsReasoned b → IsReasoned (made a b)) → IsSafe x → IsSafe y → IsSafe (of_two made x y)
two made x y good h k = record {
  functions = appended IsSafeFunction x.functions y.functions h.functions k.functions;
  found = λ view. good (x.found view) (y.found (past x view)) (h.found view) (k.found (past x view));
}

pub three : {A B C D : Type 0} (made : Finding A → Finding B → Finding C → Finding D) (x : Part A) (y : Part B) (z : Part C)
    → ((a : Finding A) (b : Finding B) (c : Finding C) → IsReasoned a → IsReasoned b → IsReasoned c → IsReasoned (made a b c)) → IsSafe x → IsSafe y → IsSafe z → IsSafe (of_three made x y z)
three made x y z good h k l = record {
  functions = appended IsSafeFunction (x.functions ++ y.functions) z.functions (appended IsSafeFunction x.functions y.functions h.functions k.functions) l.functions;
  found = λ view. good (x.found view) (y.found (past x view)) (z.found (past y (past x view))) (h.found view) (k.found (past x view)) (l.found (past y (past x view)));
}

pub every : {A B : Type 0} (made : List (Finding A) → Finding B)
    → ((found : List (Finding A)) → AllByRecursion IsReasoned found → IsReasoned (made found)) → (xs : List (Part A)) → AllByRecursion IsSafe xs → IsSafe (of_all made xs)
every made good xs h = record { functions = all_functions xs h; found = λ view. good (in_turn xs view) (turns xs view h) }

-- ---- chains

abbrev pub IsSafeOperand : {O A : Type 0} → O × Part A → Type 0
IsSafeOperand operand = IsSafe operand.1

abbrev pub IsReasonedOperand : {O A : Type 0} → O × Finding A → Type 0
IsReasonedOperand operand = IsReasoned operand.1

operands_safe : {O A : Type 0} (others : List (O × Part A)) → AllByRecursion IsSafeOperand others → AllByRecursion IsSafe (map (λ other. other.1) others)
operands_safe [] h = tt
operands_safe (other ∷ others) h = (h.0, operands_safe others h.1)

zipped : {O A : Type 0} (others : List (O × Part A)) (view : View) → AllByRecursion IsSafeOperand others
    → AllByRecursion IsReasonedOperand (zip (map (λ other. other.0) others) (in_turn (map (λ other. other.1) others) view))
zipped [] view h = tt
zipped (other ∷ others) view h = (h.0.found view, zipped others (past other.1 view) h.1)

pub chain : {O A : Type 0} (made : Finding A → List (O × Finding A) → Finding A)
    → ((first : Finding A) (others : List (O × Finding A)) → IsReasoned first → AllByRecursion IsReasonedOperand others → IsReasoned (made first others))
    → (first : Part A) (others : List (O × Part A)) → IsSafe first → AllByRecursion IsSafeOperand others → IsSafe (if_chain made first others)
chain made good first [] h k = h
chain made good first (other ∷ others) h k = record {
  functions = appended IsSafeFunction first.functions (functions_of (map (λ o. o.1) (other ∷ others))) h.functions (all_functions (map (λ o. o.1) (other ∷ others)) (operands_safe (other ∷ others) k));
  found = λ view. good (first.found view) (zip (map (λ o. o.0) (other ∷ others)) (in_turn (map (λ o. o.1) (other ∷ others)) (past first view))) (h.found view) (zipped (other ∷ others) (past first view) k);
}

-- a part that may be left out
abbrev pub IfWritten : {A : Type 0} → Option (Part A) → Type 0
IfWritten None = Unit {0}
IfWritten (Some x) = IsSafe x

pub written : {A : Type 0} (x : Option (Part A)) → IfWritten x → IsSafe (if_written x)
written None h = none (λ view. found)
written (Some x) h = followed (λ a. Ok (Some a)) x (λ a. found) h
