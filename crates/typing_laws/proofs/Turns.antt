-- Parts of a text, each with the places of the values of its set functions, and what is put
-- together of them one after the other.
use Rattle.std.proofs.Common.{◌≡◌, ◌≤◌, refl, sym, ap, ◌∙◌, subst, ℕ, zero, suc, ◌+◌, List, [], ◌∷◌, ◌++◌, map, length, Ok, Err, Option, Some, None, arith}
use Rattle.std.specs.Prelude.{flat_map}
use Rattle.std.specs.List.{AllByRecursion, range_with_len, zip}
use Rattle.std.proofs.lemmas.List.{length-append}
use Rattle.ast.specs.declared.operator.Sign.{Sign}
use Rattle.typing.specs.declared.scope.TypedExpression.{TypedExpression}
use Rattle.typing.specs.Expression.{signed}
use Rattle.typing.specs.Finding.{Finding, ◌>>=◌, each}
use Rattle.typing.specs.Part.{FunctionFinding, Part, Shown, View, functions_of, if_chain, if_written, in_turn, of_all, of_none, of_one, of_three, of_two}
use Rattle.typing.specs.Scope.{Scope}
use Rattle.typing.specs.Typing.{with_sign}
use Rattle.typing_laws.specs.Placed.{all_of}
use Rattle.typing_laws.proofs.FunctionFitting.{AllFit, ChainFits, Fits, before-fits, sign-fits, typed_places}

-- ---- places one after the other

range-append : (a m n : ℕ) → range_with_len a m ++ range_with_len (a + m) n ≡ range_with_len a (m + n)
range-append a zero n =
    let e : a + zero ≡ a = omega arith in
    let f : zero + n ≡ n = omega arith in
    ap (λ b. range_with_len b n) e ∙ ap (range_with_len a) (sym f)
range-append a (suc m) n =
    let e : a + suc m ≡ (a + 1) + m = omega arith in
    let f : suc m + n ≡ suc (m + n) = omega arith in
    ap (λ b. a ∷ (range_with_len (a + 1) m ++ range_with_len b n)) e ∙ ap (λ l. a ∷ l) (range-append (a + 1) m n) ∙ ap (range_with_len a) (sym f)

pub shifted : (first : ℕ) (xs ys : List FunctionFinding) → range_with_len first (length xs) ++ range_with_len (first + length xs) (length ys) ≡ range_with_len first (length (xs ++ ys))
shifted first xs ys = range-append first (length xs) (length ys) ∙ ap (range_with_len first) (sym (length-append xs ys))

-- of each of these parts
abbrev ranges : {A : Type 0} → List (Part A) → ℕ → List (List ℕ)
ranges [] first = []
ranges (x ∷ xs) first = range_with_len first (length x.functions) ∷ ranges xs (first + length x.functions)

ranges-are : {A : Type 0} (xs : List (Part A)) (first : ℕ) → all_of (ranges xs first) ≡ range_with_len first (length (functions_of xs))
ranges-are [] first = refl
ranges-are (x ∷ xs) first = ap (λ l. range_with_len first (length x.functions) ++ l) (ranges-are xs (first + length x.functions)) ∙ shifted first x.functions (functions_of xs)

all-fit : {A : Type 0} (of : A → List ℕ) (xs : List (Finding A)) (all : List (List ℕ)) → AllFit of xs all → Fits (flat_map of) (each xs) (all_of all)
all-fit of [] [] h = refl
all-fit of [] (places ∷ all) h = absurd h
all-fit of (x ∷ xs) [] h = absurd h
all-fit of (x ∷ xs) (places ∷ all) h = before-fits of x (each xs) places (all_of all) h.0 (all-fit of xs all h.1)

-- ---- parts that stand where the values go on from `first`

module _ (scope : Scope) (least : ℕ) where
  abbrev pub at : ℕ → View
  at first = record { scope = scope; clause = Shown first }

  abbrev pub Stands : {A : Type 0} → (A → List ℕ) → Part A → Type 0
  Stands of x = (first : ℕ) → least ≤ first → Fits of (x.found (at first)) (range_with_len first (length x.functions))

  pub none : {A : Type 0} (of : A → List ℕ) (found : View → Finding A) → ((first : ℕ) → Fits of (found (at first)) []) → Stands of (of_none found)
  none of found h first le = h first

  pub one : {A B : Type 0} (of : A → List ℕ) (of_made : B → List ℕ) (made : Finding A → Finding B) (x : Part A)
      → ((f : Finding A) (places : List ℕ) → Fits of f places → Fits of_made (made f) places) → Stands of x → Stands of_made (of_one made x)
  one of of_made made x good h first le = good (x.found (at first)) (range_with_len first (length x.functions)) (h first le)

  pub two : {A B C : Type 0} (of : A → List ℕ) (of_other : B → List ℕ) (of_made : C → List ℕ) (made : Finding A → Finding B → Finding C) (x : Part A) (y : Part B)
      → ((f : Finding A) (g : Finding B) (places all : List ℕ) → Fits of f places → Fits of_other g all → Fits of_made (made f g) (places ++ all))
      → Stands of x → Stands of_other y → Stands of_made (of_two made x y)
  two of of_other of_made made x y good h k first le =
      subst (Fits of_made (made (x.found (at first)) (y.found (at (first + length x.functions))))) (shifted first x.functions y.functions)
      (good (x.found (at first)) (y.found (at (first + length x.functions))) (range_with_len first (length x.functions)) (range_with_len (first + length x.functions) (length y.functions))
      (h first le) (k (first + length x.functions) (omega arith)))

  pub three : {A B C D : Type 0} (of : A → List ℕ) (of_other : B → List ℕ) (of_third : C → List ℕ) (of_made : D → List ℕ) (made : Finding A → Finding B → Finding C → Finding D)
      (x : Part A) (y : Part B) (z : Part C)
      → ((f : Finding A) (g : Finding B) (i : Finding C) (places all rest : List ℕ) → Fits of f places → Fits of_other g all → Fits of_third i rest → Fits of_made (made f g i) (places ++ all ++ rest))
      → Stands of x → Stands of_other y → Stands of_third z → Stands of_made (of_three made x y z)
  three of of_other of_third of_made made x y z good h k m first le =
      let second = first + length x.functions in
      let third = second + length y.functions in
      let e : third ≡ first + length (x.functions ++ y.functions) = omega (arith, length-append x.functions y.functions) in
      let places = range_with_len first (length x.functions) in
      let all = range_with_len second (length y.functions) in
      let rest = range_with_len third (length z.functions) in
      let joined : (places ++ all) ++ rest ≡ range_with_len first (length ((x.functions ++ y.functions) ++ z.functions)) =
      ap (λ l. l ++ rest) (shifted first x.functions y.functions) ∙ ap (λ n. range_with_len first (length (x.functions ++ y.functions)) ++ range_with_len n (length z.functions)) e ∙ shifted first (x.functions ++ y.functions) z.functions in
      subst (Fits of_made (made (x.found (at first)) (y.found (at second)) (z.found (at third)))) joined
      (good (x.found (at first)) (y.found (at second)) (z.found (at third)) places all rest (h first le) (k second (omega arith)) (m third (omega arith)))

  turns-fit : {A : Type 0} (of : A → List ℕ) (xs : List (Part A)) → AllByRecursion (Stands of) xs → (first : ℕ) → least ≤ first → AllFit of (in_turn xs (at first)) (ranges xs first)
  turns-fit of [] h first le = tt
  turns-fit of (x ∷ xs) h first le = (h.0 first le, turns-fit of xs h.1 (first + length x.functions) (omega arith))

  pub every : {A B : Type 0} (of : A → List ℕ) (of_made : B → List ℕ) (made : List (Finding A) → Finding B) (xs : List (Part A))
      → ((found : List (Finding A)) (all : List ℕ) → Fits (flat_map of) (each found) all → Fits of_made (made found) all) → AllByRecursion (Stands of) xs → Stands of_made (of_all made xs)
  every of of_made made xs good h first le =
      good (in_turn xs (at first)) (range_with_len first (length (functions_of xs)))
      (subst (Fits (flat_map of) (each (in_turn xs (at first)))) (ranges-are xs first) (all-fit of (in_turn xs (at first)) (ranges xs first) (turns-fit of xs h first le)))

  -- ---- chains

  abbrev pub StandsOperand : {O A : Type 0} → (A → List ℕ) → O × Part A → Type 0
  StandsOperand of operand = Stands of operand.1

  zipped : {O A : Type 0} (of : A → List ℕ) (others : List (O × Part A)) → AllByRecursion (StandsOperand of) others → (first : ℕ) → least ≤ first
      → AllFit of (map (λ other. other.1) (zip (map (λ other. other.0) others) (in_turn (map (λ other. other.1) others) (at first)))) (ranges (map (λ other. other.1) others) first)
  zipped of [] h first le = tt
  zipped of (other ∷ others) h first le = (h.0 first le, zipped of others h.1 (first + length other.1.functions) (omega arith))

  pub chain : {O : Type 0} (key : ℕ) (made : Finding TypedExpression → List (O × Finding TypedExpression) → Finding TypedExpression) → ChainFits key made
      → (x : Part TypedExpression) (others : List (O × Part TypedExpression)) → Stands (typed_places key) x → AllByRecursion (StandsOperand (typed_places key)) others
      → Stands (typed_places key) (if_chain made x others)
  chain key made good x [] h k = h
  chain key made good x (other ∷ others) h k = λ first le.
      let next = first + length x.functions in
      let parts = map (λ o. o.1) (other ∷ others) in
      let rest = zip (map (λ o. o.0) others) (in_turn (map (λ o. o.1) others) (at (next + length other.1.functions))) in
      let joined : range_with_len first (length x.functions) ++ all_of (ranges parts next) ≡ range_with_len first (length (x.functions ++ functions_of parts)) =
      ap (λ l. range_with_len first (length x.functions) ++ l) (ranges-are parts next) ∙ shifted first x.functions (functions_of parts) in
      subst (Fits (typed_places key) (made (x.found (at first)) ((other.0, other.1.found (at next)) ∷ rest))) joined
      (good (x.found (at first)) other.0 (other.1.found (at next)) rest (range_with_len first (length x.functions)) (ranges parts next) (h first le) (zipped (typed_places key) (other ∷ others) k next (omega arith)))

  -- ---- a sign, and a part that may be left out

  pub with_its_sign : (key : ℕ) (sign : Option Sign) (x : Part TypedExpression) → Stands (typed_places key) x → Stands (typed_places key) (with_sign x sign)
  with_its_sign key None x h = h
  with_its_sign key (Some sign) x h = one (typed_places key) (typed_places key) (λ found. found >>= signed (Some sign)) x (sign-fits key sign) h

  pub written : {A : Type 0} (of : A → List ℕ) (of_option : Option A → List ℕ) → ((a : A) → of_option (Some a) ≡ of a) → (x : Part A) → Stands of x → Stands of_option (if_written (Some x))
  written {A = A} of of_option same x h = one of of_option (λ found. found >>= (λ a. Ok (Some a))) x some h
    where
      some : (f : Finding A) (places : List ℕ) → Fits of f places → Fits of_option (f >>= (λ a. Ok (Some a))) places
      some (Ok a) places h = same a ∙ h
      some (Err reasons) places h = tt
