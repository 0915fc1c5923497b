-- Parts that may stand for others, put together.
use Rattle.std.proofs.Common.{◌≡◌, refl, ap, sym, subst, ◌∙◌, List, [], ◌∷◌, ◌++◌, Result, Ok, Err, append_assoc, append-nil, length, arith}
use Rattle.std.specs.Prelude.{IfOk, IsOkAnd}
use Rattle.algebra.specs.declared.tree.Expression.{Expression}
use Rattle.operator_laws.specs.Same.{Each}
use Rattle.planned_subqueries.specs.Kept.{KeepsNext}
use Rattle.rules.specs.Same.{KeepsExpression}
use Rattle.typing.specs.declared.typed.Arithmetic.{Arithmetic}

-- what is so of a part is so of what came of it
pub came : {X E : Type 0} (P : X → Type 0) (part : Result X E) (made : X) → IsOkAnd part (λ x. made ≡ x)
    → IfOk part P → P made
came P (Ok x) made e h = subst P (sym e) h
came P (Err error) made e h = absurd e

-- and of a result
pub through : {X E F : Type 0} (P : X → Type 0) (part : Result X E) (made : Result X F)
    → IfOk made (λ m. IsOkAnd part (λ x. m ≡ x)) → IfOk part P → IfOk made P
through P part (Ok m) e h = came P part m e h
through P part (Err error) e h = tt

-- an operand behind its operator
pub with-operator : {E F : Type 0} (operator : Arithmetic) (part : Result Expression E) (made : Result (Arithmetic × Expression) F)
    (old : Expression) → IfOk made (λ m. IsOkAnd part (λ y. m ≡ (operator, y))) → IfOk part (λ new. KeepsExpression new old)
    → IfOk made (λ m. KeepsNext m (operator, old))
with-operator operator part (Err error) old e h = tt
with-operator operator (Err error) (Ok m) old e h = absurd e
with-operator operator (Ok y) (Ok m) old e h = subst (λ (n : Arithmetic × Expression). KeepsNext n (operator, old)) (sym e) (refl, h)

-- ---- the turns of a loop

-- Whatever may stand for the parts that are left stands, behind what was made, for all.
abbrev pub Ahead : {X E : Type 0} → (X → X → Type 0) → Result (List X) E → List X → List X → Type 0
Ahead {X} R list left all = (new : List X) → Each R new left → IfOk list (λ made. Each R (made ++ new) all)

pub begun : {X : Type 0} (E : Type 0) (R : X → X → Type 0) (list left all : List X) → list ≡ [] → left ≡ all
    → Ahead {E = E} R (Ok list) left all
begun {X} E R list left all none is = λ new k.
    subst (λ (l : List X). Each R (l ++ new) all) (sym none) (subst (λ (l : List X). Each R new l) is k)

pub turn : {X E F G : Type 0} (R : X → X → Type 0) (list : Result (List X) E) (part : Result X F)
    (made : Result (List X) G) (old left all : List X) (item : X) → old ≡ item ∷ left
    → IfOk made (λ m. IsOkAnd list (λ xs. IsOkAnd part (λ x. m ≡ xs ++ x ∷ [])))
    → IfOk part (λ x. R x item) → Ahead R list old all → Ahead R made left all
turn R list part (Err error) old left all item is e h before = λ new k. tt
turn R (Err error) part (Ok m) old left all item is e h before = absurd e
turn R (Ok xs) (Err error) (Ok m) old left all item is e h before = absurd e
turn {X} R (Ok xs) (Ok x) (Ok m) old left all item is e h before = λ new k.
    let behind : Each R (x ∷ new) old = subst (λ (l : List X). Each R (x ∷ new) l) (sym is) (h, k) in
    subst (λ (l : List X). Each R l all) (sym (ap (λ (l : List X). l ++ new) e ∙ append_assoc xs (x ∷ []) new)) (before (x ∷ new) behind)

pub ended : {X E : Type 0} (R : X → X → Type 0) (list : Result (List X) E) (old all : List X) → old ≡ []
    → Ahead R list old all → IfOk list (λ made. Each R made all)
ended R (Err error) old all is before = tt
ended {X} R (Ok xs) old all is before = subst (λ (l : List X). Each R l all) (append-nil xs)
    (before [] (subst (λ (l : List X). Each R [] l) (sym is) tt))

pub empty : {X : Type 0} (l : List X) → length l ≡ 0 → l ≡ []
empty [] e = refl
empty (x ∷ l) e = absurd (omega (arith, e))
