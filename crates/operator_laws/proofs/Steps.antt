-- Steps of expressions and conditions keep what is the same up to the order of rows.
use Rattle.std.proofs.Common.{◌≡◌, refl, ap, sym, ◌∙◌, not, List, [], ◌∷◌, ◌++◌, map, length, Ok, arith}
use Rattle.sqlval.specs.declared.value.Value.{Value}
use Rattle.sqlval.specs.declared.truth.Truth.{Truth}
use Rattle.sqlval.specs.declared.truth.Truth.TheVariants.{False, Unknown, True}
use Rattle.sqlval.specs.declared.comparison.CompOp.{CompOp}
use Rattle.sqlval.specs.declared.comparison.CompOp.TheVariants.{Equal, GreaterOrEqual, LessOrEqual}
use Rattle.sqlval.specs.Truth.{truth_and, truth_or, truth_of}
use Rattle.sqlval.specs.Comparison.{comparison}
use Rattle.sqlval.specs.Concatenation.{concatenation as concatenation_of}
use Rattle.sqlval.specs.Value.{Row}
use Rattle.typing.specs.declared.typed.Arithmetic.{Arithmetic}
use Rattle.denote.specs.Evaluation.{Env, Evaluation, ◌>>=◌, given}
use Rattle.denote.specs.Expression.{ExpressionMeaning, cell, calculated, chained, concatenation, beyond_one, only_value, scalar}
use Rattle.denote.specs.Condition.{ConditionMeaning, both, either, conjunction, disjunction, compared, between, among, first_column, is_empty, exists}
use Rattle.denote.specs.Outcome.{Outcome, whole}
use Rattle.denote.specs.Bag.{Permutes, nothing, keeps, exchanges, goes_on, IsSame}
use Rattle.operator_laws.proofs.Permuting.{HasSame-append, Permutes-map}
use Rattle.operator_laws.specs.Same.{IsSameValue, IsSameBag, Each, Agree}
use Rattle.operator_laws.proofs.Orders.{fold-permutes, length-permutes}
use Rattle.operator_laws.proofs.Same.{HasSame-refl, IsSameValue-of, next-alike, next-same, then-same, unless-alike}

-- ---- expressions

-- the same operator, and operands that agree
abbrev pub AgreeOnNext : Arithmetic × ExpressionMeaning → Arithmetic × ExpressionMeaning → Type 0
AgreeOnNext x y = (x.0 ≡ y.0) × Agree x.1 y.1

pub chained-agree : (x y : Evaluation Value) (fs gs : List (Arithmetic × ExpressionMeaning)) (env : Env) → IsSameValue x y → Each AgreeOnNext fs gs
    → IsSameValue (chained x fs env) (chained y gs env)
chained-agree x y [] [] env h k = h
chained-agree x y [] (g ∷ gs) env h k = absurd k
chained-agree x y (f ∷ fs) [] env h k = absurd k
chained-agree x y (f ∷ fs) (g ∷ gs) env h k =
    chained-agree (x >>= (λ left. f.1 env >>= (λ right. calculated f.0 left right))) (y >>= (λ left. g.1 env >>= (λ right. calculated g.0 left right))) fs gs env
    (next-same x y (λ left. f.1 env >>= (λ right. calculated f.0 left right)) (λ left. g.1 env >>= (λ right. calculated g.0 left right)) h
    (λ left. next-same (f.1 env) (g.1 env) (λ right. calculated f.0 left right) (λ right. calculated g.0 left right) (k.0.1 env)
    (λ right. IsSameValue-of (calculated f.0 left right) (calculated g.0 left right) (ap (λ op. calculated op left right) k.0.0))))
    k.1

pub concatenation-agree : (x y : Evaluation Value) (fs gs : List ExpressionMeaning) (env : Env) → IsSameValue x y → Each Agree fs gs
    → IsSameValue (concatenation x fs env) (concatenation y gs env)
concatenation-agree x y [] [] env h k = h
concatenation-agree x y [] (g ∷ gs) env h k = absurd k
concatenation-agree x y (f ∷ fs) [] env h k = absurd k
concatenation-agree x y (f ∷ fs) (g ∷ gs) env h k =
    concatenation-agree (x >>= (λ left. f env >>= (λ right. given (concatenation_of left right))))
    (y >>= (λ left. g env >>= (λ right. given (concatenation_of left right)))) fs gs env
    (next-same x y (λ left. f env >>= (λ right. given (concatenation_of left right))) (λ left. g env >>= (λ right. given (concatenation_of left right))) h
    (λ left. then-same (f env) (g env) (λ right. given (concatenation_of left right)) (k.0 env)))
    k.1

-- ---- subqueries

one_row : (xs ys : List Row) → length xs ≡ length ys → beyond_one xs ≡ beyond_one ys
one_row [] [] e = refl
one_row [] (y ∷ ys) e = absurd (omega arith)
one_row (x ∷ []) [] e = absurd (omega arith)
one_row (x ∷ []) (y ∷ []) e = refl
one_row (x ∷ []) (y ∷ z ∷ ys) e = absurd (omega arith)
one_row (x ∷ w ∷ xs) [] e = absurd (omega arith)
one_row (x ∷ w ∷ xs) (y ∷ []) e = absurd (omega arith)
one_row (x ∷ w ∷ xs) (y ∷ z ∷ ys) e = refl

no_longer : {X : Type 0} (xs ys : List X) → length xs ≡ length ys → xs ≡ [] → ys ≡ []
no_longer xs [] e f = refl
no_longer xs (y ∷ ys) e f = absurd (omega (arith, e, ap length f))

tail_of : {X : Type 0} → List X → List X
tail_of [] = []
tail_of (x ∷ xs) = xs

after_one : {X : Type 0} (z x : X) (xs : List X) → z ∷ xs ≡ x ∷ [] → xs ≡ []
unfolding tail_of
after_one z x xs e = ap tail_of e

-- a list of one element has no other order
single : {X : Type 0} (x : X) (xs ys : List X) → Permutes xs ys → xs ≡ x ∷ [] → ys ≡ x ∷ []
single x _ _ nothing e = e
single x _ _ (keeps z {xs = xs} {ys = ys} p) e =
    let rest : ys ≡ [] = no_longer xs ys (length-permutes xs ys p) (after_one z x xs e) in
    ap (λ r. z ∷ r) (rest ∙ sym (after_one z x xs e)) ∙ e
single x _ _ (exchanges z w xs) e = absurd (cc (after_one z x (w ∷ xs) e))
single x _ _ (goes_on {xs = xs} {ys = ys} {zs = zs} p q) e = single x ys zs q (single x xs ys p e)

only-value : (xs ys : List Row) → Permutes xs ys → beyond_one xs ≡ [] → only_value xs ≡ only_value ys
only-value [] ys p e = ap only_value (sym (no_longer [] ys (length-permutes [] ys p) refl))
only-value (x ∷ []) ys p e = ap only_value (sym (single x (x ∷ []) ys p refl))
only-value (x ∷ w ∷ xs) ys p e = absurd (cc)

second_none : {X : Type 0} (xs ys : List X) → xs ++ ys ≡ [] → ys ≡ []
second_none [] ys e = e
second_none (x ∷ xs) ys e = absurd (cc)

pub scalar-same : (o p : Outcome) → IsSame o p → IsSameValue (scalar o) (scalar p)
unfolding scalar
scalar-same o p h =
    unless-alike (λ (x y : Value). x ≡ y) (o.faults ++ beyond_one o.rows) (p.faults ++ beyond_one p.rows) (only_value o.rows) (only_value p.rows)
    (HasSame-append o.faults p.faults (beyond_one o.rows) (beyond_one p.rows) h.faults
    (rw (one_row o.rows p.rows (length-permutes o.rows p.rows h.rows)) (HasSame-refl (beyond_one p.rows))))
    (λ none. only-value o.rows p.rows h.rows (second_none o.faults (beyond_one o.rows) none))

pub whole-same : (o p : Outcome) → IsSame o p → IsSameBag (whole o) (whole p)
unfolding whole
whole-same o p h = unless-alike (λ (xs ys : List Row). Permutes xs ys) o.faults p.faults o.rows p.rows h.faults (λ _. h.rows)

emptiness : (xs ys : List Row) → length xs ≡ length ys → is_empty xs ≡ is_empty ys
emptiness [] [] e = refl
emptiness [] (y ∷ ys) e = absurd (omega arith)
emptiness (x ∷ xs) [] e = absurd (omega arith)
emptiness (x ∷ xs) (y ∷ ys) e = refl

pub exists-same : (o p : Outcome) → IsSame o p → IsSameValue (exists o) (exists p)
exists-same o p h =
    next-alike (λ (xs ys : List Row). Permutes xs ys) (λ (x y : Truth). x ≡ y) (whole o) (whole p) (λ rows. Ok (truth_of (not (is_empty rows))))
    (λ rows. Ok (truth_of (not (is_empty rows)))) (whole-same o p h)
    (λ xs ys q. ap (λ b. truth_of (not b)) (emptiness xs ys (length-permutes xs ys q)))

truth_or-swap : (r x y : Truth) → truth_or (truth_or r x) y ≡ truth_or (truth_or r y) x
truth_or-swap False False False = refl
truth_or-swap False False Unknown = refl
truth_or-swap False False True = refl
truth_or-swap False Unknown False = refl
truth_or-swap False Unknown Unknown = refl
truth_or-swap False Unknown True = refl
truth_or-swap False True False = refl
truth_or-swap False True Unknown = refl
truth_or-swap False True True = refl
truth_or-swap Unknown False False = refl
truth_or-swap Unknown False Unknown = refl
truth_or-swap Unknown False True = refl
truth_or-swap Unknown Unknown False = refl
truth_or-swap Unknown Unknown Unknown = refl
truth_or-swap Unknown Unknown True = refl
truth_or-swap Unknown True False = refl
truth_or-swap Unknown True Unknown = refl
truth_or-swap Unknown True True = refl
truth_or-swap True False False = refl
truth_or-swap True False Unknown = refl
truth_or-swap True False True = refl
truth_or-swap True Unknown False = refl
truth_or-swap True Unknown Unknown = refl
truth_or-swap True Unknown True = refl
truth_or-swap True True False = refl
truth_or-swap True True Unknown = refl
truth_or-swap True True True = refl

among-permutes : (x : Value) (xs ys : List Row) → Permutes xs ys → among x (first_column xs) ≡ among x (first_column ys)
among-permutes x xs ys p =
    fold-permutes truth_or truth_or-swap (map (comparison Equal x) (first_column xs)) (map (comparison Equal x) (first_column ys))
    (Permutes-map (comparison Equal x) (first_column xs) (first_column ys) (Permutes-map (λ row. cell row 0) xs ys p)) False

pub in_query-same : (x y : Evaluation Value) (o p : Outcome) → IsSameValue x y → IsSame o p
    → IsSameValue (x >>= (λ v. whole o >>= (λ rows. Ok (among v (first_column rows))))) (y >>= (λ v. whole p >>= (λ rows. Ok (among v (first_column rows)))))
in_query-same x y o p e h =
    next-same x y (λ v. whole o >>= (λ rows. Ok (among v (first_column rows)))) (λ v. whole p >>= (λ rows. Ok (among v (first_column rows)))) e
    (λ v. next-alike (λ (xs ys : List Row). Permutes xs ys) (λ (a b : Truth). a ≡ b) (whole o) (whole p) (λ rows. Ok (among v (first_column rows)))
    (λ rows. Ok (among v (first_column rows))) (whole-same o p h)
    (λ xs ys q. among-permutes v xs ys q))

-- ---- conditions

both-same : (t : Truth) (x y : Evaluation Truth) → IsSameValue x y → IsSameValue (both t x) (both t y)
both-same False x y h = refl
both-same Unknown x y h = then-same x y (λ v. Ok (truth_and Unknown v)) h
both-same True x y h = h

either-same : (t : Truth) (x y : Evaluation Truth) → IsSameValue x y → IsSameValue (either t x) (either t y)
either-same False x y h = h
either-same Unknown x y h = then-same x y (λ v. Ok (truth_or Unknown v)) h
either-same True x y h = refl

pub conjunction-agree : (fs gs : List ConditionMeaning) → Each Agree fs gs → Agree (conjunction fs) (conjunction gs)
conjunction-agree [] [] h env = refl
conjunction-agree [] (g ∷ gs) h env = absurd h
conjunction-agree (f ∷ fs) [] h env = absurd h
conjunction-agree (f ∷ fs) (g ∷ gs) h env =
    next-same (f env) (g env) (λ x. both x (conjunction fs env)) (λ x. both x (conjunction gs env)) (h.0 env)
    (λ x. both-same x (conjunction fs env) (conjunction gs env) (conjunction-agree fs gs h.1 env))

pub disjunction-agree : (fs gs : List ConditionMeaning) → Each Agree fs gs → Agree (disjunction fs) (disjunction gs)
disjunction-agree [] [] h env = refl
disjunction-agree [] (g ∷ gs) h env = absurd h
disjunction-agree (f ∷ fs) [] h env = absurd h
disjunction-agree (f ∷ fs) (g ∷ gs) h env =
    next-same (f env) (g env) (λ x. either x (disjunction fs env)) (λ x. either x (disjunction gs env)) (h.0 env)
    (λ x. either-same x (disjunction fs env) (disjunction gs env) (disjunction-agree fs gs h.1 env))

-- two operands, from left to right
pub two-agree : {A : Type 0} (f g a b : ExpressionMeaning) (next : Value → Value → Evaluation A) → Agree f g → Agree a b
    → Agree (λ env. f env >>= (λ x. a env >>= (λ y. next x y))) (λ env. g env >>= (λ x. b env >>= (λ y. next x y)))
two-agree f g a b next h k env = next-same (f env) (g env) (λ x. a env >>= (λ y. next x y)) (λ x. b env >>= (λ y. next x y)) (h env)
    (λ x. then-same (a env) (b env) (λ y. next x y) (k env))

pub compared-agree : (op : CompOp) (f g a b : ExpressionMeaning) → Agree f g → Agree a b → Agree (compared op f a) (compared op g b)
compared-agree op f g a b h k env = two-agree f g a b (λ x y. Ok (comparison op x y)) h k env

pub between-agree : (f g a b c d : ExpressionMeaning) → Agree f g → Agree a b → Agree c d → Agree (between f a c) (between g b d)
between-agree f g a b c d h k l =
    conjunction-agree (compared GreaterOrEqual f a ∷ compared LessOrEqual f c ∷ []) (compared GreaterOrEqual g b ∷ compared LessOrEqual g d ∷ [])
    (compared-agree GreaterOrEqual f g a b h k, (compared-agree LessOrEqual f g c d h l, tt))
