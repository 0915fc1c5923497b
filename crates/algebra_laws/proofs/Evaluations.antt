-- Evaluations of listings show those of outcomes, put together.
use Rattle.std.proofs.Common.{◌≡◌, refl, ap, sym, ◌∙◌, subst, not, List, [], ◌∷◌, ◌++◌, map, length, Ok, Err, ◌⊎◌, inl, inr}
use Rattle.std.specs.Prelude.{Contains}
use Rattle.std.proofs.lemmas.List.Elements.{Contains-append_left, Contains-append_right, Contains-append_cases}
use Rattle.sqlval.specs.declared.value.Value.{Value}
use Rattle.sqlval.specs.declared.truth.Truth.{Truth}
use Rattle.sqlval.specs.declared.truth.Truth.TheVariants.{False, Unknown, True}
use Rattle.sqlval.specs.declared.comparison.CompOp.{CompOp}
use Rattle.sqlval.specs.declared.comparison.CompOp.TheVariants.{GreaterOrEqual, LessOrEqual}
use Rattle.sqlval.specs.Truth.{truth_and, truth_or}
use Rattle.sqlval.specs.Comparison.{comparison}
use Rattle.sqlval.specs.Concatenation.{concatenation as concatenation_of}
use Rattle.typing.specs.declared.typed.Arithmetic.{Arithmetic}
use Rattle.denote.specs.declared.fault.Fault.{Fault}
use Rattle.denote.specs.Evaluation.{Env, Evaluation, ◌>>=◌, given, faults_in, joined, together}
use Rattle.denote.specs.Expression.{ExpressionMeaning, calculated, chained, concatenation}
use Rattle.denote.specs.Condition.{ConditionMeaning, both, either, conjunction, disjunction, compared, between}
use Rattle.operator_laws.specs.Same.{Each}
use Rattle.algebra_laws.specs.Shown.{IsShown, ShowsBy, Shows, ShowsAt}

pub IsShown-refl : (faults : List Fault) → IsShown faults faults
IsShown-refl faults = record { within = λ f h. h; none = λ e. e }

first_none : {X : Type 0} (xs ys : List X) → xs ++ ys ≡ [] → xs ≡ []
first_none [] ys e = refl
first_none (x ∷ xs) ys e = absurd (cc)

second_none : {X : Type 0} (xs ys : List X) → xs ++ ys ≡ [] → ys ≡ []
second_none [] ys e = e
second_none (x ∷ xs) ys e = absurd (cc)

both_none : {X : Type 0} (xs ys : List X) → xs ≡ [] → ys ≡ [] → xs ++ ys ≡ []
both_none xs ys e f = rw (e, f) refl

pub IsShown-append : (xs xs' ys ys' : List Fault) → IsShown xs xs' → IsShown ys ys' → IsShown (xs ++ ys) (xs' ++ ys')
IsShown-append xs xs' ys ys' h k = record {
  within = λ f c. at f (Contains-append_cases xs ys f c);
  none = λ e. both_none xs' ys' (h.none (first_none xs ys e)) (k.none (second_none xs ys e));
}
  where
    at : (f : Fault) → Contains xs f ⊎ Contains ys f → Contains (xs' ++ ys') f
    at f (inl c) = Contains-append_left xs' ys' f (h.within f c)
    at f (inr c) = Contains-append_right xs' ys' f (k.within f c)

pub Shows-refl : {A : Type 0} (x : Evaluation A) → Shows x x
Shows-refl (Ok x) = refl
Shows-refl (Err faults) = IsShown-refl faults

pub Shows-of : {A : Type 0} (x y : Evaluation A) → x ≡ y → Shows x y
Shows-of {A} x y e = subst (λ (z : Evaluation A). Shows x z) e (Shows-refl x)

pub next-shows : {A B C D : Type 0} (R : A → B → Type 0) (S : C → D → Type 0) (x : Evaluation A) (y : Evaluation B) (f : A → Evaluation C) (g : B → Evaluation D)
    → ShowsBy R x y → ((a : A) (b : B) → R a b → ShowsBy S (f a) (g b)) → ShowsBy S (x >>= f) (y >>= g)
next-shows R S (Ok a) (Ok b) f g h k = k a b h
next-shows R S (Ok a) (Err faults) f g h k = absurd h
next-shows R S (Err shown) (Ok b) f g h k = absurd h
next-shows R S (Err shown) (Err faults) f g h k = h

-- the same is made of the value
pub follows : {A C : Type 0} (x y : Evaluation A) (f g : A → Evaluation C) → Shows x y → ((a : A) → Shows (f a) (g a)) → Shows (x >>= f) (y >>= g)
follows {A} {C} x y f g h k = next-shows (λ (a b : A). a ≡ b) (λ (a b : C). a ≡ b) x y f g h (λ a b e. subst (λ (z : A). Shows (f a) (g z)) e (k a))

pub then-shows : {A C : Type 0} (x y : Evaluation A) (f : A → Evaluation C) → Shows x y → Shows (x >>= f) (y >>= f)
then-shows x y f h = follows x y f f h (λ a. Shows-refl (f a))

pub faults_in-shown : {A : Type 0} (x y : Evaluation A) → Shows x y → IsShown (faults_in x) (faults_in y)
faults_in-shown (Ok x) (Ok y) h = IsShown-refl []
faults_in-shown (Ok x) (Err faults) h = absurd h
faults_in-shown (Err shown) (Ok y) h = absurd h
faults_in-shown (Err shown) (Err faults) h = h

joined-shows : {A : Type 0} (x y : Evaluation A) (xs ys : Evaluation (List A)) → Shows x y → Shows xs ys → Shows (joined x xs) (joined y ys)
joined-shows (Ok x) (Ok y) (Ok xs) (Ok ys) e h = cc
joined-shows (Ok x) (Ok y) (Ok xs) (Err others) e h = absurd h
joined-shows (Ok x) (Ok y) (Err faults) (Ok ys) e h = absurd h
joined-shows (Ok x) (Ok y) (Err faults) (Err others) e h = h
joined-shows (Ok x) (Err others) xs ys e h = absurd e
joined-shows (Err faults) (Ok y) xs ys e h = absurd e
joined-shows (Err faults) (Err others) xs ys e h = IsShown-append faults others (faults_in xs) (faults_in ys) e (faults_in-shown xs ys h)

pub together-shows : {A : Type 0} (xs ys : List (Evaluation A)) → Each Shows xs ys → Shows (together xs) (together ys)
together-shows [] [] h = refl
together-shows [] (y ∷ ys) h = absurd h
together-shows (x ∷ xs) [] h = absurd h
together-shows (x ∷ xs) (y ∷ ys) h = joined-shows x y (together xs) (together ys) h.0 (together-shows xs ys h.1)

-- ---- the steps

abbrev pub ShowsNext : Arithmetic × ExpressionMeaning → Arithmetic × ExpressionMeaning → Type 0
ShowsNext x y = (x.0 ≡ y.0) × ShowsAt x.1 y.1

pub chained-shows : (x y : Evaluation Value) (fs gs : List (Arithmetic × ExpressionMeaning)) (env : Env) → Shows x y → Each ShowsNext fs gs
    → Shows (chained x fs env) (chained y gs env)
chained-shows x y [] [] env h k = h
chained-shows x y [] (g ∷ gs) env h k = absurd k
chained-shows x y (f ∷ fs) [] env h k = absurd k
chained-shows x y (f ∷ fs) (g ∷ gs) env h k =
    chained-shows (x >>= (λ left. f.1 env >>= (λ right. calculated f.0 left right))) (y >>= (λ left. g.1 env >>= (λ right. calculated g.0 left right))) fs gs env
    (follows x y (λ left. f.1 env >>= (λ right. calculated f.0 left right)) (λ left. g.1 env >>= (λ right. calculated g.0 left right)) h
    (λ left. follows (f.1 env) (g.1 env) (λ right. calculated f.0 left right) (λ right. calculated g.0 left right) (k.0.1 env)
    (λ right. Shows-of (calculated f.0 left right) (calculated g.0 left right) (ap (λ op. calculated op left right) k.0.0))))
    k.1

pub concatenation-shows : (x y : Evaluation Value) (fs gs : List ExpressionMeaning) (env : Env) → Shows x y → Each ShowsAt fs gs
    → Shows (concatenation x fs env) (concatenation y gs env)
concatenation-shows x y [] [] env h k = h
concatenation-shows x y [] (g ∷ gs) env h k = absurd k
concatenation-shows x y (f ∷ fs) [] env h k = absurd k
concatenation-shows x y (f ∷ fs) (g ∷ gs) env h k =
    concatenation-shows (x >>= (λ left. f env >>= (λ right. given (concatenation_of left right))))
    (y >>= (λ left. g env >>= (λ right. given (concatenation_of left right)))) fs gs env
    (follows x y (λ left. f env >>= (λ right. given (concatenation_of left right))) (λ left. g env >>= (λ right. given (concatenation_of left right))) h
    (λ left. then-shows (f env) (g env) (λ right. given (concatenation_of left right)) (k.0 env)))
    k.1

both-shows : (t : Truth) (x y : Evaluation Truth) → Shows x y → Shows (both t x) (both t y)
both-shows False x y h = refl
both-shows Unknown x y h = then-shows x y (λ u. Ok (truth_and Unknown u)) h
both-shows True x y h = h

either-shows : (t : Truth) (x y : Evaluation Truth) → Shows x y → Shows (either t x) (either t y)
either-shows True x y h = refl
either-shows Unknown x y h = then-shows x y (λ u. Ok (truth_or Unknown u)) h
either-shows False x y h = h

pub conjunction-shows : (fs gs : List ConditionMeaning) → Each ShowsAt fs gs → ShowsAt (conjunction fs) (conjunction gs)
conjunction-shows [] [] h env = refl
conjunction-shows [] (g ∷ gs) h env = absurd h
conjunction-shows (f ∷ fs) [] h env = absurd h
conjunction-shows (f ∷ fs) (g ∷ gs) h env = follows (f env) (g env) (λ x. both x (conjunction fs env)) (λ x. both x (conjunction gs env)) (h.0 env)
    (λ x. both-shows x (conjunction fs env) (conjunction gs env) (conjunction-shows fs gs h.1 env))

pub disjunction-shows : (fs gs : List ConditionMeaning) → Each ShowsAt fs gs → ShowsAt (disjunction fs) (disjunction gs)
disjunction-shows [] [] h env = refl
disjunction-shows [] (g ∷ gs) h env = absurd h
disjunction-shows (f ∷ fs) [] h env = absurd h
disjunction-shows (f ∷ fs) (g ∷ gs) h env = follows (f env) (g env) (λ x. either x (disjunction fs env)) (λ x. either x (disjunction gs env)) (h.0 env)
    (λ x. either-shows x (disjunction fs env) (disjunction gs env) (disjunction-shows fs gs h.1 env))

pub two-shows : {A B C : Type 0} (f g : Env → Evaluation A) (k m : Env → Evaluation B) (made : A → B → Evaluation C) → ShowsAt f g → ShowsAt k m
    → ShowsAt (λ env. f env >>= (λ x. k env >>= made x)) (λ env. g env >>= (λ x. m env >>= made x))
two-shows f g k m made h j env = follows (f env) (g env) (λ x. k env >>= made x) (λ x. m env >>= made x) (h env)
    (λ x. then-shows (k env) (m env) (made x) (j env))

pub compared-shows : (op : CompOp) (a b c d : ExpressionMeaning) → ShowsAt a b → ShowsAt c d → ShowsAt (compared op a c) (compared op b d)
compared-shows op a b c d h k = two-shows a b c d (λ x y. Ok (comparison op x y)) h k

pub between-shows : (x y low low' high high' : ExpressionMeaning) → ShowsAt x y → ShowsAt low low' → ShowsAt high high'
    → ShowsAt (between x low high) (between y low' high')
between-shows x y low low' high high' h k m = conjunction-shows (compared GreaterOrEqual x low ∷ compared LessOrEqual x high ∷ [])
    (compared GreaterOrEqual y low' ∷ compared LessOrEqual y high' ∷ [])
    (compared-shows GreaterOrEqual x y low low' h k, (compared-shows LessOrEqual x y high high' h m, tt))
