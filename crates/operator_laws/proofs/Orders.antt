-- What does not depend on the order of a list.
use Rattle.std.proofs.Common.{◌≡◌, refl, ap, sym, ◌∙◌, subst, ℕ, suc, ◌+◌, Bool, true, false, cond, not, ◌&&◌, ◌||◌, List, [], ◌∷◌, length, arith}
use Rattle.std.specs.Prelude.{filter, fold, count_by}
use Rattle.std.specs.List.{list_any, list_all}
use Rattle.std.proofs.lemmas.List.Sums.{sum_by-cons}
use Rattle.denote.specs.Bag.{Permutes, nothing, keeps, exchanges, goes_on}
use Rattle.operator_laws.proofs.Permuting.{Permutes-refl}

-- ---- what is made of the elements one after another, where two neighbours may be exchanged

pub built-permutes : {X Y : Type 0} (F : List X → Y) (g : X → Y → Y) → ((x : X) (xs : List X) → F (x ∷ xs) ≡ g x (F xs))
    → ((x y : X) (r : Y) → g x (g y r) ≡ g y (g x r))
    → (xs ys : List X) → Permutes xs ys → F xs ≡ F ys
built-permutes F g step swap _ _ nothing = refl
built-permutes F g step swap _ _ (keeps x {xs = xs} {ys = ys} p) = step x xs ∙ ap (g x) (built-permutes F g step swap xs ys p) ∙ sym (step x ys)
built-permutes F g step swap _ _ (exchanges x y xs) = step x (y ∷ xs) ∙ ap (g x) (step y xs) ∙ swap x y (F xs) ∙ ap (g y) (sym (step x xs)) ∙ sym (step y (x ∷ xs))
built-permutes F g step swap _ _ (goes_on {xs = xs} {ys = ys} {zs = zs} p q) = built-permutes F g step swap xs ys p ∙ built-permutes F g step swap ys zs q

pub fold-permutes : {X Y : Type 0} (f : Y → X → Y) → ((r : Y) (x y : X) → f (f r x) y ≡ f (f r y) x) → (xs ys : List X) → Permutes xs ys → (r : Y)
    → fold f r xs ≡ fold f r ys
fold-permutes f swap _ _ nothing r = refl
fold-permutes f swap _ _ (keeps x {xs = xs} {ys = ys} p) r = fold-permutes f swap xs ys p (f r x)
fold-permutes f swap _ _ (exchanges x y xs) r = ap (λ s. fold f s xs) (swap r x y)
fold-permutes f swap _ _ (goes_on {xs = xs} {ys = ys} {zs = zs} p q) r = fold-permutes f swap xs ys p r ∙ fold-permutes f swap ys zs q r

or-swap : (a b c : Bool) → (a || (b || c)) ≡ (b || (a || c))
or-swap true true c = refl
or-swap true false c = refl
or-swap false true c = refl
or-swap false false c = refl

and-swap : (a b c : Bool) → (a && (b && c)) ≡ (b && (a && c))
and-swap true true c = refl
and-swap true false c = refl
and-swap false true c = refl
and-swap false false c = refl

pub list_any-permutes : {X : Type 0} (p : X → Bool) (xs ys : List X) → Permutes xs ys → list_any p xs ≡ list_any p ys
list_any-permutes p xs ys h = built-permutes (list_any p) (λ x b. p x || b) (λ x xs. refl) (λ x y b. or-swap (p x) (p y) b) xs ys h

pub list_all-permutes : {X : Type 0} (p : X → Bool) (xs ys : List X) → Permutes xs ys → list_all p xs ≡ list_all p ys
list_all-permutes p xs ys h = built-permutes (list_all p) (λ x b. p x && b) (λ x xs. refl) (λ x y b. and-swap (p x) (p y) b) xs ys h

pub length-permutes : {X : Type 0} (xs ys : List X) → Permutes xs ys → length xs ≡ length ys
length-permutes xs ys h = built-permutes length (λ x n. suc n) (λ x xs. refl) (λ x y n. refl) xs ys h

count-swap : (m n k : ℕ) → m + (n + k) ≡ n + (m + k)
count-swap m n k = omega arith

pub count_by-permutes : {X : Type 0} (p : X → Bool) (xs ys : List X) → Permutes xs ys → count_by p xs ≡ count_by p ys
count_by-permutes p xs ys h = built-permutes (count_by p) (λ x n. cond (p x) 1 0 + n) (λ x xs. sum_by-cons (λ x. cond (p x) 1 0) x xs)
    (λ x y n. count-swap (cond (p x) 1 0) (cond (p y) 1 0) n) xs ys h

-- ---- filters

pub Permutes-filter : {X : Type 0} (p : X → Bool) (xs ys : List X) → Permutes xs ys → Permutes (filter p xs) (filter p ys)
Permutes-filter p _ _ nothing = nothing
Permutes-filter {X = X} p _ _ (keeps x {xs = xs} {ys = ys} h) = at (p x) (Permutes-filter p xs ys h)
  where
    at : (b : Bool) → Permutes (filter p xs) (filter p ys) → Permutes (cond b (x ∷ filter p xs) (filter p xs)) (cond b (x ∷ filter p ys) (filter p ys))
    at true k = keeps x k
    at false k = k
Permutes-filter {X = X} p _ _ (exchanges x y xs) = at (p x) (p y)
  where
    at : (b c : Bool) → Permutes (cond b (x ∷ cond c (y ∷ filter p xs) (filter p xs)) (cond c (y ∷ filter p xs) (filter p xs)))
        (cond c (y ∷ cond b (x ∷ filter p xs) (filter p xs)) (cond b (x ∷ filter p xs) (filter p xs)))
    at true true = exchanges x y (filter p xs)
    at true false = Permutes-refl (x ∷ filter p xs)
    at false true = Permutes-refl (y ∷ filter p xs)
    at false false = Permutes-refl (filter p xs)
Permutes-filter p _ _ (goes_on {xs = xs} {ys = ys} {zs = zs} h k) = goes_on (Permutes-filter p xs ys h) (Permutes-filter p ys zs k)

filter-cons : {X : Type 0} (p : X → Bool) (x : X) (xs : List X) → p x ≡ true → filter p (x ∷ xs) ≡ x ∷ filter p xs
filter-cons p x xs e = ap (λ b. cond b (x ∷ filter p xs) (filter p xs)) e

-- two filters in either order
filter-filter : {X : Type 0} (p q : X → Bool) (xs : List X) → filter p (filter q xs) ≡ filter q (filter p xs)
filter-filter p q [] = refl
filter-filter {X = X} p q (x ∷ xs) = at (p x) refl (q x) refl (filter-filter p q xs)
  where
    at : (b : Bool) → p x ≡ b → (c : Bool) → q x ≡ c → filter p (filter q xs) ≡ filter q (filter p xs)
        → filter p (cond c (x ∷ filter q xs) (filter q xs)) ≡ filter q (cond b (x ∷ filter p xs) (filter p xs))
    at true px true qx e = filter-cons p x (filter q xs) px ∙ ap (λ rest. x ∷ rest) e ∙ sym (filter-cons q x (filter p xs) qx)
    at true px false qx e = e ∙ sym (ap (λ b. cond b (x ∷ filter q (filter p xs)) (filter q (filter p xs))) qx)
    at false px true qx e = ap (λ b. cond b (x ∷ filter p (filter q xs)) (filter p (filter q xs))) px ∙ e
    at false px false qx e = e

-- ---- one of each

-- F leaves one of each alike elements; only equal ones are alike
pub distinct-permutes : {X : Type 0} (E : X → X → Bool) (F : List X → List X) → ((x y : X) → E x y ≡ true → x ≡ y) → ((x y : X) → E x y ≡ E y x)
    → F [] ≡ [] → ((x : X) (xs : List X) → F (x ∷ xs) ≡ x ∷ filter (λ y. not (E x y)) (F xs)) → (xs ys : List X) → Permutes xs ys → Permutes (F xs) (F ys)
distinct-permutes E F equal symm none step _ _ nothing = Permutes-refl (F [])
distinct-permutes E F equal symm none step _ _ (keeps x {xs = xs} {ys = ys} h) =
    rw (step x xs, step x ys) (keeps x (Permutes-filter (λ y. not (E x y)) (F xs) (F ys) (distinct-permutes E F equal symm none step xs ys h)))
distinct-permutes {X = X} E F equal symm none step _ _ (exchanges x y xs) = at (E x y) refl
  where
    two : (a b : X) → E a b ≡ false → F (a ∷ b ∷ xs) ≡ a ∷ b ∷ filter (λ y. not (E a y)) (filter (λ y. not (E b y)) (F xs))
    two a b e = step a (b ∷ xs) ∙ ap (λ rest. a ∷ filter (λ y. not (E a y)) rest) (step b xs)
        ∙ ap (λ rest. a ∷ rest) (filter-cons (λ y. not (E a y)) b (filter (λ y. not (E b y)) (F xs)) (ap not e))

    at : (b : Bool) → E x y ≡ b → Permutes (F (x ∷ y ∷ xs)) (F (y ∷ x ∷ xs))
    at true e = subst (λ (z : X). Permutes (F (x ∷ z ∷ xs)) (F (z ∷ x ∷ xs))) (equal x y e) (Permutes-refl (F (x ∷ x ∷ xs)))
    at false e = rw (two x y e, two y x (sym (symm x y) ∙ e), filter-filter (λ z. not (E y z)) (λ z. not (E x z)) (F xs))
        (exchanges x y (filter (λ y. not (E x y)) (filter (λ z. not (E y z)) (F xs))))
distinct-permutes E F equal symm none step _ _ (goes_on {xs = xs} {ys = ys} {zs = zs} h k) =
    goes_on (distinct-permutes E F equal symm none step xs ys h) (distinct-permutes E F equal symm none step ys zs k)
