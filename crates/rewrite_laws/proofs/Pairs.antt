-- Lists of pairs, and filters of them.
use Rattle.denote.specs.From.{beside}
use Rattle.operator_laws.specs.Same.{Every}
use Rattle.sqlval.specs.Value.{Row}
use Rattle.std.proofs.Common.{◌≡◌, refl, sym, ap, ◌∙◌, Bool, List, [], ◌∷◌, ◌++◌, map, flat_map, true, false, ◌&&◌, cond, append_assoc}
use Rattle.std.proofs.lemmas.Grind.{flat_map-append}
use Rattle.std.proofs.lemmas.List.Elements.{filter-append}
use Rattle.std.specs.Prelude.{filter}

-- ---- filters

pub filter-takes : {X : Type 0} (p : X → Bool) (x : X) (xs : List X) → p x ≡ true → filter p (x ∷ xs) ≡ x ∷ filter p xs
filter-takes p x xs e = ap (λ b. cond b (x ∷ filter p xs) (filter p xs)) e

pub filter-drops : {X : Type 0} (p : X → Bool) (x : X) (xs : List X) → p x ≡ false → filter p (x ∷ xs) ≡ filter p xs
filter-drops p x xs e = ap (λ b. cond b (x ∷ filter p xs) (filter p xs)) e

pub filter-alike : {X : Type 0} (p q : X → Bool) (xs : List X) → Every (λ x. p x ≡ q x) xs → filter p xs ≡ filter q xs
filter-alike p q [] h = refl
filter-alike p q (x ∷ xs) h = ap (λ b. cond b (x ∷ filter p xs) (filter p xs)) h.0
    ∙ ap (λ rest. cond (q x) (x ∷ rest) rest) (filter-alike p q xs h.1)

pub filter-none : {X : Type 0} (p : X → Bool) (xs : List X) → Every (λ x. p x ≡ false) xs → filter p xs ≡ []
filter-none p [] h = refl
filter-none p (x ∷ xs) h = filter-drops p x xs h.0 ∙ filter-none p xs h.1

pub filter-mapped : {X Y : Type 0} (q : Y → Bool) (f : X → Y) (xs : List X)
    → filter q (map f xs) ≡ map f (filter (λ x. q (f x)) xs)
filter-mapped q f [] = refl
filter-mapped {X} {Y} q f (x ∷ xs) = at (q (f x)) (filter-mapped q f xs)
  where
    at : (b : Bool) → filter q (map f xs) ≡ map f (filter (λ x. q (f x)) xs)
        → cond b (f x ∷ filter q (map f xs)) (filter q (map f xs))
        ≡ map f (cond b (x ∷ filter (λ x. q (f x)) xs) (filter (λ x. q (f x)) xs))
    at true e = ap (λ rest. f x ∷ rest) e
    at false e = e

-- one filter behind another is a filter by both
pub filter-both : {X : Type 0} (p q : X → Bool) (xs : List X) → filter q (filter p xs) ≡ filter (λ x. p x && q x) xs
filter-both p q [] = refl
filter-both {X} p q (x ∷ xs) = at (p x) (filter-both p q xs)
  where
    at : (b : Bool) → filter q (filter p xs) ≡ filter (λ x. p x && q x) xs
        → filter q (cond b (x ∷ filter p xs) (filter p xs)) ≡ cond (b && q x) (x ∷ filter (λ x. p x && q x) xs)
        (filter (λ x. p x && q x) xs)
    at true e = ap (λ rest. cond (q x) (x ∷ rest) rest) e
    at false e = e

-- ---- facts of each element

pub every-all : {X : Type 0} (P : X → Type 0) (xs : List X) → ((x : X) → P x) → Every P xs
every-all P [] h = tt
every-all P (x ∷ xs) h = (h x, every-all P xs h)

pub every-then : {X : Type 0} (P Q : X → Type 0) (xs : List X) → Every P xs → ((x : X) → P x → Q x) → Every Q xs
every-then P Q [] h k = tt
every-then P Q (x ∷ xs) h k = (k x h.0, every-then P Q xs h.1 k)

pub every-mapped : {X Y : Type 0} (P : Y → Type 0) (f : X → Y) (xs : List X) → Every (λ x. P (f x)) xs
    → Every P (map f xs)
every-mapped P f [] h = tt
every-mapped P f (x ∷ xs) h = (h.0, every-mapped P f xs h.1)

pub every-append : {X : Type 0} (P : X → Type 0) (xs ys : List X) → Every P xs → Every P ys → Every P (xs ++ ys)
every-append P [] ys h k = k
every-append P (x ∷ xs) ys h k = (h.0, every-append P xs ys h.1 k)

pub every-flat : {X Y : Type 0} (P : Y → Type 0) (f : X → List Y) (xs : List X) → Every (λ x. Every P (f x)) xs
    → Every P (flat_map f xs)
every-flat P f [] h = tt
every-flat P f (x ∷ xs) h = every-append P (f x) (flat_map f xs) h.0 (every-flat P f xs h.1)

pub every-filter : {X : Type 0} (P : X → Type 0) (p : X → Bool) (xs : List X) → Every P xs → Every P (filter p xs)
every-filter P p [] h = tt
every-filter {X} P p (x ∷ xs) h = at (p x) (every-filter P p xs h.1)
  where
    at : (b : Bool) → Every P (filter p xs) → Every P (cond b (x ∷ filter p xs) (filter p xs))
    at true k = (h.0, k)
    at false k = k

-- ---- pairs

abbrev pub pairs : List Row → List Row → List Row
pairs left right = flat_map (λ row. beside row right) left

-- a test that looks at the left row alone
pub pairs-left : (p q : Row → Bool) (left right : List Row) → Every (λ x. (y : Row) → q (x ++ y) ≡ p x) left
    → filter q (pairs left right) ≡ pairs (filter p left) right
pairs-left p q [] right h = refl
pairs-left p q (x ∷ left) right h =
    filter-append q (beside x right) (pairs left right)
    ∙ ap (λ rest. filter q (beside x right) ++ rest) (pairs-left p q left right h.1)
    ∙ ap (λ first. first ++ pairs (filter p left) right) (filter-mapped q (λ y. x ++ y) right
    ∙ ap (map (λ y. x ++ y))
    (filter-alike (λ y. q (x ++ y)) (λ y. p x) right (every-all (λ y. q (x ++ y) ≡ p x) right h.0)))
    ∙ at (p x)
  where
    all : (ys : List Row) → filter (λ y. true) ys ≡ ys
    all [] = refl
    all (y ∷ ys) = ap (λ rest. y ∷ rest) (all ys)

    none : (ys : List Row) → filter (λ y. false) ys ≡ []
    none [] = refl
    none (y ∷ ys) = none ys

    at : (b : Bool) → map (λ y. x ++ y) (filter (λ y. b) right) ++ pairs (filter p left) right
        ≡ pairs (cond b (x ∷ filter p left) (filter p left)) right
    at true = ap (λ ys. map (λ y. x ++ y) ys ++ pairs (filter p left) right) (all right)
    at false = ap (λ ys. map (λ y. x ++ y) ys ++ pairs (filter p left) right) (none right)

-- a test that looks at the right row alone
pub pairs-right : (p q : Row → Bool) (left right : List Row) → Every (λ x. (y : Row) → q (x ++ y) ≡ p y) left
    → filter q (pairs left right) ≡ pairs left (filter p right)
pairs-right p q [] right h = refl
pairs-right p q (x ∷ left) right h =
    filter-append q (beside x right) (pairs left right)
    ∙ ap (λ rest. filter q (beside x right) ++ rest) (pairs-right p q left right h.1)
    ∙ ap (λ first. first ++ pairs left (filter p right))
    (filter-mapped q (λ y. x ++ y) right
    ∙ ap (map (λ y. x ++ y)) (filter-alike (λ y. q (x ++ y)) p right (every-all (λ y. q (x ++ y) ≡ p y) right h.0)))

-- a test that passes no pair of a left row but with rows that match
pub pairs-matching : (q : Row → Bool) (m : Row → Row → Bool) (left right : List Row)
    → Every (λ x. (y : Row) → q (x ++ y) ≡ true → m x y ≡ true) left
    → filter q (flat_map (λ x. beside x (filter (m x) right)) left) ≡ filter q (pairs left right)
pairs-matching q m [] right h = refl
pairs-matching q m (x ∷ left) right h =
    filter-append q (beside x (filter (m x) right)) (flat_map (λ x. beside x (filter (m x) right)) left)
    ∙ ap (λ rest. filter q (beside x (filter (m x) right)) ++ rest) (pairs-matching q m left right h.1)
    ∙ ap (λ first. first ++ filter q (pairs left right)) (filter-mapped q (λ y. x ++ y) (filter (m x) right)
    ∙ ap (map (λ y. x ++ y)) (narrowed right) ∙ sym (filter-mapped q (λ y. x ++ y) right))
    ∙ sym (filter-append q (beside x right) (pairs left right))
  where
    one : (b c : Bool) → (c ≡ true → b ≡ true) → (b && c) ≡ c
    one true c k = refl
    one false true k = absurd (let bad : false ≡ true = k refl in cc)
    one false false k = refl

    narrowed : (ys : List Row) → filter (λ y. q (x ++ y)) (filter (m x) ys) ≡ filter (λ y. q (x ++ y)) ys
    narrowed ys = filter-both (m x) (λ y. q (x ++ y)) ys
        ∙ filter-alike (λ y. m x y && q (x ++ y)) (λ y. q (x ++ y)) ys
        (every-all (λ y. (m x y && q (x ++ y)) ≡ q (x ++ y)) ys (λ y. one (m x y) (q (x ++ y)) (h.0 y)))

-- pairs of pairs
pub pairs-grouped : (firsts bs cs : List Row) → pairs (pairs firsts bs) cs ≡ pairs firsts (pairs bs cs)
pairs-grouped [] bs cs = refl
pairs-grouped (a ∷ firsts) bs cs =
    flat_map-append (λ row. beside row cs) (beside a bs) (pairs firsts bs)
    ∙ ap (λ rest. pairs (beside a bs) cs ++ rest) (pairs-grouped firsts bs cs)
    ∙ ap (λ first. first ++ pairs firsts (pairs bs cs)) (row a bs)
  where
    each : (a b : Row) (cs : List Row) → beside (a ++ b) cs ≡ map (λ y. a ++ y) (beside b cs)
    each a b [] = refl
    each a b (c ∷ cs) = ap (λ first. first ∷ beside (a ++ b) cs) (append_assoc a b c)
        ∙ ap (λ rest. (a ++ (b ++ c)) ∷ rest) (each a b cs)

    maps : (f : Row → Row) (xs ys : List Row) → map f (xs ++ ys) ≡ map f xs ++ map f ys
    maps f [] ys = refl
    maps f (x ∷ xs) ys = ap (λ rest. f x ∷ rest) (maps f xs ys)

    row : (a : Row) (bs : List Row) → pairs (beside a bs) cs ≡ beside a (pairs bs cs)
    row a [] = refl
    row a (b ∷ bs) = ap (λ rest. beside (a ++ b) cs ++ rest) (row a bs)
        ∙ ap (λ first. first ++ beside a (pairs bs cs)) (each a b cs)
        ∙ sym (maps (λ y. a ++ y) (beside b cs) (pairs bs cs))
