-- Members of lists that are mapped, filtered or joined.
use Rattle.std.proofs.Common.{◌≡◌, refl, ap, sym, ◌∙◌, subst, Bool, true, false, not, ◌&&◌, ◌||◌, List, [], ◌∷◌, ◌++◌, map, Option, Some, None, ◌⊎◌, inl, inr, arith}
use Rattle.std.specs.Prelude.{Contains, flat_map}
use Rattle.std.specs.List.{list_any, list_all, filter_map, cons_option}
use Rattle.std.proofs.lemmas.List.Elements.{Contains-append_left, Contains-append_right, Contains-append_cases}
use Rattle.operator_laws.specs.Same.{Every}
use Rattle.denote_laws.proofs.Missing.{none_in, first_or_later, any-contained}

pub same-some : {X : Type 0} (x y : X) → Some x ≡ Some y → x ≡ y
same-some x y e = cc

first-in : {X : Type 0} (x : X) (xs : List X) → Contains (x ∷ xs) x
first-in x xs = (0, omega arith, refl)

later-in : {X : Type 0} (z : X) (xs : List X) (x : X) → Contains xs x → Contains (z ∷ xs) x
later-in z xs x h = Contains-append_right (z ∷ []) xs x h

-- ---- a list that is mapped

pub mapped-in : {X Y : Type 0} (f : X → Y) (xs : List X) (x : X) → Contains xs x → Contains (map f xs) (f x)
mapped-in f [] x h = absurd (none_in x h)
mapped-in f (z ∷ xs) x h = by (first_or_later z xs x h) (mapped-in f xs x)
  where
    by : (z ≡ x) ⊎ Contains xs x → (Contains xs x → Contains (map f xs) (f x)) → Contains (f z ∷ map f xs) (f x)
    by (inl same) rest = subst (λ v. Contains (f z ∷ map f xs) (f v)) same (first-in (f z) (map f xs))
    by (inr later) rest = later-in (f z) (map f xs) (f x) (rest later)

pub of-mapped : {X Y : Type 0} (f : X → Y) (xs : List X) (y : Y) → Contains (map f xs) y → (x : X) × Contains xs x × (f x ≡ y)
of-mapped f [] y h = absurd (none_in y h)
of-mapped {X = X} f (z ∷ xs) y h = by (first_or_later (f z) (map f xs) y h) (of-mapped f xs y)
  where
    by : (f z ≡ y) ⊎ Contains (map f xs) y → (Contains (map f xs) y → (x : X) × Contains xs x × (f x ≡ y)) → (x : X) × Contains (z ∷ xs) x × (f x ≡ y)
    by (inl same) rest = (z, first-in z xs, same)
    by (inr later) rest = let one = rest later in (one.0, later-in z xs one.0 one.1, one.2)

-- ---- a list of what there is of each

pub filtered-in : {X Y : Type 0} (f : X → Option Y) (xs : List X) (x : X) (y : Y) → Contains xs x → f x ≡ Some y → Contains (filter_map f xs) y
filtered-in f [] x y h e = absurd (none_in x h)
filtered-in {Y = Y} f (z ∷ xs) x y h e = by (f z) refl (first_or_later z xs x h) (λ later. filtered-in f xs x y later e)
  where
    by : (o : Option Y) → f z ≡ o → (z ≡ x) ⊎ Contains xs x → (Contains xs x → Contains (filter_map f xs) y) → Contains (cons_option o (filter_map f xs)) y
    by None is (inl same) rest = absurd (let here = sym is ∙ ap f same ∙ e in cc here)
    by None is (inr later) rest = rest later
    by (Some w) is (inl same) rest = subst (λ v. Contains (v ∷ filter_map f xs) y) (sym (same-some w y (sym is ∙ ap f same ∙ e))) (first-in y (filter_map f xs))
    by (Some w) is (inr later) rest = later-in w (filter_map f xs) y (rest later)

pub of-filtered : {X Y : Type 0} (f : X → Option Y) (xs : List X) (y : Y) → Contains (filter_map f xs) y → (x : X) × Contains xs x × (f x ≡ Some y)
of-filtered f [] y h = absurd (none_in y h)
of-filtered {X = X} {Y = Y} f (z ∷ xs) y h = by (f z) refl h (of-filtered f xs y)
  where
    past : ((x : X) × Contains xs x × (f x ≡ Some y)) → (x : X) × Contains (z ∷ xs) x × (f x ≡ Some y)
    past one = (one.0, later-in z xs one.0 one.1, one.2)

    either : (w : Y) → f z ≡ Some w → (w ≡ y) ⊎ Contains (filter_map f xs) y → (Contains (filter_map f xs) y → (x : X) × Contains xs x × (f x ≡ Some y))
        → (x : X) × Contains (z ∷ xs) x × (f x ≡ Some y)
    either w is (inl same) rest = (z, first-in z xs, is ∙ ap Some same)
    either w is (inr later) rest = past (rest later)

    by : (o : Option Y) → f z ≡ o → Contains (cons_option o (filter_map f xs)) y → (Contains (filter_map f xs) y → (x : X) × Contains xs x × (f x ≡ Some y))
        → (x : X) × Contains (z ∷ xs) x × (f x ≡ Some y)
    by None is h rest = past (rest h)
    by (Some w) is h rest = either w is (first_or_later w (filter_map f xs) y h) rest

-- ---- lists of each, joined

pub joined-in : {X Y : Type 0} (f : X → List Y) (xs : List X) (x : X) (y : Y) → Contains xs x → Contains (f x) y → Contains (flat_map f xs) y
joined-in f [] x y h k = absurd (none_in x h)
joined-in f (z ∷ xs) x y h k = by (first_or_later z xs x h) (λ later. joined-in f xs x y later k)
  where
    by : (z ≡ x) ⊎ Contains xs x → (Contains xs x → Contains (flat_map f xs) y) → Contains (f z ++ flat_map f xs) y
    by (inl same) rest = Contains-append_left (f z) (flat_map f xs) y (subst (λ v. Contains (f v) y) (sym same) k)
    by (inr later) rest = Contains-append_right (f z) (flat_map f xs) y (rest later)

pub of-joined : {X Y : Type 0} (f : X → List Y) (xs : List X) (y : Y) → Contains (flat_map f xs) y → (x : X) × Contains xs x × Contains (f x) y
of-joined f [] y h = absurd (none_in y h)
of-joined {X = X} f (z ∷ xs) y h = by (Contains-append_cases (f z) (flat_map f xs) y h) (of-joined f xs y)
  where
    by : Contains (f z) y ⊎ Contains (flat_map f xs) y → (Contains (flat_map f xs) y → (x : X) × Contains xs x × Contains (f x) y)
        → (x : X) × Contains (z ∷ xs) x × Contains (f x) y
    by (inl here) rest = (z, first-in z xs, here)
    by (inr later) rest = let one = rest later in (one.0, later-in z xs one.0 one.1, one.2)

-- ---- tests of members

pub any-of : {X : Type 0} (p : X → Bool) (xs : List X) → list_any p xs ≡ true → (x : X) × Contains xs x × (p x ≡ true)
any-of p [] e = absurd (cc)
any-of {X = X} p (z ∷ xs) e = by (p z) refl e (any-of p xs)
  where
    by : (b : Bool) → p z ≡ b → (b || list_any p xs) ≡ true → (list_any p xs ≡ true → (x : X) × Contains xs x × (p x ≡ true)) → (x : X) × Contains (z ∷ xs) x × (p x ≡ true)
    by true is e rest = (z, first-in z xs, is)
    by false is e rest = let one = rest e in (one.0, later-in z xs one.0 one.1, one.2)

pub none-of : {X : Type 0} (p : X → Bool) (xs : List X) (x : X) → list_any p xs ≡ false → Contains xs x → p x ≡ false
none-of p xs x e h = by (p x) refl
  where
    by : (b : Bool) → p x ≡ b → p x ≡ false
    by true is = absurd (let found = any-contained p xs x h is in cc (found, e))
    by false is = is

pub all-of-none : {X : Type 0} (p : X → Bool) (xs : List X) → list_any (λ x. not (p x)) xs ≡ false → list_all p xs ≡ true
all-of-none p [] e = refl
all-of-none p (z ∷ xs) e = by (p z) e (all-of-none p xs)
  where
    by : (b : Bool) → (not b || list_any (λ x. not (p x)) xs) ≡ false → (list_any (λ x. not (p x)) xs ≡ false → list_all p xs ≡ true) → (b && list_all p xs) ≡ true
    by true e rest = rest e
    by false e rest = absurd (cc)

pub every-in : {X : Type 0} (P : X → Type 0) (xs : List X) → ((x : X) → Contains xs x → P x) → Every P xs
every-in P [] h = tt
every-in P (z ∷ xs) h = (h z (first-in z xs), every-in P xs (λ x inside. h x (later-in z xs x inside)))
