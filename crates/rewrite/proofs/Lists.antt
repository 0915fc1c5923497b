-- Lists that a walk passes, part by part.
use Rattle.std.proofs.Common.{◌≡◌, refl, sym, ap, subst, ◌∙◌, ℕ, Bool, true, false, List, [], ◌∷◌, ◌++◌, length, map, Option, Some, None, Result, Ok, Err, append_assoc, append-nil, arith}
use Rattle.std.specs.Prelude.{◌||◌, IfOk, IsOkAnd}
use Rattle.algebra.specs.declared.tree.Tree.{Tree}
use Rattle.rules.specs.Paths.{Inside, as_list, as_pairs, no_part, two}
use Rattle.rule_steps.specs.declared.attempt.Attempt.{Attempt}
use Rattle.rewrite.specs.Visits.{Here, mapped, passed, together, unchanged, visit, with_last}
use Rattle.rewrite.proofs.Visiting.{passed-none, passed-two, visit-none, visit-two}

-- what was made of the parts before, and of those behind
abbrev pub behind : {X : Type 0} → Attempt (List X) → Attempt (List X) → Attempt (List X)
behind front rest = record { part = front.part ++ rest.part; changed = front.changed || rest.changed }

-- ---- a part at the front

pub visit-first : {X : Type 0} (here : Here) (path : List ℕ) (x : Inside X) (xs : List (Inside X)) (place : Option ℕ)
    → visit here path (as_list (x ∷ xs)) place
    ≡ together (λ y ys. y ∷ ys) (visit here path x place) (visit here path (as_list xs) (passed x place))
visit-first here path x xs place = visit-two here path (λ y ys. y ∷ ys) x (as_list xs) place

pub passed-first : {X : Type 0} (x : Inside X) (xs : List (Inside X)) (place : Option ℕ)
    → passed (as_list (x ∷ xs)) place ≡ passed (as_list xs) (passed x place)
passed-first {X} x xs place = passed-two (λ (y : X) (ys : List X). y ∷ ys) x (as_list xs) place

pub visit-end : {X : Type 0} (here : Here) (path : List ℕ) (place : Option ℕ)
    → visit here path (as_list {X = X} []) place ≡ unchanged []
visit-end {X} here path place = visit-none {Z = List X} here path [] place

pub passed-end : (X : Type 0) (place : Option ℕ) → passed (as_list {X = X} []) place ≡ place
passed-end X place = passed-none {Z = List X} [] place

pub visit-first_pair : {O X : Type 0} (here : Here) (path : List ℕ) (o : O) (x : Inside X) (xs : List (O × Inside X))
    (place : Option ℕ) → visit here path (as_pairs ((o, x) ∷ xs)) place
    ≡ together (λ y ys. y ∷ ys) (mapped (λ y. (o, y)) (visit here path x place)) (visit here path (as_pairs xs) (passed x place))
visit-first_pair here path o x xs place = visit-two here path (λ y ys. (o, y) ∷ ys) x (as_pairs xs) place

pub passed-first_pair : {O X : Type 0} (o : O) (x : Inside X) (xs : List (O × Inside X)) (place : Option ℕ)
    → passed (as_pairs ((o, x) ∷ xs)) place ≡ passed (as_pairs xs) (passed x place)
passed-first_pair {O} {X} o x xs place = passed-two (λ (y : X) (ys : List (O × X)). (o, y) ∷ ys) x (as_pairs xs) place

pub visit-end_pairs : {O X : Type 0} (here : Here) (path : List ℕ) (place : Option ℕ)
    → visit here path (as_pairs {O = O} {X = X} []) place ≡ unchanged []
visit-end_pairs {O} {X} here path place = visit-none {Z = List (O × X)} here path [] place

pub passed-end_pairs : (O X : Type 0) (place : Option ℕ) → passed (as_pairs {O = O} {X = X} []) place ≡ place
passed-end_pairs O X place = passed-none {Z = List (O × X)} [] place

-- ---- a turn of a loop

or-assoc : (a b c : Bool) → ((a || b) || c) ≡ (a || (b || c))
or-assoc true b c = refl
or-assoc false b c = refl

or-none : (a : Bool) → (a || false) ≡ a
or-none true = refl
or-none false = refl

pub behind-last : {X : Type 0} (front : Attempt (List X)) (x : Attempt X) (rest : Attempt (List X))
    → behind (with_last front x) rest ≡ behind front (together (λ y ys. y ∷ ys) x rest)
behind-last front x rest = λ i. record {
  part = append_assoc front.part (x.part ∷ []) rest.part i;
  changed = or-assoc front.changed x.changed rest.changed i;
}

pub behind-none : {X : Type 0} (front : Attempt (List X)) → behind front (unchanged []) ≡ front
behind-none front = λ i. record { part = append-nil front.part i; changed = or-none front.changed i }

-- with one more part at the end
pub list-goes : {X E : Type 0} (list result : Result (Attempt (List X)) E) (part : Result (Attempt X) E)
    (x : Attempt X) (rest whole : Attempt (List X))
    → IfOk list (λ front. behind front (together (λ y ys. y ∷ ys) x rest) ≡ whole)
    → IfOk part (λ p. p ≡ x)
    → IfOk result (λ made. IsOkAnd list (λ front. (y : Attempt X) → IfOk part (λ p. p ≡ y) → made ≡ with_last front y))
    → IfOk result (λ made. behind made rest ≡ whole)
list-goes list (Err error) part x rest whole e is made = tt
list-goes (Err error) (Ok made) part x rest whole e is got = absurd got
list-goes {X} (Ok front) (Ok made) part x rest whole e is got =
    ap (λ (z : Attempt (List X)). behind z rest) (got x is) ∙ behind-last front x rest ∙ e

-- all parts are passed
pub list-ends : {X E : Type 0} (list : Result (Attempt (List X)) E) (rest whole : Attempt (List X))
    → IfOk list (λ front. behind front rest ≡ whole) → rest ≡ unchanged [] → IfOk list (λ made. made ≡ whole)
list-ends (Err error) rest whole e is = tt
list-ends (Ok front) rest whole e is = sym (behind-none front) ∙ ap (behind front) (sym is) ∙ e

-- ---- a turn of a loop over parts, and its end

pub turn : {X E : Type 0} (here : Here) (path : List ℕ) (inside : X → Inside X) (old new : List X) (item : X) (place more : Option ℕ)
    (list result : Result (Attempt (List X)) E) (part : Result (Attempt X) E) (whole : Attempt (List X))
    → old ≡ item ∷ new → more ≡ passed (inside item) place
    → IfOk list (λ front. behind front (visit here path (as_list (map inside old)) place) ≡ whole)
    → IfOk part (λ p. p ≡ visit here path (inside item) place)
    → IfOk result (λ made. IsOkAnd list (λ front. (y : Attempt X) → IfOk part (λ p. p ≡ y) → made ≡ with_last front y))
    → IfOk result (λ made. behind made (visit here path (as_list (map inside new)) more) ≡ whole)
turn {X} here path inside old new item place more list result part whole is on before made pushed =
    list-goes list result part (visit here path (inside item) place) (visit here path (as_list (map inside new)) more) whole
    (subst (λ (r : Attempt (List X)). IfOk list (λ front. behind front r ≡ whole)) ahead before) made pushed
  where
    ahead : visit here path (as_list (map inside old)) place
        ≡ together (λ y ys. y ∷ ys) (visit here path (inside item) place) (visit here path (as_list (map inside new)) more)
    ahead = ap (λ (l : List X). visit here path (as_list (map inside l)) place) is
        ∙ visit-first here path (inside item) (map inside new) place
        ∙ ap (λ (p : Option ℕ). together (λ (y : X) (ys : List X). y ∷ ys) (visit here path (inside item) place)
        (visit here path (as_list (map inside new)) p)) (sym on)

pub turn-passed : {X : Type 0} (inside : X → Inside X) (old new : List X) (item : X) (place more end : Option ℕ)
    → old ≡ item ∷ new → more ≡ passed (inside item) place → passed (as_list (map inside old)) place ≡ end
    → passed (as_list (map inside new)) more ≡ end
turn-passed {X} inside old new item place more end is on before =
    ap (λ (p : Option ℕ). passed (as_list (map inside new)) p) on ∙ sym (passed-first (inside item) (map inside new) place)
    ∙ sym (ap (λ (l : List X). passed (as_list (map inside l)) place) is) ∙ before

pub last-turn : {X E : Type 0} (here : Here) (path : List ℕ) (inside : X → Inside X) (old : List X) (place : Option ℕ)
    (list : Result (Attempt (List X)) E) (whole : Attempt (List X)) → old ≡ []
    → IfOk list (λ front. behind front (visit here path (as_list (map inside old)) place) ≡ whole)
    → IfOk list (λ made. made ≡ whole)
last-turn {X} here path inside old place list whole is before =
    list-ends list (visit here path (as_list (map inside old)) place) whole before
    (ap (λ (l : List X). visit here path (as_list (map inside l)) place) is ∙ visit-end here path place)

-- ---- likewise over pairs

abbrev pub inside_pairs : {O X : Type 0} → (X → Inside X) → List (O × X) → Inside (List (O × X))
inside_pairs inside pairs = as_pairs (map (λ other. (other.0, inside other.1)) pairs)

pub pair-turn : {O X E : Type 0} (here : Here) (path : List ℕ) (inside : X → Inside X) (old new : List (O × X)) (o : O) (item : X)
    (place more : Option ℕ) (list result : Result (Attempt (List (O × X))) E) (part : Result (Attempt (O × X)) E)
    (whole : Attempt (List (O × X))) → old ≡ (o, item) ∷ new → more ≡ passed (inside item) place
    → IfOk list (λ front. behind front (visit here path (inside_pairs inside old) place) ≡ whole)
    → IfOk part (λ p. p ≡ mapped (λ y. (o, y)) (visit here path (inside item) place))
    → IfOk result (λ made. IsOkAnd list (λ front. (y : Attempt (O × X)) → IfOk part (λ p. p ≡ y) → made ≡ with_last front y))
    → IfOk result (λ made. behind made (visit here path (inside_pairs inside new) more) ≡ whole)
pair-turn {O} {X} here path inside old new o item place more list result part whole is on before made pushed =
    list-goes list result part (mapped (λ y. (o, y)) (visit here path (inside item) place)) (visit here path (inside_pairs inside new) more) whole
    (subst (λ (r : Attempt (List (O × X))). IfOk list (λ front. behind front r ≡ whole)) ahead before) made pushed
  where
    ahead : visit here path (inside_pairs inside old) place
        ≡ together (λ y ys. y ∷ ys) (mapped (λ y. (o, y)) (visit here path (inside item) place)) (visit here path (inside_pairs inside new) more)
    ahead = ap (λ (l : List (O × X)). visit here path (inside_pairs inside l) place) is
        ∙ visit-first_pair here path o (inside item) (map (λ (other : O × X). (other.0, inside other.1)) new) place
        ∙ ap (λ (p : Option ℕ). together (λ (y : O × X) (ys : List (O × X)). y ∷ ys) (mapped (λ (y : X). (o, y)) (visit here path (inside item) place))
        (visit here path (inside_pairs inside new) p)) (sym on)

pub pair-turn-passed : {O X : Type 0} (inside : X → Inside X) (old new : List (O × X)) (o : O) (item : X) (place more end : Option ℕ)
    → old ≡ (o, item) ∷ new → more ≡ passed (inside item) place → passed (inside_pairs inside old) place ≡ end
    → passed (inside_pairs inside new) more ≡ end
pair-turn-passed {O} {X} inside old new o item place more end is on before =
    ap (λ (p : Option ℕ). passed (inside_pairs inside new) p) on
    ∙ sym (passed-first_pair o (inside item) (map (λ (other : O × X). (other.0, inside other.1)) new) place)
    ∙ sym (ap (λ (l : List (O × X)). passed (inside_pairs inside l) place) is) ∙ before

pub last-pair-turn : {O X E : Type 0} (here : Here) (path : List ℕ) (inside : X → Inside X) (old : List (O × X)) (place : Option ℕ)
    (list : Result (Attempt (List (O × X))) E) (whole : Attempt (List (O × X))) → old ≡ []
    → IfOk list (λ front. behind front (visit here path (inside_pairs inside old) place) ≡ whole)
    → IfOk list (λ made. made ≡ whole)
last-pair-turn {O} {X} here path inside old place list whole is before =
    list-ends list (visit here path (inside_pairs inside old) place) whole before
    (ap (λ (l : List (O × X)). visit here path (inside_pairs inside l) place) is ∙ visit-end_pairs here path place)

pub empty : {X : Type 0} (xs : List X) → length xs ≡ 0 → xs ≡ []
empty [] e = refl
empty (x ∷ xs) e = absurd (omega (arith, e))
