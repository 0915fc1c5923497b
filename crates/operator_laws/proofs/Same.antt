-- Steps of the meaning keep what is the same up to the order of rows.
use Rattle.std.proofs.Common.{◌≡◌, refl, sym, subst, List, [], ◌∷◌, ◌++◌, map, Ok, Err, arith}
use Rattle.std.specs.Prelude.{Contains}
use Rattle.std.proofs.lemmas.List.Elements.{Contains-append_left}
use Rattle.denote.specs.declared.fault.Fault.{Fault}
use Rattle.denote.specs.Evaluation.{Evaluation, ◌>>=◌, faults_in, unless, adding, joined, together}
use Rattle.denote.specs.Bag.{Permutes, nothing, keeps, exchanges, goes_on, HasSame}
use Rattle.operator_laws.proofs.Permuting.{Permutes-refl, HasSame-append, HasSame-trans, HasSame-permutes, Permutes-exchange, Permutes-map}
use Rattle.operator_laws.specs.Same.{IsAlikeBy, IsSameValue, IsSameBag, Each}

-- ---- sets

pub HasSame-refl : {X : Type 0} (xs : List X) → HasSame xs xs
HasSame-refl xs = λ x. (λ h. h, λ h. h)

pub HasSame-sym : {X : Type 0} (xs ys : List X) → HasSame xs ys → HasSame ys xs
HasSame-sym xs ys p = λ x. ((p x).1, (p x).0)

none_contained : {X : Type 0} (x : X) → Contains [] x → ⊥
none_contained x h = omega (arith, h.1)

contains_first : {X : Type 0} (x : X) (xs : List X) → Contains (x ∷ xs) x
contains_first x xs = Contains-append_left (x ∷ []) xs x (one x)
  where
    one : {X : Type 0} (x : X) → Contains (x ∷ []) x
    one x = search arith

-- a set without a member is that of no other
pub HasSame-some : {X : Type 0} (x : X) (xs : List X) → HasSame [] (x ∷ xs) → ⊥
HasSame-some x xs p = none_contained x ((p x).1 (contains_first x xs))

-- ---- evaluations

pub IsSameValue-refl : {A : Type 0} (x : Evaluation A) → IsSameValue x x
IsSameValue-refl (Ok x) = refl
IsSameValue-refl (Err faults) = HasSame-refl faults

pub IsSameValue-of : {A : Type 0} (x y : Evaluation A) → x ≡ y → IsSameValue x y
IsSameValue-of {A = A} x y e = subst (λ (z : Evaluation A). IsSameValue x z) e (IsSameValue-refl x)

pub IsSameValue-sym : {A : Type 0} (x y : Evaluation A) → IsSameValue x y → IsSameValue y x
IsSameValue-sym (Ok x) (Ok y) e = sym e
IsSameValue-sym (Ok x) (Err faults) e = e
IsSameValue-sym (Err faults) (Ok y) e = e
IsSameValue-sym (Err faults) (Err others) e = HasSame-sym faults others e

-- the next step, in which related values give related ones
pub next-alike : {A B C D : Type 0} (R : A → B → Type 0) (S : C → D → Type 0) (x : Evaluation A) (y : Evaluation B) (f : A → Evaluation C) (g : B → Evaluation D)
    → IsAlikeBy R x y → ((a : A) (b : B) → R a b → IsAlikeBy S (f a) (g b)) → IsAlikeBy S (x >>= f) (y >>= g)
next-alike R S (Ok x) (Ok y) f g e h = h x y e
next-alike R S (Ok x) (Err faults) f g e h = absurd e
next-alike R S (Err faults) (Ok y) f g e h = absurd e
next-alike R S (Err faults) (Err others) f g e h = e

pub next-same : {A C : Type 0} (x y : Evaluation A) (f g : A → Evaluation C) → IsSameValue x y → ((a : A) → IsSameValue (f a) (g a))
    → IsSameValue (x >>= f) (y >>= g)
next-same {A = A} {C = C} x y f g e h =
    next-alike (λ (a b : A). a ≡ b) (λ (a b : C). a ≡ b) x y f g e (λ a b k. subst (λ (z : A). IsSameValue (f a) (g z)) k (h a))

-- a total function of the value
pub then-same : {A C : Type 0} (x y : Evaluation A) (f : A → Evaluation C) → IsSameValue x y → IsSameValue (x >>= f) (y >>= f)
then-same x y f e = next-same x y f f e (λ a. IsSameValue-refl (f a))

pub faults_in-same : {A B : Type 0} (R : A → B → Type 0) (x : Evaluation A) (y : Evaluation B) → IsAlikeBy R x y → HasSame (faults_in x) (faults_in y)
faults_in-same R (Ok x) (Ok y) e = HasSame-refl []
faults_in-same R (Ok x) (Err faults) e = absurd e
faults_in-same R (Err faults) (Ok y) e = absurd e
faults_in-same R (Err faults) (Err others) e = e

pub unless-alike : {A B : Type 0} (R : A → B → Type 0) (faults others : List Fault) (x : A) (y : B) → HasSame faults others → (faults ≡ [] → R x y)
    → IsAlikeBy R (unless faults x) (unless others y)
unless-alike R [] [] x y h k = k refl
unless-alike R [] (other ∷ others) x y h k = absurd (HasSame-some other others h)
unless-alike R (fault ∷ faults) [] x y h k = absurd (HasSame-some fault faults (HasSame-sym (fault ∷ faults) [] h))
unless-alike R (fault ∷ faults) (other ∷ others) x y h k = h

pub adding-alike : {A B : Type 0} (R : A → B → Type 0) (faults others : List Fault) (x : Evaluation A) (y : Evaluation B) → HasSame faults others
    → IsAlikeBy R x y → IsAlikeBy R (adding faults x) (adding others y)
adding-alike R [] [] x y h k = k
adding-alike R [] (other ∷ others) x y h k = absurd (HasSame-some other others h)
adding-alike R (fault ∷ faults) [] x y h k = absurd (HasSame-some fault faults (HasSame-sym (fault ∷ faults) [] h))
adding-alike R (fault ∷ faults) (other ∷ others) x y h k = HasSame-append (fault ∷ faults) (other ∷ others) (faults_in x) (faults_in y) h (faults_in-same R x y k)

-- ---- several evaluations

joined-same : {A : Type 0} (x y : Evaluation A) (xs ys : Evaluation (List A)) → IsSameValue x y → IsSameValue xs ys → IsSameValue (joined x xs) (joined y ys)
joined-same (Ok x) (Ok y) (Ok xs) (Ok ys) e h = cc
joined-same (Ok x) (Ok y) (Ok xs) (Err others) e h = absurd h
joined-same (Ok x) (Ok y) (Err faults) (Ok ys) e h = absurd h
joined-same (Ok x) (Ok y) (Err faults) (Err others) e h = h
joined-same (Ok x) (Err others) xs ys e h = absurd e
joined-same (Err faults) (Ok y) xs ys e h = absurd e
joined-same {A = A} (Err faults) (Err others) xs ys e h = HasSame-append faults others (faults_in xs) (faults_in ys) e
    (faults_in-same (λ (a b : List A). a ≡ b) xs ys h)

pub together-same : {A : Type 0} (xs ys : List (Evaluation A)) → Each IsSameValue xs ys → IsSameValue (together xs) (together ys)
together-same [] [] h = refl
together-same [] (y ∷ ys) h = absurd h
together-same (x ∷ xs) [] h = absurd h
together-same (x ∷ xs) (y ∷ ys) h = joined-same x y (together xs) (together ys) h.0 (together-same xs ys h.1)

pub IsSameBag-refl : {A : Type 0} (x : Evaluation (List A)) → IsSameBag x x
IsSameBag-refl (Ok x) = Permutes-refl x
IsSameBag-refl (Err faults) = HasSame-refl faults

pub IsSameBag-trans : {A : Type 0} (x y z : Evaluation (List A)) → IsSameBag x y → IsSameBag y z → IsSameBag x z
IsSameBag-trans (Ok x) (Ok y) (Ok z) p q = goes_on p q
IsSameBag-trans (Ok x) (Ok y) (Err faults) p q = absurd q
IsSameBag-trans (Ok x) (Err faults) z p q = absurd p
IsSameBag-trans (Err faults) (Ok y) z p q = absurd p
IsSameBag-trans (Err faults) (Err others) (Ok z) p q = absurd q
IsSameBag-trans (Err faults) (Err others) (Err more) p q = HasSame-trans faults others more p q

pub IsSameBag-of : {A : Type 0} (x y : Evaluation (List A)) → IsSameValue x y → IsSameBag x y
IsSameBag-of {A = A} (Ok x) (Ok y) e = subst (λ (z : List A). Permutes x z) e (Permutes-refl x)
IsSameBag-of (Ok x) (Err faults) e = absurd e
IsSameBag-of (Err faults) (Ok y) e = absurd e
IsSameBag-of (Err faults) (Err others) e = e

joined-bag : {A : Type 0} (x : Evaluation A) (xs ys : Evaluation (List A)) → IsSameBag xs ys → IsSameBag (joined x xs) (joined x ys)
joined-bag (Ok x) (Ok xs) (Ok ys) p = keeps x p
joined-bag (Ok x) (Ok xs) (Err others) p = absurd p
joined-bag (Ok x) (Err faults) (Ok ys) p = absurd p
joined-bag (Ok x) (Err faults) (Err others) p = p
joined-bag {A = A} (Err faults) xs ys p = HasSame-append faults faults (faults_in xs) (faults_in ys) (HasSame-refl faults)
    (faults_in-same (λ (a b : List A). Permutes a b) xs ys p)

joined-exchange : {A : Type 0} (x y : Evaluation A) (xs : Evaluation (List A)) → IsSameBag (joined x (joined y xs)) (joined y (joined x xs))
joined-exchange (Ok x) (Ok y) (Ok xs) = exchanges x y xs
joined-exchange (Ok x) (Ok y) (Err faults) = HasSame-refl faults
joined-exchange (Ok x) (Err others) (Ok xs) = HasSame-refl (others ++ [])
joined-exchange (Ok x) (Err others) (Err faults) = HasSame-refl (others ++ faults)
joined-exchange (Err others) (Ok y) (Ok xs) = HasSame-refl (others ++ [])
joined-exchange (Err others) (Ok y) (Err faults) = HasSame-refl (others ++ faults)
joined-exchange (Err others) (Err more) xs = HasSame-permutes (others ++ (more ++ faults_in xs)) (more ++ (others ++ faults_in xs))
    (Permutes-exchange others more (faults_in xs))

pub together-permutes : {A : Type 0} (xs ys : List (Evaluation A)) → Permutes xs ys → IsSameBag (together xs) (together ys)
together-permutes _ _ nothing = nothing
together-permutes _ _ (keeps x {xs = xs} {ys = ys} p) = joined-bag x (together xs) (together ys) (together-permutes xs ys p)
together-permutes _ _ (exchanges x y xs) = joined-exchange x y (together xs)
together-permutes _ _ (goes_on {xs = xs} {ys = ys} {zs = zs} p q) = IsSameBag-trans (together xs) (together ys) (together zs)
    (together-permutes xs ys p) (together-permutes ys zs q)

-- ---- lists of meanings

pub Each-maps : {Z A B : Type 0} (R : A → B → Type 0) (f : Z → A) (g : Z → B) (zs : List Z) → ((z : Z) → R (f z) (g z)) → Each R (map f zs) (map g zs)
Each-maps R f g [] h = tt
Each-maps R f g (z ∷ zs) h = (h z, Each-maps R f g zs h)

pub Each-map : {A B C D : Type 0} (R : A → B → Type 0) (S : C → D → Type 0) (f : A → C) (g : B → D) (xs : List A) (ys : List B) → Each R xs ys
    → ((x : A) (y : B) → R x y → S (f x) (g y)) → Each S (map f xs) (map g ys)
Each-map R S f g [] [] e h = tt
Each-map R S f g [] (y ∷ ys) e h = absurd e
Each-map R S f g (x ∷ xs) [] e h = absurd e
Each-map R S f g (x ∷ xs) (y ∷ ys) e h = (h x y e.0, Each-map R S f g xs ys e.1 h)

pub Each-mapped : {Z B A C : Type 0} (R : A → C → Type 0) (f : B → A) (g : B → C) (h : Z → B) (zs : List Z) → ((z : Z) → R (f (h z)) (g (h z)))
    → Each R (map f (map h zs)) (map g (map h zs))
Each-mapped R f g h [] k = tt
Each-mapped R f g h (z ∷ zs) k = (k z, Each-mapped R f g h zs k)

-- evaluations of the same list in another order, by meanings that agree
pub together-rows : {Z A : Type 0} (f g : Z → Evaluation A) (xs ys : List Z) → ((z : Z) → IsSameValue (f z) (g z)) → Permutes xs ys
    → IsSameBag (together (map f xs)) (together (map g ys))
together-rows {Z = Z} {A = A} f g xs ys h p =
    IsSameBag-trans (together (map f xs)) (together (map f ys)) (together (map g ys))
    (together-permutes (map f xs) (map f ys) (Permutes-map f xs ys p))
    (IsSameBag-of (together (map f ys)) (together (map g ys)) (together-same (map f ys) (map g ys) (Each-maps IsSameValue f g ys h)))
