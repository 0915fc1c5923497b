-- Findings with a property where something is found, and what is put together of them.
use Rattle.std.proofs.Common.{◌≡◌, refl, subst, zero, suc, Bool, true, false, List, [], ◌∷◌, map, Ok, Err, IfOk, Contains, arith}
use Rattle.std.specs.Prelude.{flat_map, if◌then◌else◌}
use Rattle.std.specs.List.{AllByRecursion}
use Rattle.std.proofs.lemmas.List.Elements.{All-contains, All-from_recursion}
use Rattle.typing.specs.Finding.{Finding, ◌>>=◌, also, before, each}
use Rattle.typing_laws.proofs.TypeParts.{appended}

-- ---- lists

pub flattened : {X Y : Type 0} (P : Y → Type 0) (f : X → List Y) (xs : List X) → AllByRecursion (λ x. AllByRecursion P (f x)) xs → AllByRecursion P (flat_map f xs)
flattened P f [] h = tt
flattened P f (x ∷ xs) h = appended P (f x) (flat_map f xs) h.0 (flattened P f xs h.1)

pub weaker : {X : Type 0} (P Q : X → Type 0) → ((x : X) → P x → Q x) → (xs : List X) → AllByRecursion P xs → AllByRecursion Q xs
weaker P Q good [] h = tt
weaker P Q good (x ∷ xs) h = (good x h.0, weaker P Q good xs h.1)

pub contained : {X : Type 0} (P : X → Type 0) (xs : List X) → AllByRecursion P xs → (x : X) → Contains xs x → P x
contained P xs h x there = All-contains P xs x (All-from_recursion P xs h) there

pub each_contained : {X : Type 0} (P : X → Type 0) (xs : List X) → ((x : X) → Contains xs x → P x) → AllByRecursion P xs
each_contained P [] h = tt
each_contained P (x ∷ xs) h = (h x (zero, omega arith, refl), each_contained P xs (λ y c. h y (suc c.0, omega (arith, c.1), c.2)))

-- ---- findings

pub goes_on : {A B : Type 0} (P : A → Type 0) (Q : B → Type 0) (x : Finding A) (next : A → Finding B) → IfOk x P → ((a : A) → P a → IfOk (next a) Q) → IfOk (x >>= next) Q
goes_on P Q (Ok a) next h good = good a h
goes_on P Q (Err reasons) next h good = tt

pub follows : {A B : Type 0} (Q : B → Type 0) (x : Finding A) (next : A → Finding B) → ((a : A) → IfOk (next a) Q) → IfOk (x >>= next) Q
follows Q (Ok a) next good = good a
follows Q (Err reasons) next good = tt

pub beside : {A B : Type 0} (P : A → Type 0) (Q : B → Type 0) (x : Finding A) (y : Finding B) → IfOk x P → IfOk y Q → IfOk (also x y) (λ p. P p.0 × Q p.1)
beside P Q (Ok a) (Ok b) h k = (h, k)
beside P Q (Ok a) (Err reasons) h k = tt
beside P Q (Err reasons) y h k = tt

pub ahead : {A : Type 0} (P : A → Type 0) (x : Finding A) (xs : Finding (List A)) → IfOk x P → IfOk xs (AllByRecursion P) → IfOk (before x xs) (AllByRecursion P)
ahead P (Ok a) (Ok more) h k = (h, k)
ahead P (Ok a) (Err reasons) h k = tt
ahead P (Err reasons) xs h k = tt

pub all : {A : Type 0} (P : A → Type 0) (xs : List (Finding A)) → AllByRecursion (λ x. IfOk x P) xs → IfOk (each xs) (AllByRecursion P)
all P [] h = tt
all P (x ∷ xs) h = ahead P x (each xs) h.0 (all P xs h.1)

pub mapped : {X A : Type 0} (P : X → Type 0) (Q : A → Type 0) (f : X → Finding A) → ((x : X) → P x → IfOk (f x) Q) → (xs : List X) → AllByRecursion P xs → IfOk (each (map f xs)) (AllByRecursion Q)
mapped P Q f good [] h = tt
mapped P Q f good (x ∷ xs) h = ahead Q (f x) (each (map f xs)) (good x h.0) (mapped P Q f good xs h.1)

pub mapped_any : {X A : Type 0} (Q : A → Type 0) (f : X → Finding A) → ((x : X) → IfOk (f x) Q) → (xs : List X) → IfOk (each (map f xs)) (AllByRecursion Q)
mapped_any Q f good [] = tt
mapped_any Q f good (x ∷ xs) = ahead Q (f x) (each (map f xs)) (good x) (mapped_any Q f good xs)

-- of two beside each other, the second
pub second : {A B : Type 0} (Q : B → Type 0) (x : Finding A) (y : Finding B) → IfOk y Q → IfOk (also x y) (λ p. Q p.1)
second Q (Ok a) (Ok b) h = h
second Q (Ok a) (Err reasons) h = tt
second Q (Err reasons) y h = tt

pub either : {A : Type 0} (P : A → Type 0) (b : Bool) (x y : Finding A) → IfOk x P → IfOk y P → IfOk (if b then x else y) P
either P true x y h k = h
either P false x y h k = k

-- ---- what is found, as an equation

-- a property where it is found holds of what is found
pub holds : {A : Type 0} (P : A → Type 0) (x : Finding A) (a : A) → IfOk x P → x ≡ Ok a → P a
holds P x a h e = subst (λ y. IfOk y P) e h
