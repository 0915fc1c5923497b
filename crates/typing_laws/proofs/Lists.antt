-- What is true of each row of an outcome.
use Rattle.std.proofs.Common.{Bool, not, List, [], ◌∷◌, map, Ok, Err, IfOk, All}
use Rattle.std.specs.Prelude.{filter, flat_map}
use Rattle.std.proofs.lemmas.List.Elements.{All-nil, All-cons, All-head, All-tail, All-append, All-filter}
use Rattle.sqlval.specs.Value.{Row}
use Rattle.denote.specs.Evaluation.{Evaluation, ◌>>=◌, joined, together, unless, adding}
use Rattle.denote.specs.declared.fault.Fault.{Fault}
use Rattle.denote.specs.Outcome.{Outcome, before, each, through}
use Rattle.denote.specs.Bag.{distinct_by, Permutes, nothing, keeps, exchanges, goes_on}

-- ---- lists

pub All-flat_map : {X Y : Type 0} (P : X → Type 0) (Q : Y → Type 0) (f : X → List Y) → ((x : X) → P x → All Q (f x)) → (xs : List X) → All P xs → All Q (flat_map f xs)
All-flat_map P Q f good [] h = All-nil Q
All-flat_map P Q f good (x ∷ xs) h = All-append Q (f x) (flat_map f xs) (good x (All-head P x xs h)) (All-flat_map P Q f good xs (All-tail P x xs h))

pub All-mapped : {X Y : Type 0} (P : X → Type 0) (Q : Y → Type 0) (f : X → Y) → ((x : X) → P x → Q (f x)) → (xs : List X) → All P xs → All Q (map f xs)
All-mapped P Q f good [] h = All-nil Q
All-mapped P Q f good (x ∷ xs) h = All-cons Q (f x) (map f xs) (good x (All-head P x xs h)) (All-mapped P Q f good xs (All-tail P x xs h))

pub All-distinct : {X : Type 0} (P : X → Type 0) (alike : X → X → Bool) (xs : List X) → All P xs → All P (distinct_by alike xs)
All-distinct P alike [] h = All-nil P
All-distinct P alike (x ∷ xs) h =
    All-cons P x (filter (λ y. not (alike x y)) (distinct_by alike xs)) (All-head P x xs h) (All-filter (λ y. not (alike x y)) P (distinct_by alike xs) (All-distinct P alike xs (All-tail P x xs h)))

pub All-permutes : {X : Type 0} (P : X → Type 0) (xs ys : List X) → Permutes xs ys → All P xs → All P ys
All-permutes P _ _ nothing h = h
All-permutes P _ _ (keeps x {xs = xs} {ys = ys} p) h = All-cons P x ys (All-head P x xs h) (All-permutes P xs ys p (All-tail P x xs h))
All-permutes P _ _ (exchanges x y xs) h =
    let rest = All-tail P x (y ∷ xs) h in All-cons P y (x ∷ xs) (All-head P y xs rest) (All-cons P x xs (All-head P x (y ∷ xs) h) (All-tail P y xs rest))
All-permutes P _ _ (goes_on {xs = xs} {ys = ys} {zs = zs} p q) h = All-permutes P ys zs q (All-permutes P xs ys p h)

-- ---- evaluations

pub next-has : {A B : Type 0} (P : A → Type 0) (Q : B → Type 0) (x : Evaluation A) (next : A → Evaluation B) → IfOk x P → ((a : A) → P a → IfOk (next a) Q) → IfOk (x >>= next) Q
next-has P Q (Ok a) next h good = good a h
next-has P Q (Err faults) next h good = tt

pub follows-has : {A B : Type 0} (Q : B → Type 0) (x : Evaluation A) (next : A → Evaluation B) → ((a : A) → IfOk (next a) Q) → IfOk (x >>= next) Q
follows-has Q (Ok a) next good = good a
follows-has Q (Err faults) next good = tt

pub unless-has : {A : Type 0} (P : A → Type 0) (faults : List Fault) (x : A) → P x → IfOk (unless faults x) P
unless-has P [] x h = h
unless-has P (fault ∷ faults) x h = tt

pub adding-has : {A : Type 0} (P : A → Type 0) (faults : List Fault) (x : Evaluation A) → IfOk x P → IfOk (adding faults x) P
adding-has P [] x h = h
adding-has P (fault ∷ faults) x h = tt

joined-has : {A : Type 0} (P : A → Type 0) (x : Evaluation A) (xs : Evaluation (List A)) → IfOk x P → IfOk xs (All P) → IfOk (joined x xs) (All P)
joined-has P (Ok x) (Ok xs) h k = All-cons P x xs h k
joined-has P (Ok x) (Err faults) h k = tt
joined-has P (Err faults) xs h k = tt

-- the values of all that are evaluated, each of which has a property
pub together-has : {X A : Type 0} (P : X → Type 0) (Q : A → Type 0) (f : X → Evaluation A) → ((x : X) → P x → IfOk (f x) Q) → (xs : List X) → All P xs → IfOk (together (map f xs)) (All Q)
together-has P Q f good [] h = All-nil Q
together-has P Q f good (x ∷ xs) h = joined-has Q (f x) (together (map f xs)) (good x (All-head P x xs h)) (together-has P Q f good xs (All-tail P x xs h))

-- ---- outcomes

before-has : (P : Row → Type 0) (rows : Evaluation (List Row)) (others : Outcome) → IfOk rows (All P) → All P others.rows → All P (before rows others).rows
before-has P (Ok rows) others h k = All-append P rows others.rows h k
before-has P (Err faults) others h k = k

-- the rows that are made of rows one by one
pub each-has : (P Q : Row → Type 0) (at : Row → Evaluation (List Row)) → ((row : Row) → P row → IfOk (at row) (All Q)) → (rows : List Row) → All P rows → All Q (each at rows).rows
each-has P Q at good [] h = All-nil Q
each-has P Q at good (row ∷ rows) h = before-has Q (at row) (each at rows) (good row (All-head P row rows h)) (each-has P Q at good rows (All-tail P row rows h))

pub through-has : (P Q : Row → Type 0) (part : Outcome) (made : List Row → Outcome) → ((rows : List Row) → All P rows → All Q (made rows).rows) → All P part.rows → All Q (through part made).rows
unfolding through
through-has P Q part made good h = good part.rows h
