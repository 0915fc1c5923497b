-- The rows of an INSERT, put together.
use Rattle.std.proofs.Common.{◌≡◌, refl, ℕ, suc, ◌+◌, ◌<◌, add-one, List, [], ◌∷◌, ◌++◌, map, length, get_or, drop, drop-cons, Ok, Err, ap, sym, ◌∙◌, arith}
use Rattle.std.specs.Prelude.{flat_map, ◌==◌, ◌≤◌, ◌-◌, ◌^◌, min, position, slice_get, option_and_then, Option, Some, None}
use Rattle.std.specs.Option.{option_map}
use Rattle.std.proofs.lemmas.Option.{slice_get-map}
use Rattle.sqlval.specs.CodedLength.{row_length}
use Rattle.sqlval.specs.Value.{Row}
use Rattle.denote.specs.StoredRow.{given_for, record_faults}
use Rattle.std.specs.List.{enumerate_from}
use Rattle.denote.specs.declared.fault.Fault.{Fault as Raised}
use Rattle.denote.specs.declared.fault.Stop.{Stop}
use Rattle.denote.specs.Evaluation.{Evaluation, together}
use Rattle.denote.specs.Stop.{Gives, IsFaultOf}
use Rattle.denote.proofs.GivesLemmas.{after, after-step, Gives-joined_err, IsFaultOf-left}

-- ---- values that may each fault: one more, and the exit where one faults

pub together-next : {X A : Type 0} (f : X → Evaluation A) (found : List A) (items : List X) (i : ℕ) (item : X) (x : A) → i < length items → item ≡ get_or items i item → f item ≡ Ok x → after found (together (map f (drop i items))) ≡ after (found ++ x ∷ []) (together (map f (drop (i + 1) items)))
together-next f found items i item x below is value =
    let e : drop i items ≡ item ∷ drop (suc i) items = drop-cons items i item below ∙ ap (λ x. x ∷ drop (suc i) items) (sym is) in
    rw (e, value, add-one) (after-step found x (together (map f (drop (suc i) items))))

pub Gives-together_item : {X A : Type 0} (s : Stop) (f : X → Evaluation A) (found : List A) (items : List X) (i : ℕ) (item : X) → i < length items → item ≡ get_or items i item → Gives (Err s) (f item) → Gives (Err s) (after found (together (map f (drop i items))))
Gives-together_item s f found items i item below is h =
    let e : drop i items ≡ item ∷ drop (suc i) items = drop-cons items i item below ∙ ap (λ x. x ∷ drop (suc i) items) (sym is) in
    rw e (Gives-joined_err s found (f item) (together (map f (drop (suc i) items))) h)

-- the same, each item with its place
pub together_places-next : {X A : Type 0} (f : ℕ × X → Evaluation A) (found : List A) (items : List X) (i : ℕ) (item : X) (x : A) → i < length items → item ≡ get_or items i item → f (i, item) ≡ Ok x → after found (together (map f (enumerate_from i (drop i items)))) ≡ after (found ++ x ∷ []) (together (map f (enumerate_from (i + 1) (drop (i + 1) items))))
together_places-next f found items i item x below is value =
    let e : drop i items ≡ item ∷ drop (suc i) items = drop-cons items i item below ∙ ap (λ x. x ∷ drop (suc i) items) (sym is) in
    rw (e, value, add-one) (after-step found x (together (map f (enumerate_from (suc i) (drop (suc i) items)))))

pub Gives-together_place : {X A : Type 0} (s : Stop) (f : ℕ × X → Evaluation A) (found : List A) (items : List X) (i : ℕ) (item : X) → i < length items → item ≡ get_or items i item → Gives (Err s) (f (i, item)) → Gives (Err s) (after found (together (map f (enumerate_from i (drop i items)))))
Gives-together_place s f found items i item below is h =
    let e : drop i items ≡ item ∷ drop (suc i) items = drop-cons items i item below ∙ ap (λ x. x ∷ drop (suc i) items) (sym is) in
    rw e (Gives-joined_err s found (f (i, item)) (together (map f (enumerate_from (i + 1) (drop (suc i) items)))) h)

-- ---- faults of many

pub IsFaultOf-flat_map : {X : Type 0} (s : Stop) (f : X → List Raised) (items : List X) (i : ℕ) (item : X) → i < length items → item ≡ get_or items i item → IsFaultOf (f item) s → IsFaultOf (flat_map f (drop i items)) s
IsFaultOf-flat_map s f items i item below is h =
    let e : drop i items ≡ item ∷ drop (suc i) items = drop-cons items i item below ∙ ap (λ x. x ∷ drop (suc i) items) (sym is) in
    rw e (IsFaultOf-left s (f item) (flat_map f (drop (suc i) items)) h)

pub flat_map-skip : {X : Type 0} (f : X → List Raised) (items : List X) (i : ℕ) (item : X) → i < length items → item ≡ get_or items i item → f item ≡ [] → flat_map f (drop (i + 1) items) ≡ flat_map f (drop i items)
flat_map-skip f items i item below is none =
    let e : drop i items ≡ item ∷ drop (suc i) items = drop-cons items i item below ∙ ap (λ x. x ∷ drop (suc i) items) (sym is) in
    rw (e, none, add-one) refl

pub flat_map-map : {X Y A : Type 0} (f : Y → List A) (g : X → Y) (items : List X) → flat_map f (map g items) ≡ flat_map (λ x. f (g x)) items
flat_map-map f g [] = refl
flat_map-map f g (x ∷ items) = ap (λ rest. f (g x) ++ rest) (flat_map-map f g items)

-- ---- what is given for a column

pub given_for-map : {A B : Type 0} (f : A → B) (place : ℕ) (columns : List ℕ) (items : List A) → given_for place columns (map f items) ≡ option_map f (given_for place columns items)
given_for-map f place columns items = at (position (λ column. column == place) columns)
  where
    at : (found : Option ℕ) → option_and_then (slice_get (map f items)) found ≡ option_map f (option_and_then (slice_get items) found)
    at None = refl
    at (Some k) = slice_get-map f items k

-- a row that is short enough
pub record_faults-none : (row : Row) (n : ℕ) → n ≡ min (row_length row) (2 ^ 64 - 1) → n ≤ 1000 → record_faults row ≡ []
record_faults-none row n is short = grind arith
