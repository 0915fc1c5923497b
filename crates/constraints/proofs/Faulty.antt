-- Faults of many rows or indexes, by a loop over them.
use Rattle.std.proofs.Common.{◌≡◌, refl, ℕ, suc, ◌+◌, ◌<◌, add-one, List, [], ◌∷◌, ◌++◌, map, length, get_or, drop, drop-cons, ap, sym, ◌∙◌, arith}
use Rattle.std.specs.Prelude.{flat_map, ◌≤◌, ◌-◌, ◌^◌, min}
use Rattle.sqlval.specs.CodedLength.{row_length}
use Rattle.sqlval.specs.Value.{Row}
use Rattle.denote.specs.declared.fault.Fault.{Fault as Raised}
use Rattle.denote.specs.declared.fault.Stop.{Stop}
use Rattle.denote.specs.Stop.{IsFaultOf}
use Rattle.denote.specs.StoredRow.{record_faults}
use Rattle.denote.proofs.GivesLemmas.{IsFaultOf-left}

-- the exit where one faults
pub IsFaultOf-flat_map : {X : Type 0} (s : Stop) (f : X → List Raised) (items : List X) (i : ℕ) (item : X) → i < length items → item ≡ get_or items i item → IsFaultOf (f item) s
    → IsFaultOf (flat_map f (drop i items)) s
IsFaultOf-flat_map s f items i item below is h =
    let e : drop i items ≡ item ∷ drop (suc i) items = drop-cons items i item below ∙ ap (λ x. x ∷ drop (suc i) items) (sym is) in
    rw e (IsFaultOf-left s (f item) (flat_map f (drop (suc i) items)) h)

-- one without faults
pub flat_map-skip : {X : Type 0} (f : X → List Raised) (items : List X) (i : ℕ) (item : X) → i < length items → item ≡ get_or items i item → f item ≡ []
    → flat_map f (drop (i + 1) items) ≡ flat_map f (drop i items)
flat_map-skip f items i item below is none =
    let e : drop i items ≡ item ∷ drop (suc i) items = drop-cons items i item below ∙ ap (λ x. x ∷ drop (suc i) items) (sym is) in
    rw (e, none, add-one) refl

pub flat_map-map : {X Y A : Type 0} (f : Y → List A) (g : X → Y) (items : List X) → flat_map f (map g items) ≡ flat_map (λ x. f (g x)) items
flat_map-map f g [] = refl
flat_map-map f g (x ∷ items) = ap (λ rest. f (g x) ++ rest) (flat_map-map f g items)

-- a row that is short enough
pub record_faults-none : (row : Row) (n : ℕ) → n ≡ min (row_length row) (2 ^ 64 - 1) → n ≤ 1000 → record_faults row ≡ []
record_faults-none row n is short = grind arith
