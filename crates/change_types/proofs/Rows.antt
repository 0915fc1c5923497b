-- The rows of VALUES.
use Rattle.std.proofs.Common.{◌≡◌, refl, sym, ap, ◌∙◌, ℕ, zero, suc, ◌+◌, ◌<◌, ◌≤◌, true, false, List, [], ◌∷◌, ◌++◌, map, length, get_or, drop, drop-cons, Result, Ok, Err, arith, add-one, append_assoc}
use Rattle.std.specs.Prelude.{◌==◌}
use Rattle.std.specs.List.{zip}
use Rattle.std.proofs.lemmas.List.{append-nil, drop_all}
use Rattle.refusals.specs.declared.reason.Reason.TheVariants.{Columns}
use Rattle.refusals.specs.declared.refusal.Refusal.{Refusal}
use Rattle.refusals.specs.declared.refusal.Refusal.TheVariants.{Invalid}
use Rattle.ast.specs.declared.statement.StoredSource.{StoredSource}
use Rattle.typing.specs.declared.typed.Expression.{Expression as Typed}
use Rattle.typing.specs.Finding.{Finding, reasons_in, before, each}
use Rattle.typing.specs.Finds.{Finds}
use Rattle.typing.specs.Known.{Known}
use Rattle.typing.specs.Insert.{Target, row_stored, sources_found, values_stored}
use Rattle.change_types.specs.Parts.{of_values, source_for}
use Rattle.type_rules.proofs.FindsLemmas.{after, Finds-before_first, Finds-before_others, IsReasonOf-left}

-- ---- a row

-- of another length
pub row_refused : (k : Known) (targets : List Target) (row : List StoredSource) → (length targets == length row) ≡ false → Finds (Err (Invalid Columns)) (row_stored k targets row)
row_refused k targets row n = rw n (record { ok = tt; err = (0, omega arith, refl) })

pub row_is : (k : Known) (targets : List Target) (row : List StoredSource) → (length targets == length row) ≡ true → row_stored k targets row ≡ each (map (source_for k) (zip targets row))
row_is k targets row e = rw e refl

-- ---- two lists side by side

found-before : {A : Type 0} (found : List A) (x : Finding A) (y : A) (xs : Finding (List A)) → x ≡ Ok y → after found (before x xs) ≡ after (found ++ y ∷ []) xs
found-before found x y (Ok xs) e = rw e (ap Ok (sym (append_assoc found (y ∷ []) xs)))
found-before found x y (Err reasons) e = rw e refl

zip-next : (f : Target × StoredSource → Finding Typed) (xs : List Target) (ys : List StoredSource) (i : ℕ) (x : Target) (y : StoredSource) (found : List Typed) (v : Typed) →
    i < length xs → i < length ys → x ≡ get_or xs i x → y ≡ get_or ys i y → f (x, y) ≡ Ok v →
    after (found ++ v ∷ []) (each (map f (zip (drop (i + 1) xs) (drop (i + 1) ys)))) ≡ after found (each (map f (zip (drop i xs) (drop i ys))))
zip-next f xs ys i x y found v a b p q e =
    let one : drop i xs ≡ x ∷ drop (suc i) xs = drop-cons xs i x a ∙ ap (λ z. z ∷ drop (suc i) xs) (sym p) in
    let two : drop i ys ≡ y ∷ drop (suc i) ys = drop-cons ys i y b ∙ ap (λ z. z ∷ drop (suc i) ys) (sym q) in
    rw (one, two, add-one) (sym (found-before found (f (x, y)) v (each (map f (zip (drop (suc i) xs) (drop (suc i) ys)))) e))

zip-item : (f : Target × StoredSource → Finding Typed) (r : Refusal) (xs : List Target) (ys : List StoredSource) (i : ℕ) (x : Target) (y : StoredSource) →
    i < length xs → i < length ys → x ≡ get_or xs i x → y ≡ get_or ys i y → Finds (Err r) (f (x, y)) → Finds (Err r) (each (map f (zip xs ys)))
zip-item f r [] ys i x y a b p q h = absurd (omega arith)
zip-item f r (z ∷ xs) [] i x y a b p q h = absurd (omega arith)
zip-item f r (z ∷ xs) (w ∷ ys) zero x y a b p q h = Finds-before_first r (f (z, w)) (each (map f (zip xs ys))) (rw (p, q) at h)
zip-item f r (z ∷ xs) (w ∷ ys) (suc i) x y a b p q h =
    Finds-before_others r (f (z, w)) (each (map f (zip xs ys))) (zip-item f r xs ys i x y (omega arith) (omega arith) p q h)

same_at : {X : Type 0} (xs : List X) (i : ℕ) (d e : X) → i < length xs → get_or xs i d ≡ get_or xs i e
same_at [] i d e below = absurd (omega arith)
same_at (x ∷ xs) zero d e below = refl
same_at (x ∷ xs) (suc i) d e below = same_at xs i d e (omega arith)

-- the same, where the first list is read
pub zip-item-at : (f : Target × StoredSource → Finding Typed) (r : Refusal) (xs : List Target) (ys : List StoredSource) (i : ℕ) (d : Target) (y : StoredSource) → i < length xs → i < length ys → y ≡ get_or ys i y →
    Finds (Err r) (f (get_or xs i d, y)) → Finds (Err r) (each (map f (zip xs ys)))
zip-item-at f r xs ys i d y a b q h = zip-item f r xs ys i (get_or xs i d) y a b (same_at xs i d (get_or xs i d) a) q h

pub zip-next-at : (f : Target × StoredSource → Finding Typed) (xs : List Target) (ys : List StoredSource) (i : ℕ) (d : Target) (y : StoredSource) (found : List Typed) (v : Typed) → i < length xs → i < length ys → y ≡ get_or ys i y →
    f (get_or xs i d, y) ≡ Ok v →
    after (found ++ v ∷ []) (each (map f (zip (drop (i + 1) xs) (drop (i + 1) ys)))) ≡ after found (each (map f (zip (drop i xs) (drop i ys))))
zip-next-at f xs ys i d y found v a b q e = zip-next f xs ys i (get_or xs i d) y found v a b (same_at xs i d (get_or xs i d) a) q e

pub zip-finds : (f : Target × StoredSource → Finding Typed) (xs : List Target) (ys : List StoredSource) (i : ℕ) (found : List Typed) → length xs ≤ i →
    after found (each (map f (zip (drop i xs) (drop i ys)))) ≡ each (map f (zip xs ys)) → Finds (Ok found) (each (map f (zip xs ys)))
zip-finds f xs ys i found past e =
    let none : drop i xs ≡ [] = drop_all i xs past in
    record { ok = sym (rw none at e) ∙ ap Ok (append-nil found); err = tt }

-- ---- all rows

-- a reason why the columns are not found
pub values-refused : (k : Known) (r : Refusal) (x : Finding (List Target)) (values : List (List StoredSource)) → Finds (Err r) x → Finds (Err r) (values_stored k x values)
values-refused k r (Ok targets) values h = record { ok = tt; err = IsReasonOf-left r [] (reasons_in (values_stored k (Ok targets) values)) h.err }
values-refused k r (Err reasons) values h = record { ok = tt; err = IsReasonOf-left r reasons (reasons_in (each (map (sources_found k) values))) h.err }

pub values-found : (k : Known) (x : Finding (List Target)) (targets : List Target) (values : List (List StoredSource)) → x ≡ Ok targets →
    values_stored k x values ≡ of_values targets (each (map (row_stored k targets) values))
values-found k x targets values e = rw e refl

pub ruleset row_steps = (row_refused, row_is)

pub ruleset zip_steps = (zip-finds)
