-- A loop that puts a record for each item, by its place.
use Rattle.std.proofs.Common.{◌≡◌, ℕ, suc, ◌+◌, ◌<◌, List, [], ◌∷◌, ◌++◌, map, length, get_or, drop, drop-cons, ap, sym, ◌∙◌, arith}
use Rattle.std.proofs.lemmas.List.{append_assoc}
use Rattle.std.specs.List.{enumerate_from}

-- one more is put
pub put-next : {A B : Type 0} (f : ℕ × A → B) (n : ℕ) (items : List A) (i : ℕ) (item : A) (old new all : List B)
    → i < length items → item ≡ get_or items i item → new ≡ old ++ f (n, item) ∷ []
    → old ++ map f (enumerate_from n (drop i items)) ≡ all → new ++ map f (enumerate_from (n + 1) (drop (i + 1) items)) ≡ all
put-next f n items i item old new all below is put before =
    let e : drop i items ≡ item ∷ drop (suc i) items = drop-cons items i item below ∙ ap (λ x. x ∷ drop (suc i) items) (sym is) in
    let one : i + 1 ≡ suc i = omega arith in
    rw (put, one) (append_assoc old (f (n, item) ∷ []) _ ∙ (rw e at before))
