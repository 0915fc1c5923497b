-- Lists of bytes that are the same.
use Rattle.std.proofs.Common.{◌≡◌, Bool, true, false, ℕ, List, [], ◌∷◌, refl, sym, ap, ◌∙◌, eqb-true}
use Rattle.std.specs.Prelude.{nat_eq, ◌&&◌}
use Rattle.std.specs.Cmp.{IsEquivalence}
use Rattle.std.specs.Cmp.Lexicographic.{pointwise}
use Rattle.std.proofs.lemmas.Cmp.{nat_list_eq_equiv}
use Rattle.btree_read.specs.declared.entry.Entry.{Entry}

both : (a b : Bool) → (a && b) ≡ true → (a ≡ true) × (b ≡ true)
both true true h = (refl, refl)
both true false h = cc
both false b h = cc

pub same_bytes : (xs ys : List ℕ) → pointwise nat_eq xs ys ≡ true → xs ≡ ys
same_bytes [] [] h = refl
same_bytes [] (y ∷ ys) h = cc
same_bytes (x ∷ xs) [] h = cc
same_bytes (x ∷ xs) (y ∷ ys) h =
    let p = both (nat_eq x y) (pointwise nat_eq xs ys) h in
    let first : x ≡ y = eqb-true x y p.0 in
    let rest : xs ≡ ys = same_bytes xs ys p.1 in
    λ i. first i ∷ rest i

pub bytes_same : (xs ys : List ℕ) → xs ≡ ys → pointwise nat_eq xs ys ≡ true
bytes_same xs ys e = ap (pointwise nat_eq xs) (sym e) ∙ nat_list_eq_equiv.refl xs

pub entry_is : (x : Entry) (key : List ℕ) → x.key ≡ key → x.value ≡ [] → x ≡ record { key = key; value = [] }
entry_is x key k v = λ i. record { key = k i; value = v i }
