-- Blocks of the entries of a table.
use Rattle.std.proofs.Common.{◌≡◌, ◌<◌, ℕ, suc, zero, List, [], ◌∷◌, ◌++◌, map, length, Option, Some, refl, sym, ap, ◌∙◌, take, drop, arith}
use Rattle.algebra.specs.Listing.{listed_rows}
use Rattle.store.specs.Contents.{Entry, rows_of}
use Rattle.places.specs.Left.{before}
use Rattle.places.proofs.Rising as rising
use Rattle.streams.specs.Numbers.{GoOnByNumber, after_number, last_of, number_of}

pub take-drop : {A : Type 0} (n : ℕ) (xs : List A) → take n xs ++ drop n xs ≡ xs
take-drop zero xs = refl
take-drop (suc n) [] = refl
take-drop (suc n) (x ∷ xs) = ap (λ zs. x ∷ zs) (take-drop n xs)

abbrev tail_of : {A : Type 0} → List A → List A
tail_of [] = []
tail_of (x ∷ xs) = xs

pub same-rest : {A : Type 0} (xs ys zs : List A) → xs ++ ys ≡ xs ++ zs → ys ≡ zs
same-rest [] ys zs e = e
same-rest (x ∷ xs) ys zs e = same-rest xs ys zs (ap tail_of e)

-- fewer than were asked for are all
pub none-left : {A : Type 0} (n : ℕ) (xs : List A) → length (take n xs) < n → drop n xs ≡ []
none-left zero xs lt = absurd (omega (arith, lt))
none-left (suc n) [] lt = refl
none-left (suc n) (x ∷ xs) lt = none-left n xs (omega (arith, lt))

last-same : (after : Option ℕ) (es : List Entry) → rising.last_of after es ≡ last_of after (map number_of es)
last-same after [] = refl
last-same after (e ∷ es) = last-same (Some e.0) es

pub goes-on : (es : List Entry) → rising.Rising es → GoOnByNumber es
goes-on es r after most =
    let found = after_number after es in
    same-rest (take most found) _ (drop most found)
    (ap (λ last. take most found ++ after_number last es) (sym (last-same after (take most found)))
    ∙ rising.block_after most after es r ∙ sym (take-drop most found))

pub rows-block : (most : ℕ) (es : List Entry)
    → before (rows_of (take most es)) (listed_rows (rows_of (drop most es))) ≡ listed_rows (rows_of es)
rows-block most es = ap listed_rows (sym (rows-append (take most es) (drop most es)) ∙ ap rows_of (take-drop most es))
  where
    rows-append : (xs ys : List Entry) → rows_of (xs ++ ys) ≡ rows_of xs ++ rows_of ys
    rows-append [] ys = refl
    rows-append (x ∷ xs) ys = ap (λ zs. x.1 ∷ zs) (rows-append xs ys)
