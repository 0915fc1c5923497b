-- Lists of lent cells that are filled from a page's.
use Rattle.std.proofs.Common.{◌≡◌, ℕ, ◌+◌, ◌<◌, ◌≤◌, List, [], ◌∷◌, ◌++◌, length, take, drop, sym, ap, ◌∙◌, Bor, append_assoc}
use Rattle.std.specs.Prelude.{slice_index_or}
use Rattle.std.proofs.lemmas.List.{map_push, take_more, at_drop_more, drop_all, append-nil}
use Rattle.sqlrecord.specs.Build.{lent}

lent_with : (cells now : List (Bor (List ℕ))) (cell : Bor (List ℕ)) → now ≡ cells ++ cell ∷ [] → lent now ≡ lent cells ++ cell.now ∷ []
lent_with cells now cell e = ap lent e ∙ map_push (λ (c : Bor (List ℕ)). c.now) cells cell

-- the cells before a place, with the one at it
pub lent_up_to : (cells now : List (Bor (List ℕ))) (cell : Bor (List ℕ)) (page : List (List ℕ)) (i : ℕ) → now ≡ cells ++ cell ∷ []
    → cell.now ≡ slice_index_or page i [] → i < length page → lent cells ≡ take i page → lent now ≡ take (i + 1) page
lent_up_to cells now cell page i e is l h =
    lent_with cells now cell e ∙ ap (λ xs. xs ++ cell.now ∷ []) h ∙ ap (λ x. take i page ++ x ∷ []) is ∙ sym (take_more page i [] l)

-- all cells before a place, and another one, with those from another place on
pub lent_between : (cells now : List (Bor (List ℕ))) (cell : Bor (List ℕ)) (page : List (List ℕ)) (i at behind : ℕ) → now ≡ cells ++ cell ∷ []
    → i ≡ at → lent cells ≡ take i page → lent now ++ drop behind page ≡ take at page ++ cell.now ∷ drop behind page
lent_between cells now cell page i at behind e is h =
    ap (λ xs. xs ++ drop behind page) (lent_with cells now cell e ∙ ap (λ xs. xs ++ cell.now ∷ []) (h ∙ ap (λ n. take n page) is))
    ∙ append_assoc (take at page) (cell.now ∷ []) (drop behind page)

-- one more of the cells that are left
pub lent_on : (cells now : List (Bor (List ℕ))) (cell : Bor (List ℕ)) (page whole : List (List ℕ)) (i : ℕ) → now ≡ cells ++ cell ∷ []
    → cell.now ≡ slice_index_or page i [] → i < length page → lent cells ++ drop i page ≡ whole → lent now ++ drop (i + 1) page ≡ whole
lent_on cells now cell page whole i e is l h =
    ap (λ xs. xs ++ drop (i + 1) page) (lent_with cells now cell e) ∙ append_assoc (lent cells) (cell.now ∷ []) (drop (i + 1) page)
    ∙ ap (λ x. lent cells ++ x ∷ drop (i + 1) page) is ∙ sym (at_drop_more (λ xs. lent cells ++ xs) page i [] l) ∙ h

-- none is left
pub lent_all : (cells : List (Bor (List ℕ))) (page whole : List (List ℕ)) (i : ℕ) → length page ≤ i → lent cells ++ drop i page ≡ whole → lent cells ≡ whole
lent_all cells page whole i l h = sym (append-nil (lent cells)) ∙ ap (λ xs. lent cells ++ xs) (sym (drop_all i page l)) ∙ h
