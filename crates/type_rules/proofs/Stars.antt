-- Select lists, and `*`.
use Rattle.std.proofs.Common.{◌≡◌, refl, sym, ap, ◌∙◌, ℕ, suc, ◌+◌, ◌<◌, ◌≤◌, List, [], ◌∷◌, ◌++◌, length, get_or, drop, drop-cons, add-one, Option, Ok, Err, arith, inl, inr}
use Rattle.std.specs.Prelude.{nat_le, false}
use Rattle.std.proofs.lemmas.Bool.{le-leb}
use Rattle.std.proofs.lemmas.Bool.Decides.{leb_tells}
use Rattle.std.proofs.lemmas.List.{append-nil, drop_all}
use Rattle.refusals.specs.declared.limit.Limit.TheVariants as limit
use Rattle.refusals.specs.declared.refusal.Refusal.{Refusal}
use Rattle.refusals.specs.declared.refusal.Refusal.TheVariants.{Exceeded}
use Rattle.typing.specs.declared.scope.Offer.{Offer}
use Rattle.typing.specs.declared.scope.ShownItem.{ShownItem}
use Rattle.typing.specs.Finding.{Finding, ◌>>=◌, also, before, each}
use Rattle.typing.specs.Finds.{Finds}
use Rattle.typing.specs.Select.{columns_from, limited}
use Rattle.typing.specs.Table.{at_most}
use Rattle.type_rules.proofs.FindsLemmas.{after, after-before, after-refused, Finds-then_err, Finds-also_first, Finds-before_first, Finds-exceeded}
use Rattle.type_rules.specs.Selects.{shown_column}

-- a limit that is passed
pub not_within : (count most : ℕ) → most < count → nat_le count most ≡ false
not_within count most h = elim (leb_tells count most) [ inl y ↦ absurd (omega (arith, y.1, h)) | inr n ↦ n.0 ]

pub limited-is : (items : List (Finding ShownItem)) → length items ≤ 256 → limited items ≡ each items
limited-is items h = rw (le-leb (length items) 256 h) (go (each items))
  where
    go : (x : Finding (List ShownItem)) → (also {A = Unit {0}} (Ok tt) x >>= (λ p. Ok p.1)) ≡ x
    go (Ok xs) = refl
    go (Err reasons) = refl

pub limited-refused : (items : List (Finding ShownItem)) → 256 < length items → Finds {A = List ShownItem} (Err (Exceeded limit.Columns)) (limited items)
limited-refused items h =
    Finds-then_err (Exceeded limit.Columns) (also (at_most 256 limit.Columns (length items)) (each items)) (λ p. Ok p.1)
    (Finds-also_first (Exceeded limit.Columns) (at_most 256 limit.Columns (length items)) (each items) (rw (not_within (length items) 256 h) (Finds-exceeded limit.Columns)))

pub star-length : (key : Option (List ℕ)) (at : ℕ) (offers : List Offer) → length (columns_from key at offers) ≡ length offers
star-length key at [] = refl
star-length key at (offer ∷ offers) = ap suc (star-length key (at + 1) offers)

-- ---- the columns of `*`, one after the other

module _ (key : Option (List ℕ)) (offers : List Offer) (at : ℕ) (offer : Offer) (below : at < length offers) (is : offer ≡ get_or offers at offer) where
  split : columns_from key at (drop at offers) ≡ shown_column key at offer ∷ columns_from key (at + 1) (drop (at + 1) offers)
  split =
      let front : drop at offers ≡ offer ∷ drop (suc at) offers = drop-cons offers at offer below ∙ ap (λ x. x ∷ drop (suc at) offers) (sym is) in
      rw (front, add-one) refl

  pub star-refused : (r : Refusal) (found : List ShownItem) (whole : Finding (List ShownItem)) → after found (each (columns_from key at (drop at offers))) ≡ whole →
      Finds {A = ShownItem} (Err r) (shown_column key at offer) → Finds {A = List ShownItem} (Err r) whole
  star-refused r found whole e h =
      after-refused r found (each (columns_from key at (drop at offers))) whole e
      (rw split (Finds-before_first r (shown_column key at offer) (each (columns_from key (at + 1) (drop (at + 1) offers))) h))

  pub star-next : (found : List ShownItem) (item : ShownItem) → shown_column key at offer ≡ Ok item →
      after (found ++ item ∷ []) (each (columns_from key (at + 1) (drop (at + 1) offers))) ≡ after found (each (columns_from key at (drop at offers)))
  star-next found item e = rw split (sym (after-before found (shown_column key at offer) item (each (columns_from key (at + 1) (drop (at + 1) offers))) e))

pub star-done : (key : Option (List ℕ)) (offers : List Offer) (at : ℕ) (found : List ShownItem) (whole : Finding (List ShownItem)) → length offers ≤ at →
    after found (each (columns_from key at (drop at offers))) ≡ whole → Finds (Ok found) whole
star-done key offers at found whole past e =
    let none : drop at offers ≡ [] = drop_all at offers past in
    record { ok = sym (rw none at e) ∙ ap Ok (append-nil found); err = tt }
