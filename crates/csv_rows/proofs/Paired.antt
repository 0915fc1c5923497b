-- Items that are found one after another, each by what it is paired with.
use Rattle.std.proofs.Common.{◌≡◌, List, [], ◌∷◌, ◌++◌, refl, ap, sym, ◌∙◌, subst}
use Rattle.std.specs.List.{AllByRecursion}
use Rattle.std.proofs.lemmas.List.{append_assoc, append-nil}
use Rattle.csv_rows.specs.Paired.{ArePaired}

module _ {A X : Type 0} (P : A → X → Type 0) where
  pub so_more : (all whole left : List A) (found : List X) (a : A) (x : X) → whole ≡ a ∷ left → P a x
      → ((more : List X) → ArePaired P whole more → ArePaired P all (found ++ more))
      → (more : List X) → ArePaired P left more → ArePaired P all ((found ++ x ∷ []) ++ more)
  so_more all whole left found a x e is so more are =
      subst (λ (ys : List X). ArePaired P all ys) (sym (append_assoc found (x ∷ []) more)) (so (x ∷ more) (subst (λ (bs : List A). ArePaired P bs (x ∷ more)) (sym e) (is, are)))

  pub so_all : (all whole : List A) (found : List X) → whole ≡ [] → ((more : List X) → ArePaired P whole more → ArePaired P all (found ++ more)) → ArePaired P all found
  so_all all whole found e so =
      subst (λ (ys : List X). ArePaired P all ys) (append-nil found) (so [] (subst (λ (bs : List A). ArePaired P bs []) (sym e) tt))

  module _ (Good : X → Type 0) where
    -- what is left of good items, behind those that were found
    pub record IsLeft (left : List A) (found all : List X) : Type 0 where
      pub more : List X
      pub is : all ≡ found ++ more
      pub good : AllByRecursion Good more
      pub are : ArePaired P left more

    pub all_left : (left : List A) (all : List X) → AllByRecursion Good all → ArePaired P left all → IsLeft left [] all
    all_left left all good are = record { more = all; is = refl; good = good; are = are }

    -- the next good item
    pub record IsNext (a : A) : Type 0 where
      pub item : X
      pub good : Good item
      pub is : P a item

    pub next_left : (whole left : List A) (found all : List X) (a : A) → whole ≡ a ∷ left → IsLeft whole found all → IsNext a
    next_left whole left found all a e rest = at rest.more rest.good (subst (λ (bs : List A). ArePaired P bs rest.more) e rest.are)
      where
        at : (more : List X) → AllByRecursion Good more → ArePaired P (a ∷ left) more → IsNext a
        at [] good are = absurd are
        at (y ∷ more) good are = record { item = y; good = good.0; is = are.0 }

    pub less_left : (whole left : List A) (found all : List X) (a : A) (x : X) → whole ≡ a ∷ left → ((y : X) → Good y → P a y → y ≡ x) → IsLeft whole found all
        → IsLeft left (found ++ x ∷ []) all
    less_left whole left found all a x e only rest = at rest.more rest.is rest.good (subst (λ (bs : List A). ArePaired P bs rest.more) e rest.are)
      where
        at : (more : List X) → all ≡ found ++ more → AllByRecursion Good more → ArePaired P (a ∷ left) more → IsLeft left (found ++ x ∷ []) all
        at [] is good are = absurd are
        at (y ∷ more) is good are =
            record { more = more; is = is ∙ ap (λ (z : X). found ++ z ∷ more) (only y good.0 are.0) ∙ sym (append_assoc found (x ∷ []) more); good = good.1; are = are.1 }

    pub none_left : (whole : List A) (found all : List X) → whole ≡ [] → IsLeft whole found all → all ≡ found
    none_left whole found all e rest = at rest.more rest.is (subst (λ (bs : List A). ArePaired P bs rest.more) e rest.are)
      where
        at : (more : List X) → all ≡ found ++ more → ArePaired P [] more → all ≡ found
        at [] is are = is ∙ append-nil found
        at (y ∷ more) is are = absurd are
