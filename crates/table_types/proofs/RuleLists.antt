-- What the elements of a CREATE TABLE have, one element after the other.
use Rattle.std.proofs.Common.{◌≡◌, refl, sym, ap, ◌∙◌, ℕ, suc, ◌+◌, ◌<◌, ◌≤◌, List, [], ◌∷◌, ◌++◌, length, get_or, drop, drop-cons, add-one, Ok, Err, arith}
use Rattle.std.proofs.lemmas.List.{append-nil, drop_all}
use Rattle.refusals.specs.declared.refusal.Refusal.{Refusal}
use Rattle.sqlval.specs.declared.schema.Rule.{Rule}
use Rattle.ast.specs.declared.statement.TableElement.{TableElement}
use Rattle.ast.specs.declared.statement.TableElement.TheVariants as element
use Rattle.typing.specs.Finding.{Finding, each}
use Rattle.typing.specs.Finds.{Finds}
use Rattle.type_rules.proofs.FindsLemmas.{after, after-refused}
use Rattle.table_types.specs.Tables.{alone_of, next_place, parts_from}
use Rattle.table_types.proofs.Lists.{each-front, each-refused}

pub place-moves : (place : ℕ) (e : TableElement) → next_place place e ≤ place + 1
place-moves place (element.Column d) = omega arith
place-moves place (element.Constraint c) = omega arith

pub alone-is : (x : Finding Rule) → each (x ∷ []) ≡ alone_of x
alone-is (Ok x) = refl
alone-is (Err reasons) = ap Err (append-nil reasons)

module _ {A : Type 0} (part : ℕ → TableElement → List (Finding A)) (elements : List TableElement) where
  module _ (i : ℕ) (e : TableElement) (place : ℕ) (below : i < length elements) (is : e ≡ get_or elements i e) where
    split : parts_from part place (drop i elements) ≡ part place e ++ parts_from part (next_place place e) (drop (i + 1) elements)
    split =
        let front : drop i elements ≡ e ∷ drop (suc i) elements = drop-cons elements i e below ∙ ap (λ x. x ∷ drop (suc i) elements) (sym is) in
        rw (front, add-one) refl

    pub parts-next : (done vs : List A) → each (part place e) ≡ Ok vs →
        after (done ++ vs) (each (parts_from part (next_place place e) (drop (i + 1) elements))) ≡ after done (each (parts_from part place (drop i elements)))
    parts-next done vs h = rw split (each-front done (part place e) (parts_from part (next_place place e) (drop (i + 1) elements)) vs h)

    pub parts-refused : (r : Refusal) (done : List A) (whole : Finding (List A)) → after done (each (parts_from part place (drop i elements))) ≡ whole →
        Finds {A = List A} (Err r) (each (part place e)) → Finds {A = List A} (Err r) whole
    parts-refused r done whole h f =
        after-refused r done (each (parts_from part place (drop i elements))) whole h
        (rw split (each-refused r (part place e) (parts_from part (next_place place e) (drop (i + 1) elements)) f))

  pub parts-done : (i place : ℕ) (done : List A) (whole : Finding (List A)) → length elements ≤ i → after done (each (parts_from part place (drop i elements))) ≡ whole → Finds (Ok done) whole
  parts-done i place done whole past h =
      let none : drop i elements ≡ [] = drop_all i elements past in
      record { ok = sym (rw none at h) ∙ ap Ok (append-nil done); err = tt }
