-- Loops over parts that stand one after the other, each seen after those before it.
use Rattle.std.proofs.Common.{◌≡◌, ℕ, suc, ◌+◌, ◌<◌, ◌≤◌, List, [], ◌∷◌, ◌++◌, length, get_or, drop, drop-cons, add-one, Ok, Err, sym, ◌∙◌, ap}
use Rattle.std.proofs.lemmas.List.{append-nil, drop_all}
use Rattle.refusals.specs.declared.refusal.Refusal.{Refusal}
use Rattle.typing.specs.Finding.{Finding, before, each}
use Rattle.typing.specs.Finds.{Finds}
use Rattle.typing.specs.Part.{Part, View, past}
use Rattle.query_types.specs.Parts.{in_order}
use Rattle.type_rules.proofs.FindsLemmas.{Finds-before_first, after, after-before, after-refused}

module _ {X A B : Type 0} (f : X → Part A) (g : X → Finding A → Finding B) (items : List X) (i : ℕ) (item : X) where
  split : i < length items → item ≡ get_or items i item → drop i items ≡ item ∷ drop (suc i) items
  split below is = drop-cons items i item below ∙ ap (λ x. x ∷ drop (suc i) items) (sym is)

  -- one more is found
  pub order-next : (found : List B) (y : B) (v : View) → i < length items → item ≡ get_or items i item → g item ((f item).found v) ≡ Ok y →
      after (found ++ y ∷ []) (each (in_order f g (drop (i + 1) items) (past (f item) v))) ≡ after found (each (in_order f g (drop i items) v))
  order-next found y v below is e =
      rw (split below is, add-one)
      (sym (after-before found (g item ((f item).found v)) y (each (in_order f g (drop (suc i) items) (past (f item) v))) e))

  -- one is refused
  pub order-refused : (r : Refusal) (found : List B) (v : View) (whole : Finding (List B)) → i < length items → item ≡ get_or items i item →
      after found (each (in_order f g (drop i items) v)) ≡ whole → Finds {A = B} (Err r) (g item ((f item).found v)) → Finds {A = List B} (Err r) whole
  order-refused r found v whole below is e h =
      after-refused r found (each (in_order f g (drop i items) v)) whole e
      (rw (split below is) (Finds-before_first r (g item ((f item).found v)) (each (in_order f g (drop (suc i) items) (past (f item) v))) h))

-- nothing is left
pub order-done : {X A B : Type 0} (f : X → Part A) (g : X → Finding A → Finding B) (items : List X) (i : ℕ) (found : List B) (v : View) (whole : Finding (List B)) →
    length items ≤ i → after found (each (in_order f g (drop i items) v)) ≡ whole → Finds (Ok found) whole
order-done f g items i found v whole past-end e =
    let none : drop i items ≡ [] = drop_all i items past-end in
    record { ok = sym (rw none at e) ∙ ap Ok (append-nil found); err = tt }
