-- What holds of the kept texts of constraints, one after another.
use Rattle.std.proofs.Common.{◌≡◌, ◌∙◌, refl, sym, ap, subst, ℕ, suc, ◌+◌, ◌<◌, ◌≤◌, add-one, List, [], ◌∷◌, ◌++◌, length, get_or, drop, drop-cons, append_assoc}
use Rattle.std.proofs.lemmas.List.{drop_all}
use Rattle.std.specs.List.{All}
use Rattle.std.proofs.lemmas.List.Elements.{All-nil, All-cons, All-head, All-tail}
use Rattle.sqlval.specs.declared.schema.Constraint.{Constraint}
use Rattle.sqlval.specs.declared.schema.Rule.{Rule}
use Rattle.sqlval.specs.declared.schema.Rule.TheVariants as rule
use Rattle.sqlval.specs.declared.schema.Column.{Column}
use Rattle.typing.specs.declared.typed.Condition.{Condition}
use Rattle.typing.specs.Kept.{kept_texts, text_in}
use Rattle.denote.specs.Database.{CheckReading, Name}
use Rattle.check_constraints.specs.Conditions.{conditions_of}

module _ (P : List ℕ → Type 0) (k : Constraint) (ks : List Constraint) where
  -- where it holds of the first one, if that is a CHECK's, and of the others, it holds of all
  pub kept_next : ((text : List ℕ) → k.rule ≡ rule.Check text → P text) → All P (kept_texts ks) → All P (kept_texts (k ∷ ks))
  kept_next h rest = at k.rule refl
    where
      at : (r : Rule) → k.rule ≡ r → All P (text_in r ++ kept_texts ks)
      at (rule.NotNull column) e = rest
      at (rule.PrimaryKey columns) e = rest
      at (rule.Unique columns) e = rest
      at (rule.Check text) e = All-cons P text (kept_texts ks) (h text e) rest
      at (rule.ForeignKey reference) e = rest

  pub kept_rest : All P (kept_texts (k ∷ ks)) → All P (kept_texts ks)
  kept_rest all = at k.rule all
    where
      at : (r : Rule) → All P (text_in r ++ kept_texts ks) → All P (kept_texts ks)
      at (rule.NotNull column) h = h
      at (rule.PrimaryKey columns) h = h
      at (rule.Unique columns) h = h
      at (rule.Check text) h = All-tail P text (kept_texts ks) h
      at (rule.ForeignKey reference) h = h

  pub kept_here : (text : List ℕ) → k.rule ≡ rule.Check text → All P (kept_texts (k ∷ ks)) → P text
  kept_here text e all = All-head P text (kept_texts ks) (subst (λ (r : Rule). All P (text_in r ++ kept_texts ks)) e all)

-- ---- as the loop meets them: what is left from a place on

split : (ks : List Constraint) (i : ℕ) (k : Constraint) → i < length ks → k ≡ get_or ks i k → drop i ks ≡ k ∷ drop (i + 1) ks
split ks i k below is = rw add-one (drop-cons ks i k below ∙ ap (λ (x : Constraint). x ∷ drop (suc i) ks) (sym is))

module _ (P : List ℕ → Type 0) (ks : List Constraint) (i : ℕ) where
  module _ (k : Constraint) (below : i < length ks) (is : k ≡ get_or ks i k) where
    pub left_next : ((text : List ℕ) → k.rule ≡ rule.Check text → P text) → All P (kept_texts (drop (i + 1) ks)) → All P (kept_texts (drop i ks))
    left_next h rest = subst (λ (l : List Constraint). All P (kept_texts l)) (sym (split ks i k below is)) (kept_next P k (drop (i + 1) ks) h rest)

    pub left_rest : All P (kept_texts (drop i ks)) → All P (kept_texts (drop (i + 1) ks))
    left_rest all = kept_rest P k (drop (i + 1) ks) (subst (λ (l : List Constraint). All P (kept_texts l)) (split ks i k below is) all)

    pub left_here : (text : List ℕ) → k.rule ≡ rule.Check text → All P (kept_texts (drop i ks)) → P text
    left_here text e all = kept_here P k (drop (i + 1) ks) text e (subst (λ (l : List Constraint). All P (kept_texts l)) (split ks i k below is) all)

  pub none_left : length ks ≤ i → All P (kept_texts (drop i ks))
  none_left past = subst (λ (l : List Constraint). All P (kept_texts l)) (sym (drop_all i ks past)) (All-nil P)

pub same_text : (one other : List ℕ) → rule.Check one ≡ rule.Check other → one ≡ other
same_text one other e = cc

module _ (reading : CheckReading) (name : Name) (columns : List Column) (ks : List Constraint) (i : ℕ) (k : Constraint) (below : i < length ks) (is : k ≡ get_or ks i k)
    (so_far now : List Condition) (h : so_far ++ conditions_of reading name columns (drop i ks) ≡ conditions_of reading name columns ks) where
  -- a CHECK's condition is put behind those before it
  pub conditions_next : (text : List ℕ) → k.rule ≡ rule.Check text → (condition : Condition) → now ≡ so_far ++ condition ∷ [] → condition ≡ reading name columns text
      → now ++ conditions_of reading name columns (drop (i + 1) ks) ≡ conditions_of reading name columns ks
  conditions_next text e condition pushed read =
      let rest : List Condition = conditions_of reading name columns (drop (i + 1) ks) in
      let here : conditions_of reading name columns (k ∷ drop (i + 1) ks) ≡ reading name columns text ∷ rest = λ j. conditions_of reading name columns (record { name = k.name; rule = e j } ∷ drop (i + 1) ks) in
      ap (λ (cs : List Condition). cs ++ rest) pushed ∙ append_assoc so_far (condition ∷ []) rest ∙ ap (λ (c : Condition). so_far ++ c ∷ rest) read
      ∙ ap (λ (cs : List Condition). so_far ++ cs) (sym (ap (conditions_of reading name columns) (split ks i k below is) ∙ here)) ∙ h

  -- another constraint adds none
  pub conditions_same : ((text : List ℕ) → k.rule ≡ rule.Check text → ⊥) → now ≡ so_far → now ++ conditions_of reading name columns (drop (i + 1) ks) ≡ conditions_of reading name columns ks
  conditions_same none stays =
      ap (λ (cs : List Condition). cs ++ conditions_of reading name columns (drop (i + 1) ks)) stays
      ∙ ap (λ (cs : List Condition). so_far ++ cs) (sym (ap (conditions_of reading name columns) (split ks i k below is) ∙ at k.rule refl)) ∙ h
    where
      at : (r : Rule) → k.rule ≡ r → conditions_of reading name columns (record { name = k.name; rule = r } ∷ drop (i + 1) ks) ≡ conditions_of reading name columns (drop (i + 1) ks)
      at (rule.NotNull column) e = refl
      at (rule.PrimaryKey places) e = refl
      at (rule.Unique places) e = refl
      at (rule.Check text) e = absurd (none text e)
      at (rule.ForeignKey reference) e = refl
