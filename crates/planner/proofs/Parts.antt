-- Steps of parts, put together, and what is so of what comes.
use Rattle.std.proofs.Common.{◌≡◌, refl, ap, sym, ◌∙◌, subst, List, map, ◌++◌, Result, Ok, Err, ℕ, Bool, Some}
use Rattle.std.specs.Prelude.{IfOk, IsOkAnd}
use Rattle.algebra.specs.declared.tree.StoredTable.{StoredTable}
use Rattle.algebra.specs.declared.tree.Tree.{Tree}
use Rattle.rules.specs.declared.rule.Step.{Step}
use Rattle.planner.specs.Joins.{OneTable}
use Rattle.planner.specs.Led.{IsCalm, Led, LedAt, LedBoth, behind, in_part, with_left}
use Rattle.planner.specs.declared.nodes.Part.{Part}
use Rattle.planner.specs.declared.nodes.Sides.{Sides}
use Rattle.planner.specs.declared.outline.Outline.{Outline}

-- what is so of the value that was told is so of what came
pub ok-is : {X E : Type 0} (P : X → Type 0) (came : Result X E) (x : X) → IfOk came (λ y. y ≡ x) → P x → IfOk came P
ok-is P (Ok y) x e p = subst P (sym e) p
ok-is P (Err error) x e p = tt

pub ok-weaker : {X E : Type 0} {P Q : X → Type 0} (came : Result X E) → ((x : X) → P x → Q x) → IfOk came P → IfOk came Q
ok-weaker (Ok x) f p = f x p
ok-weaker (Err error) f p = tt

-- what follows from the tree that came, whatever it is
pub with-tree : {E : Type 0} (came : Result Outline E) (P : Tree → Type 0) (Q : Type 0) (other : Tree) → P other
    → IfOk came (λ o. P o.tree) → ((x : Tree) → P x → IfOk came (λ o. o.tree ≡ x) → Q) → Q
with-tree (Ok o) P Q other p h k = k o.tree h refl
with-tree (Err error) P Q other p h k = k other p tt

pub with-part : {E : Type 0} (came : Result Part E) (P : Tree → Type 0) (Q : Type 0) (other : Tree) → P other
    → IfOk came (λ part. P part.tree) → ((x : Tree) → P x → IfOk came (λ part. part.tree ≡ x) → Q) → Q
with-part (Ok part) P Q other p h k = k part.tree h refl
with-part (Err error) P Q other p h k = k other p tt

pub part-led : {E : Type 0} (place : ℕ) (calm : Bool) (old : Tree) (steps : List Step) (tree : Tree) (result : Result Part E)
    → Led calm old (record { steps = steps; tree = tree })
    → IfOk result (λ part. part.steps ≡ map (in_part place) steps) → IfOk result (λ part. part.tree ≡ tree)
    → IfOk result (λ part. LedAt place calm old part)
part-led place calm old steps tree (Err error) led e f = tt
part-led place calm old steps tree (Ok part) led e f = record {
  own = steps;
  are = e;
  leads = led.steps ∙ ap Some (sym f);
  quiet = subst (IsCalm calm) (sym f) led.quiet;
}

pub sides-led : (calm : Bool) (l r : Tree) (left right : Part) (both : Sides) → LedAt 0 calm l left → LedAt 1 calm r right
    → both.steps ≡ left.steps ++ right.steps → both.left ≡ left.tree → both.right ≡ right.tree → LedBoth calm l r both
sides-led calm l r left right both first second e f g = record {
  first = first.own;
  second = second.own;
  are = e ∙ (λ i. first.are i ++ second.are i);
  left = first.leads ∙ ap Some (sym f);
  right = second.leads ∙ ap Some (sym g);
  left_quiet = subst (IsCalm calm) (sym f) first.quiet;
  right_quiet = subst (IsCalm calm) (sym g) second.quiet;
}

-- ---- two children

-- both, of what came of each
abbrev pub both_of : Part → Part → Sides
both_of left right = with_left left.tree (behind left.steps right)

pub sides-came : {E F G : Type 0} (right : Result Part E) (middle : Result Part F) (result : Result Sides G) (left : Part)
    → IfOk middle (λ part. IsOkAnd right (λ x. part ≡ behind left.steps x))
    → IfOk result (λ both. IsOkAnd middle (λ part. both ≡ with_left left.tree part))
    → IfOk result (λ both. IsOkAnd right (λ x. both ≡ both_of left x))
sides-came right middle (Err error) left e f = tt
sides-came right (Err error) (Ok both) left e f = absurd f
sides-came (Err error) (Ok part) (Ok both) left e f = absurd e
sides-came (Ok x) (Ok part) (Ok both) left e f = f ∙ ap (with_left left.tree) e

pub sides-lead : {E F : Type 0} (calm : Bool) (l r : Tree) (left : Part) (right : Result Part E) (result : Result Sides F)
    → IfOk result (λ both. IsOkAnd right (λ x. both ≡ both_of left x)) → LedAt 0 calm l left
    → IfOk right (λ part. LedAt 1 calm r part) → IfOk result (λ both. LedBoth calm l r both)
sides-lead calm l r left right (Err error) e first second = tt
sides-lead calm l r left (Err error) (Ok both) e first second = absurd e
sides-lead calm l r left (Ok x) (Ok both) e first second =
    sides-led calm l r left x both first second (ap (λ (s : Sides). s.steps) e) (ap (λ (s : Sides). s.left) e)
    (ap (λ (s : Sides). s.right) e)

pub sides-of : {E F : Type 0} (one other : StoredTable) (left : Part) (right : Result Part E) (result : Result Sides F)
    → IfOk result (λ both. IsOkAnd right (λ x. both ≡ both_of left x)) → OneTable one left.tree
    → IfOk right (λ part. OneTable other part.tree) → IfOk result (λ both. OneTable one both.left × OneTable other both.right)
sides-of one other left right (Err error) e first second = tt
sides-of one other left (Err error) (Ok both) e first second = absurd e
sides-of one other left (Ok x) (Ok both) e first second =
    (subst (OneTable one) (sym (ap (λ (s : Sides). s.left) e)) first, subst (OneTable other) (sym (ap (λ (s : Sides). s.right) e)) second)
