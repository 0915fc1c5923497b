-- Subqueries: what listings come to shows what outcomes come to.
use Rattle.std.proofs.Common.{◌≡◌, refl, ap, sym, ◌∙◌, subst, List, [], ◌∷◌, ◌++◌, Ok, Err, length, length-append, ◌+◌, arith, append-nil, rules, inl, inr}
use Rattle.std.specs.Prelude.{Contains}
use Rattle.sqlval.specs.declared.value.Value.{Value}
use Rattle.sqlval.specs.declared.truth.Truth.{Truth}
use Rattle.sqlval.specs.Value.{Row}
use Rattle.denote.specs.declared.fault.Fault.{Fault}
use Rattle.denote.specs.Evaluation.{Evaluation, ◌>>=◌, unless}
use Rattle.denote.specs.Expression.{scalar, beyond_one, only_value}
use Rattle.denote.specs.Condition.{among, first_column, exists}
use Rattle.denote.specs.Outcome.{Outcome, whole}
use Rattle.denote.specs.Bag.{Permutes, goes_on, IsSame, HasSame}
use Rattle.operator_laws.specs.Same.{IsSameValue}
use Rattle.operator_laws.proofs.Orders.{length-permutes}
use Rattle.operator_laws.proofs.Steps.{scalar-same, exists-same, in_query-same}
use Rattle.operator_laws.proofs.Permuting.{Permutes-sym}
use Rattle.std.proofs.lemmas.List.Elements.{Contains-append_left, Contains-append_right, Contains-append_cases}
use Rattle.algebra_laws.specs.Shown.{IsShown, ShowsBy, Shows, Lists}
use Rattle.algebra_laws.proofs.Evaluations.{follows, IsShown-refl}
use Rattle.algebra_laws.proofs.Rows.{none-same}

-- a fault is in the list that it begins
pub begins : (fault : Fault) (faults : List Fault) → Contains (fault ∷ faults) fault
begins fault faults = Contains-append_left (fault ∷ []) faults fault (search (rules))

nothing_in : (fault : Fault) → Contains [] fault → ⊥
nothing_in fault c = search (rules)

shown_of : (fs gs : List Fault) → HasSame fs gs → IsShown fs gs
shown_of fs gs h = record { within = λ f c. (h f).0 c; none = λ e. none-same gs fs (λ f. ((h f).1, (h f).0)) e }

pub shows-of_same : {A : Type 0} (x y : Evaluation A) → IsSameValue x y → Shows x y
shows-of_same (Ok x) (Ok y) h = h
shows-of_same (Ok x) (Err faults) h = absurd h
shows-of_same (Err faults) (Ok y) h = absurd h
shows-of_same (Err faults) (Err others) h = shown_of faults others h

-- a whole listing is the outcome in another order
pub same-of : (l o : Outcome) → Lists l o → l.faults ≡ [] → IsSame l o
same-of l o h e = let c = h.complete e in record {
  rows = Permutes-sym o.rows l.rows (subst (λ (zs : List Row). Permutes o.rows zs) (ap (λ r. l.rows ++ r) c.1 ∙ append-nil l.rows) h.rows);
  faults = rw (e, c.0) (λ f. (λ k. k, λ k. k));
}

-- faults on both sides, of which those shown are some
early : {A : Type 0} (fs gs : List Fault) (x y : A) (fault : Fault) (faults : List Fault) → fs ≡ fault ∷ faults → ((f : Fault) → Contains fs f → Contains gs f)
    → Shows (unless fs x) (unless gs y)
early {A} fs gs x y fault faults e h = rw e (at gs refl)
  where
    at : (zs : List Fault) → gs ≡ zs → Shows (Err (fault ∷ faults)) (unless gs y)
    at [] g = absurd (nothing_in fault (subst (λ (ks : List Fault). Contains ks fault) g (h fault (subst (λ (ks : List Fault). Contains ks fault) (sym e) (begins fault faults)))))
    at (z ∷ zs) g = rw g record {
      within = λ f c. subst (λ (ks : List Fault). Contains ks f) g (h f (subst (λ (ks : List Fault). Contains ks f) (sym e) c));
      none = λ n. absurd (cc);
    }

beyond-within : (xs ys zs : List Row) (f : Fault) → length xs ≡ length ys + length zs → Contains (beyond_one ys) f → Contains (beyond_one xs) f
beyond-within xs [] zs f e c = absurd (nothing_in f c)
beyond-within xs (y ∷ []) zs f e c = absurd (nothing_in f c)
beyond-within [] (y ∷ w ∷ ys) zs f e c = absurd (omega (arith, e))
beyond-within (x ∷ []) (y ∷ w ∷ ys) zs f e c = absurd (omega (arith, e))
beyond-within (x ∷ v ∷ xs) (y ∷ w ∷ ys) zs f e c = c

pub scalar-shows : (l o : Outcome) → Lists l o → Shows (scalar l) (scalar o)
unfolding scalar
scalar-shows l o h = at l.faults refl
  where
    longer : length o.rows ≡ length l.rows + length h.missing
    longer = length-permutes o.rows (l.rows ++ h.missing) h.rows ∙ length-append l.rows h.missing

    among_both : (f : Fault) → Contains (l.faults ++ beyond_one l.rows) f → Contains (o.faults ++ beyond_one o.rows) f
    among_both f c = elim (Contains-append_cases l.faults (beyond_one l.rows) f c) [
      | inl k ↦ Contains-append_left o.faults (beyond_one o.rows) f (h.within f k)
      | inr k ↦ Contains-append_right o.faults (beyond_one o.rows) f (beyond-within o.rows l.rows h.missing f longer k)
    ]

    at : (fs : List Fault) → l.faults ≡ fs → Shows (unless (l.faults ++ beyond_one l.rows) (only_value l.rows)) (unless (o.faults ++ beyond_one o.rows) (only_value o.rows))
    at [] e = shows-of_same (scalar l) (scalar o) (scalar-same l o (same-of l o h e))
    at (fault ∷ faults) e = early (l.faults ++ beyond_one l.rows) (o.faults ++ beyond_one o.rows) (only_value l.rows) (only_value o.rows) fault (faults ++ beyond_one l.rows)
        (ap (λ fs. fs ++ beyond_one l.rows) e) among_both

-- what is made of a whole subquery
pub whole-shows : {A : Type 0} (l o : Outcome) (made : List Row → Evaluation A) → Lists l o
    → (IsSame l o → IsSameValue (whole l >>= made) (whole o >>= made)) → Shows (whole l >>= made) (whole o >>= made)
unfolding whole
whole-shows {A} l o made h k = at l.faults refl
  where
    further : (x y : Evaluation (List Row)) (fault : Fault) (faults : List Fault) → x ≡ Err (fault ∷ faults) → Shows x y → Shows (x >>= made) (y >>= made)
    further x (Ok rows) fault faults e s = absurd (subst (λ (z : Evaluation (List Row)). Shows z (Ok rows)) e s)
    further (Ok rows) (Err others) fault faults e s = absurd s
    further (Err fs) (Err others) fault faults e s = s

    at : (fs : List Fault) → l.faults ≡ fs → Shows (unless l.faults l.rows >>= made) (unless o.faults o.rows >>= made)
    at [] e = shows-of_same (whole l >>= made) (whole o >>= made) (k (same-of l o h e))
    at (fault ∷ faults) e = further (unless l.faults l.rows) (unless o.faults o.rows) fault faults (rw e refl)
        (early l.faults o.faults l.rows o.rows fault faults e h.within)

pub exists-shows : (l o : Outcome) → Lists l o → Shows (exists l) (exists o)
exists-shows l o h = whole-shows l o _ h (λ s. exists-same l o s)

pub in_query-shows : (x y : Evaluation Value) (l o : Outcome) → Shows x y → Lists l o
    → Shows (x >>= (λ v. whole l >>= (λ rows. Ok (among v (first_column rows))))) (y >>= (λ v. whole o >>= (λ rows. Ok (among v (first_column rows)))))
in_query-shows x y l o e h =
    follows x y (λ v. whole l >>= (λ rows. Ok (among v (first_column rows)))) (λ v. whole o >>= (λ rows. Ok (among v (first_column rows)))) e
    (λ v. whole-shows l o (λ rows. Ok (among v (first_column rows))) h (λ s. in_query-same (Ok v) (Ok v) l o refl s))
