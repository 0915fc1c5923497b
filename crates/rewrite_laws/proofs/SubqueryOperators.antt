-- DISTINCT (Q12), EXISTS (Q13) and IN (Q14) as operators on outcomes.
use Rattle.algebra.specs.Joined.{half_join, is_member, some_true, half_row, negated_if}
use Rattle.algebra.specs.Raising.{NeverRaises}
use Rattle.denote.specs.Bag.{are_alike, distinct}
use Rattle.denote.specs.Condition.{ConditionMeaning, exists, is_empty, among, first_column}
use Rattle.denote.specs.Evaluation.{Env, Evaluation, ◌>>=◌, together, joined}
use Rattle.denote.specs.Expression.{ExpressionMeaning}
use Rattle.denote.specs.From.{only_true, kept_row, kept, beside}
use Rattle.denote.specs.Outcome.{Outcome, each, through, before, whole}
use Rattle.denote.specs.Select.{only}
use Rattle.operator_laws.specs.Law.{is_true, is_true_at}
use Rattle.operator_laws.specs.Same.{Every}
use Rattle.rewrite_laws.proofs.JoinOperators.{Rowed}
use Rattle.rewrite_laws.proofs.Pairs.{filter-takes}
use Rattle.rules.specs.Same.{Apart}
use Rattle.sqlval.specs.Truth.{truth_not, truth_of, same_truth}
use Rattle.sqlval.specs.Value.{Row}
use Rattle.sqlval.specs.declared.truth.Truth.{Truth}
use Rattle.sqlval.specs.declared.truth.Truth.TheVariants.{False, Unknown, True}
use Rattle.std.proofs.Common.{◌≡◌, refl, sym, ap, ◌∙◌, Bool, List, [], ◌∷◌, ◌++◌, map, Ok, true, false, not, ◌||◌, append-nil, Err}
use Rattle.std.specs.List.{list_any}
use Rattle.std.specs.Prelude.{filter, if◌then◌else◌}

-- ---- Q12: rows of which no two are alike

pub distinct-apart : (rows : List Row) → Apart rows → distinct rows ≡ rows
distinct-apart [] h = refl
distinct-apart (x ∷ rows) h = ap (λ rest. x ∷ filter (λ y. not (are_alike x y)) rest) (distinct-apart rows h.1)
    ∙ ap (λ rest. x ∷ rest) (all rows h.0)
  where
    all : (ys : List Row) → Every (λ y. are_alike x y ≡ false) ys → filter (λ y. not (are_alike x y)) ys ≡ ys
    all [] k = refl
    all (y ∷ ys) k = filter-takes (λ y. not (are_alike x y)) y ys (ap not k.0) ∙ ap (λ rest. y ∷ rest) (all ys k.1)

pub distinct-drops : (o : Outcome) → Apart o.rows → only true o ≡ o
distinct-drops o h = ap (λ rows. Rowed rows o.faults) (distinct-apart o.rows h)

-- ---- Q13

-- all pairs have a value, and some is true just where the list has one that is
truths : (on : ConditionMeaning) (env : Env) (x : Row) (others : List Row) → NeverRaises on
    → (ts : List Truth) × (together (map (λ pair. on (pair ∷ env)) (beside x others)) ≡ Ok ts)
    × (some_true ts ≡ list_any (λ y. is_true_at on env (x ++ y)) others)
truths on env x [] h = ([], refl, refl)
truths on env x (y ∷ others) h =
    let v = h ((x ++ y) ∷ env) in
    let more = truths on env x others h in
    (v.0 ∷ more.0, (λ i. joined (v.1 i) (more.1 i)), (λ i. first v.0 (on ((x ++ y) ∷ env)) v.1 i || more.2 i))
  where
    first : (t : Truth) (e : Evaluation Truth) → e ≡ Ok t → same_truth t True ≡ is_true e
    first True e k = sym (ap is_true k)
    first False e k = sym (ap is_true k)
    first Unknown e k = sym (ap is_true k)

half-true : (on : ConditionMeaning) (env : Env) (others : List Row) (x : Row) → NeverRaises on
    → half_row true on env others x ≡ Ok (if list_any (λ y. is_true_at on env (x ++ y)) others then x ∷ [] else [])
half-true on env others x h =
    let found = truths on env x others h in
    ap (λ (e : Evaluation (List Truth)). e >>= (λ ts. Ok (if some_true ts then x ∷ [] else []))) found.1
    ∙ ap (λ (b : Bool). Ok (if b then x ∷ [] else [])) found.2

half-false : (on : ConditionMeaning) (env : Env) (others : List Row) (x : Row) → NeverRaises on
    → half_row false on env others x ≡ Ok (if list_any (λ y. is_true_at on env (x ++ y)) others then [] else x ∷ [])
half-false on env others x h =
    let found = truths on env x others h in
    ap (λ (e : Evaluation (List Truth)). e >>= (λ ts. Ok (if some_true ts then [] else x ∷ []))) found.1
    ∙ ap (λ (b : Bool). Ok (if b then [] else x ∷ [])) found.2

each-equal : (f g : Row → Evaluation (List Row)) (rows : List Row) → Every (λ row. f row ≡ g row) rows
    → each f rows ≡ each g rows
each-equal f g [] h = refl
each-equal f g (row ∷ rows) h = (λ i. before (h.0 i) (each-equal f g rows h.1 i))

-- a subquery has no fault, and rows just where some row of the right side makes ON true beside the
-- left row
abbrev pub Finds : ConditionMeaning → Env → (Env → Outcome) → List Row → Row → Type 0
Finds on env sub others x = ((sub (x ∷ env)).faults ≡ [])
    × (is_empty (sub (x ∷ env)).rows ≡ not (list_any (λ y. is_true_at on env (x ++ y)) others))

exists-is : (o : Outcome) → o.faults ≡ [] → exists o ≡ Ok (truth_of (not (is_empty o.rows)))
unfolding whole
exists-is o e = rw e refl

module _ (on : ConditionMeaning) (env : Env) (sub : Env → Outcome) (safe : NeverRaises on) where
  through-each : (l r : Outcome) (f g : Row → Evaluation (List Row)) → r.faults ≡ []
      → Every (λ row. f row ≡ g row) l.rows
      → through l (each f) ≡ through (Rowed l.rows (l.faults ++ r.faults)) (each g)
  unfolding through
  through-each l r f g e h = (λ i. record {
    rows = (each-equal f g l.rows h i).rows;
    faults = (sym (append-nil l.faults) ∙ ap (λ fs. l.faults ++ fs) (sym e)) i ++ (each-equal f g l.rows h i).faults;
  })

  pub exists-half : (l r : Outcome) → r.faults ≡ [] → Every (Finds on env sub r.rows) l.rows
      → through l (kept (λ e. exists (sub e)) env) ≡ half_join true on env l r
  unfolding half_join
  exists-half l r e h = through-each l r (kept_row (λ e. exists (sub e)) env) (half_row true on env r.rows) e
      (rows l.rows h)
    where
      turn : (b : Bool) (x : Row) → only_true (truth_of (not (not b))) x ≡ (if b then x ∷ [] else [])
      turn true x = refl
      turn false x = refl

      rows : (xs : List Row) → Every (Finds on env sub r.rows) xs
          → Every (λ x. kept_row (λ e. exists (sub e)) env x ≡ half_row true on env r.rows x) xs
      rows [] k = tt
      rows (x ∷ xs) k = (
        ap (λ (v : Evaluation Truth). v >>= (λ t. Ok (only_true t x))) (exists-is (sub (x ∷ env)) k.0.0
            ∙ ap (λ b. Ok (truth_of (not b))) k.0.1)
            ∙ ap (λ (found : List Row). Ok found) (turn (list_any (λ y. is_true_at on env (x ++ y)) r.rows) x)
            ∙ sym (half-true on env r.rows x safe),
        rows xs k.1,
      )

  pub exists-opposite : (l r : Outcome) → r.faults ≡ [] → Every (Finds on env sub r.rows) l.rows
      → through l (kept (λ e. exists (sub e) >>= (λ t. Ok (truth_not t))) env) ≡ half_join false on env l r
  unfolding half_join
  exists-opposite l r e h = through-each l r (kept_row (λ e. exists (sub e) >>= (λ t. Ok (truth_not t))) env)
      (half_row false on env r.rows) e (rows l.rows h)
    where
      turn : (b : Bool) (x : Row) → only_true (truth_not (truth_of (not (not b)))) x ≡ (if b then [] else x ∷ [])
      turn true x = refl
      turn false x = refl

      rows : (xs : List Row) → Every (Finds on env sub r.rows) xs
          → Every (λ x. kept_row (λ e. exists (sub e) >>= (λ t. Ok (truth_not t))) env x
          ≡ half_row false on env r.rows x) xs
      rows [] k = tt
      rows (x ∷ xs) k = (
        ap (λ (v : Evaluation Truth). (v >>= (λ t. Ok (truth_not t))) >>= (λ t. Ok (only_true t x)))
            (exists-is (sub (x ∷ env)) k.0.0 ∙ ap (λ b. Ok (truth_of (not b))) k.0.1)
            ∙ ap (λ (found : List Row). Ok found) (turn (list_any (λ y. is_true_at on env (x ++ y)) r.rows) x)
            ∙ sym (half-false on env r.rows x safe),
        rows xs k.1,
      )

-- ---- Q14: nothing is asked of safety; a subquery that sees no row outside is the same at each row

abbrev pub in_query : ExpressionMeaning → (Env → Outcome) → ConditionMeaning
in_query operand sub env = operand env >>= (λ x. whole (sub env) >>= (λ rows. Ok (among x (first_column rows))))

pub in-member : (operand : ExpressionMeaning) (sub : Env → Outcome) (env : Env) (row : Row) → sub (row ∷ env) ≡ sub env
    → in_query operand sub (row ∷ env) ≡ is_member operand false (sub env) (row ∷ env)
in-member operand sub env row e =
    ap (λ (o : Outcome). operand (row ∷ env) >>= (λ x. whole o >>= (λ rows. Ok (among x (first_column rows))))) e
    ∙ at (operand (row ∷ env) >>= (λ x. whole (sub env) >>= (λ rows. Ok (among x (first_column rows)))))
  where
    at : (v : Evaluation Truth) → v ≡ (v >>= (λ t. Ok (negated_if false t)))
    at (Ok t) = refl
    at (Err faults) = refl

pub not_in-member : (operand : ExpressionMeaning) (sub : Env → Outcome) (env : Env) (row : Row)
    → sub (row ∷ env) ≡ sub env
    → (in_query operand sub (row ∷ env) >>= (λ t. Ok (truth_not t))) ≡ is_member operand true (sub env) (row ∷ env)
not_in-member operand sub env row e =
    ap (λ (o : Outcome). (operand (row ∷ env) >>= (λ x. whole o >>= (λ rows. Ok (among x (first_column rows))))) >>=
    (λ t. Ok (truth_not t))) e
