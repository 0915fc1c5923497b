-- Listings of operators on rows stand to their outcomes.
use Rattle.std.proofs.Common.{◌≡◌, refl, ap, sym, ◌∙◌, subst, ℕ, true, false, List, [], ◌∷◌, ◌++◌, map, append_assoc, append-nil, rules, Ok, Err, ◌⊎◌, inl, inr}
use Rattle.std.specs.Prelude.{Contains, flat_map}
use Rattle.std.proofs.lemmas.List.Elements.{Contains-append_left, Contains-append_right, Contains-append_cases}
use Rattle.sqlval.specs.Value.{Row}
use Rattle.denote.specs.declared.fault.Fault.{Fault}
use Rattle.denote.specs.Evaluation.{Env, Evaluation, ◌>>=◌}
use Rattle.denote.specs.Outcome.{Outcome, before, each, through, nothing_at_all}
use Rattle.denote.specs.Condition.{ConditionMeaning}
use Rattle.denote.specs.Expression.{ExpressionMeaning}
use Rattle.denote.specs.Select.{values_of, shown_row}
use Rattle.denote.specs.From.{kept_row, kept, only_true, beside, product, inner_join, padded, left_join}
use Rattle.denote.specs.Bag.{Permutes, nothing, keeps, exchanges, goes_on, IsSame, HasSame}
use Rattle.operator_laws.proofs.Permuting.{Permutes-refl, Permutes-of, Permutes-sym, Permutes-append, Permutes-before, Permutes-after, Permutes-exchange, Permutes-map, Permutes-flat_map, Permutes-middle, IsWithin-permutes, HasSame-permutes, HasSame-append, HasSame-trans}
use Rattle.operator_laws.proofs.Same.{Each-map}
use Rattle.operator_laws.specs.Same.{Each}
use Rattle.algebra.specs.Listing.{first_only, listed_rows, end_by, ended, unless_ended, then_list, in_order, row_by_row, onwards, whole_first, pairs_of}
use Rattle.algebra_laws.specs.Shown.{IsShown, ShowsBy, Shows, ShowsAt, Lists, ListsAt}
use Rattle.algebra_laws.proofs.Evaluations.{follows, then-shows, together-shows}

-- the one fault that ends a list is one of those there
pub first_only-within : (faults : List Fault) (f : Fault) → Contains (first_only faults) f → Contains faults f
first_only-within [] f c = c
first_only-within (fault ∷ faults) f c = Contains-append_left (fault ∷ []) faults f c

pub first_only-none : (faults : List Fault) → first_only faults ≡ [] → faults ≡ []
first_only-none [] e = refl
first_only-none (fault ∷ faults) e = absurd (cc)

-- two outcomes side by side
abbrev pub joined_by : Outcome → Outcome → Outcome
joined_by o p = record { rows = o.rows ++ p.rows; faults = o.faults ++ p.faults }

-- the outcomes of all rows
abbrev pub all_of : (Row → Outcome) → List Row → Outcome
all_of f [] = nothing_at_all
all_of f (row ∷ rows) = joined_by (f row) (all_of f rows)

-- an evaluation as an outcome
abbrev pub as_outcome : Evaluation (List Row) → Outcome
as_outcome (Ok rows) = record { rows = rows; faults = [] }
as_outcome (Err faults) = record { rows = []; faults = faults }

pub before-is : (x : Evaluation (List Row)) (o : Outcome) → before x o ≡ joined_by (as_outcome x) o
before-is (Ok rows) o = refl
before-is (Err faults) o = refl

pub each-is : (f : Row → Evaluation (List Row)) (rows : List Row) → each f rows ≡ all_of (λ row. as_outcome (f row)) rows
each-is f [] = refl
each-is f (row ∷ rows) = before-is (f row) (each f rows) ∙ ap (λ o. joined_by (as_outcome (f row)) o) (each-is f rows)

-- ---- outcomes that are the same

pub same-trans : (o p q : Outcome) → IsSame o p → IsSame p q → IsSame o q
same-trans o p q h k = record {
  rows = goes_on h.rows k.rows;
  faults = λ x. (λ c. (k.faults x).0 ((h.faults x).0 c), λ c. (h.faults x).1 ((k.faults x).1 c));
}

pub none-same : (xs ys : List Fault) → HasSame xs ys → ys ≡ [] → xs ≡ []
none-same [] ys h e = refl
none-same (x ∷ xs) ys h e = absurd (nothing_in x (subst (λ (zs : List Fault). Contains zs x) e ((h x).0 (Contains-append_left (x ∷ []) xs x first))))
  where
    first : Contains (x ∷ []) x
    first = search (rules)

    nothing_in : (x : Fault) → Contains [] x → ⊥
    nothing_in x c = search (rules)

-- what lists an outcome lists the same outcome in another order
pub Lists-same : (l o p : Outcome) → IsSame p o → Lists l o → Lists l p
Lists-same l o p s h = record {
  missing = h.missing;
  rows = goes_on s.rows h.rows;
  within = λ f c. (s.faults f).1 (h.within f c);
  complete = λ e. (none-same p.faults o.faults s.faults (h.complete e).0, (h.complete e).1);
}

-- ---- one after another

pub then-lists : (l m o p : Outcome) → Lists l o → Lists m p → Lists (then_list l m) (joined_by o p)
then-lists l m o p h k = at l.faults refl
  where
    at : (fs : List Fault) → l.faults ≡ fs → Lists (then_list l m) (joined_by o p)
    at [] e = let c = h.complete e in rw e record {
      missing = k.missing;
      rows = subst (λ (zs : List Row). Permutes (o.rows ++ p.rows) zs) (sym (append_assoc l.rows m.rows k.missing))
          (Permutes-append o.rows l.rows p.rows (m.rows ++ k.missing)
          (subst (λ (zs : List Row). Permutes o.rows zs) (ap (λ r. l.rows ++ r) c.1 ∙ append-nil l.rows) h.rows) k.rows);
      within = λ f there. Contains-append_right o.faults p.faults f (k.within f there);
      complete = λ none. (rw (c.0, (k.complete none).0) refl, (k.complete none).1);
    }
    at (fault ∷ faults) e = rw e record {
      missing = h.missing ++ p.rows;
      rows = subst (λ (zs : List Row). Permutes (o.rows ++ p.rows) zs) (append_assoc l.rows h.missing p.rows ∙ ap (λ r. r ++ (h.missing ++ p.rows)) (sym (append-nil l.rows)))
          (Permutes-before p.rows o.rows (l.rows ++ h.missing) h.rows);
      within = λ f there. Contains-append_left o.faults p.faults f (h.within f (subst (λ (zs : List Fault). Contains zs f) (sym e) (Contains-append_left (fault ∷ []) faults f there)));
      complete = λ none. absurd (cc);
    }

pub ended-lists : (x y : Evaluation (List Row)) → Shows x y → Lists (ended x) (as_outcome y)
ended-lists (Ok rows) (Ok others) h = record {
  missing = [];
  rows = subst (λ (zs : List Row). Permutes others zs) (sym (append-nil rows ∙ h)) (Permutes-refl others);
  within = λ f c. c;
  complete = λ e. (refl, refl);
}
ended-lists (Ok rows) (Err faults) h = absurd h
ended-lists (Err shown) (Ok others) h = absurd h
ended-lists (Err []) (Err faults) h = record { missing = []; rows = nothing; within = λ f c. h.within f c; complete = λ e. (h.none refl, refl) }
ended-lists (Err (fault ∷ shown)) (Err faults) h = record {
  missing = [];
  rows = nothing;
  within = λ f c. h.within f (Contains-append_left (fault ∷ []) shown f c);
  complete = λ e. absurd (cc);
}

pub rows-list : (f g : Row → Outcome) (rows : List Row) → ((row : Row) → Lists (f row) (g row)) → Lists (in_order f rows) (all_of g rows)
rows-list f g [] h = record { missing = []; rows = nothing; within = λ x c. c; complete = λ e. (refl, refl) }
rows-list f g (row ∷ rows) h = then-lists (f row) (in_order f rows) (g row) (all_of g rows) (h row) (rows-list f g rows h)

-- ---- the order of rows

pub all-append : (g : Row → Outcome) (xs ys : List Row) → all_of g (xs ++ ys) ≡ joined_by (all_of g xs) (all_of g ys)
all-append g [] ys = refl
all-append g (x ∷ xs) ys = ap (λ o. joined_by (g x) o) (all-append g xs ys)
    ∙ outcome_assoc (g x) (all_of g xs) (all_of g ys)
  where
    outcome_assoc : (o p q : Outcome) → joined_by o (joined_by p q) ≡ joined_by (joined_by o p) q
    outcome_assoc o p q = rw (append_assoc o.rows p.rows q.rows, append_assoc o.faults p.faults q.faults) refl

pub all-rows : (g : Row → Outcome) (rows : List Row) → (all_of g rows).rows ≡ flat_map (λ row. (g row).rows) rows
all-rows g [] = refl
all-rows g (row ∷ rows) = ap (λ zs. (g row).rows ++ zs) (all-rows g rows)

pub all-faults : (g : Row → Outcome) (rows : List Row) → (all_of g rows).faults ≡ flat_map (λ row. (g row).faults) rows
all-faults g [] = refl
all-faults g (row ∷ rows) = ap (λ zs. (g row).faults ++ zs) (all-faults g rows)

pub all-permutes : (g : Row → Outcome) (xs ys : List Row) → Permutes xs ys → IsSame (all_of g xs) (all_of g ys)
all-permutes g xs ys p = record {
  rows = rw (all-rows g xs, all-rows g ys) (Permutes-flat_map (λ row. (g row).rows) xs ys p);
  faults = rw (all-faults g xs, all-faults g ys) (HasSame-permutes (flat_map (λ row. (g row).faults) xs) (flat_map (λ row. (g row).faults) ys) (Permutes-flat_map (λ row. (g row).faults) xs ys p));
}

-- ---- what is made of a part row by row

-- what a part makes, row by row
abbrev pub made_of : Outcome → (Row → Outcome) → Outcome
made_of o g = record { rows = (all_of g o.rows).rows; faults = o.faults ++ (all_of g o.rows).faults }

-- the rows that were not listed, and the part's faults
abbrev left_out : Outcome → (Row → Outcome) → List Row → Outcome
left_out o g missing = record { rows = (all_of g missing).rows; faults = o.faults ++ (all_of g missing).faults }

made_of-same : (o : Outcome) (g : Row → Outcome) (xs ys : List Row) → Permutes o.rows (xs ++ ys)
    → IsSame (made_of o g) (joined_by (all_of g xs) (left_out o g ys))
made_of-same o g xs ys p =
    let same = all-permutes g o.rows (xs ++ ys) p in
    let split = all-append g xs ys in
    record {
      rows = subst (λ (q : Outcome). Permutes (all_of g o.rows).rows q.rows) split same.rows;
      faults = same_faults (all_of g o.rows).faults (subst (λ (q : Outcome). HasSame (all_of g o.rows).faults q.faults) split same.faults);
    }
  where
    same_faults : (fs : List Fault) → HasSame fs ((all_of g xs).faults ++ (all_of g ys).faults) → HasSame (o.faults ++ fs) ((all_of g xs).faults ++ (o.faults ++ (all_of g ys).faults))
    same_faults fs h = HasSame-trans (o.faults ++ fs) (o.faults ++ ((all_of g xs).faults ++ (all_of g ys).faults)) ((all_of g xs).faults ++ (o.faults ++ (all_of g ys).faults))
        (HasSame-append o.faults o.faults fs ((all_of g xs).faults ++ (all_of g ys).faults) (λ x. (λ c. c, λ c. c)) h)
        (HasSame-permutes (o.faults ++ ((all_of g xs).faults ++ (all_of g ys).faults)) ((all_of g xs).faults ++ (o.faults ++ (all_of g ys).faults))
        (Permutes-exchange o.faults (all_of g xs).faults (all_of g ys).faults))

left_out-lists : (l o : Outcome) (g : Row → Outcome) (h : Lists l o) → Lists (end_by l.faults) (left_out o g h.missing)
left_out-lists l o g h = record {
  missing = (all_of g h.missing).rows;
  rows = Permutes-refl (all_of g h.missing).rows;
  within = λ f c. Contains-append_left o.faults (all_of g h.missing).faults f (h.within f (first_only-within l.faults f c));
  complete = λ e. let c = h.complete (first_only-none l.faults e) in (rw (c.0, c.1) refl, rw c.1 refl);
}

pub onwards-lists : (l o : Outcome) (f g : Row → Outcome) → Lists l o → ((row : Row) → Lists (f row) (g row))
    → Lists (onwards l (in_order f)) (made_of o g)
onwards-lists l o f g h k = Lists-same (onwards l (in_order f)) (joined_by (all_of g l.rows) (left_out o g h.missing)) (made_of o g)
    (made_of-same o g l.rows h.missing h.rows)
    (then-lists (in_order f l.rows) (end_by l.faults) (all_of g l.rows) (left_out o g h.missing) (rows-list f g l.rows k) (left_out-lists l o g h))

-- what is made by evaluations
pub through-lists : (l o : Outcome) (f g : Row → Evaluation (List Row)) → Lists l o → ((row : Row) → Shows (f row) (g row))
    → Lists (onwards l (row_by_row f)) (through o (each g))
unfolding through
through-lists l o f g h k = subst (λ (m : Outcome). Lists (onwards l (row_by_row f)) (record { rows = m.rows; faults = o.faults ++ m.faults })) (sym (each-is g o.rows))
    (onwards-lists l o (λ row. ended (f row)) (λ row. as_outcome (g row)) h (λ row. ended-lists (f row) (g row) (k row)))

-- ---- what takes a part whole

pub ended-early : (fs : List Fault) (fault : Fault) (faults : List Fault) (o : Outcome) → fs ≡ fault ∷ faults → ((f : Fault) → Contains fs f → Contains o.faults f)
    → (l : Outcome) → Lists (unless_ended fs l) o
ended-early fs fault faults o e h l = rw e record {
  missing = o.rows;
  rows = Permutes-refl o.rows;
  within = λ f c. h f (subst (λ (zs : List Fault). Contains zs f) (sym e) (Contains-append_left (fault ∷ []) faults f c));
  complete = λ none. absurd (cc);
}

-- a part, and what is made of its rows where it has no fault
pub whole-lists : (l o p : Outcome) (made : List Row → Outcome) → Lists l o → ((f : Fault) → Contains o.faults f → Contains p.faults f)
    → (o.faults ≡ [] → Permutes o.rows l.rows → Lists (made l.rows) p) → Lists (whole_first l made) p
whole-lists l o p made h within k = at l.faults refl
  where
    at : (fs : List Fault) → l.faults ≡ fs → Lists (whole_first l made) p
    at [] e = let c = h.complete e in rw e (k c.0 (subst (λ (zs : List Row). Permutes o.rows zs) (ap (λ r. l.rows ++ r) c.1 ∙ append-nil l.rows) h.rows))
    at (fault ∷ faults) e = ended-early l.faults fault faults p e (λ f c. within f (h.within f c)) (made l.rows)

pub kept-shows : (f g : ConditionMeaning) (env : Env) (row : Row) → ShowsAt f g → Shows (kept_row f env row) (kept_row g env row)
kept-shows f g env row h = then-shows (f (row ∷ env)) (g (row ∷ env)) (λ t. Ok (only_true t row)) (h (row ∷ env))

-- ---- select lists

pub shown-shows : (fs gs : List ExpressionMeaning) (env : Env) (row : Row) → Each ShowsAt fs gs → Shows (shown_row fs env row) (shown_row gs env row)
shown-shows fs gs env row h = then-shows (values_of fs (row ∷ env)) (values_of gs (row ∷ env)) (λ values. Ok (values ∷ []))
    (together-shows (map (λ item. item (row ∷ env)) fs) (map (λ item. item (row ∷ env)) gs)
    (Each-map ShowsAt Shows (λ item. item (row ∷ env)) (λ item. item (row ∷ env)) fs gs h (λ f g k. k (row ∷ env))))
