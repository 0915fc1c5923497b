-- Filters and joins as operators on outcomes: Q2 to Q7, Q10, Q11. All are equations: the same rows
-- in the same order, the same faults.
use Rattle.algebra.specs.Joined.{keyed_join}
use Rattle.algebra.specs.Raising.{NeverRaises}
use Rattle.denote.specs.Condition.{ConditionMeaning, both}
use Rattle.denote.specs.Evaluation.{Env, Evaluation}
use Rattle.denote.specs.From.{inner_join, left_join, kept_row, kept, product, nulls, beside, is_unmatched, is_true_or_faults, padded}
use Rattle.denote.specs.Outcome.{Outcome, through}
use Rattle.denote.specs.Select.{only}
use Rattle.denote.specs.declared.fault.Fault.{Fault}
use Rattle.operator_laws.specs.Law.{is_true, is_true_at}
use Rattle.operator_laws.specs.Same.{Every}
use Rattle.rewrite_laws.proofs.Pairs.{every-then, every-all, filter-alike, pairs, pairs-left, pairs-right, pairs-matching, pairs-grouped, filter-both, filter-takes, filter-drops, every-flat, every-mapped, filter-mapped}
use Rattle.rewrite_laws.proofs.Sifted.{through-safe, sifted, each-behind}
use Rattle.sqlval.specs.Value.{Row}
use Rattle.sqlval.specs.declared.truth.Truth.{Truth}
use Rattle.sqlval.specs.declared.truth.Truth.TheVariants.{False, Unknown, True}
use Rattle.std.proofs.Common.{◌≡◌, refl, sym, ap, ◌∙◌, ℕ, Bool, List, [], ◌∷◌, ◌++◌, map, flat_map, Ok, true, false, ◌&&◌, cond, append_assoc, Err}
use Rattle.std.proofs.lemmas.List.Elements.{filter-append}
use Rattle.std.specs.Prelude.{filter, if◌then◌else◌}

-- ---- products

abbrev pub Rowed : List Row → List Fault → Outcome
Rowed rows faults = record { rows = rows; faults = faults }

-- a test sees the left row of each pair alone
abbrev pub SeesLeft : (Row → Bool) → (Row → Bool) → List Row → Type 0
SeesLeft p q left = Every (λ x. (y : Row) → q (x ++ y) ≡ p x) left

-- or the right one
abbrev pub SeesRight : (Row → Bool) → (Row → Bool) → List Row → Type 0
SeesRight p q left = Every (λ x. (y : Row) → q (x ++ y) ≡ p y) left

-- Q2, on the left: c above the product, a below, where c sees what a does
pub below-left : (a c : ConditionMeaning) (env : Env) (l r : Outcome) → NeverRaises a → NeverRaises c
    → SeesLeft (is_true_at a env) (is_true_at c env) l.rows
    → product (through l (kept a env)) r ≡ through (product l r) (kept c env)
unfolding product
below-left a c env l r h k sees =
    ap (λ o. product o r) (through-safe a env l h)
    ∙ ap (λ rows. Rowed rows (l.faults ++ r.faults))
    (sym (pairs-left (is_true_at a env) (is_true_at c env) l.rows r.rows sees))
    ∙ sym (through-safe c env (product l r) k)

-- Q2, on the right
pub below-right : (b c : ConditionMeaning) (env : Env) (l r : Outcome) → NeverRaises b → NeverRaises c
    → SeesRight (is_true_at b env) (is_true_at c env) l.rows
    → product l (through r (kept b env)) ≡ through (product l r) (kept c env)
unfolding product
below-right b c env l r h k sees =
    ap (λ o. product l o) (through-safe b env r h)
    ∙ ap (λ rows. Rowed rows (l.faults ++ r.faults))
    (sym (pairs-right (is_true_at b env) (is_true_at c env) l.rows r.rows sees))
    ∙ sym (through-safe c env (product l r) k)

-- Q5
pub product-filter : (c : ConditionMeaning) (env : Env) (l r : Outcome)
    → through (product l r) (kept c env) ≡ inner_join c env l r
unfolding inner_join
product-filter c env l r = refl

pub inner-safe : (on : ConditionMeaning) (env : Env) (l r : Outcome) → NeverRaises on
    → inner_join on env l r ≡ Rowed (filter (is_true_at on env) (pairs l.rows r.rows)) (l.faults ++ r.faults)
unfolding inner_join product
inner-safe on env l r h = through-safe on env (product l r) h

-- products group either way
pub product-grouped : (a b c : Outcome) → product (product a b) c ≡ product a (product b c)
unfolding product
product-grouped a b c = λ i. record {
  rows = pairs-grouped a.rows b.rows c.rows i;
  faults =
      append_assoc a.faults b.faults c.faults i;
}

-- Q6: joins group either way. `both` above is true where the two are
pub joins-grouped : (p q both : ConditionMeaning) (env : Env) (a b c : Outcome) → NeverRaises p → NeverRaises q
    → NeverRaises both
    → Every (λ x. (y : Row) → is_true_at both env (x ++ y) ≡ (is_true_at q env x && is_true_at p env (x ++ y)))
    (product a b).rows
    → inner_join p env (inner_join q env a b) c ≡ inner_join both env a (product b c)
unfolding inner_join product
joins-grouped p q both env a b c hp hq hb sees =
    ap (λ o. through (product o c) (kept p env)) (through-safe q env (product a b) hq)
    ∙ through-safe p env (product (sifted (is_true_at q env) (product a b)) c) hp
    ∙ one
    ∙ ap (λ o. sifted (is_true_at both env) o) (product-grouped a b c)
    ∙ sym (through-safe both env (product a (product b c)) hb)
  where
    rows : (left : List Row) (right : List Row)
        → Every (λ x. (y : Row) → is_true_at both env (x ++ y) ≡ (is_true_at q env x && is_true_at p env (x ++ y))) left
        → filter (is_true_at p env) (pairs (filter (is_true_at q env) left) right) ≡ filter (is_true_at both env)
        (pairs left right)
    rows [] right h = refl
    rows (x ∷ left) right h = at (is_true_at q env x) refl (rows left right h.1)
      where
        step : (xs : List Row) → Every (λ z. is_true_at p env z ≡ is_true_at both env z) xs
            → filter (is_true_at p env) xs ≡ filter (is_true_at both env) xs
        step xs k = filter-alike (is_true_at p env) (is_true_at both env) xs k

        none : (xs : List Row) → Every (λ z. is_true_at both env z ≡ false) xs → filter (is_true_at both env) xs ≡ []
        none [] k = refl
        none (z ∷ xs) k = filter-drops (is_true_at both env) z xs k.0 ∙ none xs k.1

        at : (b : Bool) → is_true_at q env x ≡ b
            → filter (is_true_at p env) (pairs (filter (is_true_at q env) left) right) ≡ filter (is_true_at both env)
            (pairs left right)
            → filter (is_true_at p env)
            (pairs (cond b (x ∷ filter (is_true_at q env) left) (filter (is_true_at q env) left)) right)
            ≡ filter (is_true_at both env) (pairs (x ∷ left) right)
        at true is e =
            filter-append (is_true_at p env) (beside x right) (pairs (filter (is_true_at q env) left) right)
            ∙ ap (λ rest. filter (is_true_at p env) (beside x right) ++ rest) e
            ∙ ap (λ first. first ++ filter (is_true_at both env) (pairs left right))
            (step (beside x right) (every-mapped (λ z. is_true_at p env z ≡ is_true_at both env z) (λ y. x ++ y) right
            (every-all (λ y. is_true_at p env (x ++ y) ≡ is_true_at both env (x ++ y)) right
            (λ y. sym (h.0 y ∙ ap (λ b. b && is_true_at p env (x ++ y)) is)))))
            ∙ sym (filter-append (is_true_at both env) (beside x right) (pairs left right))
        at false is e =
            e ∙ sym (filter-append (is_true_at both env) (beside x right) (pairs left right)
            ∙ ap (λ first. first ++ filter (is_true_at both env) (pairs left right))
            (none (beside x right) (every-mapped (λ z. is_true_at both env z ≡ false) (λ y. x ++ y) right
            (every-all (λ y. is_true_at both env (x ++ y) ≡ false) right
            (λ y. h.0 y ∙ ap (λ b. b && is_true_at p env (x ++ y)) is)))))

    one : sifted (is_true_at p env) (product (sifted (is_true_at q env) (product a b)) c) ≡ sifted (is_true_at both env)
        (product (product a b) c)
    one = ap (λ rs. Rowed rs ((a.faults ++ b.faults) ++ c.faults)) (rows (pairs a.rows b.rows) c.rows sees)

-- ---- left joins

kept-append : (c : ConditionMeaning) (env : Env) (xs ys : List Row) → NeverRaises c
    → filter (is_true_at c env) (xs ++ ys) ≡ filter (is_true_at c env) xs ++ filter (is_true_at c env) ys
kept-append c env xs ys h = filter-append (is_true_at c env) xs ys

-- the padded rows of left rows, where a test sees the left row alone
padded-left : (on : ConditionMeaning) (env : Env) (width : ℕ) (p q : Row → Bool) (others left : List Row)
    → SeesLeft p q left
    → filter q (flat_map (padded on env width others) left) ≡ flat_map (padded on env width others) (filter p left)
padded-left on env width p q others [] h = refl
padded-left on env width p q others (x ∷ left) h =
    filter-append q (padded on env width others x) (flat_map (padded on env width others) left)
    ∙ ap (λ rest. filter q (padded on env width others x) ++ rest) (padded-left on env width p q others left h.1)
    ∙ at (p x) refl
  where
    one : (b : Bool) → q (x ++ nulls width) ≡ b → (u : Bool) → filter q (if u then (x ++ nulls width) ∷ [] else [])
        ≡ cond b (if u then (x ++ nulls width) ∷ [] else []) []
    one true e true = filter-takes q (x ++ nulls width) [] e
    one true e false = refl
    one false e true = filter-drops q (x ++ nulls width) [] e
    one false e false = refl

    at : (b : Bool) → p x ≡ b → filter q (padded on env width others x) ++ flat_map (padded on env width others)
        (filter p left)
        ≡ flat_map (padded on env width others) (cond b (x ∷ filter p left) (filter p left))
    at true is = ap (λ first. first ++ flat_map (padded on env width others) (filter p left))
        (one true (h.0 (nulls width) ∙ is) (is_unmatched on env others x))
    at false is = ap (λ first. first ++ flat_map (padded on env width others) (filter p left))
        (one false (h.0 (nulls width) ∙ is) (is_unmatched on env others x))

-- Q3: c above the left join, a below on its left. ON never raises: it is not tried at the rows that
-- a drops
pub left-of-left : (a c on : ConditionMeaning) (env : Env) (width : ℕ) (l r : Outcome) → NeverRaises a → NeverRaises c
    → NeverRaises on
    → SeesLeft (is_true_at a env) (is_true_at c env) l.rows
    → left_join on env width (through l (kept a env)) r ≡ through (left_join on env width l r) (kept c env)
unfolding left_join inner_join product
left-of-left a c on env width l r ha hc ho sees =
    ap (λ o. left_join on env width o r) (through-safe a env l ha)
    ∙ (λ i. record {
      rows = (first i).rows ++ sym (padded-left on env width (is_true_at a env) (is_true_at c env) r.rows l.rows sees)
          i;
      faults = (first i).faults;
    })
    ∙ ap (λ rows. Rowed rows (inner_join on env l r).faults)
    (sym (filter-append (is_true_at c env) (inner_join on env l r).rows
    (flat_map (padded on env width r.rows) l.rows)))
    ∙ sym (through-safe c env (left_join on env width l r) hc)
  where
    commute : (p q : Row → Bool) (xs : List Row) → filter p (filter q xs) ≡ filter q (filter p xs)
    commute p q [] = refl
    commute p q (x ∷ xs) = at (p x) refl (q x) refl (commute p q xs)
      where
        at : (b : Bool) → p x ≡ b → (d : Bool) → q x ≡ d → filter p (filter q xs) ≡ filter q (filter p xs)
            → filter p (cond d (x ∷ filter q xs) (filter q xs)) ≡ filter q (cond b (x ∷ filter p xs) (filter p xs))
        at true px true qx e = filter-takes p x (filter q xs) px ∙ ap (λ rest. x ∷ rest) e
            ∙ sym (filter-takes q x (filter p xs) qx)
        at true px false qx e = e ∙ sym (filter-drops q x (filter p xs) qx)
        at false px true qx e = filter-drops p x (filter q xs) px ∙ e
        at false px false qx e = e

    first : inner_join on env (sifted (is_true_at a env) l) r ≡ sifted (is_true_at c env) (inner_join on env l r)
    first =
        inner-safe on env (sifted (is_true_at a env) l) r ho
        ∙ ap (λ rs. Rowed (filter (is_true_at on env) rs) (l.faults ++ r.faults))
        (sym (pairs-left (is_true_at a env) (is_true_at c env) l.rows r.rows sees))
        ∙ ap (λ rs. Rowed rs (l.faults ++ r.faults))
        (commute (is_true_at on env) (is_true_at c env) (pairs l.rows r.rows))
        ∙ ap (λ o. sifted (is_true_at c env) o) (sym (inner-safe on env l r ho))

-- Q7: no padded row passes the filter above
pub left-to-inner : (f on : ConditionMeaning) (env : Env) (width : ℕ) (l r : Outcome)
    → Every (λ x. kept_row f env (x ++ nulls width) ≡ Ok []) l.rows
    → through (left_join on env width l r) (kept f env) ≡ through (inner_join on env l r) (kept f env)
unfolding through left_join
left-to-inner f on env width l r none =
    ap (λ (k : Outcome). record { rows = k.rows; faults = (inner_join on env l r).faults ++ k.faults })
    (each-behind (kept_row f env) (inner_join on env l r).rows (flat_map (padded on env width r.rows) l.rows)
    (every-flat (λ row. kept_row f env row ≡ Ok []) (padded on env width r.rows) l.rows
    (every-then (λ x. kept_row f env (x ++ nulls width) ≡ Ok [])
    (λ x. Every (λ row. kept_row f env row ≡ Ok []) (padded on env width r.rows x)) l.rows none
    (λ x h. at (is_unmatched on env r.rows x) x h))))
  where
    at : (u : Bool) (x : Row) → kept_row f env (x ++ nulls width) ≡ Ok []
        → Every (λ row. kept_row f env row ≡ Ok []) (if u then (x ++ nulls width) ∷ [] else [])
    at true x h = (h, tt)
    at false x h = tt

-- ---- joins by equal columns: Q10, Q11

pub keyed-inner : (on : ConditionMeaning) (env : Env) (m : Row → Row → Bool) (l r : Outcome) → NeverRaises on
    → Every (λ x. (y : Row) → is_true_at on env (x ++ y) ≡ true → m x y ≡ true) l.rows
    → keyed_join on env (λ x. filter (m x) r.rows) r.faults l ≡ inner_join on env l r
unfolding keyed_join
keyed-inner on env m l r safe only =
    through-safe on env (Rowed (flat_map (λ row. beside row (filter (m row) r.rows)) l.rows) (l.faults ++ r.faults))
    safe
    ∙ ap (λ rs. Rowed rs (l.faults ++ r.faults)) (pairs-matching (is_true_at on env) m l.rows r.rows only)
    ∙ sym (inner-safe on env l r safe)

-- ---- Q4

-- ON is true where what goes to the right side is, and what stays
abbrev pub Divides : (Row → Bool) → (Row → Bool) → (Row → Bool) → List Row → Type 0
Divides on right stays left = Every (λ x. (y : Row) → on (x ++ y) ≡ (right y && stays (x ++ y))) left

pairs-divided : (q p stays : Row → Bool) (left right : List Row) → Divides q p stays left
    → filter q (pairs left right) ≡ filter stays (pairs left (filter p right))
pairs-divided q p stays [] right h = refl
pairs-divided q p stays (x ∷ left) right h =
    filter-append q (beside x right) (pairs left right)
    ∙ ap (λ rest. filter q (beside x right) ++ rest) (pairs-divided q p stays left right h.1)
    ∙ ap (λ first. first ++ filter stays (pairs left (filter p right))) row
    ∙ sym (filter-append stays (beside x (filter p right)) (pairs left (filter p right)))
  where
    row : filter q (beside x right) ≡ filter stays (beside x (filter p right))
    row = filter-mapped q (λ y. x ++ y) right
        ∙ ap (map (λ y. x ++ y)) (filter-alike (λ y. q (x ++ y)) (λ y. p y && stays (x ++ y)) right
        (every-all (λ y. q (x ++ y) ≡ (p y && stays (x ++ y))) right h.0)
        ∙ sym (filter-both p (λ y. stays (x ++ y)) right))
        ∙ sym (filter-mapped stays (λ y. x ++ y) (filter p right))

safe-match : (on : ConditionMeaning) (env : Env) (pair : Row) → NeverRaises on
    → is_true_or_faults (on (pair ∷ env)) ≡ is_true_at on env pair
safe-match on env pair h = let v = h (pair ∷ env) in at (on (pair ∷ env)) v.0 v.1
  where
    at : (x : Evaluation Truth) (t : Truth) → x ≡ Ok t → is_true_or_faults x ≡ is_true x
    at (Ok True) t e = refl
    at (Ok False) t e = refl
    at (Ok Unknown) t e = refl
    at (Err faults) t e = absurd (cc (e))

unmatched-divided : (on stays : ConditionMeaning) (env : Env) (p : Row → Bool) (x : Row) (others : List Row)
    → NeverRaises on → NeverRaises stays
    → ((y : Row) → is_true_at on env (x ++ y) ≡ (p y && is_true_at stays env (x ++ y)))
    → is_unmatched on env others x ≡ is_unmatched stays env (filter p others) x
unmatched-divided on stays env p x [] h k e = refl
unmatched-divided on stays env p x (y ∷ others) h k e =
    ap (λ b. (if b then false else true) && is_unmatched on env others x) (safe-match on env (x ++ y) h ∙ e y)
    ∙ ap (λ rest. (if p y && is_true_at stays env (x ++ y) then false else true) && rest)
    (unmatched-divided on stays env p x others h k e)
    ∙ at (p y)
  where
    at : (b : Bool) → ((if b && is_true_at stays env (x ++ y) then false else true) && is_unmatched stays env
        (filter p others) x)
        ≡ is_unmatched stays env (cond b (y ∷ filter p others) (filter p others)) x
    at true = ap (λ b. (if b then false else true) && is_unmatched stays env (filter p others) x)
        (sym (safe-match stays env (x ++ y) k))
    at false = refl

pub inner-into-right : (on stays right : ConditionMeaning) (env : Env) (l r : Outcome) → NeverRaises on
    → NeverRaises stays
    → NeverRaises right → Divides (is_true_at on env) (is_true_at right env) (is_true_at stays env) l.rows
    → inner_join on env l r ≡ inner_join stays env l (through r (kept right env))
inner-into-right on stays right env l r ho hs hr divides =
    inner-safe on env l r ho
    ∙ ap (λ rs. Rowed rs (l.faults ++ r.faults))
    (pairs-divided (is_true_at on env) (is_true_at right env) (is_true_at stays env) l.rows r.rows divides)
    ∙ sym (inner-safe stays env l (sifted (is_true_at right env) r) hs)
    ∙ sym (ap (λ o. inner_join stays env l o) (through-safe right env r hr))

pub on-into-right : (on stays right : ConditionMeaning) (env : Env) (width : ℕ) (l r : Outcome) → NeverRaises on
    → NeverRaises stays → NeverRaises right
    → Divides (is_true_at on env) (is_true_at right env) (is_true_at stays env) l.rows
    → left_join on env width l r ≡ left_join stays env width l (through r (kept right env))
unfolding left_join inner_join product
on-into-right on stays right env width l r ho hs hr divides =
    (λ i. record { rows = (matched i).rows ++ pads l.rows divides i; faults = (matched i).faults })
    ∙ sym (ap (λ o. left_join stays env width l o) (through-safe right env r hr))
  where
    matched : inner_join on env l r ≡ inner_join stays env l (sifted (is_true_at right env) r)
    matched = inner-safe on env l r ho
        ∙ ap (λ rs. Rowed rs (l.faults ++ r.faults))
        (pairs-divided (is_true_at on env) (is_true_at right env) (is_true_at stays env) l.rows r.rows divides)
        ∙ sym (inner-safe stays env l (sifted (is_true_at right env) r) hs)

    pads : (left : List Row) → Divides (is_true_at on env) (is_true_at right env) (is_true_at stays env) left
        → flat_map (padded on env width r.rows) left
        ≡ flat_map (padded stays env width (filter (is_true_at right env) r.rows)) left
    pads [] h = refl
    pads (x ∷ left) h =
        ap (λ rest. padded on env width r.rows x ++ rest) (pads left h.1)
        ∙ ap (λ (u : Bool). (if u then (x ++ nulls width) ∷ [] else []) ++ flat_map
        (padded stays env width (filter (is_true_at right env) r.rows)) left)
        (unmatched-divided on stays env (is_true_at right env) x r.rows ho hs h.0)
