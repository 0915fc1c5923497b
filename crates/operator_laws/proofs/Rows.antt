-- Operators on rows keep what is the same up to the order of rows.
use Rattle.std.proofs.Common.{◌≡◌, refl, ap, ◌∙◌, subst, ℕ, pos, Bool, true, false, if◌then◌else◌, List, [], ◌∷◌, ◌++◌, map, Option, Some, None, Ok, Err}
use Rattle.std.specs.Prelude.{flat_map, replicate}
use Rattle.std.specs.List.{list_all}
use Rattle.sqlval.specs.declared.truth.Truth.{Truth}
use Rattle.sqlval.specs.declared.value.Value.{Value}
use Rattle.sqlval.specs.Arithmetic.{in_range}
use Rattle.sqlval.specs.Matching.{key_of}
use Rattle.sqlval.specs.Value.{Row}
use Rattle.typing.specs.declared.typed.SetFunctionType.{SetFunctionType}
use Rattle.typing.specs.declared.typed.SetOperation.{SetOperation}
use Rattle.denote.specs.Evaluation.{Env, Evaluation, ◌>>=◌, together, given}
use Rattle.denote.specs.Outcome.{Outcome, before, each, through}
use Rattle.denote.specs.Expression.{ExpressionMeaning}
use Rattle.denote.specs.Condition.{ConditionMeaning}
use Rattle.denote.specs.From.{only_true, kept_row, kept, filtered, beside, product, inner_join, is_true_or_faults, is_unmatched, padded, left_join}
use Rattle.denote.specs.Group.{SetFunctionMeaning, keys_of, members, aggregated, taken, beyond_count, count_of_rows, set_function, group_row, grouped}
use Rattle.denote.specs.Select.{values_of, shown_row, shown, only}
use Rattle.denote.specs.SetOperator.{multiplicity, combined, set_operation, set_chain}
use Rattle.denote.specs.Bag.{Permutes, goes_on, IsSame, are_alike, times, distinct}
use Rattle.operator_laws.proofs.LawLemmas.{each-orderless, product-same}
use Rattle.operator_laws.proofs.Permuting.{Permutes-refl, Permutes-append, Permutes-map, Permutes-flat_map, Permutes-each_flat_map, HasSame-append, HasSame-trans}
use Rattle.operator_laws.specs.Same.{IsSameValue, Each, IfBoth, Agree, AgreeOnRows, AgreeOnGroups, AgreeOnParts}
use Rattle.operator_laws.specs.Same.{Every}
use Rattle.operator_laws.proofs.Alike.{are_alike-equal, are_alike-symm}
use Rattle.operator_laws.proofs.Orders.{list_all-permutes, length-permutes, count_by-permutes, Permutes-filter, distinct-permutes}
use Rattle.operator_laws.proofs.Same.{HasSame-refl, IsSameValue-of, next-alike, then-same, adding-alike, together-same, together-rows, Each-map}
use Rattle.operator_laws.proofs.SetFunctions.{aggregated-permutes, taken-permutes}

pub IsSame-refl : (o : Outcome) → IsSame o o
IsSame-refl o = record { rows = Permutes-refl o.rows; faults = HasSame-refl o.faults }

pub IsSame-trans : (o p q : Outcome) → IsSame o p → IsSame p q → IsSame o q
IsSame-trans o p q h k = record { rows = goes_on h.rows k.rows; faults = HasSame-trans o.faults p.faults q.faults h.faults k.faults }

-- ---- row by row

before-same : (x y : Evaluation (List Row)) (o p : Outcome) → IsSameValue x y → IsSame o p → IsSame (before x o) (before y p)
before-same (Ok x) (Ok y) o p e h =
    record { rows = Permutes-append x y o.rows p.rows (subst (λ (z : List Row). Permutes x z) e (Permutes-refl x)) h.rows; faults = h.faults }
before-same (Ok x) (Err others) o p e h = absurd e
before-same (Err faults) (Ok y) o p e h = absurd e
before-same (Err faults) (Err others) o p e h = record { rows = h.rows; faults = HasSame-append faults others o.faults p.faults e h.faults }

each-same : (f g : Row → Evaluation (List Row)) (rows : List Row) → ((row : Row) → IsSameValue (f row) (g row)) → IsSame (each f rows) (each g rows)
each-same f g [] h = IsSame-refl (each f [])
each-same f g (row ∷ rows) h = before-same (f row) (g row) (each f rows) (each g rows) (h row) (each-same f g rows h)

pub each-agree : (f g : Row → Evaluation (List Row)) (rows others : List Row) → ((row : Row) → IsSameValue (f row) (g row)) → Permutes rows others
    → IsSame (each f rows) (each g others)
each-agree f g rows others h p = IsSame-trans (each f rows) (each f others) (each g others) (each-orderless f rows others p) (each-same f g others h)

pub through-agree : (o p : Outcome) (f g : List Row → Outcome) → IsSame o p
    → ((rows others : List Row) → Permutes rows others → IsSame (f rows) (g others)) → IsSame (through o f) (through p g)
unfolding through
through-agree o p f g h k =
    let made = k o.rows p.rows h.rows in
    record { rows = made.rows; faults = HasSame-append o.faults p.faults (f o.rows).faults (g p.rows).faults h.faults made.faults }

kept-agree : (f g : ConditionMeaning) (env : Env) (rows others : List Row) → Agree f g → Permutes rows others → IsSame (kept f env rows) (kept g env others)
kept-agree f g env rows others h p =
    each-agree (kept_row f env) (kept_row g env) rows others (λ row. then-same (f (row ∷ env)) (g (row ∷ env)) (λ t. Ok (only_true t row)) (h (row ∷ env))) p

pub filtered-agree : (f g : Option ConditionMeaning) (env : Env) (o p : Outcome) → IfBoth Agree f g → IsSame o p → IsSame (filtered f env o) (filtered g env p)
filtered-agree None None env o p h k = k
filtered-agree None (Some g) env o p h k = absurd h
filtered-agree (Some f) None env o p h k = absurd h
filtered-agree (Some f) (Some g) env o p h k = through-agree o p (kept f env) (kept g env) k (λ rows others q. kept-agree f g env rows others h q)

shown-agree : (fs gs : List ExpressionMeaning) (env : Env) (rows others : List Row) → Each Agree fs gs → Permutes rows others
    → IsSame (shown fs env rows) (shown gs env others)
shown-agree fs gs env rows others h p = each-agree (shown_row fs env) (shown_row gs env) rows others
    (λ row. then-same (values_of fs (row ∷ env)) (values_of gs (row ∷ env)) (λ values. Ok (values ∷ []))
    (together-same (map (λ item. item (row ∷ env)) fs) (map (λ item. item (row ∷ env)) gs)
    (Each-map Agree IsSameValue (λ item. item (row ∷ env)) (λ item. item (row ∷ env)) fs gs h (λ f g k. k (row ∷ env)))))
    p

pub list-agree : (fs gs : List ExpressionMeaning) (env : Env) (o p : Outcome) → Each Agree fs gs → IsSame o p
    → IsSame (through o (shown fs env)) (through p (shown gs env))
list-agree fs gs env o p h k = through-agree o p (shown fs env) (shown gs env) k (λ rows others q. shown-agree fs gs env rows others h q)

-- ---- joins

pub inner_join-agree : (f g : ConditionMeaning) (env : Env) (l m r s : Outcome) → Agree f g → IsSame l m → IsSame r s
    → IsSame (inner_join f env l r) (inner_join g env m s)
unfolding inner_join
inner_join-agree f g env l m r s a h k = through-agree (product l r) (product m s) (kept f env) (kept g env) (product-same l m r s h k)
    (λ rows others q. kept-agree f g env rows others a q)

same_match : (x y : Evaluation Truth) → IsSameValue x y → is_true_or_faults x ≡ is_true_or_faults y
same_match (Ok x) (Ok y) e = ap (λ t. is_true_or_faults (Ok t)) e
same_match (Ok x) (Err others) e = absurd e
same_match (Err faults) (Ok y) e = absurd e
same_match (Err faults) (Err others) e = refl

list_all-same : {X : Type 0} (p q : X → Bool) (xs : List X) → ((x : X) → p x ≡ q x) → list_all p xs ≡ list_all q xs
list_all-same p q [] h = refl
list_all-same p q (x ∷ xs) h = rw (h x, list_all-same p q xs h) refl

unmatched-same : (f g : ConditionMeaning) (env : Env) (rows others : List Row) (row : Row) → Agree f g → Permutes rows others
    → is_unmatched f env rows row ≡ is_unmatched g env others row
unmatched-same f g env rows others row a p =
    list_all-permutes (λ pair. if is_true_or_faults (f (pair ∷ env)) then false else true) (beside row rows) (beside row others)
    (Permutes-map (λ other. row ++ other) rows others p)
    ∙ list_all-same (λ pair. if is_true_or_faults (f (pair ∷ env)) then false else true)
    (λ pair. if is_true_or_faults (g (pair ∷ env)) then false else true) (beside row others)
    (λ pair. ap (λ (b : Bool). if b then false else true) (same_match (f (pair ∷ env)) (g (pair ∷ env)) (a (pair ∷ env))))

padded-same : (f g : ConditionMeaning) (env : Env) (width : ℕ) (rows others : List Row) (row : Row) → Agree f g → Permutes rows others
    → Permutes (padded f env width rows row) (padded g env width others row)
padded-same f g env width rows others row a p =
    rw (unmatched-same f g env rows others row a p) (Permutes-refl (padded g env width others row))

pub left_join-agree : (f g : ConditionMeaning) (env : Env) (width : ℕ) (l m r s : Outcome) → Agree f g → IsSame l m → IsSame r s
    → IsSame (left_join f env width l r) (left_join g env width m s)
unfolding left_join
left_join-agree f g env width l m r s a h k =
    let pairs = inner_join-agree f g env l m r s a h k in
    record {
      rows = Permutes-append (inner_join f env l r).rows (inner_join g env m s).rows (flat_map (padded f env width r.rows) l.rows)
          (flat_map (padded g env width s.rows) m.rows) pairs.rows
          (goes_on (Permutes-flat_map (padded f env width r.rows) l.rows m.rows h.rows)
          (Permutes-each_flat_map (padded f env width r.rows) (padded g env width s.rows) m.rows (λ row. padded-same f g env width r.rows s.rows row a k.rows)));
      faults = pairs.faults;
    }

-- ---- DISTINCT and set operators

pub Permutes-distinct : (rows others : List Row) → Permutes rows others → Permutes (distinct rows) (distinct others)
Permutes-distinct rows others p = distinct-permutes are_alike distinct are_alike-equal are_alike-symm refl (λ row rows. refl) rows others p

pub only-same : (is_distinct : Bool) (o p : Outcome) → IsSame o p → IsSame (only is_distinct o) (only is_distinct p)
only-same false o p h = h
only-same true o p h = record { rows = Permutes-distinct o.rows p.rows h.rows; faults = h.faults }

times-permutes : (row : Row) (rows others : List Row) → Permutes rows others → times row rows ≡ times row others
times-permutes row rows others p = count_by-permutes (are_alike row) rows others p

combined-permutes : (op : SetOperation) (l m r s : List Row) → Permutes l m → Permutes r s → Permutes (combined op l r) (combined op m s)
combined-permutes op l m r s p q =
    goes_on (Permutes-flat_map (λ row. replicate (multiplicity op.operator op.all (times row l) (times row r)) row) (distinct (l ++ r))
    (distinct (m ++ s)) (Permutes-distinct (l ++ r) (m ++ s) (Permutes-append l m r s p q)))
    (Permutes-each_flat_map (λ row. replicate (multiplicity op.operator op.all (times row l) (times row r)) row)
    (λ row. replicate (multiplicity op.operator op.all (times row m) (times row s)) row) (distinct (m ++ s))
    (λ row. rw (times-permutes row l m p, times-permutes row r s q) (Permutes-refl (replicate (multiplicity op.operator op.all (times row m) (times row s)) row))))

pub set_operation-same : (op : SetOperation) (l m r s : Outcome) → IsSame l m → IsSame r s → IsSame (set_operation op l r) (set_operation op m s)
unfolding set_operation
set_operation-same op l m r s h k =
    record {
      rows = combined-permutes op l.rows m.rows r.rows s.rows h.rows k.rows;
      faults = HasSame-append l.faults m.faults r.faults s.faults
          h.faults k.faults;
    }

-- the same operator, and operands that agree
abbrev pub AgreeOnOperand : SetOperation × (Env → Outcome) → SetOperation × (Env → Outcome) → Type 0
AgreeOnOperand x y = (x.0 ≡ y.0) × AgreeOnRows x.1 y.1

pub set_chain-agree : (o p : Outcome) (fs gs : List (SetOperation × (Env → Outcome))) (env : Env) → IsSame o p → Each AgreeOnOperand fs gs
    → IsSame (set_chain o fs env) (set_chain p gs env)
set_chain-agree o p [] [] env h k = h
set_chain-agree o p [] (g ∷ gs) env h k = absurd k
set_chain-agree o p (f ∷ fs) [] env h k = absurd k
set_chain-agree o p (f ∷ fs) (g ∷ gs) env h k =
    set_chain-agree (set_operation f.0 o (f.1 env)) (set_operation g.0 p (g.1 env)) fs gs env
    (subst (λ (op : SetOperation). IsSame (set_operation f.0 o (f.1 env)) (set_operation op p (g.1 env))) k.0.0
    (set_operation-same f.0 o p (f.1 env) (g.1 env) h (k.0.1 env)))
    k.1

-- ---- groups

pub count-agree : AgreeOnGroups count_of_rows count_of_rows
count-agree env rows others p = IsSameValue-of (count_of_rows env rows) (count_of_rows env others)
    (ap (λ n. given (in_range (pos n))) (length-permutes rows others p))

pub set_function-agree : (function : SetFunctionType) (is_distinct : Bool) (f g : ExpressionMeaning) → Agree f g
    → AgreeOnGroups (set_function function is_distinct f) (set_function function is_distinct g)
set_function-agree function is_distinct f g a env rows others p =
    adding-alike (λ (x y : Value). x ≡ y) (beyond_count rows) (beyond_count others)
    (together (map (λ row. f (row ∷ env)) rows) >>= (λ xs. given (aggregated function (taken is_distinct xs))))
    (together (map (λ row. g (row ∷ env)) others) >>= (λ xs. given (aggregated function (taken is_distinct xs))))
    (rw (length-permutes rows others p) (HasSame-refl (beyond_count others)))
    (next-alike (λ (xs ys : List Value). Permutes xs ys) (λ (x y : Value). x ≡ y)
    (together (map (λ row. f (row ∷ env)) rows)) (together (map (λ row. g (row ∷ env)) others))
    (λ xs. given (aggregated function (taken is_distinct xs))) (λ xs. given (aggregated function (taken is_distinct xs)))
    (together-rows (λ row. f (row ∷ env)) (λ row. g (row ∷ env)) rows others (λ row. a (row ∷ env)) p)
    (λ xs ys q. IsSameValue-of (given (aggregated function (taken is_distinct xs))) (given (aggregated function (taken is_distinct ys)))
    (ap given (aggregated-permutes function (taken is_distinct xs) (taken is_distinct ys) (taken-permutes is_distinct xs ys q)))))

keys-permute : (columns : Option (List ℕ)) (rows others : List Row) → Permutes rows others → Permutes (keys_of columns rows) (keys_of columns others)
keys-permute None rows others p = Permutes-refl ([] ∷ [])
keys-permute (Some columns) rows others p = Permutes-distinct (map (key_of columns) rows) (map (key_of columns) others) (Permutes-map (key_of columns) rows others p)

members-permute : (columns : Option (List ℕ)) (key : Row) (rows others : List Row) → Permutes rows others
    → Permutes (members columns key rows) (members columns key others)
members-permute None key rows others p = p
members-permute (Some columns) key rows others p = Permutes-filter (λ row. are_alike key (key_of columns row)) rows others p

group_row-same : (columns : Option (List ℕ)) (fs gs : List SetFunctionMeaning) (env : Env) (rows others : List Row) (key : Row)
    → Each AgreeOnGroups fs gs → Permutes rows others
    → IsSameValue (group_row columns fs env rows key) (group_row columns gs env others key)
group_row-same columns fs gs env rows others key a p =
    then-same (together (map (λ function. function env (members columns key rows)) fs))
    (together (map (λ function. function env (members columns key others)) gs)) (λ values. Ok ((key ++ values) ∷ []))
    (together-same (map (λ function. function env (members columns key rows)) fs) (map (λ function. function env (members columns key others)) gs)
    (Each-map AgreeOnGroups IsSameValue (λ function. function env (members columns key rows)) (λ function. function env (members columns key others)) fs gs a
    (λ f g h. h env (members columns key rows) (members columns key others) (members-permute columns key rows others p))))

pub grouped-agree : (columns : Option (List ℕ)) (fs gs : List SetFunctionMeaning) (having other : Option ConditionMeaning) → Each AgreeOnGroups fs gs
    → IfBoth Agree having other
    → AgreeOnParts (grouped columns fs having) (grouped columns gs other)
grouped-agree columns fs gs having other a b env o p h =
    filtered-agree having other env (through o (λ rows. each (group_row columns fs env rows) (keys_of columns rows)))
    (through p (λ rows. each (group_row columns gs env rows) (keys_of columns rows))) b
    (through-agree o p (λ rows. each (group_row columns fs env rows) (keys_of columns rows)) (λ rows. each (group_row columns gs env rows) (keys_of columns rows)) h
    (λ rows others q. each-agree (group_row columns fs env rows) (group_row columns gs env others) (keys_of columns rows) (keys_of columns others)
    (λ key. group_row-same columns fs gs env rows others key a q) (keys-permute columns rows others q)))

-- ---- the same meanings

pub Each-self : {A : Type 0} (R : A → A → Type 0) (xs : List A) → Every (λ x. R x x) xs → Each R xs xs
Each-self R [] h = tt
Each-self R (x ∷ xs) h = (h.0, Each-self R xs h.1)

pub IfBoth-self : {A : Type 0} (R : A → A → Type 0) (o : Option A) → ((x : A) → R x x) → IfBoth R o o
IfBoth-self R None h = tt
IfBoth-self R (Some x) h = h x
