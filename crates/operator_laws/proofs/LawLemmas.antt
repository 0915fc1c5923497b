-- Laws of the definitions, in the words of their subject.
use Rattle.std.proofs.Common.{◌≡◌, refl, ap, sym, ◌∙◌, ℕ, Bool, true, false, if◌then◌else◌, List, [], ◌∷◌, ◌++◌, map, Ok, Err}
use Rattle.std.specs.Prelude.{flat_map, filter}
use Rattle.sqlval.specs.declared.truth.Truth.{Truth}
use Rattle.sqlval.specs.declared.truth.Truth.TheVariants.{False, Unknown, True}
use Rattle.sqlval.specs.Truth.{truth_and, truth_or, truth_not}
use Rattle.sqlval.specs.Value.{Row}
use Rattle.typing.specs.declared.typed.Condition.{Condition}
use Rattle.typing.specs.declared.typed.Condition.TheVariants as c
use Rattle.denote.specs.Evaluation.{Env, Evaluation, ◌>>=◌, faults_in}
use Rattle.denote.specs.Outcome.{Outcome, before, each, through}
use Rattle.denote.specs.Condition.{ConditionMeaning, both, either, conjunction, disjunction}
use Rattle.denote.specs.From.{kept_row, kept, beside, product, inner_join, left_join, is_unmatched, nulls}
use Rattle.denote.specs.Bag.{Permutes, nothing, keeps, exchanges, goes_on, IsSame}
use Rattle.operator_laws.specs.Law.{is_true_at, IsOrderless}
use Rattle.denote.specs.Meaning.{Tables, truth_at}
use Rattle.denote.proofs.Nodes.{truth_and as truth_of_and, truth_or as truth_of_or, truth_negation}
use Rattle.denote.proofs.FaultSets.{before-faults}
use Rattle.operator_laws.proofs.Permuting.{Permutes-refl, Permutes-after, Permutes-exchange, Permutes-map, Permutes-flat_map, Permutes-each_flat_map, HasSame-permutes, HasSame-append}

-- ---- connectives

both-value : (x y : Truth) → both x (Ok y) ≡ Ok (truth_and x y)
both-value False y = refl
both-value Unknown y = refl
both-value True y = refl

either-value : (x y : Truth) → either x (Ok y) ≡ Ok (truth_or x y)
either-value False y = refl
either-value Unknown y = refl
either-value True y = refl

truth_and-true : (x : Truth) → truth_and x True ≡ x
truth_and-true False = refl
truth_and-true Unknown = refl
truth_and-true True = refl

truth_or-false : (x : Truth) → truth_or x False ≡ x
truth_or-false False = refl
truth_or-false Unknown = refl
truth_or-false True = refl

pub and-table : (db : Tables) (env : Env) (a b : Condition) (x y : Truth) → truth_at db a env ≡ Ok x → truth_at db b env ≡ Ok y → truth_at db (c.And (a ∷ b ∷ [])) env ≡ Ok (truth_and x y)
and-table db env a b x y e f = rw (truth_of_and, e, f, both-value, truth_and-true, both-value) refl

pub or-table : (db : Tables) (env : Env) (a b : Condition) (x y : Truth) → truth_at db a env ≡ Ok x → truth_at db b env ≡ Ok y → truth_at db (c.Or (a ∷ b ∷ [])) env ≡ Ok (truth_or x y)
or-table db env a b x y e f = rw (truth_of_or, e, f, either-value, truth_or-false, either-value) refl

pub not-table : (db : Tables) (env : Env) (a : Condition) (x : Truth) → truth_at db a env ≡ Ok x → truth_at db (c.Not a) env ≡ Ok (truth_not x)
not-table db env a x e = rw (truth_negation, e) refl

-- a conjunction, and then another, is the conjunction of all operands
both-join : (t : Truth) (first second : Evaluation Truth) → both t (first >>= (λ x. both x second)) ≡ (both t first >>= (λ x. both x second))
both-join False first second = refl
both-join True first second = refl
both-join Unknown (Err faults) second = refl
both-join Unknown (Ok False) second = refl
both-join Unknown (Ok True) second = refl
both-join Unknown (Ok Unknown) (Err faults) = refl
both-join Unknown (Ok Unknown) (Ok False) = refl
both-join Unknown (Ok Unknown) (Ok Unknown) = refl
both-join Unknown (Ok Unknown) (Ok True) = refl

conjunction-append : (xs ys : List ConditionMeaning) (env : Env) → conjunction (xs ++ ys) env ≡ (conjunction xs env >>= (λ x. both x (conjunction ys env)))
conjunction-append [] ys env = refl
conjunction-append (a ∷ xs) ys env = at (a env) (conjunction-append xs ys env)
  where
    at : (x : Evaluation Truth) → conjunction (xs ++ ys) env ≡ (conjunction xs env >>= (λ x. both x (conjunction ys env)))
        → (x >>= (λ t. both t (conjunction (xs ++ ys) env))) ≡ ((x >>= (λ t. both t (conjunction xs env))) >>= (λ x. both x (conjunction ys env)))
    at (Err faults) e = refl
    at (Ok t) e = rw e (both-join t (conjunction xs env) (conjunction ys env))

either-join : (t : Truth) (first second : Evaluation Truth) → either t (first >>= (λ x. either x second)) ≡ (either t first >>= (λ x. either x second))
either-join True first second = refl
either-join False first second = refl
either-join Unknown (Err faults) second = refl
either-join Unknown (Ok True) second = refl
either-join Unknown (Ok False) second = refl
either-join Unknown (Ok Unknown) (Err faults) = refl
either-join Unknown (Ok Unknown) (Ok False) = refl
either-join Unknown (Ok Unknown) (Ok Unknown) = refl
either-join Unknown (Ok Unknown) (Ok True) = refl

disjunction-append : (xs ys : List ConditionMeaning) (env : Env) → disjunction (xs ++ ys) env ≡ (disjunction xs env >>= (λ x. either x (disjunction ys env)))
disjunction-append [] ys env = refl
disjunction-append (a ∷ xs) ys env = at (a env) (disjunction-append xs ys env)
  where
    at : (x : Evaluation Truth) → disjunction (xs ++ ys) env ≡ (disjunction xs env >>= (λ x. either x (disjunction ys env)))
        → (x >>= (λ t. either t (disjunction (xs ++ ys) env))) ≡ ((x >>= (λ t. either t (disjunction xs env))) >>= (λ x. either x (disjunction ys env)))
    at (Err faults) e = refl
    at (Ok t) e = rw e (either-join t (disjunction xs env) (disjunction ys env))

map-append : {X Y : Type 0} (f : X → Y) (xs ys : List X) → map f (xs ++ ys) ≡ map f xs ++ map f ys
map-append f [] ys = refl
map-append f (x ∷ xs) ys = ap (λ zs. f x ∷ zs) (map-append f xs ys)

and-first_nested : (db : Tables) (env : Env) (xs ys : List Condition) → truth_at db (c.And (c.And xs ∷ ys)) env ≡ truth_at db (c.And (xs ++ ys)) env
and-first_nested db env xs ys =
    let flat : truth_at db (c.And (xs ++ ys)) env ≡ (conjunction (map (truth_at db) xs) env >>= (λ x. both x (conjunction (map (truth_at db) ys) env))) =
    truth_of_and db env (xs ++ ys) ∙ ap (λ fs. conjunction fs env) (map-append (truth_at db) xs ys) ∙ conjunction-append (map (truth_at db) xs) (map (truth_at db) ys) env in
    let nested : truth_at db (c.And (c.And xs ∷ ys)) env ≡ (truth_at db (c.And xs) env >>= (λ x. both x (conjunction (map (truth_at db) ys) env))) = truth_of_and db env (c.And xs ∷ ys) in
    nested ∙ ap (λ t. t >>= (λ x. both x (conjunction (map (truth_at db) ys) env))) (truth_of_and db env xs) ∙ sym flat

or-first_nested : (db : Tables) (env : Env) (xs ys : List Condition) → truth_at db (c.Or (c.Or xs ∷ ys)) env ≡ truth_at db (c.Or (xs ++ ys)) env
or-first_nested db env xs ys =
    let flat : truth_at db (c.Or (xs ++ ys)) env ≡ (disjunction (map (truth_at db) xs) env >>= (λ x. either x (disjunction (map (truth_at db) ys) env))) =
    truth_of_or db env (xs ++ ys) ∙ ap (λ fs. disjunction fs env) (map-append (truth_at db) xs ys) ∙ disjunction-append (map (truth_at db) xs) (map (truth_at db) ys) env in
    let nested : truth_at db (c.Or (c.Or xs ∷ ys)) env ≡ (truth_at db (c.Or xs) env >>= (λ x. either x (disjunction (map (truth_at db) ys) env))) = truth_of_or db env (c.Or xs ∷ ys) in
    nested ∙ ap (λ t. t >>= (λ x. either x (disjunction (map (truth_at db) ys) env))) (truth_of_or db env xs) ∙ sym flat

-- the same behind other operands
pub and-nested : (db : Tables) (env : Env) (before xs ys : List Condition) → truth_at db (c.And (before ++ c.And xs ∷ ys)) env ≡ truth_at db (c.And (before ++ xs ++ ys)) env
and-nested db env [] xs ys = and-first_nested db env xs ys
and-nested db env (z ∷ zs) xs ys =
    let others : conjunction (map (truth_at db) (zs ++ c.And xs ∷ ys)) env ≡ conjunction (map (truth_at db) (zs ++ xs ++ ys)) env =
    sym (truth_of_and db env (zs ++ c.And xs ∷ ys)) ∙ and-nested db env zs xs ys ∙ truth_of_and db env (zs ++ xs ++ ys) in
    truth_of_and db env (z ∷ zs ++ c.And xs ∷ ys) ∙ ap (λ t. truth_at db z env >>= (λ x. both x t)) others ∙ sym (truth_of_and db env (z ∷ zs ++ xs ++ ys))

pub or-nested : (db : Tables) (env : Env) (before xs ys : List Condition) → truth_at db (c.Or (before ++ c.Or xs ∷ ys)) env ≡ truth_at db (c.Or (before ++ xs ++ ys)) env
or-nested db env [] xs ys = or-first_nested db env xs ys
or-nested db env (z ∷ zs) xs ys =
    let others : disjunction (map (truth_at db) (zs ++ c.Or xs ∷ ys)) env ≡ disjunction (map (truth_at db) (zs ++ xs ++ ys)) env =
    sym (truth_of_or db env (zs ++ c.Or xs ∷ ys)) ∙ or-nested db env zs xs ys ∙ truth_of_or db env (zs ++ xs ++ ys) in
    truth_of_or db env (z ∷ zs ++ c.Or xs ∷ ys) ∙ ap (λ t. truth_at db z env >>= (λ x. either x t)) others ∙ sym (truth_of_or db env (z ∷ zs ++ xs ++ ys))

-- ---- filters and joins

kept_row-rows : (condition : ConditionMeaning) (env : Env) (row : Row) (others kept_others : Outcome) (filtered_others : List Row) → kept_others.rows ≡ filtered_others
    → (before (kept_row condition env row) kept_others).rows ≡ (if is_true_at condition env row then row ∷ filtered_others else filtered_others)
kept_row-rows condition env row others kept_others filtered_others e = at (condition (row ∷ env)) refl
  where
    at : (x : Evaluation Truth) → condition (row ∷ env) ≡ x → (before (kept_row condition env row) kept_others).rows ≡ (if is_true_at condition env row then row ∷ filtered_others else filtered_others)
    at (Err faults) is = rw is e
    at (Ok False) is = rw is e
    at (Ok Unknown) is = rw is e
    at (Ok True) is = rw is (ap (λ rows. row ∷ rows) e)

-- a filter's rows are those at which the condition is true
pub kept-rows : (condition : ConditionMeaning) (env : Env) (rows : List Row) → (kept condition env rows).rows ≡ filter (is_true_at condition env) rows
kept-rows condition env [] = refl
kept-rows condition env (row ∷ rows) = kept_row-rows condition env row (kept condition env rows) (kept condition env rows) (filter (is_true_at condition env) rows) (kept-rows condition env rows)

pub inner_join-rows : (on : ConditionMeaning) (env : Env) (left right : Outcome) → (inner_join on env left right).rows ≡ filter (is_true_at on env) (product left right).rows
unfolding inner_join through product
inner_join-rows on env left right = kept-rows on env (product left right).rows

flat_map-if : (p : Row → Bool) (f : Row → Row) (rows : List Row) → flat_map (λ row. if p row then f row ∷ [] else []) rows ≡ map f (filter p rows)
flat_map-if p f [] = refl
flat_map-if p f (row ∷ rows) = at (p row) (flat_map-if p f rows)
  where
    at : (b : Bool) → flat_map (λ row. if p row then f row ∷ [] else []) rows ≡ map f (filter p rows)
        → ((if b then f row ∷ [] else []) ++ flat_map (λ row. if p row then f row ∷ [] else []) rows) ≡ map f (if b then row ∷ filter p rows else filter p rows)
    at true e = ap (λ rest. f row ∷ rest) e
    at false e = e

pub left_join-rows : (on : ConditionMeaning) (env : Env) (width : ℕ) (left right : Outcome)
    → (left_join on env width left right).rows ≡ (inner_join on env left right).rows ++ map (λ row. row ++ nulls width) (filter (is_unmatched on env right.rows) left.rows)
unfolding left_join
left_join-rows on env width left right = ap (λ rest. (inner_join on env left right).rows ++ rest) (flat_map-if (is_unmatched on env right.rows) (λ row. row ++ nulls width) left.rows)

-- ---- the order of rows never matters

rows_before : (a : Evaluation (List Row)) (o p : Outcome) → Permutes o.rows p.rows → Permutes (before a o).rows (before a p).rows
rows_before (Ok rows) o p h = Permutes-after rows o.rows p.rows h
rows_before (Err faults) o p h = h

rows_exchange : (a b : Evaluation (List Row)) (o : Outcome) → Permutes (before a (before b o)).rows (before b (before a o)).rows
rows_exchange (Ok xs) (Ok ys) o = Permutes-exchange xs ys o.rows
rows_exchange (Ok xs) (Err faults) o = Permutes-refl (xs ++ o.rows)
rows_exchange (Err faults) (Ok ys) o = Permutes-refl (ys ++ o.rows)
rows_exchange (Err faults) (Err more) o = Permutes-refl o.rows

each-rows : (f : Row → Evaluation (List Row)) (xs ys : List Row) → Permutes xs ys → Permutes (each f xs).rows (each f ys).rows
each-rows f _ _ nothing = nothing
each-rows f _ _ (keeps x {xs = xs} {ys = ys} p) = rows_before (f x) (each f xs) (each f ys) (each-rows f xs ys p)
each-rows f _ _ (exchanges x y xs) = rows_exchange (f x) (f y) (each f xs)
each-rows f _ _ (goes_on {xs = xs} {ys = ys} {zs = zs} p q) = goes_on (each-rows f xs ys p) (each-rows f ys zs q)

each-faults : (f : Row → Evaluation (List Row)) (rows : List Row) → (each f rows).faults ≡ flat_map (λ row. faults_in (f row)) rows
each-faults f [] = refl
each-faults f (row ∷ rows) = before-faults (f row) (each f rows) ∙ ap (λ faults. faults_in (f row) ++ faults) (each-faults f rows)

pub each-orderless : (f : Row → Evaluation (List Row)) → IsOrderless (each f)
each-orderless f xs ys p = record {
  rows = each-rows f xs ys p;
  faults = rw (each-faults f xs, each-faults f ys) (HasSame-permutes _ _ (Permutes-flat_map (λ row. faults_in (f row)) xs ys p));
}

pub through-same : (f : List Row → Outcome) (o p : Outcome) → IsOrderless f → IsSame o p → IsSame (through o f) (through p f)
unfolding through
through-same f o p orderless h =
    let made = orderless o.rows p.rows h.rows in
    record { rows = made.rows; faults = HasSame-append o.faults p.faults (f o.rows).faults (f p.rows).faults h.faults made.faults }

pub product-same : (l l' r r' : Outcome) → IsSame l l' → IsSame r r' → IsSame (product l r) (product l' r')
unfolding product
product-same l l' r r' h k = record {
  rows = goes_on (Permutes-flat_map (λ row. beside row r.rows) l.rows l'.rows h.rows)
      (Permutes-each_flat_map (λ row. beside row r.rows) (λ row. beside row r'.rows) l'.rows (λ row. Permutes-map (λ other. row ++ other) r.rows r'.rows k.rows));
  faults = HasSame-append l.faults l'.faults r.faults r'.faults h.faults k.faults;
}

pub inner_join-same : (on : ConditionMeaning) (env : Env) (l l' r r' : Outcome) → IsSame l l' → IsSame r r' → IsSame (inner_join on env l r) (inner_join on env l' r')
unfolding inner_join
inner_join-same on env l l' r r' h k = through-same (kept on env) (product l r) (product l' r') (each-orderless (kept_row on env)) (product-same l l' r r' h k)
