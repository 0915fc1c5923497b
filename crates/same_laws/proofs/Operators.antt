-- The operators of plans keep what is the same up to the order of rows: half joins, joins by equal
-- columns, members.
use Rattle.std.proofs.Common.{◌≡◌, ap, ℕ, Bool, true, false, if◌then◌else◌, List, [], ◌∷◌, ◌++◌, map, Ok}
use Rattle.std.specs.Prelude.{flat_map}
use Rattle.sqlval.specs.declared.truth.Truth.{Truth}
use Rattle.sqlval.specs.declared.truth.Truth.TheVariants.{True}
use Rattle.sqlval.specs.Matching.{key_of, matches}
use Rattle.sqlval.specs.Truth.{same_truth}
use Rattle.sqlval.specs.Value.{Row}
use Rattle.algebra.specs.Joined.{some_true, half_row, half_join, matching, keyed_join, negated_if, is_member}
use Rattle.denote.specs.declared.fault.Fault.{Fault}
use Rattle.denote.specs.Bag.{Permutes, goes_on, HasSame, IsSame}
use Rattle.denote.specs.Condition.{ConditionMeaning, among, first_column}
use Rattle.denote.specs.Evaluation.{Env, ◌>>=◌, together}
use Rattle.denote.specs.Expression.{ExpressionMeaning}
use Rattle.denote.specs.From.{beside}
use Rattle.denote.specs.Outcome.{Outcome, each, whole}
use Rattle.operator_laws.specs.Same.{IsSameValue, Agree}
use Rattle.operator_laws.proofs.Orders.{list_any-permutes, Permutes-filter}
use Rattle.operator_laws.proofs.Permuting.{Permutes-map, Permutes-flat_map, Permutes-each_flat_map, HasSame-append}
use Rattle.operator_laws.proofs.Rows.{each-agree, through-agree, filtered-agree}
use Rattle.operator_laws.proofs.Same.{next-alike, then-same, together-rows}
use Rattle.operator_laws.proofs.Steps.{in_query-same}
use Rattle.std.specs.Prelude.{Some}

-- ---- half joins

half_row-agree : (wanted : Bool) (f g : ConditionMeaning) (env : Env) (others more : List Row) (row : Row) → Agree f g
    → Permutes others more
    → IsSameValue (half_row wanted f env others row) (half_row wanted g env more row)
half_row-agree true f g env others more row a p =
    next-alike (λ (xs ys : List Truth). Permutes xs ys) (λ (x y : List Row). x ≡ y)
    (together (map (λ pair. f (pair ∷ env)) (beside row others)))
    (together (map (λ pair. g (pair ∷ env)) (beside row more))) (λ ts. Ok (if some_true ts then row ∷ [] else []))
    (λ ts. Ok (if some_true ts then row ∷ [] else []))
    (together-rows (λ pair. f (pair ∷ env)) (λ pair. g (pair ∷ env)) (beside row others) (beside row more)
    (λ pair. a (pair ∷ env)) (Permutes-map (λ other. row ++ other) others more p))
    (λ xs ys q. ap (λ (b : Bool). if b then row ∷ [] else []) (list_any-permutes (λ t. same_truth t True) xs ys q))
half_row-agree false f g env others more row a p =
    next-alike (λ (xs ys : List Truth). Permutes xs ys) (λ (x y : List Row). x ≡ y)
    (together (map (λ pair. f (pair ∷ env)) (beside row others)))
    (together (map (λ pair. g (pair ∷ env)) (beside row more))) (λ ts. Ok (if some_true ts then [] else row ∷ []))
    (λ ts. Ok (if some_true ts then [] else row ∷ []))
    (together-rows (λ pair. f (pair ∷ env)) (λ pair. g (pair ∷ env)) (beside row others) (beside row more)
    (λ pair. a (pair ∷ env)) (Permutes-map (λ other. row ++ other) others more p))
    (λ xs ys q. ap (λ (b : Bool). if b then [] else row ∷ []) (list_any-permutes (λ t. same_truth t True) xs ys q))

pub half_join-agree : (wanted : Bool) (f g : ConditionMeaning) (env : Env) (l m r s : Outcome) → Agree f g → IsSame l m
    → IsSame r s
    → IsSame (half_join wanted f env l r) (half_join wanted g env m s)
unfolding half_join
half_join-agree wanted f g env l m r s a h k =
    through-agree (record { rows = l.rows; faults = l.faults ++ r.faults })
    (record { rows = m.rows; faults = m.faults ++ s.faults })
    (each (half_row wanted f env r.rows)) (each (half_row wanted g env s.rows))
    (record { rows = h.rows; faults = HasSame-append l.faults m.faults r.faults s.faults h.faults k.faults })
    (λ rows others p. each-agree (half_row wanted f env r.rows) (half_row wanted g env s.rows) rows others
    (λ row. half_row-agree wanted f g env r.rows s.rows row a k.rows) p)

-- ---- joins by equal columns

pub matching-permutes : (places columns : List ℕ) (others more : List Row) (row : Row) → Permutes others more
    → Permutes (matching places columns others row) (matching places columns more row)
matching-permutes places columns others more row p = Permutes-filter (matches columns (key_of places row)) others more p

pub keyed_join-agree : (f g : ConditionMeaning) (env : Env) (at to : Row → List Row) (more fewer : List Fault)
    (l m : Outcome) → Agree f g
    → ((row : Row) → Permutes (at row) (to row)) → HasSame more fewer → IsSame l m
    → IsSame (keyed_join f env at more l) (keyed_join g env to fewer m)
unfolding keyed_join
keyed_join-agree f g env at to more fewer l m a p e h =
    filtered-agree (Some f) (Some g) env
    (record { rows = flat_map (λ row. beside row (at row)) l.rows; faults = l.faults ++ more })
    (record { rows = flat_map (λ row. beside row (to row)) m.rows; faults = m.faults ++ fewer }) a
    (record {
      rows = goes_on (Permutes-flat_map (λ row. beside row (at row)) l.rows m.rows h.rows)
          (Permutes-each_flat_map (λ row. beside row (at row)) (λ row. beside row (to row)) m.rows
          (λ row. Permutes-map (λ other. row ++ other) (at row) (to row) (p row)));
      faults = HasSame-append l.faults m.faults more fewer h.faults e;
    })

-- ---- members

pub is_member-agree : (a b : ExpressionMeaning) (is_negated : Bool) (o p : Outcome) → Agree a b → IsSame o p
    → Agree (is_member a is_negated o) (is_member b is_negated p)
is_member-agree a b is_negated o p h k env =
    then-same (a env >>= (λ x. whole o >>= (λ rows. Ok (among x (first_column rows)))))
    (b env >>= (λ x. whole p >>= (λ rows. Ok (among x (first_column rows)))))
    (λ t. Ok (negated_if is_negated t)) (in_query-same (a env) (b env) o p (h env) k)
