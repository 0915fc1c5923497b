-- What goes by left rows, the right side being taken whole: half joins, left joins and joins by
-- equal columns.
use Rattle.std.proofs.Common.{◌≡◌, refl, ap, sym, ◌∙◌, subst, ℕ, Bool, true, false, if◌then◌else◌, List, [], ◌∷◌, ◌++◌, map, append_assoc, append-nil, Ok, Err, arith}
use Rattle.std.specs.Prelude.{Contains, flat_map}
use Rattle.std.specs.List.{list_all, list_any}
use Rattle.std.proofs.lemmas.List.Elements.{Contains-append_left, Contains-append_right}
use Rattle.sqlval.specs.Value.{Row}
use Rattle.sqlval.specs.Matching.{key_of, matches}
use Rattle.sqlval.specs.declared.truth.Truth.{Truth}
use Rattle.sqlval.specs.declared.truth.Truth.TheVariants.{True}
use Rattle.sqlval.specs.Truth.{same_truth}
use Rattle.algebra.specs.Joined.{some_true, half_row, half_join, matching, keyed_join}
use Rattle.algebra.specs.Listing.{ended, listed_rows, then_list, in_order, onwards, pairs_of, padded_pairs_of, by_left_rows}
use Rattle.denote.specs.declared.fault.Fault.{Fault}
use Rattle.denote.specs.Evaluation.{Env, Evaluation, ◌>>=◌, together}
use Rattle.denote.specs.Condition.{ConditionMeaning}
use Rattle.denote.specs.Outcome.{Outcome, each, through}
use Rattle.denote.specs.From.{kept_row, kept, beside, nulls, product, inner_join, is_true_or_faults, padded, left_join}
use Rattle.denote.specs.Bag.{Permutes, goes_on, IsSame}
use Rattle.operator_laws.specs.Same.{Each, IsSameValue, IsSameBag}
use Rattle.operator_laws.proofs.Same.{Each-maps, IsSameValue-refl, together-permutes}
use Rattle.operator_laws.proofs.Orders.{list_all-permutes, list_any-permutes, Permutes-filter}
use Rattle.operator_laws.proofs.Permuting.{Permutes-refl, Permutes-sym, Permutes-after, Permutes-middle, Permutes-map}
use Rattle.operator_laws.proofs.Rows.{IsSame-refl}
use Rattle.algebra_laws.specs.Shown.{IsShown, Shows, ShowsAt, Lists}
use Rattle.algebra_laws.proofs.Evaluations.{together-shows, then-shows}
use Rattle.algebra_laws.proofs.Rows.{joined_by, all_of, as_outcome, each-is, made_of, Lists-same, then-lists, ended-lists, onwards-lists, whole-lists}
use Rattle.algebra_laws.proofs.Queries.{shows-of_same}
use Rattle.algebra_laws.proofs.Joins.{Lists-refl, pairs-list, pairs_all, kept-pairs}

-- ---- all of them

pub by_left_rows-lists : (f : List Row → Row → Outcome) (g : Row → Outcome) (l lo r ro p : Outcome) → Lists l lo → Lists r ro
    → ((fault : Fault) → Contains ro.faults fault → Contains p.faults fault) → (ro.faults ≡ [] → Permutes ro.rows r.rows → (row : Row) → Lists (f r.rows row) (g row))
    → (ro.faults ≡ [] → IsSame p (made_of lo g)) → Lists (by_left_rows l r f) p
by_left_rows-lists f g l lo r ro p h k within pairs made =
    whole-lists r ro p (λ others. onwards l (in_order (f others))) k within
    (λ none q. Lists-same (onwards l (in_order (f r.rows))) (made_of lo g) p (made none) (onwards-lists l lo (f r.rows) g h (pairs none q)))

same-of_equal : (o p : Outcome) → o ≡ p → IsSame o p
same-of_equal o p e = subst (λ (z : Outcome). IsSame o z) e (IsSame-refl o)

-- ---- half joins

bag-sym : {A : Type 0} (x y : Evaluation (List A)) → IsSameBag x y → IsSameBag y x
bag-sym (Ok xs) (Ok ys) p = Permutes-sym xs ys p
bag-sym (Ok xs) (Err others) p = absurd p
bag-sym (Err faults) (Ok ys) p = absurd p
bag-sym (Err faults) (Err others) p = λ f. ((p f).1, (p f).0)

shows-same : {A : Type 0} (x y z : Evaluation A) → Shows x y → IsSameValue y z → Shows x z
shows-same (Ok x) (Ok y) (Ok z) e f = e ∙ f
shows-same (Ok x) (Ok y) (Err others) e f = absurd f
shows-same (Ok x) (Err faults) z e f = absurd e
shows-same (Err shown) (Ok y) z e f = absurd e
shows-same (Err shown) (Err faults) (Ok z) e f = absurd f
shows-same (Err shown) (Err faults) (Err others) e f = record {
  within = λ fault c. (f fault).0 (e.within fault c);
  none = λ n. nothing others (λ fault c. subst (λ (zs : List Fault). Contains zs fault) (e.none n) ((f fault).1 c));
}
  where
    nothing : (others : List Fault) → ((fault : Fault) → Contains others fault → Contains [] fault) → others ≡ []
    nothing [] h = refl
    nothing (x ∷ xs) h = absurd (empty x (h x (first x xs)))
      where
        empty : (x : Fault) → Contains [] x → ⊥
        empty x c = omega (arith, c.1)

        first : (x : Fault) (xs : List Fault) → Contains (x ∷ xs) x
        first x xs = (0, omega arith, refl)

-- what is made of the truths at all pairs, whatever their order
abbrev tried : ConditionMeaning → Env → List Row → Row → Evaluation (List Truth)
tried on env others row = together (map (λ pair. on (pair ∷ env)) (beside row others))

tried-shows : (f g : ConditionMeaning) (env : Env) (others : List Row) (row : Row) → ShowsAt f g → Shows (tried f env others row) (tried g env others row)
tried-shows f g env others row h =
    together-shows (map (λ pair. f (pair ∷ env)) (beside row others)) (map (λ pair. g (pair ∷ env)) (beside row others))
    (Each-maps Shows (λ pair. f (pair ∷ env)) (λ pair. g (pair ∷ env)) (beside row others) (λ pair. h (pair ∷ env)))

tried-permutes : (g : ConditionMeaning) (env : Env) (rows others : List Row) (row : Row) → Permutes rows others → IsSameBag (tried g env rows row) (tried g env others row)
tried-permutes g env rows others row p =
    together-permutes (map (λ pair. g (pair ∷ env)) (beside row rows)) (map (λ pair. g (pair ∷ env)) (beside row others))
    (Permutes-map (λ pair. g (pair ∷ env)) (beside row rows) (beside row others) (Permutes-map (λ other. row ++ other) rows others p))

made-same : (made : Bool → List Row) (x y : Evaluation (List Truth)) → IsSameBag x y → IsSameValue (x >>= (λ ts. Ok (made (some_true ts)))) (y >>= (λ ts. Ok (made (some_true ts))))
made-same made (Ok xs) (Ok ys) p = ap made (list_any-permutes (λ t. same_truth t True) xs ys p)
made-same made (Ok xs) (Err others) p = absurd p
made-same made (Err faults) (Ok ys) p = absurd p
made-same made (Err faults) (Err others) p = p

half_row-shows : (wanted : Bool) (f g : ConditionMeaning) (env : Env) (rows others : List Row) (row : Row) → ShowsAt f g → Permutes rows others
    → Shows (half_row wanted f env others row) (half_row wanted g env rows row)
half_row-shows true f g env rows others row h p =
    shows-same (half_row true f env others row) (half_row true g env others row) (half_row true g env rows row)
    (then-shows (tried f env others row) (tried g env others row) (λ ts. Ok (if some_true ts then row ∷ [] else [])) (tried-shows f g env others row h))
    (made-same (λ b. if b then row ∷ [] else []) (tried g env others row) (tried g env rows row) (bag-sym (tried g env rows row) (tried g env others row) (tried-permutes g env rows others row p)))
half_row-shows false f g env rows others row h p =
    shows-same (half_row false f env others row) (half_row false g env others row) (half_row false g env rows row)
    (then-shows (tried f env others row) (tried g env others row) (λ ts. Ok (if some_true ts then [] else row ∷ [])) (tried-shows f g env others row h))
    (made-same (λ b. if b then [] else row ∷ []) (tried g env others row) (tried g env rows row) (bag-sym (tried g env rows row) (tried g env others row) (tried-permutes g env rows others row p)))

pub half-lists : (wanted : Bool) (f g : ConditionMeaning) (env : Env) (l lo r ro : Outcome) → ShowsAt f g → Lists l lo → Lists r ro
    → Lists (by_left_rows l r (λ others row. ended (half_row wanted f env others row))) (half_join wanted g env lo ro)
unfolding half_join through
half-lists wanted f g env l lo r ro s h k =
    by_left_rows-lists (λ others row. ended (half_row wanted f env others row)) (λ row. as_outcome (half_row wanted g env ro.rows row)) l lo r ro (half_join wanted g env lo ro) h k
    (λ fault c. Contains-append_left (lo.faults ++ ro.faults) (each (half_row wanted g env ro.rows) lo.rows).faults fault (Contains-append_right lo.faults ro.faults fault c))
    (λ none p row. ended-lists (half_row wanted f env r.rows row) (half_row wanted g env ro.rows row) (half_row-shows wanted f g env ro.rows r.rows row s p))
    (λ none. same-of_equal (half_join wanted g env lo ro) (made_of lo (λ row. as_outcome (half_row wanted g env ro.rows row)))
    (rw (none, append-nil lo.faults, each-is (half_row wanted g env ro.rows) lo.rows) refl))

-- ---- joins by equal columns

matching-permutes : (left_places right_places : List ℕ) (rows others : List Row) (row : Row) → Permutes rows others
    → Permutes (matching left_places right_places rows row) (matching left_places right_places others row)
matching-permutes left_places right_places rows others row p = Permutes-filter (matches right_places (key_of left_places row)) rows others p

pub hash-lists : (f g : ConditionMeaning) (env : Env) (left_places right_places : List ℕ) (l lo r ro : Outcome) → ShowsAt f g → Lists l lo → Lists r ro
    → Lists (by_left_rows l r (λ others row. pairs_of f env (matching left_places right_places others row) row)) (keyed_join g env (matching left_places right_places ro.rows) ro.faults lo)
unfolding keyed_join through
hash-lists f g env left_places right_places l lo r ro s h k =
    by_left_rows-lists (λ others row. pairs_of f env (matching left_places right_places others row) row) (λ row. pairs_all g env (matching left_places right_places ro.rows row) row) l lo r ro
    (keyed_join g env (matching left_places right_places ro.rows) ro.faults lo) h k
    (λ fault c. Contains-append_left (lo.faults ++ ro.faults) (kept g env (flat_map (λ row. beside row (matching left_places right_places ro.rows row)) lo.rows)).faults fault (Contains-append_right lo.faults ro.faults fault c))
    (λ none p row. pairs-list f g env (matching left_places right_places r.rows row) (matching left_places right_places ro.rows row) row s (matching-permutes left_places right_places ro.rows r.rows row p))
    (λ none. same-of_equal (keyed_join g env (matching left_places right_places ro.rows) ro.faults lo) (made_of lo (λ row. pairs_all g env (matching left_places right_places ro.rows row) row))
    (rw (none, append-nil lo.faults, kept-pairs g env (matching left_places right_places ro.rows) lo.rows) refl))

pub index-lists : (f g : ConditionMeaning) (env : Env) (others : Row → List Row) (l lo : Outcome) → ShowsAt f g → Lists l lo
    → Lists (onwards l (in_order (λ row. pairs_of f env (others row) row))) (keyed_join g env others [] lo)
unfolding keyed_join through
index-lists f g env others l lo s h =
    subst (λ (z : Outcome). Lists (onwards l (in_order (λ row. pairs_of f env (others row) row))) z) made
    (onwards-lists l lo (λ row. pairs_of f env (others row) row) (λ row. pairs_all g env (others row) row) h (λ row. pairs-list f g env (others row) (others row) row s (Permutes-refl (others row))))
  where
    made : made_of lo (λ row. pairs_all g env (others row) row) ≡ keyed_join g env others [] lo
    made = rw (append-nil lo.faults, kept-pairs g env others lo.rows) refl

-- ---- left joins

match-shows : (x y : Evaluation Truth) → Shows x y → is_true_or_faults x ≡ is_true_or_faults y
match-shows (Ok x) (Ok y) e = ap (λ t. is_true_or_faults (Ok t)) e
match-shows (Ok x) (Err others) e = absurd e
match-shows (Err faults) (Ok y) e = absurd e
match-shows (Err faults) (Err others) e = refl

all-same : (p q : Row → Bool) (rows : List Row) → ((row : Row) → p row ≡ q row) → list_all p rows ≡ list_all q rows
all-same p q [] h = refl
all-same p q (row ∷ rows) h = rw (h row, all-same p q rows h) refl

all-order : (p : Row → Bool) (rows others : List Row) → Permutes rows others → list_all p rows ≡ list_all p others
all-order p rows others h = list_all-permutes p rows others h

padded-shows : (f g : ConditionMeaning) (env : Env) (width : ℕ) (rows others : List Row) (row : Row) → ShowsAt f g → Permutes others rows
    → padded f env width rows row ≡ padded g env width others row
padded-shows f g env width rows others row h p = ap (λ (b : Bool). if b then (row ++ nulls width) ∷ [] else [])
    (all-same (λ pair. if is_true_or_faults (f (pair ∷ env)) then false else true) (λ pair. if is_true_or_faults (g (pair ∷ env)) then false else true) (beside row rows)
    (λ pair. ap (λ (b : Bool). if b then false else true) (match-shows (f (pair ∷ env)) (g (pair ∷ env)) (h (pair ∷ env))))
    ∙ sym (all-order (λ pair. if is_true_or_faults (g (pair ∷ env)) then false else true) (beside row others) (beside row rows) (Permutes-map (λ other. row ++ other) others rows p)))

-- rows that come with others, at the end instead
apart : (f : Row → Outcome) (k : Row → List Row) (rows : List Row)
    → Permutes ((all_of f rows).rows ++ flat_map k rows) (all_of (λ row. joined_by (f row) (listed_rows (k row))) rows).rows
apart f k [] = Permutes-refl []
apart f k (row ∷ rows) =
    goes_on (Permutes-middle (f row).rows (all_of f rows).rows (k row) (flat_map k rows))
    (Permutes-after ((f row).rows ++ k row) ((all_of f rows).rows ++ flat_map k rows) (all_of (λ r. joined_by (f r) (listed_rows (k r))) rows).rows (apart f k rows))

faults-apart : (f : Row → Outcome) (k : Row → List Row) (rows : List Row) → (all_of (λ row. joined_by (f row) (listed_rows (k row))) rows).faults ≡ (all_of f rows).faults
faults-apart f k [] = refl
faults-apart f k (row ∷ rows) = rw (append-nil (f row).faults) (ap (λ fs. (f row).faults ++ fs) (faults-apart f k rows))

pub left-lists : (f g : ConditionMeaning) (env : Env) (width : ℕ) (l lo r ro : Outcome) → ShowsAt f g → Lists l lo → Lists r ro
    → Lists (by_left_rows l r (padded_pairs_of f env width)) (left_join g env width lo ro)
unfolding product inner_join left_join through
left-lists f g env width l lo r ro s h k =
    by_left_rows-lists (padded_pairs_of f env width) (λ row. joined_by (pairs_all g env ro.rows row) (listed_rows (padded g env width ro.rows row))) l lo r ro (left_join g env width lo ro) h k
    (λ fault c. Contains-append_left (lo.faults ++ ro.faults) (kept g env (flat_map (λ row. beside row ro.rows) lo.rows)).faults fault (Contains-append_right lo.faults ro.faults fault c))
    (λ none p row. then-lists (pairs_of f env r.rows row) (listed_rows (padded f env width r.rows row)) (pairs_all g env ro.rows row) (listed_rows (padded g env width ro.rows row))
    (pairs-list f g env r.rows ro.rows row s p)
    (subst (λ (zs : List Row). Lists (listed_rows zs) (listed_rows (padded g env width ro.rows row))) (sym (padded-shows f g env width r.rows ro.rows row s p)) (Lists-refl (listed_rows (padded g env width ro.rows row)))))
    made
  where
    made : ro.faults ≡ [] → IsSame (left_join g env width lo ro) (made_of lo (λ row. joined_by (pairs_all g env ro.rows row) (listed_rows (padded g env width ro.rows row))))
    made none = record {
      rows = rw (kept-pairs g env (λ row. ro.rows) lo.rows) (apart (pairs_all g env ro.rows) (padded g env width ro.rows) lo.rows);
      faults = rw (kept-pairs g env (λ row. ro.rows) lo.rows, none, append-nil lo.faults, faults-apart (pairs_all g env ro.rows) (padded g env width ro.rows) lo.rows) (λ x. (λ c. c, λ c. c));
    }
