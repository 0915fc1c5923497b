-- Set operators, DISTINCT and sorts: what they list are the rows of their outcomes in another
-- order.
use Rattle.std.proofs.Common.{◌≡◌, refl, ap, sym, ◌∙◌, subst, ℕ, suc, zero, ◌+◌, ◌-◌, ◌<◌, ◌≤◌, Bool, true, false, cond, not, if◌then◌else◌, List, [], ◌∷◌, ◌++◌, append_assoc, append-nil, arith, inl, inr, ◌⊎◌}
use Rattle.std.specs.Prelude.{Contains, filter, min, nat_lt, count_by}
use Rattle.std.specs.Ordering.{is_lt}
use Rattle.std.proofs.lemmas.List.Sums.{sum_by-append, sum_by-cons}
use Rattle.std.proofs.lemmas.List.Elements.{Contains-append_left, Contains-append_right}
use Rattle.std.proofs.lemmas.Bool.Decides.{nat_tests}
use Rattle.sqlval.specs.Value.{Row}
use Rattle.typing.specs.declared.typed.OrderKey.{OrderKey}
use Rattle.typing.specs.declared.typed.SetOperation.{SetOperation}
use Rattle.typing.specs.declared.typed.SetOperator.{SetOperator}
use Rattle.typing.specs.declared.typed.SetOperator.TheVariants.{Union, Except, Intersect}
use Rattle.algebra.specs.Listing.{first_only, listed_rows, whole_first, firsts, sides, combined_in_order}
use Rattle.algebra.specs.Sorted.{put_row, sorted}
use Rattle.denote.specs.declared.fault.Fault.{Fault}
use Rattle.denote.specs.Answer.{by_keys}
use Rattle.denote.specs.Bag.{Permutes, keeps, exchanges, goes_on, are_alike, distinct, times}
use Rattle.denote.specs.Outcome.{Outcome}
use Rattle.denote.specs.Select.{only}
use Rattle.denote.specs.SetOperator.{multiplicity, combined, set_operation}
use Rattle.operator_laws.proofs.Alike.{are_alike-equal, are_alike-symm}
use Rattle.operator_laws.proofs.Multiplicity.{alike, times-alike, times-combined}
use Rattle.operator_laws.proofs.Permuting.{Permutes-refl, Permutes-sym, Permutes-pass}
use Rattle.operator_laws.proofs.Rows.{Permutes-distinct, set_operation-same}
use Rattle.algebra_laws.specs.Shown.{Lists}
use Rattle.algebra_laws.proofs.Rows.{first_only-within, first_only-none, Lists-same, whole-lists}
use Rattle.algebra_laws.proofs.Joins.{Lists-refl, plain-lists}

-- ---- how often a row comes

times-cons : (row x : Row) (rows : List Row) → times row (x ∷ rows) ≡ cond (are_alike row x) 1 0 + times row rows
times-cons row x rows = sum_by-cons (λ y. cond (are_alike row y) 1 0) x rows

times-append : (row : Row) (xs ys : List Row) → times row (xs ++ ys) ≡ times row xs + times row ys
times-append row xs ys = sum_by-append (λ y. cond (are_alike row y) 1 0) xs ys

-- where a row stands that comes
record Stands (row : Row) (rows : List Row) : Type 0 where
  pub before : List Row
  pub after : List Row
  pub is : rows ≡ before ++ row ∷ after

stands : (row : Row) (rows : List Row) → 0 < times row rows → Stands row rows
stands row [] h = absurd (omega (arith, h))
stands row (x ∷ rows) h = at (are_alike row x) refl (λ some. stands row rows some)
  where
    further : Stands row rows → Stands row (x ∷ rows)
    further s = record { before = x ∷ s.before; after = s.after; is = ap (λ zs. x ∷ zs) s.is }

    at : (b : Bool) → are_alike row x ≡ b → (0 < times row rows → Stands row rows) → Stands row (x ∷ rows)
    at true e go = record { before = []; after = rows; is = ap (λ z. z ∷ rows) (sym (are_alike-equal row x e)) }
    at false e go =
        let n : times row (x ∷ rows) ≡ cond (are_alike row x) 1 0 + times row rows = times-cons row x rows in
        let m : times row (x ∷ rows) ≡ 0 + times row rows = n ∙ ap (λ b. cond b 1 0 + times row rows) e in
        let some : 0 < times row rows = omega (arith, h, m) in further (go some)

none-there : (rows : List Row) → ((row : Row) → 0 ≡ times row rows) → [] ≡ rows
none-there [] h = refl
none-there (x ∷ rows) h =
    let n : times x (x ∷ rows) ≡ 1 + times x rows = times-cons x x rows ∙ ap (λ b. cond b 1 0 + times x rows) (alike.refl x) in
    absurd (omega (arith, n, h x))

-- lists in which each row comes equally often
pub Permutes-times : (xs ys : List Row) → ((row : Row) → times row xs ≡ times row ys) → Permutes xs ys
Permutes-times [] ys h = subst (λ (zs : List Row). Permutes [] zs) (none-there ys h) (Permutes-refl [])
Permutes-times (x ∷ xs) ys h =
    let n : times x (x ∷ xs) ≡ 1 + times x xs = times-cons x x xs ∙ ap (λ b. cond b 1 0 + times x xs) (alike.refl x) in
    let some : 0 < times x ys = omega (arith, n, h x) in with_place (stands x ys some) (λ zs e. Permutes-times xs zs e)
  where
    fewer : (before after : List Row) → ys ≡ before ++ x ∷ after → (row : Row) → times row xs ≡ times row (before ++ after)
    fewer before after is row =
        let a : times row (x ∷ xs) ≡ cond (are_alike row x) 1 0 + times row xs = times-cons row x xs in
        let b : times row ys ≡ times row before + times row (x ∷ after) = ap (times row) is ∙ times-append row before (x ∷ after) in
        let d : times row (x ∷ after) ≡ cond (are_alike row x) 1 0 + times row after = times-cons row x after in
        let e : times row (before ++ after) ≡ times row before + times row after = times-append row before after in
        omega (arith, a, b, d, e, h row)

    with_place : Stands x ys → ((zs : List Row) → ((row : Row) → times row xs ≡ times row zs) → Permutes xs zs) → Permutes (x ∷ xs) ys
    with_place s go = subst (λ (zs : List Row). Permutes (x ∷ xs) zs) (sym s.is)
        (goes_on (keeps x (go (s.before ++ s.after) (fewer s.before s.after s.is))) (Permutes-pass x s.before s.after))

-- ---- set operators

-- of the rows alike to one, as many as are still allowed
times-firsts : (allowed : Row → ℕ) → ((row r : Row) → are_alike row r ≡ true → allowed r ≡ allowed row) → (row : Row) (before rows : List Row)
    → times row (firsts allowed before rows) ≡ min (times row rows) (allowed row - times row before)
times-firsts allowed same row before [] = omega arith
times-firsts allowed same row before (r ∷ rows) = at (are_alike row r) refl (nat_lt (times r before) (allowed r)) refl (times-firsts allowed same row (r ∷ before) rows)
  where
    more : times row (r ∷ before) ≡ cond (are_alike row r) 1 0 + times row before
    more = times-cons row r before

    here : times row (r ∷ rows) ≡ cond (are_alike row r) 1 0 + times row rows
    here = times-cons row r rows

    at : (b : Bool) → are_alike row r ≡ b → (t : Bool) → nat_lt (times r before) (allowed r) ≡ t
        → times row (firsts allowed (r ∷ before) rows) ≡ min (times row rows) (allowed row - times row (r ∷ before))
        → times row (if t then r ∷ firsts allowed (r ∷ before) rows else firsts allowed (r ∷ before) rows) ≡ min (times row (r ∷ rows)) (allowed row - times row before)
    at true e true f rest =
        let k : times row (r ∷ firsts allowed (r ∷ before) rows) ≡ 1 + times row (firsts allowed (r ∷ before) rows) =
        times-cons row r (firsts allowed (r ∷ before) rows) ∙ ap (λ b. cond b 1 0 + times row (firsts allowed (r ∷ before) rows)) e in
        let m : times row (r ∷ before) ≡ 1 + times row before = more ∙ ap (λ b. cond b 1 0 + times row before) e in
        let n : times row (r ∷ rows) ≡ 1 + times row rows = here ∙ ap (λ b. cond b 1 0 + times row rows) e in
        let less : times r before < allowed r = grind (arith, nat_tests) in
        omega (arith, rest, k, m, n, less, same row r e, times-alike row r e before)
    at true e false f rest =
        let m : times row (r ∷ before) ≡ 1 + times row before = more ∙ ap (λ b. cond b 1 0 + times row before) e in
        let n : times row (r ∷ rows) ≡ 1 + times row rows = here ∙ ap (λ b. cond b 1 0 + times row rows) e in
        let over : allowed r ≤ times r before = grind (arith, nat_tests) in
        omega (arith, rest, m, n, over, same row r e, times-alike row r e before)
    at false e true f rest =
        let k : times row (r ∷ firsts allowed (r ∷ before) rows) ≡ 0 + times row (firsts allowed (r ∷ before) rows) =
        times-cons row r (firsts allowed (r ∷ before) rows) ∙ ap (λ b. cond b 1 0 + times row (firsts allowed (r ∷ before) rows)) e in
        let m : times row (r ∷ before) ≡ 0 + times row before = more ∙ ap (λ b. cond b 1 0 + times row before) e in
        let n : times row (r ∷ rows) ≡ 0 + times row rows = here ∙ ap (λ b. cond b 1 0 + times row rows) e in
        omega (arith, rest, k, m, n)
    at false e false f rest =
        let m : times row (r ∷ before) ≡ 0 + times row before = more ∙ ap (λ b. cond b 1 0 + times row before) e in
        let n : times row (r ∷ rows) ≡ 0 + times row rows = here ∙ ap (λ b. cond b 1 0 + times row rows) e in
        omega (arith, rest, m, n)

-- an operator gives a row no more often than it comes on the sides that it goes through
within-sides : (op : SetOperator) (all : Bool) (row : Row) (left right : List Row)
    → min (times row (sides op left right)) (multiplicity op all (times row left) (times row right) - 0) ≡ multiplicity op all (times row left) (times row right)
within-sides Union true row left right = let e : times row (left ++ right) ≡ times row left + times row right = times-append row left right in omega (arith, e)
within-sides Union false row left right = let e : times row (left ++ right) ≡ times row left + times row right = times-append row left right in omega (arith, e)
within-sides Except true row left right = omega arith
within-sides Except false row left right = grind (arith, nat_tests)
within-sides Intersect true row left right = omega arith
within-sides Intersect false row left right = omega arith

abbrev often : SetOperation → List Row → List Row → Row → ℕ
often op left right row = multiplicity op.operator op.all (times row left) (times row right)

often-alike : (op : SetOperation) (left right : List Row) (row r : Row) → are_alike row r ≡ true → often op left right r ≡ often op left right row
often-alike op left right row r e =
    ap (λ m. multiplicity op.operator op.all m (times r right)) (times-alike row r e left) ∙ ap (λ n. multiplicity op.operator op.all (times row left) n) (times-alike row r e right)

pub combined-in_order : (op : SetOperation) (left right : List Row) → Permutes (combined op left right) (combined_in_order op left right)
combined-in_order op left right = Permutes-times (combined op left right) (combined_in_order op left right)
    (λ row. times-combined op left right row
    ∙ sym (times-firsts (often op left right) (often-alike op left right) row [] (sides op.operator left right) ∙ within-sides op.operator op.all row left right))

pub set-lists : (op : SetOperation) (l lo r ro : Outcome) → Lists l lo → Lists r ro
    → Lists (whole_first l (λ rows. whole_first r (λ others. listed_rows (combined_in_order op rows others)))) (set_operation op lo ro)
unfolding set_operation
set-lists op l lo r ro h k =
    whole-lists l lo (set_operation op lo ro) (λ rows. whole_first r (λ others. listed_rows (combined_in_order op rows others))) h
    (λ f c. Contains-append_left lo.faults ro.faults f c)
    (λ none p. whole-lists r ro (set_operation op lo ro) (λ others. listed_rows (combined_in_order op l.rows others)) k
    (λ f c. Contains-append_right lo.faults ro.faults f c)
    (λ also q.
    let same = set_operation-same op lo (listed_rows l.rows) ro (listed_rows r.rows) (record { rows = p; faults = rw none (λ f. (λ c. c, λ c. c)) }) (record { rows = q; faults = rw also (λ f. (λ c. c, λ c. c)) }) in
    Lists-same (listed_rows (combined_in_order op l.rows r.rows)) (listed_rows (combined_in_order op l.rows r.rows)) (set_operation op lo ro)
    (record { rows = goes_on same.rows (combined-in_order op l.rows r.rows); faults = same.faults })
    (Lists-refl (listed_rows (combined_in_order op l.rows r.rows)))))

-- ---- sorts

put_row-permutes : (keys : List OrderKey) (row : Row) (rows : List Row) → Permutes (row ∷ rows) (put_row keys row rows)
put_row-permutes keys row [] = Permutes-refl (row ∷ [])
put_row-permutes keys row (other ∷ rows) = at (is_lt (by_keys keys other row)) (put_row-permutes keys row rows)
  where
    at : (b : Bool) → Permutes (row ∷ rows) (put_row keys row rows) → Permutes (row ∷ other ∷ rows) (if b then other ∷ put_row keys row rows else row ∷ other ∷ rows)
    at true h = goes_on (exchanges row other rows) (keeps other h)
    at false h = Permutes-refl (row ∷ other ∷ rows)

pub sorted-permutes : (keys : List OrderKey) (rows : List Row) → Permutes rows (sorted keys rows)
sorted-permutes keys [] = Permutes-refl []
sorted-permutes keys (row ∷ rows) = goes_on (keeps row (sorted-permutes keys rows)) (put_row-permutes keys row (sorted keys rows))

pub range-lists : (keys : List OrderKey) (rows : List Row) → Lists (listed_rows (sorted keys rows)) (listed_rows rows)
range-lists keys rows = plain-lists (sorted keys rows) rows (sorted-permutes keys rows)

-- a tree taken whole, in another order
pub reordered-lists : (order : List Row → List Row) → ((rows : List Row) → Permutes rows (order rows)) → (l o : Outcome) → Lists l o → Lists (whole_first l (λ rows. listed_rows (order rows))) o
reordered-lists order permutes l o h = whole-lists l o o (λ rows. listed_rows (order rows)) h (λ f c. c)
    (λ none p. Lists-same (listed_rows (order l.rows)) (listed_rows (order l.rows)) o
    (record { rows = goes_on p (permutes l.rows); faults = rw none (λ f. (λ c. c, λ c. c)) }) (Lists-refl (listed_rows (order l.rows))))

-- ---- DISTINCT

filter-append : (p : Row → Bool) (xs ys : List Row) → filter p (xs ++ ys) ≡ filter p xs ++ filter p ys
filter-append p [] ys = refl
filter-append p (x ∷ xs) ys = at (p x) (filter-append p xs ys)
  where
    at : (b : Bool) → filter p (xs ++ ys) ≡ filter p xs ++ filter p ys → (if b then x ∷ filter p (xs ++ ys) else filter p (xs ++ ys)) ≡ (if b then x ∷ filter p xs else filter p xs) ++ filter p ys
    at true e = ap (λ zs. x ∷ zs) e
    at false e = e

-- of more rows those that are not alike to one before
abbrev news : List Row → List Row → List Row
news [] ys = distinct ys
news (x ∷ xs) ys = filter (λ y. not (are_alike x y)) (news xs ys)

distinct-append : (xs ys : List Row) → distinct (xs ++ ys) ≡ distinct xs ++ news xs ys
distinct-append [] ys = refl
distinct-append (x ∷ xs) ys = ap (λ zs. x ∷ zs) (ap (filter (λ y. not (are_alike x y))) (distinct-append xs ys) ∙ filter-append (λ y. not (are_alike x y)) (distinct xs) (news xs ys))

no_news : (xs : List Row) → news xs [] ≡ []
no_news [] = refl
no_news (x ∷ xs) = rw (no_news xs) refl

pub distinct-lists : (l o : Outcome) → Lists l o → Lists (record { rows = distinct l.rows; faults = first_only l.faults }) (only true o)
distinct-lists l o h = record {
  missing = news l.rows h.missing;
  rows = subst (λ (zs : List Row). Permutes (distinct o.rows) zs) (distinct-append l.rows h.missing) (Permutes-distinct o.rows (l.rows ++ h.missing) h.rows);
  within = λ f c. h.within f (first_only-within l.faults f c);
  complete = λ e. let c = h.complete (first_only-none l.faults e) in (c.0, rw c.1 (no_news l.rows));
}
