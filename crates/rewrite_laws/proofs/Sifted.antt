-- Filters by conditions that never raise are filters of lists; and what a filter drops unseen.
use Rattle.algebra.specs.Raising.{NeverRaises}
use Rattle.denote.specs.Condition.{ConditionMeaning, both}
use Rattle.denote.specs.Evaluation.{Env, Evaluation, ◌>>=◌}
use Rattle.denote.specs.From.{only_true, kept_row, kept}
use Rattle.denote.specs.Outcome.{Outcome, each, through, before}
use Rattle.denote.specs.declared.fault.Fault.{Fault}
use Rattle.operator_laws.specs.Law.{is_true, is_true_at}
use Rattle.operator_laws.specs.Same.{Every}
use Rattle.sqlval.specs.Truth.{truth_and}
use Rattle.sqlval.specs.Value.{Row}
use Rattle.sqlval.specs.declared.truth.Truth.{Truth}
use Rattle.sqlval.specs.declared.truth.Truth.TheVariants.{False, Unknown, True}
use Rattle.std.proofs.Common.{◌≡◌, refl, sym, ap, ◌∙◌, Bool, List, [], ◌∷◌, ◌++◌, Ok, true, false, cond, append-nil, Err}
use Rattle.std.specs.Prelude.{filter}

-- the rows that pass a test, with the faults as they were
abbrev pub sifted : (Row → Bool) → Outcome → Outcome
sifted p o = record { rows = filter p o.rows; faults = o.faults }

-- ---- conditions that never raise

before-safe : (x : Evaluation Truth) (t : Truth) (row : Row) (rest : Outcome) → x ≡ Ok t
    → before (x >>= (λ t. Ok (only_true t row))) rest
    ≡ record { rows = cond (is_true x) (row ∷ rest.rows) rest.rows; faults = rest.faults }
before-safe (Ok True) t row rest e = refl
before-safe (Ok False) t row rest e = refl
before-safe (Ok Unknown) t row rest e = refl
before-safe (Err faults) t row rest e = absurd (cc (e))

pub kept-safe : (c : ConditionMeaning) (env : Env) (rows : List Row) → NeverRaises c
    → kept c env rows ≡ record { rows = filter (is_true_at c env) rows; faults = [] }
kept-safe c env [] h = refl
kept-safe c env (row ∷ rows) h =
    let v = h (row ∷ env) in
    before-safe (c (row ∷ env)) v.0 row (kept c env rows) v.1
    ∙ ap (λ (rest : Outcome). record {
      rows = cond (is_true_at c env row) (row ∷ rest.rows) rest.rows;
      faults =
          rest.faults;
    }) (kept-safe c env rows h)

pub through-safe : (c : ConditionMeaning) (env : Env) (o : Outcome) → NeverRaises c
    → through o (kept c env) ≡ sifted (is_true_at c env) o
unfolding through
through-safe c env o h =
    ap (λ (k : Outcome). record { rows = k.rows; faults = o.faults ++ k.faults }) (kept-safe c env o.rows h)
    ∙ ap (λ (fs : List Fault). record { rows = filter (is_true_at c env) o.rows; faults = fs }) (append-nil o.faults)

-- ---- rows at which a condition is known to be false, without a fault

drop-one : (x : Evaluation (List Row)) (rest : Outcome) → x ≡ Ok [] → before x rest ≡ rest
drop-one x rest e = ap (λ (z : Evaluation (List Row)). before z rest) e

pub kept-narrowed : (c : ConditionMeaning) (env : Env) (test : Row → Bool) (rows : List Row)
    → ((row : Row) → test row ≡ false → kept_row c env row ≡ Ok [])
    → kept c env (filter test rows) ≡ kept c env rows
kept-narrowed c env test [] h = refl
kept-narrowed c env test (row ∷ rows) h = at (test row) refl (kept-narrowed c env test rows h)
  where
    at : (b : Bool) → test row ≡ b → kept c env (filter test rows) ≡ kept c env rows
        → kept c env (cond b (row ∷ filter test rows) (filter test rows)) ≡ kept c env (row ∷ rows)
    at true is e = ap (λ (rest : Outcome). before (kept_row c env row) rest) e
    at false is e = e ∙ sym (drop-one (kept_row c env row) (kept c env rows) (h row is))

pub through-narrowed : (c : ConditionMeaning) (env : Env) (test : Row → Bool) (o : Outcome)
    → ((row : Row) → test row ≡ false → kept_row c env row ≡ Ok [])
    → through (sifted test o) (kept c env) ≡ through o (kept c env)
unfolding through
through-narrowed c env test o h = ap (λ (k : Outcome). record { rows = k.rows; faults = o.faults ++ k.faults })
    (kept-narrowed c env test o.rows h)

-- what is made of rows behind which others give nothing
pub each-behind : (f : Row → Evaluation (List Row)) (xs ys : List Row) → Every (λ y. f y ≡ Ok []) ys
    → each f (xs ++ ys) ≡ each f xs
each-behind f [] ys h = gone ys h
  where
    gone : (ys : List Row) → Every (λ y. f y ≡ Ok []) ys → each f ys ≡ each f []
    gone [] h = refl
    gone (y ∷ ys) h = drop-one (f y) (each f ys) h.0 ∙ gone ys h.1
each-behind f (x ∷ xs) ys h = ap (λ (rest : Outcome). before (f x) rest) (each-behind f xs ys h)

-- ---- AND whose second operand never raises: Q1

module _ (a b : ConditionMeaning) (env : Env) (safe : NeverRaises b) where
  abbrev pub and_then : ConditionMeaning
  and_then env = a env >>= (λ x. both x (b env))

  kept-split : (rows : List Row) → kept and_then env rows ≡ sifted (is_true_at b env) (kept a env rows)
  kept-split [] = refl
  kept-split (row ∷ rows) =
      ap (λ (rest : Outcome). before (kept_row and_then env row) rest) (kept-split rows)
      ∙ (let v = safe (row ∷ env) in at (a (row ∷ env)) v.0 v.1)
    where
      rest : Outcome
      rest = kept a env rows

      at : (x : Evaluation Truth) (t : Truth) → b (row ∷ env) ≡ Ok t
          → before ((x >>= (λ v. both v (b (row ∷ env)))) >>= (λ t. Ok (only_true t row)))
          (sifted (is_true_at b env) rest)
          ≡ sifted (is_true_at b env) (before (x >>= (λ t. Ok (only_true t row))) rest)
      at (Err faults) t e = refl
      at (Ok False) t e = refl
      at (Ok True) t e = before-safe (b (row ∷ env)) t row (sifted (is_true_at b env) rest) e
      at (Ok Unknown) t e = ap (λ (y : Evaluation Truth). before
          ((y >>= (λ y. Ok (truth_and Unknown y))) >>= (λ t. Ok (only_true t row))) (sifted (is_true_at b env) rest)) e
          ∙ never t
        where
          never : (t : Truth) → before ((Ok t >>= (λ y. Ok (truth_and Unknown y))) >>= (λ t. Ok (only_true t row)))
              (sifted (is_true_at b env) rest) ≡ sifted (is_true_at b env) rest
          never False = refl
          never Unknown = refl
          never True = refl

  pub filter-splits : (o : Outcome) → through o (kept and_then env) ≡ through (through o (kept a env)) (kept b env)
  unfolding through
  filter-splits o = ap (λ (k : Outcome). record { rows = k.rows; faults = o.faults ++ k.faults }) (kept-split o.rows)
      ∙ sym (through-safe b env (through o (kept a env)) safe)

-- ---- a leading conjunct is not false: Q16

module _ (p rest : ConditionMeaning) (env : Env) (quiet : NeverRaises p) where
  abbrev pub behind : ConditionMeaning
  behind env = p env >>= (λ x. both x (rest env))

  -- any condition that is true just where p is not false
  pub prefilter-drops : (pre : ConditionMeaning) → NeverRaises pre
      → ((row : Row) → is_true (pre (row ∷ env)) ≡ false → p (row ∷ env) ≡ Ok False) → (o : Outcome)
      → through (through o (kept pre env)) (kept behind env) ≡ through o (kept behind env)
  prefilter-drops pre safe means o =
      ap (λ (q : Outcome). through q (kept behind env)) (through-safe pre env o safe)
      ∙ through-narrowed behind env (is_true_at pre env) o (λ row fails. dropped row (means row fails))
    where
      dropped : (row : Row) → p (row ∷ env) ≡ Ok False → kept_row behind env row ≡ Ok []
      dropped row e = ap (λ (x : Evaluation Truth). (x >>= (λ x. both x (rest (row ∷ env)))) >>=
          (λ t. Ok (only_true t row))) e
