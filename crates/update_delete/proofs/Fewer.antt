-- A table of fewer rows violates no more.
use Rattle.std.proofs.Common.{◌≡◌, ◌∙◌, refl, sym, ap, ℕ, Bool, true, false, cond, ◌||◌, List, [], ◌∷◌, map, Ok, Err}
use Rattle.std.specs.Prelude.{filter}
use Rattle.std.specs.List.{list_any}
use Rattle.sqlval.specs.declared.schema.Constraint.{Constraint}
use Rattle.sqlval.specs.declared.schema.Rule.{Rule}
use Rattle.sqlval.specs.declared.schema.Rule.TheVariants.{NotNull, PrimaryKey, Unique, Check, ForeignKey}
use Rattle.sqlval.specs.Matching.{key_of, matches}
use Rattle.sqlval.specs.Value.{Row, is_null}
use Rattle.denote.specs.Database.{Name, Table, CheckReading, check_at, is_false, has_null, has_twins, is_violated, violated_by}
use Rattle.denote.specs.Evaluation.{Evaluation, ◌>>=◌, joined, together}

neither : (a b : Bool) → (a || b) ≡ false → (a ≡ false) × (b ≡ false)
neither true b e = absurd (cc e)
neither false b e = (refl, e)

-- ---- rows that are found with whether they are touched, of which some are kept

module _ (p : Bool × Row → Bool) where
  abbrev pub all_rows : List (Bool × Row) → List Row
  all_rows found = map (λ (r : Bool × Row). r.1) found

  abbrev pub kept : List (Bool × Row) → List Row
  kept found = map (λ (r : Bool × Row). r.1) (filter p found)

  any-fewer : (q : Row → Bool) (found : List (Bool × Row)) → list_any q (all_rows found) ≡ false → list_any q (kept found) ≡ false
  any-fewer q [] e = refl
  any-fewer q (r ∷ found) e = let none = neither (q r.1) (list_any q (all_rows found)) e in by (p r) none.0 (any-fewer q found none.1)
    where
      by : (b : Bool) → q r.1 ≡ false → list_any q (kept found) ≡ false → list_any q (map (λ (r : Bool × Row). r.1) (cond b (r ∷ filter p found) (filter p found))) ≡ false
      by true first rest = rw first rest
      by false first rest = rest

  twins-fewer : (columns : List ℕ) (found : List (Bool × Row)) → has_twins columns (all_rows found) ≡ false → has_twins columns (kept found) ≡ false
  twins-fewer columns [] e = refl
  twins-fewer columns (r ∷ found) e =
      let none = neither (list_any (matches columns (key_of columns r.1)) (all_rows found)) (has_twins columns (all_rows found)) e in
      by (p r) (any-fewer (matches columns (key_of columns r.1)) found none.0) (twins-fewer columns found none.1)
    where
      by : (b : Bool) → list_any (matches columns (key_of columns r.1)) (kept found) ≡ false → has_twins columns (kept found) ≡ false
          → has_twins columns (map (λ (r : Bool × Row). r.1) (cond b (r ∷ filter p found) (filter p found))) ≡ false
      by true first rest = rw first rest
      by false first rest = rest

  module _ (reading : CheckReading) (name : Name) (t : Table) (found : List (Bool × Row)) where
    rule-fewer : (r : Rule) → is_violated reading name (record t { rows = all_rows found }) r ≡ false → is_violated reading name (record t { rows = kept found }) r ≡ false
    rule-fewer (NotNull column) e = any-fewer (λ (row : Row). list_any is_null (key_of (column ∷ []) row)) found e
    rule-fewer (PrimaryKey columns) e =
        let none = neither (has_null columns (all_rows found)) (has_twins columns (all_rows found)) e in
        (λ i. any-fewer (λ (row : Row). list_any is_null (key_of columns row)) found none.0 i || twins-fewer columns found none.1 i)
    rule-fewer (Unique columns) e = twins-fewer columns found e
    rule-fewer (Check text) e = any-fewer (λ (row : Row). is_false (check_at (reading name t.columns text) row)) found e
    rule-fewer (ForeignKey reference) e = refl

    names-fewer : (cs : List Constraint)
        → map (λ (c : Constraint). c.name) (filter (λ (c : Constraint). is_violated reading name (record t { rows = all_rows found }) c.rule) cs) ≡ []
        → map (λ (c : Constraint). c.name) (filter (λ (c : Constraint). is_violated reading name (record t { rows = kept found }) c.rule) cs) ≡ []
    names-fewer [] e = refl
    names-fewer (c ∷ cs) e = by (is_violated reading name (record t { rows = all_rows found }) c.rule) refl e (names-fewer cs)
      where
        last : (b : Bool) → b ≡ false
            → map (λ (c : Constraint). c.name) (filter (λ (c : Constraint). is_violated reading name (record t { rows = kept found }) c.rule) cs) ≡ []
            → map (λ (c : Constraint). c.name) (cond b (c ∷ filter (λ (c : Constraint). is_violated reading name (record t { rows = kept found }) c.rule) cs)
            (filter (λ (c : Constraint). is_violated reading name (record t { rows = kept found }) c.rule) cs)) ≡ []
        last true is rest = absurd (cc is)
        last false is rest = rest

        by : (b : Bool) → is_violated reading name (record t { rows = all_rows found }) c.rule ≡ b
            → map (λ (c : Constraint). c.name) (cond b (c ∷ filter (λ (c : Constraint). is_violated reading name (record t { rows = all_rows found }) c.rule) cs)
            (filter (λ (c : Constraint). is_violated reading name (record t { rows = all_rows found }) c.rule) cs)) ≡ []
            → (map (λ (c : Constraint). c.name) (filter (λ (c : Constraint). is_violated reading name (record t { rows = all_rows found }) c.rule) cs) ≡ []
            → map (λ (c : Constraint). c.name) (filter (λ (c : Constraint). is_violated reading name (record t { rows = kept found }) c.rule) cs) ≡ [])
            → map (λ (c : Constraint). c.name) (filter (λ (c : Constraint). is_violated reading name (record t { rows = kept found }) c.rule) (c ∷ cs)) ≡ []
        by true is none rest = absurd (cc none)
        by false is none rest = last (is_violated reading name (record t { rows = kept found }) c.rule) (rule-fewer c.rule is) (rest none)

    pub violates-no-more : violated_by reading name (record t { rows = all_rows found }) ≡ [] → violated_by reading name (record t { rows = kept found }) ≡ []
    violates-no-more e = names-fewer t.constraints e

-- ---- rows that are found as they are

module _ (touches : Row → Evaluation Bool) where
  same_found : (x y : List (Bool × Row)) → ◌≡◌ {A = Evaluation (List (Bool × Row))} (Ok x) (Ok y) → x ≡ y
  same_found x y e = cc

  pub own-rows : (rows : List Row) (found : List (Bool × Row)) → together (map (λ (row : Row). touches row >>= (λ touched. Ok (touched, row))) rows) ≡ Ok found
      → map (λ (r : Bool × Row). r.1) found ≡ rows
  own-rows [] found e = ap (λ (rs : List (Bool × Row)). map (λ (r : Bool × Row). r.1) rs) (sym (same_found [] found e))
  own-rows (row ∷ rows) found e =
      by (touches row) (together (map (λ (row : Row). touches row >>= (λ touched. Ok (touched, row))) rows)) e (own-rows rows)
    where
      by : (x : Evaluation Bool) (xs : Evaluation (List (Bool × Row))) → joined (x >>= (λ touched. Ok (touched, row))) xs ≡ Ok found
          → ((found : List (Bool × Row)) → xs ≡ Ok found → map (λ (r : Bool × Row). r.1) found ≡ rows) → map (λ (r : Bool × Row). r.1) found ≡ row ∷ rows
      by (Ok touched) (Ok more) e rest =
          ap (λ (rs : List (Bool × Row)). map (λ (r : Bool × Row). r.1) rs) (sym (same_found ((touched, row) ∷ more) found e)) ∙ ap (λ (rs : List Row). row ∷ rs) (rest more refl)
      by (Ok touched) (Err faults) e rest = absurd (cc e)
      by (Err faults) xs e rest = absurd (cc e)
