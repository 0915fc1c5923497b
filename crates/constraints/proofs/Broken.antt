-- The constraints that rows violate, but for CHECKs.
use Rattle.std.proofs.Common.{◌≡◌, refl, ℕ, zero, suc, ◌<◌, Bool, true, false, cond, ◌&&◌, ◌||◌, List, [], ◌∷◌, map, length, slice_index_or, arith}
use Rattle.std.specs.Prelude.{Contains, filter}
use Rattle.sqlval.specs.declared.schema.Constraint.{Constraint}
use Rattle.sqlval.specs.declared.schema.Rule.{Rule}
use Rattle.sqlval.specs.declared.schema.Rule.TheVariants.{NotNull, PrimaryKey, Unique, Check, ForeignKey}
use Rattle.denote.specs.Database.{Name, Table, CheckReading, is_violated, violated_by}
use Rattle.constraints.specs.Rules.{breaks_rule, broken, is_check_rule, has_checks, broken_checks}

pub behind : (n x : Name) (xs : List Name) → Contains xs n → Contains (x ∷ xs) n
behind n x xs h = let below = h.1 in (suc h.0, omega (arith, below), h.2)

module _ (p q : Constraint → Bool) (more : (c : Constraint) → p c ≡ true → q c ≡ true) where
  -- a wider test finds no less
  pub wider : (cs : List Constraint) (n : Name) → Contains (map (λ (c : Constraint). c.name) (filter p cs)) n → Contains (map (λ (c : Constraint). c.name) (filter q cs)) n
  wider [] n h = h
  wider (c ∷ cs) n h = by (p c) refl (q c) refl h (wider cs n)
    where
      by : (a : Bool) → p c ≡ a → (b : Bool) → q c ≡ b → Contains (map (λ (c : Constraint). c.name) (cond a (c ∷ filter p cs) (filter p cs))) n
          → (Contains (map (λ (c : Constraint). c.name) (filter p cs)) n → Contains (map (λ (c : Constraint). c.name) (filter q cs)) n)
          → Contains (map (λ (c : Constraint). c.name) (cond b (c ∷ filter q cs) (filter q cs))) n
      by true is true also h rest = at h.0 h.1 h.2
        where
          at : (k : ℕ) → k < length (c.name ∷ map (λ (c : Constraint). c.name) (filter p cs)) → slice_index_or (c.name ∷ map (λ (c : Constraint). c.name) (filter p cs)) k n ≡ n
              → Contains (c.name ∷ map (λ (c : Constraint). c.name) (filter q cs)) n
          at zero below e = (0, omega arith, e)
          at (suc k) below e = behind n c.name (map (λ (c : Constraint). c.name) (filter q cs)) (rest (k, omega (arith, below), e))
      by true is false also h rest = let wide : q c ≡ true = more c is in absurd (cc (wide, also))
      by false is true also h rest = behind n c.name (map (λ (c : Constraint). c.name) (filter q cs)) (rest h)
      by false is false also h rest = rest h

broken_too : (reading : CheckReading) (name : Name) (u : Table) (r : Rule) → breaks_rule u.rows r ≡ true → is_violated reading name u r ≡ true
broken_too reading name u (NotNull column) e = e
broken_too reading name u (PrimaryKey columns) e = e
broken_too reading name u (Unique columns) e = e
broken_too reading name u (Check text) e = absurd (cc e)
broken_too reading name u (ForeignKey reference) e = absurd (cc e)

pub is_broken_too : (reading : CheckReading) (name : Name) (u : Table) (n : Name) → Contains (broken u.constraints u.rows) n → Contains (violated_by reading name u) n
is_broken_too reading name u n h =
    wider (λ (c : Constraint). breaks_rule u.rows c.rule) (λ (c : Constraint). is_violated reading name u c.rule) (λ c e. broken_too reading name u c.rule e) u.constraints n h

check_too : (reading : CheckReading) (name : Name) (u : Table) (r : Rule) → (is_check_rule r && is_violated reading name u r) ≡ true → is_violated reading name u r ≡ true
check_too reading name u (NotNull column) e = absurd (cc e)
check_too reading name u (PrimaryKey columns) e = absurd (cc e)
check_too reading name u (Unique columns) e = absurd (cc e)
check_too reading name u (Check text) e = e
check_too reading name u (ForeignKey reference) e = absurd (cc e)

pub is_check_broken_too : (reading : CheckReading) (name : Name) (u : Table) (n : Name) → Contains (broken_checks reading name u) n → Contains (violated_by reading name u) n
is_check_broken_too reading name u n h =
    wider (λ (c : Constraint). is_check_rule c.rule && is_violated reading name u c.rule) (λ (c : Constraint). is_violated reading name u c.rule)
    (λ c e. check_too reading name u c.rule e) u.constraints n h

-- a violated rule is a CHECK, or one of the others
either_rule : (reading : CheckReading) (name : Name) (u : Table) (r : Rule) → is_violated reading name u r ≡ ((is_check_rule r && is_violated reading name u r) || breaks_rule u.rows r)
either_rule reading name u (NotNull column) = refl
either_rule reading name u (PrimaryKey columns) = refl
either_rule reading name u (Unique columns) = refl
either_rule reading name u (ForeignKey reference) = refl
either_rule reading name u (Check text) = or_false (is_violated reading name u (Check text))
  where
    or_false : (b : Bool) → b ≡ (b || false)
    or_false true = refl
    or_false false = refl

module _ (p q r : Constraint → Bool) (either : (c : Constraint) → r c ≡ (p c || q c)) where
  none_of_both : (cs : List Constraint) → map (λ (c : Constraint). c.name) (filter p cs) ≡ [] → map (λ (c : Constraint). c.name) (filter q cs) ≡ []
      → map (λ (c : Constraint). c.name) (filter r cs) ≡ []
  none_of_both [] e f = refl
  none_of_both (c ∷ cs) e f = by (p c) (q c) (r c) (either c) e f (none_of_both cs)
    where
      by : (a b d : Bool) → d ≡ (a || b) → map (λ (c : Constraint). c.name) (cond a (c ∷ filter p cs) (filter p cs)) ≡ []
          → map (λ (c : Constraint). c.name) (cond b (c ∷ filter q cs) (filter q cs)) ≡ []
          → (map (λ (c : Constraint). c.name) (filter p cs) ≡ [] → map (λ (c : Constraint). c.name) (filter q cs) ≡ [] → map (λ (c : Constraint). c.name) (filter r cs) ≡ [])
          → map (λ (c : Constraint). c.name) (cond d (c ∷ filter r cs) (filter r cs)) ≡ []
      by true b d is e f rest = absurd (cc e)
      by false true d is e f rest = absurd (cc f)
      by false false true is e f rest = absurd (cc is)
      by false false false is e f rest = rest e f

pub none_violated : (reading : CheckReading) (name : Name) (u : Table) → broken_checks reading name u ≡ [] → broken u.constraints u.rows ≡ [] → violated_by reading name u ≡ []
none_violated reading name u checks e =
    none_of_both (λ (c : Constraint). is_check_rule c.rule && is_violated reading name u c.rule) (λ (c : Constraint). breaks_rule u.rows c.rule)
    (λ (c : Constraint). is_violated reading name u c.rule) (λ c. either_rule reading name u c.rule) u.constraints checks e

-- a table without CHECKs violates none
module _ (reading : CheckReading) (name : Name) (u : Table) where
  none_among : (cs : List Constraint) → has_checks cs ≡ false → map (λ (c : Constraint). c.name) (filter (λ (c : Constraint). is_check_rule c.rule && is_violated reading name u c.rule) cs) ≡ []
  none_among [] e = refl
  none_among (c ∷ cs) e = by (is_check_rule c.rule) e (none_among cs)
    where
      by : (b : Bool) → (b || has_checks cs) ≡ false
          → (has_checks cs ≡ false → map (λ (c : Constraint). c.name) (filter (λ (c : Constraint). is_check_rule c.rule && is_violated reading name u c.rule) cs) ≡ [])
          → map (λ (c : Constraint). c.name) (cond (b && is_violated reading name u c.rule) (c ∷ filter (λ (c : Constraint). is_check_rule c.rule && is_violated reading name u c.rule) cs)
          (filter (λ (c : Constraint). is_check_rule c.rule && is_violated reading name u c.rule) cs)) ≡ []
      by true e rest = absurd (cc e)
      by false e rest = rest e

  pub no_checks_broken : has_checks u.constraints ≡ false → broken_checks reading name u ≡ []
  no_checks_broken e = none_among u.constraints e
