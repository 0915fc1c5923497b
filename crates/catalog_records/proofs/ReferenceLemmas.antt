-- What foreign keys reference, among tables that change.
use Rattle.std.proofs.Common.{◌≡◌, ℕ, Bool, true, false, not, ◌&&◌, ◌||◌, List, [], ◌∷◌, ◌++◌, length, refl, sym, ap, ◌∙◌}
use Rattle.std.specs.List.{AllByRecursion, list_any, list_all}
use Rattle.std.specs.Cmp.Lexicographic.{same_text}
use Rattle.std.proofs.lemmas.Cmp.{nat_list_eq_equiv}
use Rattle.std.proofs.lemmas.Bool.{and_parts, and_from, or_parts, or_from}
use Rattle.sqlval.specs.declared.schema.Constraint.{Constraint}
use Rattle.sqlval.specs.declared.schema.Reference.{Reference}
use Rattle.sqlval.specs.declared.schema.Rule.{Rule}
use Rattle.sqlval.specs.declared.schema.Rule.TheVariants.{NotNull, PrimaryKey, Unique, Check, ForeignKey}
use Rattle.sqlval.specs.declared.schema.Table.{Table}
use Rattle.sqlval.specs.Schema.{same_name}
use Rattle.catalog_records.specs.References.{are_within, is_meant_by, is_rule_among, are_rules_among, are_references_among, AreReferencesOver, is_reference_to, references, is_referenced}

-- ---- lists

pub any_without : {X : Type 0} (p : X → Bool) (before behind : List X) (x : X) → list_any p (before ++ x ∷ behind) ≡ false → list_any p (before ++ behind) ≡ false
any_without p [] behind x h = (or_parts (p x) (list_any p behind) h).1
any_without p (y ∷ before) behind x h =
    let both = or_parts (p y) (list_any p (before ++ x ∷ behind)) h in
    or_from (p y) (list_any p (before ++ behind)) both.0 (any_without p before behind x both.1)

pub all_without : {X : Type 0} (p : X → Bool) (before behind : List X) (x : X) → list_all p (before ++ x ∷ behind) ≡ true → list_all p (before ++ behind) ≡ true
all_without p [] behind x h = (and_parts (p x) (list_all p behind) h).1
all_without p (y ∷ before) behind x h =
    let both = and_parts (p y) (list_all p (before ++ x ∷ behind)) h in
    and_from (p y) (list_all p (before ++ behind)) both.0 (all_without p before behind x both.1)

-- the one that goes does not pass
pub any_but : {X : Type 0} (p : X → Bool) (before behind : List X) (x : X) → p x ≡ false → list_any p (before ++ x ∷ behind) ≡ list_any p (before ++ behind)
any_but p [] behind x h = ap (λ b. b || list_any p behind) h
any_but p (y ∷ before) behind x h = ap (λ b. p y || b) (any_but p before behind x h)

pub any_around : {X : Type 0} (p : X → Bool) (before behind : List X) (x y : X) → p x ≡ p y → list_any p (before ++ x ∷ behind) ≡ list_any p (before ++ y ∷ behind)
any_around p [] behind x y same = ap (λ b. b || list_any p behind) same
any_around p (z ∷ before) behind x y same = ap (λ b. p z || b) (any_around p before behind x y same)

pub all_around : {X : Type 0} (p : X → Bool) (before behind : List X) (x y : X) → p x ≡ p y → list_all p (before ++ x ∷ behind) ≡ list_all p (before ++ y ∷ behind)
all_around p [] behind x y same = ap (λ b. b && list_all p behind) same
all_around p (z ∷ before) behind x y same = ap (λ b. p z && b) (all_around p before behind x y same)

-- ---- among other tables

-- what is meant by one of these tables is meant by one of those, where the table has another name
abbrev pub AreMeantBut : List ℕ → List Table → List Table → Type 0
AreMeantBut name one other = (r : Reference) → same_name r.table name ≡ false → list_any (is_meant_by r) one ≡ true → list_any (is_meant_by r) other ≡ true

rule_left : (name : List ℕ) (one other : List Table) → AreMeantBut name one other → (rule : Rule) → is_reference_to name rule ≡ false → is_rule_among one rule ≡ true → is_rule_among other rule ≡ true
rule_left name one other meant (NotNull column) free h = refl
rule_left name one other meant (PrimaryKey columns) free h = refl
rule_left name one other meant (Unique columns) free h = refl
rule_left name one other meant (Check text) free h = refl
rule_left name one other meant (ForeignKey r) free h = let both = and_parts _ (list_any (is_meant_by r) one) h in and_from _ (list_any (is_meant_by r) other) both.0 (meant r free both.1)

rules_left : (name : List ℕ) (one other : List Table) → AreMeantBut name one other → (cs : List Constraint) → references name cs ≡ false → are_rules_among one cs ≡ true → are_rules_among other cs ≡ true
rules_left name one other meant [] free h = refl
rules_left name one other meant (c ∷ cs) free h =
    let frees = or_parts (is_reference_to name c.rule) (references name cs) free in
    let both = and_parts (is_rule_among one c.rule) (are_rules_among one cs) h in
    and_from (is_rule_among other c.rule) (are_rules_among other cs) (rule_left name one other meant c.rule frees.0 both.0) (rules_left name one other meant cs frees.1 both.1)

tables_left : (name : List ℕ) (one other : List Table) → AreMeantBut name one other → (tables : List Table) → list_any (λ (u : Table). references name u.constraints) tables ≡ false
    → are_references_among one tables ≡ true → are_references_among other tables ≡ true
tables_left name one other meant [] free h = refl
tables_left name one other meant (u ∷ tables) free h =
    let frees = or_parts (references name u.constraints) (list_any (λ (v : Table). references name v.constraints) tables) free in
    let both = and_parts (are_rules_among one u.constraints) (are_references_among one tables) h in
    and_from (are_rules_among other u.constraints) (are_references_among other tables) (rules_left name one other meant u.constraints frees.0 both.0) (tables_left name one other meant tables frees.1 both.1)

-- what is meant by one of these tables is meant by one of those
abbrev pub AreMeant : List Table → List Table → Type 0
AreMeant one other = (r : Reference) → list_any (is_meant_by r) one ≡ true → list_any (is_meant_by r) other ≡ true

rule_more : (one other : List Table) → AreMeant one other → (rule : Rule) → is_rule_among one rule ≡ true → is_rule_among other rule ≡ true
rule_more one other meant (NotNull column) h = refl
rule_more one other meant (PrimaryKey columns) h = refl
rule_more one other meant (Unique columns) h = refl
rule_more one other meant (Check text) h = refl
rule_more one other meant (ForeignKey r) h = let both = and_parts _ (list_any (is_meant_by r) one) h in and_from _ (list_any (is_meant_by r) other) both.0 (meant r both.1)

pub rules_more : (one other : List Table) → AreMeant one other → (cs : List Constraint) → are_rules_among one cs ≡ true → are_rules_among other cs ≡ true
rules_more one other meant [] h = refl
rules_more one other meant (c ∷ cs) h =
    let both = and_parts (is_rule_among one c.rule) (are_rules_among one cs) h in
    and_from (is_rule_among other c.rule) (are_rules_among other cs) (rule_more one other meant c.rule both.0) (rules_more one other meant cs both.1)

pub references_more : (one other : List Table) → AreMeant one other → (tables : List Table) → are_references_among one tables ≡ true → are_references_among other tables ≡ true
references_more one other meant [] h = refl
references_more one other meant (u ∷ tables) h =
    let both = and_parts (are_rules_among one u.constraints) (are_references_among one tables) h in
    and_from (are_rules_among other u.constraints) (are_references_among other tables) (rules_more one other meant u.constraints both.0) (references_more one other meant tables both.1)

-- ---- without a table that no other one references

name_back : (a b : List ℕ) → same_name a b ≡ false → same_name b a ≡ false
name_back a b h = by (same_name b a) refl
  where
    by : (s : Bool) → s ≡ same_name b a → same_name b a ≡ false
    by false e = sym e
    by true e =
        let same : b ≡ a = same_text b a e in
        let bad : true ≡ false = sym (nat_list_eq_equiv.refl a) ∙ sym (ap (λ n. same_name a n) same) ∙ h in absurd (cc)

meant_left : (before behind : List Table) (t : Table) → AreMeantBut t.name (before ++ t ∷ behind) (before ++ behind)
meant_left before behind t r other h =
    let not_it : is_meant_by r t ≡ false = ap (λ b. b && are_within (length t.columns) r.referenced) (name_back r.table t.name other) in
    sym (any_but (is_meant_by r) before behind t not_it) ∙ h

others_free : (name : List ℕ) (tables : List Table) → AllByRecursion (λ (u : Table). same_name u.name name ≡ false) tables → is_referenced name tables ≡ false
    → list_any (λ (u : Table). references name u.constraints) tables ≡ false
others_free name [] others h = refl
others_free name (u ∷ tables) others h =
    let both = or_parts (not (same_name u.name name) && references name u.constraints) (is_referenced name tables) h in
    or_from (references name u.constraints) (list_any (λ (v : Table). references name v.constraints) tables) (ap (λ b. not b && references name u.constraints) (sym others.0) ∙ both.0) (others_free name tables others.1 both.1)

pub references_left : (before behind : List Table) (t : Table) → AllByRecursion (λ (u : Table). same_name u.name t.name ≡ false) (before ++ behind) → is_referenced t.name (before ++ t ∷ behind) ≡ false
    → AreReferencesOver (before ++ t ∷ behind) → AreReferencesOver (before ++ behind)
references_left before behind t others free h =
    tables_left t.name (before ++ t ∷ behind) (before ++ behind) (meant_left before behind t) (before ++ behind)
    (others_free t.name (before ++ behind) others (any_without (λ (u : Table). not (same_name u.name t.name) && references t.name u.constraints) before behind t free))
    (all_without (λ (u : Table). are_rules_among (before ++ t ∷ behind) u.constraints) before behind t h)

-- ---- another table of the same name, columns and constraints

meant_around : (before behind : List Table) (was now : Table) → now.name ≡ was.name → now.columns ≡ was.columns → AreMeant (before ++ was ∷ behind) (before ++ now ∷ behind)
meant_around before behind was now names columns r h =
    let same : is_meant_by r now ≡ is_meant_by r was = λ i. same_name (names i) r.table && are_within (length (columns i)) r.referenced in
    any_around (is_meant_by r) before behind now was same ∙ h

pub references_around : (before behind : List Table) (was now : Table) → now.name ≡ was.name → now.columns ≡ was.columns → now.constraints ≡ was.constraints
    → AreReferencesOver (before ++ was ∷ behind) → AreReferencesOver (before ++ now ∷ behind)
references_around before behind was now names columns constraints h =
    references_more (before ++ was ∷ behind) (before ++ now ∷ behind) (meant_around before behind was now names columns) (before ++ now ∷ behind)
    (all_around (λ (u : Table). are_rules_among (before ++ was ∷ behind) u.constraints) before behind now was (ap (are_rules_among (before ++ was ∷ behind)) constraints) ∙ h)
