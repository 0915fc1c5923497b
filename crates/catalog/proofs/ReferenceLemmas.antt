-- What foreign keys reference, with a table more.
use Rattle.std.proofs.Common.{◌≡◌, Bool, true, false, ◌||◌, List, [], ◌∷◌, refl}
use Rattle.std.specs.Prelude.{if◌then◌else◌}
use Rattle.std.specs.List.{list_any, list_all}
use Rattle.std.specs.Ordering.{is_lt}
use Rattle.std.proofs.lemmas.Bool.{and_parts, and_from, or_right}
use Rattle.sqlval.specs.declared.schema.Table.{Table}
use Rattle.sqlval.specs.Comparison.{text_order}
use Rattle.catalog_records.specs.References.{is_meant_by, are_rules_among, AreReferencesOver, AreReferencesWith}
use Rattle.catalog_records.proofs.ReferenceLemmas.{rules_more, references_more}
use Rattle.catalog.specs.Changed.{with_table}

any_with : (p : Table → Bool) (t : Table) (tables : List Table) → list_any p (t ∷ tables) ≡ true → list_any p (with_table t tables) ≡ true
any_with p t [] h = h
any_with p t (u ∷ tables) h = by (is_lt (text_order u.name t.name)) (any_with p t tables)
  where
    later : (a b c d : Bool) → (a || (b || c)) ≡ true → ((a || c) ≡ true → d ≡ true) → (b || d) ≡ true
    later a true c d g f = refl
    later a false c d g f = f g

    by : (b : Bool) → (list_any p (t ∷ tables) ≡ true → list_any p (with_table t tables) ≡ true) → list_any p (if b then u ∷ with_table t tables else t ∷ u ∷ tables) ≡ true
    by true again = later (p t) (p u) (list_any p tables) (list_any p (with_table t tables)) h again
    by false again = h

all_with : (p : Table → Bool) (t : Table) (tables : List Table) → list_all p (t ∷ tables) ≡ true → list_all p (with_table t tables) ≡ true
all_with p t [] h = h
all_with p t (u ∷ tables) h = by (is_lt (text_order u.name t.name)) (all_with p t tables)
  where
    by : (b : Bool) → (list_all p (t ∷ tables) ≡ true → list_all p (with_table t tables) ≡ true) → list_all p (if b then u ∷ with_table t tables else t ∷ u ∷ tables) ≡ true
    by true again =
        let first = and_parts (p t) (list_all p (u ∷ tables)) h in
        let second = and_parts (p u) (list_all p tables) first.1 in
        and_from (p u) (list_all p (with_table t tables)) second.0 (again (and_from (p t) (list_all p tables) first.0 second.1))
    by false again = h

pub references_with : (t : Table) (tables : List Table) → AreReferencesOver tables → AreReferencesWith t tables → AreReferencesOver (with_table t tables)
references_with t tables held own =
    all_with (λ (u : Table). are_rules_among (with_table t tables) u.constraints) t tables
    (and_from (are_rules_among (with_table t tables) t.constraints) (list_all (λ (u : Table). are_rules_among (with_table t tables) u.constraints) tables)
    (rules_more (t ∷ tables) (with_table t tables) (λ r h. any_with (is_meant_by r) t tables h) t.constraints own)
    (references_more tables (with_table t tables) (λ r h. any_with (is_meant_by r) t tables (or_right (is_meant_by r t) (list_any (is_meant_by r) tables) h)) tables held))
