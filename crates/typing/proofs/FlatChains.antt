-- Chains stay flat.
use Rattle.std.proofs.Common.{◌≡◌, refl, Bool, true, false, not, ◌&&◌, List, [], ◌∷◌, rules}
use Rattle.std.specs.Prelude.{flat_map}
use Rattle.std.specs.List.{list_all}
use Rattle.std.proofs.lemmas.List.Folds.{list_all-append}
use Rattle.typing.specs.declared.typed.Condition.{Condition, Condition-F, out-Condition, the_lemmas}
use Rattle.typing.specs.declared.typed.Condition.TheVariants as condition
use Rattle.typing.specs.Condition.{ConditionLayer, conjuncts, conjuncts_at, disjuncts, disjuncts_at, and_of, or_of}
use Rattle.typing.specs.Flat.{is_and, is_or, is_conjunct, is_disjunct, has_flat_and, has_flat_or}

split-and : (a b : Bool) → (a && b) ≡ true → (a ≡ true) × (b ≡ true)
split-and true b h = (refl, h)
split-and false b h = absurd (cc h)

all-flat_map : {A B : Type 0} (p : B → Bool) (f : A → List B) (xs : List A) → list_all (λ x. list_all p (f x)) xs ≡ true → list_all p (flat_map f xs) ≡ true
all-flat_map p f [] h = refl
all-flat_map p f (x ∷ xs) h =
    let parts = split-and (list_all p (f x)) (list_all (λ y. list_all p (f y)) xs) h in
    rw (list_all-append p (f x) (flat_map f xs), parts.0) (all-flat_map p f xs parts.1)

-- ---- AND

out-and : (operands : List Condition) → out-Condition (condition.And operands) ≡ Condition-F.And operands
out-and operands = search (rules, the_lemmas)

alone-and : (layer : ConditionLayer) (c : Condition) → not (is_and layer) ≡ true → conjuncts_at layer c ≡ c ∷ []
alone-and (Condition-F.And operands) c h = absurd (cc h)
alone-and (Condition-F.Or operands) c h = refl
alone-and (Condition-F.Not operand) c h = refl
alone-and (Condition-F.IsTruth operand truth) c h = refl
alone-and (Condition-F.Compare op x y) c h = refl
alone-and (Condition-F.Between x low high) c h = refl
alone-and (Condition-F.InList x values) c h = refl
alone-and (Condition-F.InQuery x query) c h = refl
alone-and (Condition-F.Like x pattern) c h = refl
alone-and (Condition-F.IsNull x) c h = refl
alone-and (Condition-F.Exists query) c h = refl

and_of-flat : (operands : List Condition) → list_all is_conjunct operands ≡ true → has_flat_and (and_of operands) ≡ true
and_of-flat [] h = rw (out-and []) refl
and_of-flat (c ∷ []) h =
    let parts = split-and (is_conjunct c) true h in
    rw (alone-and (out-Condition c) c parts.0) h
and_of-flat (c ∷ d ∷ more) h = rw (out-and (c ∷ d ∷ more)) h

pub ands-flat : (cs : List Condition) → list_all has_flat_and cs ≡ true → has_flat_and (and_of (flat_map conjuncts cs)) ≡ true
ands-flat cs h = and_of-flat (flat_map conjuncts cs) (all-flat_map is_conjunct conjuncts cs h)

-- ---- OR

out-or : (operands : List Condition) → out-Condition (condition.Or operands) ≡ Condition-F.Or operands
out-or operands = search (rules, the_lemmas)

alone-or : (layer : ConditionLayer) (c : Condition) → not (is_or layer) ≡ true → disjuncts_at layer c ≡ c ∷ []
alone-or (Condition-F.Or operands) c h = absurd (cc h)
alone-or (Condition-F.And operands) c h = refl
alone-or (Condition-F.Not operand) c h = refl
alone-or (Condition-F.IsTruth operand truth) c h = refl
alone-or (Condition-F.Compare op x y) c h = refl
alone-or (Condition-F.Between x low high) c h = refl
alone-or (Condition-F.InList x values) c h = refl
alone-or (Condition-F.InQuery x query) c h = refl
alone-or (Condition-F.Like x pattern) c h = refl
alone-or (Condition-F.IsNull x) c h = refl
alone-or (Condition-F.Exists query) c h = refl

or_of-flat : (operands : List Condition) → list_all is_disjunct operands ≡ true → has_flat_or (or_of operands) ≡ true
or_of-flat [] h = rw (out-or []) refl
or_of-flat (c ∷ []) h =
    let parts = split-and (is_disjunct c) true h in
    rw (alone-or (out-Condition c) c parts.0) h
or_of-flat (c ∷ d ∷ more) h = rw (out-or (c ∷ d ∷ more)) h

pub ors-flat : (cs : List Condition) → list_all has_flat_or cs ≡ true → has_flat_or (or_of (flat_map disjuncts cs)) ≡ true
ors-flat cs h = or_of-flat (flat_map disjuncts cs) (all-flat_map is_disjunct disjuncts cs h)
