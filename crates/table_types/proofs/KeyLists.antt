-- Keys, list after list.
use Rattle.std.proofs.Common.{◌≡◌, refl, ap, sym, ◌∙◌, ℕ, Bool, List, [], ◌∷◌, ◌++◌, Ok, Err}
use Rattle.std.specs.Prelude.{flat_map}
use Rattle.std.specs.List.{filter_map, cons_option}
use Rattle.std.proofs.lemmas.List.{append-nil}
use Rattle.sqlval.specs.declared.schema.Constraint.{Constraint}
use Rattle.sqlval.specs.declared.schema.Rule.{Rule}
use Rattle.sqlval.specs.declared.schema.Rule.TheVariants as rule
use Rattle.ast.specs.declared.statement.ColumnConstraint.{ColumnConstraint}
use Rattle.ast.specs.declared.statement.ColumnRule.{ColumnRule}
use Rattle.ast.specs.declared.statement.ColumnRule.TheVariants as column_rule
use Rattle.typing.specs.Constraint.{column_keys, key_found}
use Rattle.typing.specs.Finding.{Finding, each}
use Rattle.typing.specs.Finds.{Finds}
use Rattle.typing.specs.Known.{known_key}
use Rattle.typing.specs.declared.known.KnownKey.{KnownKey}
use Rattle.table_types.specs.ForeignKeys.{column_key, kept_key, key_alone}

-- the rules of a column declare its keys, whatever they are
pub keys-found : (place : ℕ) (cs : List ColumnConstraint) → each (flat_map (λ c. column_keys place c.rule) cs) ≡ Ok (flat_map (λ c. column_key place c.rule) cs)
keys-found place [] = refl
keys-found place (c ∷ cs) = at c.rule (flat_map (λ c. column_keys place c.rule) cs) (flat_map (λ c. column_key place c.rule) cs) (keys-found place cs)
  where
    at : (r : ColumnRule) (found : List (Finding KnownKey)) (keys : List KnownKey) → each found ≡ Ok keys → each (column_keys place r ++ found) ≡ Ok (column_key place r ++ keys)
    at column_rule.NotNull found keys e = e
    at column_rule.PrimaryKey found keys e = rw e refl
    at column_rule.Unique found keys e = rw e refl
    at (column_rule.Check condition) found keys e = e
    at (column_rule.References x) found keys e = e

pub column-keys-found : (place : ℕ) (cs : List ColumnConstraint) (keys : List KnownKey) → keys ≡ flat_map (λ c. column_key place c.rule) cs
    → Finds {A = List KnownKey} (Ok keys) (each (flat_map (λ c. column_keys place c.rule) cs))
column-keys-found place cs keys e = record { ok = keys-found place cs ∙ ap (λ (ks : List KnownKey). Ok ks) (sym e); err = tt }

pub key_alone-is : (is_primary : Bool) (x : Finding (List ℕ)) → each (key_found is_primary x ∷ []) ≡ key_alone is_primary x
key_alone-is is_primary (Ok places) = refl
key_alone-is is_primary (Err reasons) = ap Err (append-nil reasons)

pub known-keys-are : (cs : List Constraint) → flat_map (λ c. kept_key c.rule) cs ≡ filter_map (λ c. known_key c.rule) cs
known-keys-are [] = refl
known-keys-are (c ∷ cs) = at c.rule (flat_map (λ c. kept_key c.rule) cs) (filter_map (λ c. known_key c.rule) cs) (known-keys-are cs)
  where
    at : (r : Rule) (xs ys : List KnownKey) → xs ≡ ys → kept_key r ++ xs ≡ cons_option (known_key r) ys
    at (rule.NotNull column) xs ys e = e
    at (rule.PrimaryKey columns) xs ys e = rw e refl
    at (rule.Unique columns) xs ys e = rw e refl
    at (rule.Check text) xs ys e = e
    at (rule.ForeignKey reference) xs ys e = e
