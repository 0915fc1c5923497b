-- The index that a constraint owns is over the columns of its key.
use Rattle.std.proofs.Common.{◌≡◌, ◌∙◌, refl, sym, ap, ℕ, List, Option, Some, None}
use Rattle.std.specs.Borrow.{Bor}
use Rattle.std.specs.Option.{option_map}
use Rattle.sqlval.specs.declared.schema.Rule.{Rule}
use Rattle.sqlval.specs.declared.schema.Rule.TheVariants.{NotNull, PrimaryKey, Unique, Check, ForeignKey}
use Rattle.denote.specs.Change.{owned_index}
use Rattle.constraints.specs.Foreseen.{columns_of_key}
use Rattle.table_changes.specs.Indexes.{key_index}

owned-columns : (r : Rule) → owned_index r ≡ option_map key_index (columns_of_key r)
owned-columns (NotNull column) = refl
owned-columns (PrimaryKey columns) = refl
owned-columns (Unique columns) = refl
owned-columns (Check text) = refl
owned-columns (ForeignKey reference) = refl

mapped-mapped : (o : Option (Bor (List ℕ))) → option_map (λ (columns : Bor (List ℕ)). key_index columns.now) o ≡ option_map key_index (option_map (λ (columns : Bor (List ℕ)). columns.now) o)
mapped-mapped None = refl
mapped-mapped (Some columns) = refl

pub owned-of : (r : Rule) (o : Option (Bor (List ℕ))) → option_map (λ (columns : Bor (List ℕ)). columns.now) o ≡ columns_of_key r
    → option_map (λ (columns : Bor (List ℕ)). key_index columns.now) o ≡ owned_index r
owned-of r o e = mapped-mapped o ∙ ap (option_map key_index) e ∙ sym (owned-columns r)
