-- Worked foreign keys: C (X CONSTRAINT F REFERENCES P), where P (K PRIMARY KEY).
use Rattle.std.proofs.Common.{◌≡◌, refl, ℕ, List, [], ◌∷◌}
use Rattle.sqlval.specs.declared.value.Value.{Value}
use Rattle.sqlval.specs.declared.value.Value.TheVariants.{Null}
use Rattle.sqlval.specs.declared.schema.Constraint.{Constraint}
use Rattle.sqlval.specs.declared.schema.Rule.TheVariants.{ForeignKey}
use Rattle.sqlval.specs.Value.{Row}
use Rattle.denote.specs.Database.{Name, unmatched_by}
use Rattle.denote.proofs.ExampleTrees.{number, column_of, lettered}

-- F, by its letter
abbrev f : Name
f = 70 ∷ []

-- F: its column 0 references column 0 of P
abbrev references_p : List Constraint
references_p = lettered 70 (ForeignKey (record { columns = 0 ∷ []; table = 80 ∷ []; referenced = 0 ∷ [] })) ∷ []

-- what C violates with these values, where P has those
abbrev violated : List Value → List Value → List Name
violated parents values = unmatched_by (λ name. column_of parents) references_p (column_of values)

-- INSERT INTO C VALUES (NULL)
pub null_references_nothing : violated (number 1 ∷ number 2 ∷ []) (number 2 ∷ Null ∷ []) ≡ []
null_references_nothing = refl

-- INSERT INTO C VALUES (9)
pub nine_is_not_there : violated (number 1 ∷ number 2 ∷ []) (number 2 ∷ number 9 ∷ []) ≡ f ∷ []
nine_is_not_there = refl

-- UPDATE P SET K = K + 1: 2 goes from one row and comes to another
pub two_is_there_again : violated (number 2 ∷ number 3 ∷ []) (number 2 ∷ []) ≡ []
two_is_there_again = refl

-- DELETE FROM P WHERE K = 2
pub two_is_gone : violated (number 1 ∷ []) (number 2 ∷ []) ≡ f ∷ []
two_is_gone = refl

-- two columns, of which one is null: D (X, Y) with FOREIGN KEY (X, Y) REFERENCES Q (B, A), which is
-- empty
abbrev references_q : List Constraint
references_q = lettered 70 (ForeignKey (record { columns = 0 ∷ 1 ∷ []; table = 81 ∷ []; referenced = 1 ∷ 0 ∷ [] })) ∷ []

pub half_a_key_references_nothing : unmatched_by (λ name. []) references_q ((number 1 ∷ Null ∷ []) ∷ []) ≡ []
half_a_key_references_nothing = refl

-- (1, 2) references the row with B = 1 and A = 2
pub columns_go_by_their_order : unmatched_by (λ name. (number 2 ∷ number 1 ∷ []) ∷ []) references_q ((number 1 ∷ number 2 ∷ []) ∷ []) ≡ []
columns_go_by_their_order = refl

pub the_other_order_is_not_there : unmatched_by (λ name. (number 1 ∷ number 2 ∷ []) ∷ []) references_q ((number 1 ∷ number 2 ∷ []) ∷ []) ≡ f ∷ []
the_other_order_is_not_there = refl
