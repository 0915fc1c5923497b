-- The table of a name.
use Rattle.std.proofs.Common.{◌≡◌, ◌++◌, Bool, true, false, cond, List, [], ◌∷◌, Some, sym, ap, ◌∙◌}
use Rattle.std.specs.List.{AllByRecursion}
use Rattle.std.specs.Ordering.{eq_by_cmp}
use Rattle.sqlval.specs.declared.schema.Table.{Table}
use Rattle.sqlval.specs.Comparison.{text_order}
use Rattle.stored_tables.specs.Named.{table_named}
use Rattle.stored_tables.proofs.NameLemmas.{same_tie, same_itself}
use Rattle.stored_tables.proofs.SchemaLemmas.{AreDifferent}

different_middle : (front back : List Table) (t : Table) → AreDifferent (front ++ t ∷ back) → table_named t.name (front ++ t ∷ back) ≡ Some t
different_middle [] back t h = ap (λ b. cond b (Some t) (table_named t.name back)) (same_itself t.name)
different_middle (u ∷ front) back t h =
    ap (λ b. cond b (Some u) (table_named t.name (front ++ t ∷ back))) (same_tie u.name t.name ∙ apart front back h.0) ∙ different_middle front back t h.1
  where
    apart : (front back : List Table) → AllByRecursion (λ (v : Table). eq_by_cmp text_order u.name v.name ≡ false) (front ++ t ∷ back) → eq_by_cmp text_order u.name t.name ≡ false
    apart [] back g = g.0
    apart (v ∷ front) back g = apart front back g.1

pub named_itself : (front back : List Table) (t : Table) → AreDifferent (front ++ t ∷ back) → table_named t.name (front ++ t ∷ back) ≡ Some t
named_itself front back t h = different_middle front back t h
