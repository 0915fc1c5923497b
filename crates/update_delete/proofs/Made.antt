-- The databases that the changes of a store make are those of the definitions.
use Rattle.std.proofs.Common.{◌≡◌, ◌∙◌, sym, ap, subst, cond, List, [], Some}
use Rattle.std.proofs.lemmas.Cmp.{nat_list_cmp_total, tied_itself}
use Rattle.std.specs.Ordering.{is_eq}
use Rattle.std.specs.FinMap.{get, insert, get-insert}
use Rattle.sqlval.specs.declared.schema.Column.{Column}
use Rattle.sqlval.specs.declared.schema.Constraint.{Constraint}
use Rattle.sqlval.specs.Value.{Row}
use Rattle.denote.specs.Database.{Name, Table, Database, CheckReading, violated_by}
use Rattle.constraints.specs.Settled.{Decided, Holds}
use Rattle.constraints.proofs.Violations.{same_some}

-- ---- a table with other rows

-- what decides its CHECKs still does
pub decided_still : (decides : Name → List Column → List Constraint → Type 0) (db made : Database) (name : Name) (table : Table) (rows : List Row)
    → made ≡ insert db name (record table { rows = rows }) → get db name ≡ Some table → Decided decides db name → Decided decides made name
decided_still decides db made name table rows is there decided = λ t found.
    let put : get made name ≡ Some (record table { rows = rows }) =
    ap (λ (m : Database). get m name) is ∙ get-insert nat_list_cmp_total db name (record table { rows = rows }) name
    ∙ ap (λ b. cond b (Some (record table { rows = rows })) (get db name)) (ap is_eq (tied_itself nat_list_cmp_total name)) in
    subst (λ (u : Table). decides name u.columns u.constraints) (same_some (record table { rows = rows }) t (sym put ∙ found)) (decided table there)

-- it is there
pub put_still : (db made : Database) (name : Name) (table : Table) (rows : List Row) → made ≡ insert db name (record table { rows = rows }) → get made name ≡ Some (record table { rows = rows })
put_still db made name table rows is =
    ap (λ (m : Database). get m name) is ∙ get-insert nat_list_cmp_total db name (record table { rows = rows }) name
    ∙ ap (λ b. cond b (Some (record table { rows = rows })) (get db name)) (ap is_eq (tied_itself nat_list_cmp_total name))

-- and what is so of it is so of the one that is found
pub found_still : (db made : Database) (name : Name) (table : Table) (rows : List Row) → made ≡ insert db name (record table { rows = rows })
    → (P : Table → Type 0) → P (record table { rows = rows }) → (t : Table) → get made name ≡ Some t → P t
found_still db made name table rows is P h t found =
    subst P (same_some (record table { rows = rows }) t (sym (put_still db made name table rows is) ∙ found)) h

-- and where its rows violate nothing, so it is of the table
pub holds_still : (reading : CheckReading) (db made : Database) (name : Name) (table : Table) (rows : List Row) → made ≡ insert db name (record table { rows = rows })
    → violated_by reading name (record table { rows = rows }) ≡ [] → Holds reading made name
holds_still reading db made name table rows is good = λ t found.
    let put : get made name ≡ Some (record table { rows = rows }) =
    ap (λ (m : Database). get m name) is ∙ get-insert nat_list_cmp_total db name (record table { rows = rows }) name
    ∙ ap (λ b. cond b (Some (record table { rows = rows })) (get db name)) (ap is_eq (tied_itself nat_list_cmp_total name)) in
    subst (λ (u : Table). violated_by reading name u ≡ []) (same_some (record table { rows = rows }) t (sym put ∙ found)) good
