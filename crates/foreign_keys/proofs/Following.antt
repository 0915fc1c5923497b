-- Rows one after another, and tables that a reading shows after a call as before.
use Rattle.std.proofs.Common.{◌≡◌, ◌∙◌, refl, sym, ap, subst, ℕ, suc, ◌+◌, ◌<◌, Bool, true, false, not, ◌&&◌, ◌||◌, List, [], ◌∷◌, length, drop, drop-cons, get_or, Option, Some, None, arith}
use Rattle.std.specs.Prelude.{Contains, IfSome}
use Rattle.std.specs.List.{list_any}
use Rattle.std.specs.FinMap.{get}
use Rattle.std.proofs.lemmas.List.Elements.{Contains-append_right}
use Rattle.sqlval.specs.Schema.{same_name}
use Rattle.sqlval.specs.Value.{Row}
use Rattle.denote.specs.Database.{Name, has_unmatched}
use Rattle.store.specs.Contents.{Contents, StoredTable, rows_of}
use Rattle.store.specs.Indexes.{entries_of}
use Rattle.store.specs.View.{Shown, table_named}
use Rattle.foreign_keys.specs.declared.asked.Asked.{Asked}
use Rattle.foreign_keys.specs.declared.ways.Way.{Way}
use Rattle.foreign_keys.specs.Sources.{Leads, LeadsAt, has_missed, is_violated_by}

-- of the rows from one on something is so of it, or of one of the others
pub any-next : (p : Row → Bool) (rows : List Row) (k : ℕ) (row : Row) (b : Bool) → k < length rows → row ≡ get_or rows k row → b ≡ p row
    → list_any p (drop k rows) ≡ (b || list_any p (drop (k + 1) rows))
any-next p rows k row b below is found =
    let one : drop k rows ≡ row ∷ drop (suc k) rows = drop-cons rows k row below ∙ ap (λ (x : Row). x ∷ drop (suc k) rows) (sym is) in
    let more : suc k ≡ k + 1 = omega arith in
    let rest : drop k rows ≡ row ∷ drop (k + 1) rows = one ∙ ap (λ (n : ℕ). row ∷ drop n rows) more in
    ap (list_any p) rest ∙ ap (λ c. c || list_any p (drop (k + 1) rows)) (sym found)

pub same-table : (before after : Shown) (name : Name) → after.contents ≡ before.contents → table_named after name ≡ table_named before name
same-table before after name same = ap (λ (c : Contents). get c name) same

pub some-still : (P Q : Way → Type 0) (way : Option Way) → ((v : Way) → P v → Q v) → IfSome way P → IfSome way Q
some-still P Q None f h = tt
some-still P Q (Some v) f h = f v h

-- the indexes of a foreign key are those of the tables after a call too
pub leads-still : (before after : Shown) (asked : Asked) → after.contents ≡ before.contents → Leads before asked → Leads after asked
leads-still before after asked same h =
    let table : (name : Name) (from to : List ℕ) (v : Way) → LeadsAt (table_named before name) from to v → LeadsAt (table_named after name) from to v =
    λ name from to v. subst (λ (t : Option StoredTable). LeadsAt t from to v) (sym (same-table before after name same)) in
    let r = asked.reference in
    record {
      matches = some-still (LeadsAt (table_named before r.table) r.columns r.referenced) (LeadsAt (table_named after r.table) r.columns r.referenced) asked.matches (table r.table r.columns r.referenced) h.matches;
      again = some-still (LeadsAt (table_named before r.table) r.referenced r.referenced) (LeadsAt (table_named after r.table) r.referenced r.referenced) asked.again (table r.table r.referenced r.referenced) h.again;
      referencing = some-still (LeadsAt (table_named before asked.table) r.referenced r.columns) (LeadsAt (table_named after asked.table) r.referenced r.columns) asked.referencing (table asked.table r.referenced r.columns) h.referencing;
    }

-- and so is whether it is violated
pub violated-still : (before after : Shown) (name : Name) (came gone : List Row) (asked : Asked) → after.contents ≡ before.contents
    → is_violated_by after name came gone asked ≡ is_violated_by before name came gone asked
violated-still before after name came gone asked same =
    ap (λ (m : Contents). (same_name asked.table name && has_unmatched asked.reference (rows_of (entries_of (get m asked.reference.table))) came)
    || (same_name asked.reference.table name && has_missed asked.reference (rows_of (entries_of (get m asked.reference.table))) (rows_of (entries_of (get m asked.table))) gone)) same

-- of the foreign keys that are left, the first is one, and the others are some
pub first-next : (p : Asked → Bool) (all rest : List Asked) (one : Asked) (b : Bool) → all ≡ one ∷ rest → b ≡ p one → list_any p all ≡ (b || list_any p rest)
first-next p all rest one b is found = ap (list_any p) is ∙ ap (λ c. c || list_any p rest) (sym found)

pub begins : (all rest : List Asked) (one : Asked) → all ≡ one ∷ rest → Contains all one
begins all rest one is = subst (λ (xs : List Asked). Contains xs one) (sym is) (0, omega arith, refl)

pub goes-on : (all rest : List Asked) (one x : Asked) → all ≡ one ∷ rest → Contains rest x → Contains all x
goes-on all rest one x is h = subst (λ (xs : List Asked). Contains xs x) (sym is) (Contains-append_right (one ∷ []) rest x h)

pub twice : (b : Bool) → b ≡ not (false || not b)
twice true = refl
twice false = refl
