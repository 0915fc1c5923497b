-- Tables by their names.
use Rattle.std.proofs.Common.{◌≡◌, ℕ, Bool, true, false, cond, List, [], ◌∷◌, ◌++◌, map, Option, Some, None, refl, sym, ap, subst, ◌∙◌}
use Rattle.std.specs.List.{AllByRecursion}
use Rattle.std.specs.Ordering.{eq_by_cmp, is_eq}
use Rattle.std.specs.declared.cmp.Ordering.{Ordering}
use Rattle.std.specs.declared.cmp.Ordering.TheVariants.{Less, Equal, Greater}
use Rattle.std.specs.FinMap.{find, get, get-from_entries, nat_cmp-IsAntisymmetric, slice_cmp-IsAntisymmetric}
use Rattle.std.proofs.lemmas.Cmp.{nat_list_cmp_total, tied_itself}
use Rattle.std.proofs.lemmas.Map.Text.{is_eq-slice_cmp}
use Rattle.sqlval.specs.declared.schema.Table.{Table}
use Rattle.sqlval.specs.Comparison.{text_order}
use Rattle.sqlval.specs.Schema.{same_name}
use Rattle.denote.specs.Database.{Name}
use Rattle.store.specs.Contents.{StoredTable}
use Rattle.store.specs.Indexes.{entries_of}
use Rattle.page_space.specs.Space.{PageMap}
use Rattle.tablestore.specs.Held.{HoldsFitting}
use Rattle.stored_tables.specs.Held.{TableAt, declared_of, HoldsIts, ItFits, HoldsTables, stored_of, entry_at, contents_of}
use Rattle.stored_tables.specs.Named.{table_named, RowsAt}

pub tied_name : (a b : Name) → eq_by_cmp text_order a b ≡ same_name a b
tied_name a b = is_eq-slice_cmp a b

is_equal : (r : Ordering) → is_eq r ≡ true → r ≡ Equal
is_equal Less e = cc
is_equal Equal e = refl
is_equal Greater e = cc

pub name_from_tie : (a b : Name) → eq_by_cmp text_order a b ≡ true → a ≡ b
name_from_tie a b e = slice_cmp-IsAntisymmetric nat_cmp-IsAntisymmetric a b (is_equal (text_order a b) e)

pub tie_itself : (a : Name) → eq_by_cmp text_order a a ≡ true
tie_itself a = ap is_eq (tied_itself nat_list_cmp_total a)

-- whether names are the same, in the order of names
pub same_tie : (a b : Name) → same_name a b ≡ eq_by_cmp text_order a b
same_tie a b = sym (tied_name a b)

pub same_itself : (a : Name) → same_name a a ≡ true
same_itself a = same_tie a a ∙ tie_itself a

pub from_same : (a b : Name) → same_name a b ≡ true → a ≡ b
from_same a b h = name_from_tie a b (tied_name a b ∙ h)

pub not_tied : (name other : Name) → same_name other name ≡ false → eq_by_cmp text_order name other ≡ false
not_tied name other h = by (eq_by_cmp text_order name other) refl
  where
    by : (b : Bool) → eq_by_cmp text_order name other ≡ b → b ≡ false
    by true e =
        let same : name ≡ other = name_from_tie name other e in
        let bad : true ≡ false = sym (same_itself name) ∙ ap (λ n. same_name n name) same ∙ h in absurd (cc)
    by false e = refl

-- the table of a name, with those before it and behind it
pub record Named (name : Name) (tables : List TableAt) (table : Table) : Type 0 where
  pub before : List TableAt
  pub at : TableAt
  pub behind : List TableAt
  pub is : tables ≡ before ++ at ∷ behind
  pub declared : at.declared ≡ table
  pub named : at.declared.name ≡ name
  pub others : AllByRecursion (λ (b : TableAt). eq_by_cmp text_order name b.declared.name ≡ false) before

some_same : (a b : Table) → Some a ≡ Some b → a ≡ b
some_same a b e = cc

pub named_at : (name : Name) (tables : List TableAt) (table : Table) → table_named name (declared_of tables) ≡ Some table → Named name tables table
named_at name [] table e = absurd (cc)
named_at name (t ∷ tables) table e = by (same_name t.declared.name name) refl e (named_at name tables table)
  where
    by : (b : Bool) → same_name t.declared.name name ≡ b → cond b (Some t.declared) (table_named name (declared_of tables)) ≡ Some table
        → (table_named name (declared_of tables) ≡ Some table → Named name tables table) → Named name (t ∷ tables) table
    by true same found again = record {
      before = [];
      at = t;
      behind = tables;
      is = refl;
      declared = some_same t.declared table found;
      named = from_same t.declared.name name same;
      others = tt;
    }
    by false apart found again = let w = again found in
        record {
          before = t ∷ w.before;
          at = w.at;
          behind = w.behind;
          is = ap (λ ts. t ∷ ts) w.is;
          declared = w.declared;
          named = w.named;
          others = (not_tied name t.declared.name apart, w.others);
        }

-- ---- what a store shows

pub contents-get : (tables : List TableAt) (q : Name) → get (contents_of tables) q ≡ find text_order q (map entry_at tables)
contents-get tables q = get-from_entries nat_list_cmp_total (map entry_at tables) q

find_past : (q : Name) (before rest : List TableAt) → AllByRecursion (λ (b : TableAt). eq_by_cmp text_order q b.declared.name ≡ false) before
    → find text_order q (map entry_at (before ++ rest)) ≡ find text_order q (map entry_at rest)
find_past q [] rest others = refl
find_past q (b ∷ before) rest others = ap (λ t. cond t (Some (stored_of b)) (find text_order q (map entry_at (before ++ rest)))) others.0 ∙ find_past q before rest others.1

pub found_at : (name : Name) (tables : List TableAt) (table : Table) → (w : Named name tables table) → get (contents_of tables) name ≡ Some (stored_of w.at)
found_at name tables table w =
    contents-get tables name ∙ ap (λ (ts : List TableAt). find text_order name (map entry_at ts)) w.is ∙ find_past name w.before (w.at ∷ w.behind) w.others
    ∙ ap (λ t. cond t (Some (stored_of w.at)) (find text_order name (map entry_at w.behind))) (ap (eq_by_cmp text_order name) w.named ∙ tie_itself name)

find_none : (name : Name) (tables : List TableAt) → table_named name (declared_of tables) ≡ None → find text_order name (map entry_at tables) ≡ None
find_none name [] e = refl
find_none name (t ∷ tables) e = by (same_name t.declared.name name) refl e (find_none name tables)
  where
    by : (b : Bool) → same_name t.declared.name name ≡ b → cond b (Some t.declared) (table_named name (declared_of tables)) ≡ None
        → (table_named name (declared_of tables) ≡ None → find text_order name (map entry_at tables) ≡ None)
        → cond (eq_by_cmp text_order name t.declared.name) (Some (stored_of t)) (find text_order name (map entry_at tables)) ≡ None
    by true h found again = absurd (cc)
    by false h none again = ap (λ b. cond b (Some (stored_of t)) (find text_order name (map entry_at tables))) (not_tied name t.declared.name h) ∙ again none

pub get_none : (name : Name) (tables : List TableAt) → table_named name (declared_of tables) ≡ None → get (contents_of tables) name ≡ None
get_none name tables e = contents-get tables name ∙ find_none name tables e

-- ---- the rows of a table

each_at : {X : Type 0} (P : X → Type 0) (before behind : List X) (x : X) → AllByRecursion P (before ++ x ∷ behind) → P x
each_at P [] behind x h = h.0
each_at P (b ∷ before) behind x h = each_at P before behind x h.1

its_rows : (pages : PageMap) (root : ℕ) (tables : List TableAt) (name : Name) (table : Table) → HoldsTables pages root tables → (w : Named name tables table)
    → HoldsFitting pages table.root w.at.owned table.columns w.at.rows
its_rows pages root tables name table h w = subst (λ (t : Table). HoldsFitting pages t.root w.at.owned t.columns w.at.rows) w.declared
    (record {
      holds = each_at (HoldsIts pages) w.before w.behind w.at (subst (AllByRecursion (HoldsIts pages)) w.is h.rows);
      fits = each_at ItFits w.before w.behind w.at (subst (AllByRecursion ItFits) w.is h.fits);
    })

-- where a table of this name was found its rows are there
pub rows_read : (old mid : PageMap) (root : ℕ) (tables : List TableAt) (name : Name) (table : Table) → mid ≡ old → HoldsTables old root tables
    → Some table ≡ table_named name (declared_of tables) → RowsAt mid table.columns (entries_of (get (contents_of tables) name)) table.root
rows_read old mid root tables name table same h is =
    let w = named_at name tables table (sym is) in
    record {
      owned = w.at.owned;
      holds = subst (λ (o : Option StoredTable). HoldsFitting mid table.root w.at.owned table.columns (entries_of o)) (sym (found_at name tables table w))
          (subst (λ (p : PageMap). HoldsFitting p table.root w.at.owned table.columns w.at.rows) (sym same) (its_rows old root tables name table h w));
    }

-- and where none was there are no rows
pub rows_none : (tables : List TableAt) (name : Name) → None ≡ table_named name (declared_of tables) → entries_of (get (contents_of tables) name) ≡ []
rows_none tables name is = ap entries_of (get_none name tables (sym is))
