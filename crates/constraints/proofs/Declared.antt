-- The table of a name, in a schema and in its database.
use Rattle.std.proofs.Common.{◌≡◌, ◌∙◌, refl, sym, ap, subst, Bool, true, false, ◌||◌, List, [], ◌∷◌, map, is_some, Option, Some, None}
use Rattle.std.proofs.lemmas.Cmp.{nat_list_cmp_total, tied_itself}
use Rattle.std.proofs.lemmas.Map.Text.{is_eq-slice_cmp}
use Rattle.std.specs.Prelude.{Contains}
use Rattle.std.specs.List.{list_any}
use Rattle.std.specs.declared.cmp.Ordering.{Ordering}
use Rattle.std.specs.declared.cmp.Ordering.TheVariants.{Less, Equal, Greater}
use Rattle.std.specs.Ordering.{eq_by_cmp, is_eq}
use Rattle.std.specs.FinMap.{get, keys, contains_key-keys, nat_cmp-IsAntisymmetric, slice_cmp-IsAntisymmetric}
use Rattle.sqlval.specs.declared.schema.Table as declared
use Rattle.sqlval.specs.declared.schema.Schema.{Schema}
use Rattle.sqlval.specs.Comparison.{text_order}
use Rattle.sqlval.specs.Schema.{same_name}
use Rattle.denote.specs.Bag.{Permutes}
use Rattle.denote.specs.Bag.Permutes.{nothing, keeps, exchanges, goes_on}
use Rattle.denote.specs.Database.{Name, Table, Database}
use Rattle.denote.specs.SchemaOf.{Declares, IsSchemaOf}

is_equal : (r : Ordering) → is_eq r ≡ true → r ≡ Equal
is_equal Less e = cc
is_equal Equal e = refl
is_equal Greater e = cc

pub tied : (a b : Name) → eq_by_cmp text_order a b ≡ true → a ≡ b
tied a b e = slice_cmp-IsAntisymmetric nat_cmp-IsAntisymmetric a b (is_equal (text_order a b) e)

itself : (a : Name) → same_name a a ≡ true
itself a = sym (is_eq-slice_cmp a a) ∙ ap is_eq (tied_itself nat_list_cmp_total a)

-- names that differ do not tie
apart : (a q : Name) → same_name a q ≡ false → eq_by_cmp text_order q a ≡ false
apart a q e = by (eq_by_cmp text_order q a) refl
  where
    by : (b : Bool) → eq_by_cmp text_order q a ≡ b → eq_by_cmp text_order q a ≡ false
    by true is = let same : same_name a q ≡ true = subst (λ (n : Name). same_name n q ≡ true) (tied q a is) (itself q) in absurd (cc (same, e))
    by false is = is

either-first : (a b c : Bool) → (a || (b || c)) ≡ (b || (a || c))
either-first true true c = refl
either-first true false c = refl
either-first false true c = refl
either-first false false c = refl

pub any-permutes : {X : Type 0} (p : X → Bool) (xs ys : List X) → Permutes xs ys → list_any p xs ≡ list_any p ys
any-permutes p _ _ nothing = refl
any-permutes p _ _ (keeps x {xs} {ys} h) = ap (λ b. p x || b) (any-permutes p xs ys h)
any-permutes p _ _ (exchanges x y xs) = either-first (p x) (p y) (list_any p xs)
any-permutes p _ _ (goes_on {xs} {ys} {zs} h g) = any-permutes p xs ys h ∙ any-permutes p ys zs g

unnamed : (q : Name) (tables : List declared.Table) → list_any (λ (t : declared.Table). same_name t.name q) tables ≡ false
    → list_any (eq_by_cmp text_order q) (map (λ (t : declared.Table). t.name) tables) ≡ false
unnamed q [] e = refl
unnamed q (t ∷ tables) e = by (same_name t.name q) refl e (unnamed q tables)
  where
    by : (b : Bool) → same_name t.name q ≡ b → (b || list_any (λ (t : declared.Table). same_name t.name q) tables) ≡ false
        → (list_any (λ (t : declared.Table). same_name t.name q) tables ≡ false → list_any (eq_by_cmp text_order q) (map (λ (t : declared.Table). t.name) tables) ≡ false)
        → (eq_by_cmp text_order q t.name || list_any (eq_by_cmp text_order q) (map (λ (t : declared.Table). t.name) tables)) ≡ false
    by true is none rest = absurd (cc none)
    by false is none rest = rw (apart t.name q is) (rest none)

none_there : {X : Type 0} (o : Option X) → is_some o ≡ false → o ≡ None
none_there None e = refl
none_there (Some x) e = cc

-- what no table of the schema is named, none of the database is
pub no_table : (schema : Schema) (db : Database) (q : Name) → IsSchemaOf schema db → list_any (λ (t : declared.Table). same_name t.name q) schema.tables ≡ false → get db q ≡ None
no_table schema db q h e =
    none_there (get db q) (contains_key-keys db q ∙ sym (any-permutes (eq_by_cmp text_order q) (map (λ (t : declared.Table). t.name) schema.tables) (keys db) h.names) ∙ unnamed q schema.tables e)

-- a table of the schema declares the one of its name
pub table_there : (schema : Schema) (db : Database) (q : Name) (d : declared.Table) → IsSchemaOf schema db → Contains schema.tables d → d.name ≡ q
    → (t : Table) × (get db q ≡ Some t) × Declares d t
table_there schema db q d h inside e =
    let found = h.tables d inside in
    (found.0, subst (λ (n : Name). get db n ≡ Some found.0) e found.1, found.2)
