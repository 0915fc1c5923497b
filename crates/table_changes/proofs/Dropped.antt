-- What DROP TABLE and DROP INDEX leave of a store.
use Rattle.std.proofs.Common.{◌≡◌, ◌∙◌, refl, sym, ap, Bool, true, false, cond, List, [], ◌∷◌, map, Option, Some, None}
use Rattle.std.proofs.lemmas.Cmp.{nat_list_cmp_total}
use Rattle.std.specs.Option.{option_map}
use Rattle.std.specs.Ordering.{eq_by_cmp}
use Rattle.std.specs.FinMap.{FinMap, get, entries, from_entries, find, get-entries, get-from_entries}
use Rattle.sqlval.specs.Comparison.{text_order}
use Rattle.typing.specs.declared.statement.Change.TheVariants as does
use Rattle.denote.specs.Change.{without_index}
use Rattle.denote.specs.Change.Changed.{Makes}
use Rattle.denote.specs.Database.{Name, Table, Database, CheckReading}
use Rattle.replies.specs.declared.reply.Reply.TheVariants as says
use Rattle.store.specs.Contents.{StoredTable, Contents, table_of, database_of, without_table, unindexed}
use Rattle.store.specs.Contents.{without_index as left_without}
use Rattle.store.specs.Stored.{Stored, marked_now, working_on}
use Rattle.store.proofs.Databases.{same_tables, database-get, database-remove}
use Rattle.constraints.specs.Changed.{HasChanged}

option_map-cond : {X Y : Type 0} (f : X → Y) (b : Bool) (x y : Option X) → option_map f (cond b x y) ≡ cond b (option_map f x) (option_map f y)
option_map-cond f true x y = refl
option_map-cond f false x y = refl

find_mapped : {X Y : Type 0} (f : X → Y) (name : Name) (es : List (Name × X)) → find text_order name (map (λ (e : Name × X). (e.0, f e.1)) es) ≡ option_map f (find text_order name es)
find_mapped f name [] = refl
find_mapped f name (e ∷ es) =
    ap (cond (eq_by_cmp text_order name e.0) (Some (f e.1))) (find_mapped f name es)
    ∙ sym (option_map-cond f (eq_by_cmp text_order name e.0) (Some e.1) (find text_order name es))

-- the same change of every value
get_mapped : {X Y : Type 0} (f : X → Y) (m : FinMap text_order X) (name : Name) → get (from_entries {R = text_order} (map (λ (e : Name × X). (e.0, f e.1)) (entries m))) name ≡ option_map f (get m name)
get_mapped f m name = get-from_entries nat_list_cmp_total _ name ∙ find_mapped f name (entries m) ∙ ap (option_map f) (sym (get-entries m name))

unindexed-database : (c : Contents) (index : Name) → database_of (unindexed c index) ≡ from_entries (map (λ (e : Name × Table). (e.0, without_index index e.1)) (entries (database_of c)))
unindexed-database c index = same_tables _ _
    (λ q. database-get (unindexed c index) q
    ∙ ap (option_map table_of) (get_mapped (left_without index) c q)
    ∙ by (get c q)
    ∙ ap (option_map (without_index index)) (sym (database-get c q))
    ∙ sym (get_mapped (without_index index) (database_of c) q))
  where
    by : (o : Option StoredTable) → option_map table_of (option_map (left_without index) o) ≡ option_map (without_index index) (option_map table_of o)
    by None = refl
    by (Some t) = refl

pub table_dropped : (reading : CheckReading) (old mid new : Stored) (name : Name) → mid ≡ marked_now old → new ≡ working_on mid (without_table mid.working name)
    → HasChanged reading old (does.DropTable name) says.Done new
table_dropped reading old mid new name m e = record {
  contents = without_table old.working name;
  marked = old.working;
  count = None;
  makes = ap (λ (db : Database). Makes db None) (sym (database-remove old.working name));
  says_so = refl;
  leaves = e ∙ ap (λ (s : Stored). working_on s (without_table s.working name)) m;
}

pub index_dropped : (reading : CheckReading) (old mid new : Stored) (name : Name) → mid ≡ marked_now old → new ≡ working_on mid (unindexed mid.working name)
    → HasChanged reading old (does.DropIndex name) says.Done new
index_dropped reading old mid new name m e = record {
  contents = unindexed old.working name;
  marked = old.working;
  count = None;
  makes = ap (λ (db : Database). Makes db None) (sym (unindexed-database old.working name));
  says_so = refl;
  leaves = e ∙ ap (λ (s : Stored). working_on s (unindexed s.working name)) m;
}
