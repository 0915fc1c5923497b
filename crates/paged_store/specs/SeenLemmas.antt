-- What a view of a paged store sees.
use Rattle.std.proofs.Common.{◌≡◌, ◌∙◌, refl, sym, ap, ℕ, Bool, true, false, cond, List, [], ◌∷◌, map, Option, Some, None, IsTrue}
use Rattle.std.specs.Prelude.{unwrap_or}
use Rattle.std.proofs.lemmas.Cmp.{nat_cmp_total}
use Rattle.std.specs.Option.{option_map}
use Rattle.std.specs.Ordering.{nat_cmp, eq_by_cmp}
use Rattle.std.specs.FinMap.{FinMap, find, entries, get, get-entries, get-from_entries}
use Rattle.denote.specs.Database.{Name}
use Rattle.store.specs.Contents.{Contents, StoredTable, Rises}
use Rattle.store.specs.Stored.{Found}
use Rattle.store.specs.View.{seen_by, found_in}
use Rattle.store.specs.declared.view.View.{View}
use Rattle.store.specs.declared.view.View.TheVariants as at
use Rattle.pool.specs.Pages.{PageMap}
use Rattle.pool.specs.Versions.{Versions}
use Rattle.database_versions.specs.Databases.{nothing, contents_in, known_contents, IsDatabase}
use Rattle.paged_store.specs.Shown.{found_at, found_by, stored}
use Rattle.paged_store.specs.Sound.{IsSound}

-- ---- what each reader found

option_map-cond : {X Y : Type 0} (f : X → Y) (b : Bool) (x y : Option X) → option_map f (cond b x y) ≡ cond b (option_map f x) (option_map f y)
option_map-cond f true x y = refl
option_map-cond f false x y = refl

find-found : (found : ℕ → Found) (q : ℕ) (es : List (ℕ × ℕ)) → find nat_cmp q (map (λ (e : ℕ × ℕ). (e.0, found e.1)) es) ≡ option_map found (find nat_cmp q es)
find-found found q [] = refl
find-found found q (e ∷ es) =
    ap (cond (eq_by_cmp nat_cmp q e.0) (Some (found e.1))) (find-found found q es)
    ∙ sym (option_map-cond found (eq_by_cmp nat_cmp q e.0) (Some e.1) (find nat_cmp q es))

pub get-found : (found : ℕ → Found) (numbers : FinMap nat_cmp ℕ) (q : ℕ) → get (found_by found numbers) q ≡ option_map found (get numbers q)
get-found found numbers q = get-from_entries nat_cmp_total _ q ∙ find-found found q (entries numbers) ∙ ap (option_map found) (sym (get-entries numbers q))

-- ---- what a view sees

pub known_is : (honest : Bool) (version written : PageMap) → IsTrue honest → known_contents honest version written ≡ contents_in version written
known_is true version written e = refl
known_is false version written e = let bad : false ≡ true = e in absurd (cc)

-- the commit that a reader found, or the last one
pub found_or_last : (last : Contents) (found : ℕ → Found) (commits : ℕ) (o : Option ℕ) → (found commits).contents ≡ last → found_in last (option_map found o) ≡ (found (unwrap_or o commits)).contents
found_or_last last found commits None e = sym e
found_or_last last found commits (Some number) e = refl

pub seen_found : (honest : Bool) (v : Versions) (numbers : FinMap nat_cmp ℕ) (written settled : PageMap) (q : ℕ)
    → seen_by (stored honest v numbers written settled) (at.Found q) ≡ known_contents honest (v.pages (unwrap_or (get numbers q) v.last)) nothing
seen_found honest v numbers written settled q =
    ap (found_in (known_contents honest (v.pages v.last) nothing)) (get-found (found_at honest v) numbers q)
    ∙ found_or_last (known_contents honest (v.pages v.last) nothing) (found_at honest v) v.last (get numbers q) refl

pub database_found : (honest : Bool) (v : Versions) (numbers : FinMap nat_cmp ℕ) (written settled : PageMap) (q : ℕ)
    → IsSound honest v numbers written settled → IsDatabase (v.pages (unwrap_or (get numbers q) v.last)) nothing
database_found honest v numbers written settled q sound = by (get numbers q) refl
  where
    by : (o : Option ℕ) → get numbers q ≡ o → IsDatabase (v.pages (unwrap_or o v.last)) nothing
    by None e = sound.last.is
    by (Some number) e = (sound.readers q number e).is

-- ---- rows stand in the order of their numbers

rises_in : (version written : PageMap) (contents : Contents) (name : Name) (table : StoredTable) → IsDatabase version written → contents ≡ contents_in version written → get contents name ≡ Some table → Rises table.entries
rises_in version written contents name table d is found = d.rise name table (ap (λ (c : Contents). get c name) (sym (is ∙ d.read)) ∙ found)

pub rises_seen : (honest : Bool) (v : Versions) (numbers : FinMap nat_cmp ℕ) (written settled : PageMap) (view : View) (name : Name) (table : StoredTable)
    → IsSound honest v numbers written settled → get (seen_by (stored honest v numbers written settled) view) name ≡ Some table → Rises table.entries
rises_seen honest v numbers written settled at.Working name table sound found =
    rises_in (v.pages v.last) written _ name table sound.working.is (known_is honest (v.pages v.last) written sound.device) found
rises_seen honest v numbers written settled (at.Found q) name table sound found =
    rises_in (v.pages (unwrap_or (get numbers q) v.last)) nothing _ name table (database_found honest v numbers written settled q sound)
    (seen_found honest v numbers written settled q ∙ known_is honest (v.pages (unwrap_or (get numbers q) v.last)) nothing sound.device) found
