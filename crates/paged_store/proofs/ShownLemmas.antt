-- What a paged store shows after each call.
use Rattle.std.proofs.Common.{◌≡◌, ◌∙◌, refl, sym, ap, ℕ, ◌+◌, Bool, true, false, cond, Option, Some, None, IsTrue, IsSome}
use Rattle.std.proofs.lemmas.Cmp.{nat_cmp_total}
use Rattle.std.specs.Option.{option_map, is_some}
use Rattle.std.specs.Ordering.{nat_cmp, eq_by_cmp}
use Rattle.std.specs.FinMap.{FinMap, get, insert, remove, empty, get-empty, get-insert, get-remove, same_map, nat_cmp-IsAntisymmetric}
use Rattle.store.specs.Contents.{Contents}
use Rattle.store.specs.Stored.{Found, Stored, SameButMark, begun, ended, marked_now, undone, committed, discarded, closed, working_on}
use Rattle.pool.specs.Pages.{PageMap, over, known}
use Rattle.pool.specs.Versions.{Versions}
use Rattle.snapshot_pins.specs.Pinned.{with_reader, KeepsFound}
use Rattle.database_versions.specs.Databases.{nothing, contents_in, known_contents}
use Rattle.paged_store.specs.Shown.{found_at, found_by, versions, stored}
use Rattle.paged_store.specs.SeenLemmas.{get-found, known_is}
use Rattle.paged_store.proofs.PageLemmas.{newest_kept, known_committed}

-- ---- what readers found

same_found : (m n : FinMap nat_cmp Found) → ((q : ℕ) → get m q ≡ get n q) → m ≡ n
same_found m n alike = same_map nat_cmp_total nat_cmp-IsAntisymmetric m n alike

option_map-cond : {X Y : Type 0} (f : X → Y) (b : Bool) (x y : Option X) → option_map f (cond b x y) ≡ cond b (option_map f x) (option_map f y)
option_map-cond f true x y = refl
option_map-cond f false x y = refl

pub found_alike : (f g : ℕ → Found) (numbers : FinMap nat_cmp ℕ) → ((q n : ℕ) → get numbers q ≡ Some n → f n ≡ g n) → found_by f numbers ≡ found_by g numbers
found_alike f g numbers alike = same_found (found_by f numbers) (found_by g numbers)
    (λ q. get-found f numbers q ∙ by q (get numbers q) refl ∙ sym (get-found g numbers q))
  where
    by : (q : ℕ) (o : Option ℕ) → get numbers q ≡ o → option_map f o ≡ option_map g o
    by q None e = refl
    by q (Some n) e = ap (λ (x : Found). Some x) (alike q n e)

pub found_insert : (f : ℕ → Found) (numbers : FinMap nat_cmp ℕ) (r n : ℕ) → found_by f (insert numbers r n) ≡ insert (found_by f numbers) r (f n)
found_insert f numbers r n = same_found (found_by f (insert numbers r n)) (insert (found_by f numbers) r (f n))
    (λ q. get-found f (insert numbers r n) q ∙ ap (option_map f) (get-insert nat_cmp_total numbers r n q)
    ∙ option_map-cond f (eq_by_cmp nat_cmp q r) (Some n) (get numbers q)
    ∙ ap (cond (eq_by_cmp nat_cmp q r) (Some (f n))) (sym (get-found f numbers q))
    ∙ sym (get-insert nat_cmp_total (found_by f numbers) r (f n) q))

pub found_remove : (f : ℕ → Found) (numbers : FinMap nat_cmp ℕ) (r : ℕ) → found_by f (remove numbers r) ≡ remove (found_by f numbers) r
found_remove f numbers r = same_found (found_by f (remove numbers r)) (remove (found_by f numbers) r)
    (λ q. get-found f (remove numbers r) q ∙ ap (option_map f) (get-remove nat_cmp_total numbers r q)
    ∙ option_map-cond f (eq_by_cmp nat_cmp q r) None (get numbers q)
    ∙ ap (cond (eq_by_cmp nat_cmp q r) None) (sym (get-found f numbers q))
    ∙ sym (get-remove nat_cmp_total (found_by f numbers) r q))

pub found_empty : (f : ℕ → Found) (numbers : FinMap nat_cmp ℕ) → numbers ≡ empty → found_by f numbers ≡ empty
found_empty f numbers none = same_found (found_by f numbers) empty
    (λ q. get-found f numbers q ∙ ap (λ (m : FinMap nat_cmp ℕ). option_map f (get m q)) none ∙ ap (option_map f) (get-empty nat_cmp q) ∙ sym (get-empty nat_cmp q))

-- what they found is as it was
found_kept : (honest : Bool) (v w : Versions) (numbers : FinMap nat_cmp ℕ) → KeepsFound numbers v w → found_by (found_at honest w) numbers ≡ found_by (found_at honest v) numbers
found_kept honest v w numbers kept = found_alike (found_at honest w) (found_at honest v) numbers
    (λ q n e. ap (λ (p : PageMap). record { number = n; contents = known_contents honest p nothing }) (kept.found q n e))

-- ---- readers begin and end

pub shown_kept : (honest : Bool) (v w : Versions) (numbers : FinMap nat_cmp ℕ) (written settled : PageMap) → KeepsFound numbers v w
    → stored honest w numbers written settled ≡ stored honest v numbers written settled
shown_kept honest v w numbers written settled kept =
    let newest : w.pages w.last ≡ v.pages v.last = newest_kept v w kept.last kept.newest in
    let found : found_by (found_at honest w) numbers ≡ found_by (found_at honest v) numbers = found_kept honest v w numbers kept in
    λ i. versions honest (kept.last i) (newest i) (found i) written settled

-- refused, or begun before
pub shown_same : (honest : Bool) (v w : Versions) (numbers now : FinMap nat_cmp ℕ) (written settled : PageMap) → now ≡ numbers → KeepsFound now v w
    → stored honest w now written settled ≡ stored honest v numbers written settled
shown_same honest v w numbers now written settled same kept =
    shown_kept honest v w now written settled kept ∙ ap (λ (m : FinMap nat_cmp ℕ). stored honest v m written settled) same

begun_if : (honest : Bool) (v : Versions) (numbers : FinMap nat_cmp ℕ) (written settled : PageMap) (r : ℕ) (b : Bool)
    → stored honest v (cond b numbers (insert numbers r v.last)) written settled
    ≡ cond b (stored honest v numbers written settled)
    (versions honest v.last (v.pages v.last) (insert (found_by (found_at honest v) numbers) r (found_at honest v v.last)) written settled)
begun_if honest v numbers written settled r true = refl
begun_if honest v numbers written settled r false =
    ap (λ (m : FinMap nat_cmp Found). versions honest v.last (v.pages v.last) m written settled) (found_insert (found_at honest v) numbers r v.last)

some_mapped : {X Y : Type 0} (f : X → Y) (o : Option X) → is_some o ≡ is_some (option_map f o)
some_mapped f None = refl
some_mapped f (Some x) = refl

pub shown_begun : (honest : Bool) (v w : Versions) (numbers now : FinMap nat_cmp ℕ) (written settled : PageMap) (r : ℕ) → now ≡ with_reader numbers r v.last → KeepsFound now v w
    → stored honest w now written settled ≡ begun (stored honest v numbers written settled) r
shown_begun honest v w numbers now written settled r is kept =
    let old : Stored = stored honest v numbers written settled in
    let new : Stored = versions honest v.last (v.pages v.last) (insert (found_by (found_at honest v) numbers) r (found_at honest v v.last)) written settled in
    shown_kept honest v w now written settled kept
    ∙ ap (λ (m : FinMap nat_cmp ℕ). stored honest v m written settled) is
    ∙ begun_if honest v numbers written settled r (is_some (get numbers r))
    ∙ ap (λ (b : Bool). cond b old new) (some_mapped (found_at honest v) (get numbers r) ∙ ap is_some (sym (get-found (found_at honest v) numbers r)))

pub shown_ended : (honest : Bool) (v w : Versions) (numbers now : FinMap nat_cmp ℕ) (written settled : PageMap) (r : ℕ) → now ≡ remove numbers r → KeepsFound now v w
    → stored honest w now written settled ≡ ended (stored honest v numbers written settled) r
shown_ended honest v w numbers now written settled r is kept =
    shown_kept honest v w now written settled kept
    ∙ ap (λ (m : FinMap nat_cmp ℕ). stored honest v m written settled) is
    ∙ ap (λ (m : FinMap nat_cmp Found). versions honest v.last (v.pages v.last) m written settled) (found_remove (found_at honest v) numbers r)

pub shown_closed : (honest : Bool) (v w : Versions) (numbers now : FinMap nat_cmp ℕ) (written settled fresh_now settled_now : PageMap) → now ≡ empty → KeepsFound now v w
    → over fresh_now settled_now ≡ nothing → settled_now ≡ nothing → stored honest w now (over fresh_now settled_now) settled_now ≡ closed (stored honest v numbers written settled)
shown_closed honest v w numbers now written settled fresh_now settled_now none kept a b =
    let nobody : found_by (found_at honest v) now ≡ empty = found_empty (found_at honest v) now none in
    let alone : stored honest v now (over fresh_now settled_now) settled_now ≡ closed (stored honest v numbers written settled) = λ i. versions honest v.last (v.pages v.last) (nobody i) (a i) (b i) in
    shown_kept honest v w now (over fresh_now settled_now) settled_now kept ∙ alone

-- ---- the writer

-- the same versions, with other written pages
pub shown_with : (honest : Bool) (v w : Versions) (numbers : FinMap nat_cmp ℕ) (written settled written_now settled_now : PageMap) → w ≡ v → written_now ≡ written → settled_now ≡ settled
    → stored honest w numbers written_now settled_now ≡ stored honest v numbers written settled
shown_with honest v w numbers written settled written_now settled_now a b c = λ i. stored honest (a i) numbers (b i) (c i)

pub shown_marked : (honest : Bool) (v : Versions) (numbers : FinMap nat_cmp ℕ) (written settled written_now settled_now : PageMap) → written_now ≡ written → settled_now ≡ written
    → stored honest v numbers written_now settled_now ≡ marked_now (stored honest v numbers written settled)
shown_marked honest v numbers written settled written_now settled_now b c = λ i. stored honest v numbers (b i) (c i)

pub same_but_mark : (a b : Stored) → b ≡ a → SameButMark a b
same_but_mark a b e = record {
  commits = ap (λ (s : Stored). s.commits) e;
  last = ap (λ (s : Stored). s.last) e;
  readers = ap (λ (s : Stored). s.readers) e;
  working = ap (λ (s : Stored). s.working) e;
}

pub shown_undone : (honest : Bool) (v w : Versions) (numbers : FinMap nat_cmp ℕ) (written settled written_now settled_now : PageMap) → w ≡ v → written_now ≡ settled → settled_now ≡ settled
    → stored honest w numbers written_now settled_now ≡ undone (stored honest v numbers written settled)
shown_undone honest v w numbers written settled written_now settled_now a b c = λ i. stored honest (a i) numbers (b i) (c i)

pub shown_discarded : (honest : Bool) (v : Versions) (numbers : FinMap nat_cmp ℕ) (written settled written_now settled_now : PageMap) → written_now ≡ nothing → settled_now ≡ nothing
    → stored honest v numbers written_now settled_now ≡ discarded (stored honest v numbers written settled)
shown_discarded honest v numbers written settled written_now settled_now b c = λ i. stored honest v numbers (b i) (c i)

pub shown_committed : (honest : Bool) (v w : Versions) (numbers : FinMap nat_cmp ℕ) (written settled written_now settled_now : PageMap) → w.last ≡ v.last + 1
    → w.pages w.last ≡ known honest (over written (v.pages v.last)) → ((q n : ℕ) → get numbers q ≡ Some n → w.pages n ≡ v.pages n) → (IsTrue honest → IsSome (v.pages v.last 0))
    → written_now ≡ nothing → settled_now ≡ nothing → stored honest w numbers written_now settled_now ≡ committed (stored honest v numbers written settled)
shown_committed honest v w numbers written settled written_now settled_now last newest kept first b c =
    let working : known_contents honest (w.pages w.last) nothing ≡ known_contents honest (v.pages v.last) written = known_committed honest (v.pages v.last) written (w.pages w.last) newest first in
    let found : found_by (found_at honest w) numbers ≡ found_by (found_at honest v) numbers = found_alike (found_at honest w) (found_at honest v) numbers
    (λ q n e. ap (λ (p : PageMap). record { number = n; contents = known_contents honest p nothing }) (kept q n e)) in
    let begun_again : stored honest w numbers written_now settled_now ≡ stored honest w numbers nothing nothing = λ i. stored honest w numbers (b i) (c i) in
    let moved : stored honest w numbers nothing nothing ≡ committed (stored honest v numbers written settled) =
    λ i. record { commits = last i; last = working i; readers = found i; working = working i; marked = working i } in
    begun_again ∙ moved

-- a change was made
pub shown_working : (honest : Bool) (v w : Versions) (numbers : FinMap nat_cmp ℕ) (written settled written_now settled_now : PageMap) (contents : Contents) → IsTrue honest → w ≡ v
    → contents_in (v.pages v.last) written_now ≡ contents → settled_now ≡ settled
    → stored honest w numbers written_now settled_now ≡ working_on (stored honest v numbers written settled) contents
shown_working honest v w numbers written settled written_now settled_now contents device same is c =
    let old : Stored = stored honest v numbers written settled in
    let here : stored honest w numbers written_now settled_now ≡ stored honest v numbers written_now settled = λ i. stored honest (same i) numbers written_now (c i) in
    here ∙ ap (λ (x : Contents). record old { working = x }) (known_is honest (v.pages v.last) written_now device ∙ is)

-- the commit that a reader found
pub numbers_again : (honest : Bool) (v : Versions) (o : Option ℕ) → o ≡ option_map (λ (x : Found). x.number) (option_map (found_at honest v) o)
numbers_again honest v None = refl
numbers_again honest v (Some n) = refl
