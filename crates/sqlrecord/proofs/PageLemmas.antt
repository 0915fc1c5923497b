-- The cells of a page by their places.
use Rattle.std.proofs.Common.{◌≡◌, ℕ, zero, suc, ◌+◌, ◌<◌, ◌≤◌, List, [], ◌∷◌, ◌++◌, length, get_or, refl, sym, ap, ◌∙◌, arith, inl, inr}
use Rattle.std.specs.Prelude.{◌⊎◌, ◌-◌, IsTrue}
use Rattle.std.proofs.Common.{subst}
use Rattle.std.specs.Ordering.{is_lt}
use Rattle.sqlrecord.specs.declared.kind.PageKind.{PageKind}
use Rattle.sqlrecord.specs.declared.kind.PageKind.TheVariants.{Leaf, Inner}
use Rattle.sqlrecord.specs.Key.{byte_order}
use Rattle.std.proofs.lemmas.Bool.{cases_lt}
use Rattle.std.proofs.lemmas.List.{length-append, length-drop, get_or_append_left, get_or_push}
use Rattle.sqlrecord.specs.Page.{count_of, cell_of, cells_of, cells_upto, key_of, value_of, key_length_of, kind_byte, IsCell, AreCells, IsNode, IsSound}

pub length_upto : (page : List ℕ) (n : ℕ) → length (cells_upto page n) ≡ n
length_upto page zero = refl
length_upto page (suc n) = let more = length_upto page n in let one = length-append (cells_upto page n) (cell_of page n ∷ []) in omega (arith, one, more)

-- as many as there are slots
pub length_cells : (page : List ℕ) → length (cells_of page) ≡ count_of page
unfolding cells_of
length_cells page = length_upto page (count_of page)

cell_upto : (page : List ℕ) (n i : ℕ) → i < n → get_or (cells_upto page n) i [] ≡ cell_of page i
cell_upto page zero i h = absurd (omega arith)
cell_upto page (suc n) i h = by (cases_lt i n) (cell_upto page n i)
  where
    by : (i < n) ⊎ (n ≤ i) → (i < n → get_or (cells_upto page n) i [] ≡ cell_of page i) → get_or (cells_upto page n ++ cell_of page n ∷ []) i [] ≡ cell_of page i
    by (inl l) f = get_or_append_left (cells_upto page n) (cell_of page n ∷ []) [] i (rw (length_upto page n) l) ∙ f l
    by (inr l) f = let e : n ≡ i = omega arith in get_or_push (cells_upto page n) (cell_of page n) [] i (length_upto page n ∙ e) ∙ ap (cell_of page) e

-- the cell of a slot stands at its place
pub cell_at : (page : List ℕ) (i : ℕ) → i < count_of page → get_or (cells_of page) i [] ≡ cell_of page i
unfolding cells_of
cell_at page i h = cell_upto page (count_of page) i h

pub ruleset cell_facts = (length_cells, cell_at)

-- a cell that is not formed, and two keys that do not rise
pub not_formed : (page cell : List ℕ) (kind : PageKind) (i : ℕ) → i < count_of page → cell ≡ cell_of page i → (IsCell kind cell → ⊥) → AreCells kind (cells_of page) → ⊥
not_formed page cell kind i h e none cells =
    none (rw (e ∙ sym (cell_at page i h)) (cells.formed i (rw (length_cells page) h)))

pub not_rising : (page a b : List ℕ) (kind : PageKind) (i : ℕ) → 0 < i → i < count_of page → a ≡ key_of (cell_of page (i - 1)) → b ≡ key_of (cell_of page i)
    → (IsTrue (is_lt (byte_order a b)) → ⊥) → AreCells kind (cells_of page) → ⊥
not_rising page a b kind i some h e f none cells =
    let before : i - 1 < count_of page = omega (arith, h) in
    let one : i - 1 + 1 ≡ i = omega (arith, some) in
    let rise = cells.rising (i - 1) (rw (length_cells page) (omega (arith, some, h))) in
    none (rw (e, f, ← cell_at page (i - 1) before, ← cell_at page i h) (subst (λ k. IsTrue (is_lt (byte_order (key_of (get_or (cells_of page) (i - 1) [])) (key_of (get_or (cells_of page) k []))))) one rise))

-- an inner page's cell has its child behind its key
pub child_there : (cells : List (List ℕ)) (kind : PageKind) (value : List ℕ) (i : ℕ) → AreCells kind cells → kind ≡ Inner → i < length cells → value ≡ value_of (get_or cells i []) → 4 ≤ length value
child_there cells kind value i are inner h e =
    let cell = are.formed i h in
    let all = cell.has_child inner in
    let rest = length-drop (2 + key_length_of (get_or cells i [])) (get_or cells i []) in
    rw e (omega (arith, all, rest))

-- ---- the kind that a page's first byte says

one_kind : (n : ℕ) (kind other : PageKind) → n ≡ kind_byte kind → n ≡ kind_byte other → kind ≡ other
one_kind n Leaf Leaf e f = refl
one_kind n Leaf Inner e f = absurd (omega (arith, e, f))
one_kind n Inner Leaf e f = absurd (omega (arith, e, f))
one_kind n Inner Inner e f = refl

pub node_of : (page : List ℕ) (kind : PageKind) → IsSound page kind → IsNode page
node_of page kind sound other says = subst (λ (k : PageKind). IsSound page k) (one_kind _ kind other sound.head.is_kind says) sound
