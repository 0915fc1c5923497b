-- Cells of a page without some of them, or with another one in their place.
use Rattle.std.proofs.Common.{◌≡◌, ◌≢◌, ℕ, zero, suc, ◌+◌, ◌-◌, ◌*◌, ◌<◌, ◌≤◌, List, [], ◌∷◌, ◌++◌, map, length, take, drop, refl, sym, ap, ◌∙◌, subst, true, Option, Some, None, IsSome, Result, Ok, Err, OnOk, IfOk, arith, length-drop}
use Rattle.std.specs.Prelude.{⊤, slice_index_or}
use Rattle.std.specs.List.{AllByRecursion}
use Rattle.std.specs.Option.{option_to_list}
use Rattle.std.proofs.lemmas.List.{append-nil as append_nil, map-append, take-map, drop-map, take-append-drop, get_or-drop}
use Rattle.page_space.specs.declared.error.SpaceError.{SpaceError}
use Rattle.page_space.specs.Space.{PageMap}
use Rattle.sqlrecord.specs.declared.kind.PageKind.{PageKind}
use Rattle.sqlrecord.specs.declared.kind.PageKind.TheVariants.{Leaf, Inner}
use Rattle.sqlrecord.specs.Build.{Fits}
use Rattle.sqlrecord.specs.Page.{key_of, AreCells, IsCell}
use Rattle.btree_read.specs.declared.entry.Branch.{Branch}
use Rattle.btree_read.specs.Nodes.{Key, precedes, InnerNode, HasNode, IsStocked, IsSmallBranch, branch_of}
use Rattle.btree_read.proofs.ListLemmas.{each_append, each_left, each_right}
use Rattle.btree_read.proofs.PlaceLemmas.{key_at, rising_all}
use Rattle.btree.specs.Grow.{SamePages, InnerWritten}
use Rattle.btree.specs.Overfull.{size_of, RisesBehind}
use Rattle.btree.proofs.CellLemmas.{are_drop}
use Rattle.btree.proofs.SizeLemmas.{size_parts, size_grows}
use Rattle.btree.proofs.WithLemmas.{cons_are, formed_with, rises_are, size_with, small_inner_cell}
use Rattle.btree_remove.specs.declared.outcome.Removed.{Removed}
use Rattle.btree_remove.specs.declared.outcome.Removed.TheVariants.{Absent, Done, Emptied, Lone}
use Rattle.btree_remove.specs.Removed.{Rewritten}

-- ---- without some

size_append : (xs ys : List (List ℕ)) → size_of (xs ++ ys) ≡ size_of xs + size_of ys
size_append [] ys = omega arith
size_append (x ∷ xs) ys = let m = size_append xs ys in omega (arith, m)

pub fits_without : (cells : List (List ℕ)) (a b : ℕ) → a ≤ b → Fits cells → Fits (take a cells ++ drop b cells)
fits_without cells a b o f =
    let j = size_append (take a cells) (drop b cells) in
    let p = size_parts b cells in
    let g = size_grows a b cells o in
    omega (arith, j, p, g, f)

pub are_without : (kind : PageKind) (cells : List (List ℕ)) (a b : ℕ) → a ≤ b → b ≤ length cells → AreCells kind cells → AreCells kind (take a cells ++ drop b cells)
are_without kind cells zero b o l w = are_drop kind cells b w
are_without kind [] (suc a) b o l w = absurd (omega arith)
are_without kind (y ∷ cells) (suc a) zero o l w = absurd (omega arith)
are_without kind (y ∷ cells) (suc a) (suc b) o l w =
    cons_are kind y (take a cells ++ drop b cells) (w.formed 0 (omega arith)) (head a cells (omega arith) w) (are_without kind cells a b (omega arith) (omega arith) (are_drop kind (y ∷ cells) 1 w))
  where
    head : (a : ℕ) (cells : List (List ℕ)) → b ≤ length cells → AreCells kind (y ∷ cells) → 0 < length (take a cells ++ drop b cells) → precedes (key_of y) (key_at (take a cells ++ drop b cells) 0) ≡ true
    head zero cells l w n =
        subst (λ c. precedes (key_of y) (key_of c) ≡ true) (sym (get_or-drop b cells 0 [])) (rising_all kind (y ∷ cells) w 0 (suc (b + 0)) (omega arith) (omega (arith, n, length-drop b cells)))
    head (suc a) [] l w n = let none : List (List ℕ) = [] in absurd (omega (arith, n, length-drop b none))
    head (suc a) (z ∷ cells) l w n = rising_all kind (y ∷ z ∷ cells) w 0 1 (omega arith) (omega arith)

pub on_ok : {A E : Type 0} (P Q : Type 0) (r : Result A E) → (P → Q) → OnOk r P → OnOk r Q
on_ok P Q (Ok x) f h = f h
on_ok P Q (Err e) f h = tt

pub branches_without : (a b : ℕ) (cells : List (List ℕ)) → map branch_of (take a cells ++ drop b cells) ≡ take a (map branch_of cells) ++ drop b (map branch_of cells)
branches_without a b cells =
    map-append branch_of (take a cells) (drop b cells) ∙ ap (λ xs. xs ++ map branch_of (drop b cells)) (sym (take-map branch_of a cells))
    ∙ ap (λ ys. take a (map branch_of cells) ++ ys) (sym (drop-map branch_of b cells))

each_take : (P : Branch → Type 0) (bs : List Branch) (a : ℕ) → AllByRecursion P bs → AllByRecursion P (take a bs)
each_take P bs a h = each_left P (take a bs) (drop a bs) (subst (AllByRecursion P) (sym (take-append-drop a bs)) h)

each_drop : (P : Branch → Type 0) (bs : List Branch) (a : ℕ) → AllByRecursion P bs → AllByRecursion P (drop a bs)
each_drop P bs a h = each_right P (take a bs) (drop a bs) (subst (AllByRecursion P) (sym (take-append-drop a bs)) h)

pub stocked_without : (first : ℕ) (bs : List Branch) (a b : ℕ) → (take a bs ++ drop b bs ≡ [] → ⊥) → IsStocked (InnerNode first bs) → IsStocked (InnerNode first (take a bs ++ drop b bs))
stocked_without first bs a b n s = (n, each_append IsSmallBranch (take a bs) (drop b bs) (each_take IsSmallBranch bs a s.1) (each_drop IsSmallBranch bs b s.1))

-- ---- with another one in their place

pub branches_over : (a b : ℕ) (cell : List ℕ) (cells : List (List ℕ)) → map branch_of (take a cells ++ cell ∷ drop b cells) ≡ take a (map branch_of cells) ++ branch_of cell ∷ drop b (map branch_of cells)
branches_over a b cell cells =
    map-append branch_of (take a cells) (cell ∷ drop b cells) ∙ ap (λ xs. xs ++ branch_of cell ∷ map branch_of (drop b cells)) (sym (take-map branch_of a cells))
    ∙ ap (λ ys. take a (map branch_of cells) ++ branch_of cell ∷ ys) (sym (drop-map branch_of b cells))

no_cons : (xs : List Branch) (b : Branch) (ys : List Branch) → (xs ++ b ∷ ys) ≡ [] → ⊥
no_cons [] b ys e = cc
no_cons (x ∷ xs) b ys e = cc

pub stocked_over : (first link : ℕ) (bs : List Branch) (a c : ℕ) (b : Branch) → IsSmallBranch b → IsStocked (InnerNode link bs) → IsStocked (InnerNode first (take a bs ++ b ∷ drop c bs))
stocked_over first link bs a c b h s =
    (no_cons (take a bs) b (drop c bs), each_append IsSmallBranch (take a bs) (b ∷ drop c bs) (each_take IsSmallBranch bs a s.1) (h, each_drop IsSmallBranch bs c s.1))

pub over_are : (cells now : List (List ℕ)) (a b : ℕ) (cell : List ℕ) (lo : Key) → now ≡ take a cells ++ cell ∷ drop b cells → a ≤ b → b ≤ length cells → AreCells Inner cells → IsCell Inner cell
    → RisesBehind lo (take a (map branch_of cells) ++ branch_of cell ∷ drop b (map branch_of cells)) → AreCells Inner now
over_are cells now a b cell lo e o l w c h =
    subst (AreCells Inner) (sym e) (rises_are (take a cells ++ cell ∷ drop b cells) lo (formed_with Inner cells a b cell o l w.formed c) (subst (RisesBehind lo) (sym (branches_over a b cell cells)) h))

pub over_refused : (Used W : Type 0) (cells now : List (List ℕ)) (a b : ℕ) (cell : List ℕ) (first link : ℕ) (x : Branch) → now ≡ take a cells ++ cell ∷ drop b cells → branch_of cell ≡ x → a ≤ b → Fits cells
    → IsCell Inner cell → IsSmallBranch x → (Used → W → IsStocked (InnerNode first (map branch_of now)) → size_of now ≤ 5094 → ⊥)
    → (lo : Key) → Used → W → IsStocked (InnerNode link (map branch_of cells)) → RisesBehind lo (take a (map branch_of cells) ++ x ∷ drop b (map branch_of cells)) → ⊥
over_refused Used W cells now a b cell first link x e is o fits c small f lo u wh s h =
    let small_cell : IsSmallBranch (branch_of cell) = subst IsSmallBranch (sym is) small in
    let same : take a (map branch_of cells) ++ branch_of cell ∷ drop b (map branch_of cells) ≡ map branch_of now = sym (branches_over a b cell cells) ∙ ap (map branch_of) (sym e) in
    let room : size_of now ≤ size_of cells + (4 + length cell) = subst (λ cs. size_of cs ≤ size_of cells + (4 + length cell)) (sym e) (size_with cells a b cell o) in
    let short : 4 + length cell ≤ 1014 = small_inner_cell cell c small_cell in
    f u wh (subst (λ bs. IsStocked (InnerNode first bs)) same (stocked_over first link (map branch_of cells) a b (branch_of cell) small_cell s)) (omega (arith, room, short, fits))

pub over_written : (old new : PageMap) (page first : ℕ) (now bs : List Branch) (result : Result (Option Branch) SpaceError) → now ≡ bs → IsStocked (InnerNode first bs)
    → (IsStocked (InnerNode first now) → IfOk result (InnerWritten old new page first now)) → IfOk result (InnerWritten old new page first bs)
over_written old new page first now bs result e s f = subst (λ x. IfOk result (InnerWritten old new page first x)) e (f (subst (λ x. IsStocked (InnerNode first x)) (sym e) s))

-- ---- what is left of the branches

pub rewritten_over : (old new : PageMap) (page first : ℕ) (xs : List Branch) (b : Branch) (ys : List Branch) (split : Option Branch) → InnerWritten old new page first (xs ++ b ∷ ys) split
    → Rewritten old new page first (xs ++ b ∷ ys) (Done split)
rewritten_over old new page first [] b ys split w = (split, refl, w)
rewritten_over old new page first (x ∷ xs) b ys split w = (split, refl, w)

pub rewritten_less : (old new : PageMap) (page first : ℕ) (bs : List Branch) → (bs ≡ [] → ⊥) → HasNode new page (InnerNode first bs) → SamePages old new (λ n. n ≡ page)
    → Rewritten old new page first bs (Done None)
rewritten_less old new page first [] n h f = absurd (n refl)
rewritten_less old new page first (b ∷ bs) n h f = (None, refl, (h, f))

drop_all : (bs : List Branch) (n : ℕ) → length bs ≤ n → drop n bs ≡ []
drop_all [] zero l = refl
drop_all [] (suc n) l = refl
drop_all (b ∷ bs) zero l = absurd (omega arith)
drop_all (b ∷ bs) (suc n) l = drop_all bs n (omega arith)

pub none_left : (bs : List Branch) (a b : ℕ) → a ≤ b → b ≤ length bs → length bs ≡ b - a → take a bs ++ drop b bs ≡ []
none_left bs zero b o l e = drop_all bs b (omega (arith, e))
none_left bs (suc a) b o l e = absurd (omega (arith, e))

pub some_left : (bs : List Branch) (a b : ℕ) → a ≤ b → b ≤ length bs → (length bs ≡ b - a → ⊥) → take a bs ++ drop b bs ≡ [] → ⊥
some_left [] a b o l f e = f (omega arith)
some_left (x ∷ bs) zero b o l f e = f (omega (arith, ap length e, length-drop b (x ∷ bs)))
some_left (x ∷ bs) (suc a) b o l f e = cc

pub rewritten_none : (old new : PageMap) (page first link : ℕ) (bs : List Branch) → new ≡ old → link ≡ first → bs ≡ [] → Rewritten old new page first bs (Lone link)
rewritten_none old new page first link [] e l n = (ap Lone l, e)
rewritten_none old new page first link (b ∷ bs) e l n = cc

-- ---- a branch in place of others, if any

pub branch_put : (old new : PageMap) (page link first : ℕ) (bs : List Branch) (a b : ℕ) (branch : Option Branch) (x : Branch) (split : Option Branch) → branch ≡ Some x → link ≡ first
    → InnerWritten old new page link (take a bs ++ x ∷ drop b bs) split → Rewritten old new page first (take a bs ++ (option_to_list branch ++ drop b bs)) (Done split)
branch_put old new page link first bs a b branch x split e l w =
    let put : Rewritten old new page first (take a bs ++ x ∷ drop b bs) (Done split) =
    rewritten_over old new page first (take a bs) x (drop b bs) split (subst (λ n. InnerWritten old new page n (take a bs ++ x ∷ drop b bs) split) l w) in
    subst (λ o. Rewritten old new page first (take a bs ++ (option_to_list o ++ drop b bs)) (Done split)) (sym e) put

pub branch_not_put : (Used W : Type 0) (link : ℕ) (bs : List Branch) (a b : ℕ) (branch : Option Branch) (x : Branch) → branch ≡ Some x
    → ((lo : Key) → Used → W → IsStocked (InnerNode link bs) → RisesBehind lo (take a bs ++ x ∷ drop b bs) → ⊥)
    → (lo : Key) → Used → W → IsStocked (InnerNode link bs) → RisesBehind lo (take a bs ++ (option_to_list branch ++ drop b bs)) → ⊥
branch_not_put Used W link bs a b branch x e f lo u w s r = f lo u w s (subst (λ o. RisesBehind lo (take a bs ++ (option_to_list o ++ drop b bs))) e r)

pub none_put : (old new : PageMap) (page first : ℕ) (bs : List Branch) (a b : ℕ) (branch : Option Branch) (r : Removed) → branch ≡ None
    → Rewritten old new page first (take a bs ++ drop b bs) r → Rewritten old new page first (take a bs ++ (option_to_list branch ++ drop b bs)) r
none_put old new page first bs a b branch r e w = subst (λ o. Rewritten old new page first (take a bs ++ (option_to_list o ++ drop b bs)) r) (sym e) w
