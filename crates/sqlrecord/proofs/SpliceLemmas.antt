-- Some of a page's cells, copied one after another.
use Rattle.std.proofs.Common.{◌≡◌, ℕ, zero, suc, ◌+◌, ◌-◌, ◌*◌, ◌<◌, ◌≤◌, List, [], ◌∷◌, ◌++◌, length, take, drop, refl, sym, ap, ◌∙◌, arith, append_assoc, add-one, subst}
use Rattle.std.specs.Prelude.{slice_range}
use Rattle.std.specs.Borrow.{Bor}
use Rattle.std.proofs.Math.Seq.{take-add, drop-nil}
use Rattle.std.proofs.lemmas.List.{append-nil, drop_all, drop-append-le, length-append, length-drop, length-take, take_all, take-append-le}
use Rattle.sqlrecord.specs.Page.{count_of, offset_of, length_of, cell_of, cells_of, cells_upto, HasSlots}
use Rattle.sqlrecord.specs.Build.{lent, total_of, flatten, slots_of, two_bytes}
use Rattle.sqlrecord.specs.Splice.{cells_between, cells_with, spliced}
use Rattle.sqlrecord.proofs.PageLemmas.{length_upto}
use Rattle.sqlrecord.proofs.FitLemmas.{total_push}

-- ---- lists of cells

pub total_append : (xs ys : List (List ℕ)) → total_of (xs ++ ys) ≡ total_of xs + total_of ys
total_append [] ys = omega arith
total_append (x ∷ xs) ys = let more = total_append xs ys in omega (arith, more)

pub flatten_append : (xs ys : List (List ℕ)) → flatten (xs ++ ys) ≡ flatten xs ++ flatten ys
flatten_append [] ys = refl
flatten_append (x ∷ xs) ys = ap (λ bytes. x ++ bytes) (flatten_append xs ys) ∙ sym (append_assoc x (flatten xs) (flatten ys))

pub slots_append : (at : ℕ) (xs ys : List (List ℕ)) → slots_of at (xs ++ ys) ≡ slots_of at xs ++ slots_of (at + total_of xs) ys
slots_append at [] ys = let z : at ≡ at + 0 = omega arith in ap (λ n. slots_of n ys) z
slots_append at (x ∷ xs) ys =
    let z : at + length x + total_of xs ≡ at + (length x + total_of xs) = omega arith in
    ap (λ bytes. (two_bytes at ++ two_bytes (length x)) ++ bytes) (slots_append (at + length x) xs ys ∙ ap (λ n. slots_of (at + length x) xs ++ slots_of n ys) z)

flatten_push : (xs : List (List ℕ)) (x : List ℕ) → flatten (xs ++ x ∷ []) ≡ flatten xs ++ x
flatten_push xs x = flatten_append xs (x ∷ []) ∙ ap (λ bytes. flatten xs ++ bytes) (append-nil x)

-- ---- cells of a page

-- the cell of a slot is as long as the slot says
pub cell_long : (page : List ℕ) (i : ℕ) → length page ≡ 4096 → HasSlots page → i < count_of page → length (cell_of page i) ≡ length_of page i
cell_long page i size slots l =
    let w = slots.within i l in
    rw (length-take, length-drop) (omega (arith, size, w))

pub none_between : (page : List ℕ) (i : ℕ) → cells_between page i i ≡ []
none_between page i = drop_all i (cells_upto page i) (rw (length_upto page i) (omega arith))

pub one_more : (page : List ℕ) (first i : ℕ) → first ≤ i → cells_between page first (i + 1) ≡ cells_between page first i ++ cell_of page i ∷ []
one_more page first i h = ap (cells_between page first) (add-one i) ∙ drop-append-le first (cells_upto page i) (cell_of page i ∷ []) (rw (length_upto page i) h)

pub total_more : (page : List ℕ) (first i : ℕ) → first ≤ i → length page ≡ 4096 → HasSlots page → i < count_of page
    → total_of (cells_between page first (i + 1)) ≡ total_of (cells_between page first i) + length_of page i
total_more page first i h size slots l =
    ap total_of (one_more page first i h) ∙ total_push (cells_between page first i) (cell_of page i) ∙ ap (λ n. total_of (cells_between page first i) + n) (cell_long page i size slots l)

total_rises : (page : List ℕ) (first i k : ℕ) → first ≤ i → total_of (cells_between page first i) ≤ total_of (cells_between page first (i + k))
total_rises page first i zero h = let z : i + 0 ≡ i = omega arith in rw z (omega arith)
total_rises page first i (suc k) h =
    let before = total_rises page first i k h in
    let z : i + suc k ≡ (i + k) + 1 = omega arith in
    let more : total_of (cells_between page first (i + k + 1)) ≡ total_of (cells_between page first (i + k)) + length (cell_of page (i + k)) =
    ap total_of (one_more page first (i + k) (omega (arith, h))) ∙ total_push (cells_between page first (i + k)) (cell_of page (i + k)) in
    rw z (omega (arith, before, more))

-- fewer cells take no more bytes
pub total_upto : (page : List ℕ) (first i last : ℕ) → first ≤ i → i ≤ last → total_of (cells_between page first i) ≤ total_of (cells_between page first last)
total_upto page first i last h l =
    let z : i + (last - i) ≡ last = omega (arith, l) in
    subst (λ n. total_of (cells_between page first i) ≤ total_of (cells_between page first n)) z (total_rises page first i (last - i) h)

-- the slots of the first cells and the next one
pub slots_more : (page start done wide now : List ℕ) (first i at offset long : ℕ) → first ≤ i → length page ≡ 4096 → HasSlots page → i < count_of page
    → done ≡ start ++ slots_of at (cells_between page first i) → offset ≡ at + total_of (cells_between page first i)
    → wide ≡ done ++ two_bytes offset → long ≡ length_of page i → now ≡ wide ++ two_bytes long
    → now ≡ start ++ slots_of at (cells_between page first (i + 1))
slots_more page start done wide now first i at offset long h size slots l e o w g n =
    let one : two_bytes offset ++ two_bytes (length_of page i) ≡ slots_of (at + total_of (cells_between page first i)) (cell_of page i ∷ []) =
    rw (o, cell_long page i size slots l) refl in
    n ∙ ap (λ k. wide ++ two_bytes k) g ∙ ap (λ bytes. bytes ++ two_bytes (length_of page i)) (w ∙ ap (λ bytes. bytes ++ two_bytes offset) e)
    ∙ append_assoc (start ++ slots_of at (cells_between page first i)) (two_bytes offset) (two_bytes (length_of page i))
    ∙ append_assoc start (slots_of at (cells_between page first i)) (two_bytes offset ++ two_bytes (length_of page i))
    ∙ ap (λ bytes. start ++ (slots_of at (cells_between page first i) ++ bytes)) one
    ∙ ap (λ bytes. start ++ bytes) (sym (slots_append at (cells_between page first i) (cell_of page i ∷ [])) ∙ ap (slots_of at) (sym (one_more page first i h)))

-- the bytes of the first cells and the next one
pub bytes_more : (page start done cell now : List ℕ) (first i : ℕ) → first ≤ i → done ≡ start ++ flatten (cells_between page first i) → cell ≡ cell_of page i → now ≡ done ++ cell
    → now ≡ start ++ flatten (cells_between page first (i + 1))
bytes_more page start done cell now first i h e g n =
    n ∙ ap (λ bytes. done ++ bytes) g ∙ ap (λ bytes. bytes ++ cell_of page i) e ∙ append_assoc start (flatten (cells_between page first i)) (cell_of page i)
    ∙ ap (λ bytes. start ++ bytes) (sym (flatten_push (cells_between page first i) (cell_of page i)) ∙ ap flatten (sym (one_more page first i h)))

-- ---- cells that lie one behind another

drop_drop : (a m : ℕ) (xs : List ℕ) → drop (a + m) xs ≡ drop m (drop a xs)
drop_drop zero m xs = let z : 0 + m ≡ m = omega arith in ap (λ n. drop n xs) z
drop_drop (suc a) m [] = drop-nil (suc a + m) ∙ sym (drop-nil m)
drop_drop (suc a) m (x ∷ xs) = let z : suc a + m ≡ suc (a + m) = omega arith in ap (λ n. drop n (x ∷ xs)) z ∙ drop_drop a m xs

seam : (xs : List ℕ) (a b c : ℕ) → a ≤ b → b ≤ c → slice_range xs a c ≡ slice_range xs a b ++ slice_range xs b c
seam xs a b c h l =
    let z : c - a ≡ (b - a) + (c - b) = omega (arith, h, l) in
    let y : a + (b - a) ≡ b = omega (arith, h) in
    ap (λ n. take n (drop a xs)) z ∙ take-add (b - a) (c - b) (drop a xs)
    ∙ ap (λ ys. take (b - a) (drop a xs) ++ take (c - b) ys) (sym (drop_drop a (b - a) xs) ∙ ap (λ n. drop n xs) y)

pub run_of_one : (page : List ℕ) (first begin past : ℕ) → begin ≡ offset_of page first → past ≡ offset_of page first + length_of page first
    → slice_range page begin past ≡ flatten (cells_between page first (first + 1))
run_of_one page first begin past b p =
    rw (b, p) (sym (append-nil (cell_of page first)))
    ∙ ap flatten (sym (one_more page first first (omega arith) ∙ ap (λ cells. cells ++ cell_of page first ∷ []) (none_between page first)))

pub run_further : (page : List ℕ) (first i begin past next : ℕ) → first ≤ i → begin ≤ past → past ≡ offset_of page i → next ≡ offset_of page i + length_of page i
    → slice_range page begin past ≡ flatten (cells_between page first i) → slice_range page begin next ≡ flatten (cells_between page first (i + 1))
run_further page first i begin past next h l p n e =
    let cell : slice_range page past next ≡ cell_of page i = rw (p, n) refl in
    seam page begin past next l (omega (arith, p, n)) ∙ ap (λ bytes. bytes ++ slice_range page past next) e ∙ ap (λ bytes. flatten (cells_between page first i) ++ bytes) cell
    ∙ sym (flatten_push (cells_between page first i) (cell_of page i)) ∙ ap flatten (sym (one_more page first i h))

-- ---- none of the cells so far

pub total_none : (page : List ℕ) (i : ℕ) → total_of (cells_between page i i) ≡ 0
total_none page i = ap total_of (none_between page i)

pub slots_none : (page start : List ℕ) (i at : ℕ) → start ≡ start ++ slots_of at (cells_between page i i)
slots_none page start i at = sym (ap (λ cells. start ++ slots_of at cells) (none_between page i) ∙ append-nil start)

pub bytes_none : (page start : List ℕ) (i : ℕ) → start ≡ start ++ flatten (cells_between page i i)
bytes_none page start i = sym (ap (λ cells. start ++ flatten cells) (none_between page i) ∙ append-nil start)

pub no_run : (page : List ℕ) (first last : ℕ) → first ≡ last → [] ≡ flatten (cells_between page first last)
no_run page first last e = ap flatten (sym (subst (λ n. cells_between page first n ≡ []) e (none_between page first)))

-- ---- all cells of a page, with others among them

pub lent_length : (cells : List (Bor (List ℕ))) → length (lent cells) ≡ length cells
lent_length [] = refl
lent_length (c ∷ cells) = let more = lent_length cells in omega (arith, more)

pub length_between : (page : List ℕ) (first last : ℕ) → length (cells_between page first last) ≡ last - first
length_between page first last = length-drop first (cells_upto page last) ∙ ap (λ n. n - first) (length_upto page last)

pub length_with : (page : List ℕ) (at behind : ℕ) (cells : List (List ℕ)) → length (cells_with page at behind cells) ≡ at + (length cells + (count_of page - behind))
length_with page at behind cells =
    let all = length-append (cells_between page 0 at) (cells ++ cells_between page behind (count_of page)) in
    let rest = length-append cells (cells_between page behind (count_of page)) in
    let front = length_between page 0 at in
    let back = length_between page behind (count_of page) in
    omega (arith, all, rest, front, back)

pub total_with : (page : List ℕ) (at behind : ℕ) (cells : List (List ℕ))
    → total_of (cells_with page at behind cells) ≡ total_of (cells_between page 0 at) + (total_of cells + total_of (cells_between page behind (count_of page)))
total_with page at behind cells =
    let all = total_append (cells_between page 0 at) (cells ++ cells_between page behind (count_of page)) in
    let rest = total_append cells (cells_between page behind (count_of page)) in
    omega (arith, all, rest)

pub slots_with : (start front wide now : List ℕ) (xs cells zs ys : List (List ℕ)) (at offset next : ℕ) → zs ≡ ys
    → front ≡ start ++ slots_of at xs → offset ≡ at + total_of xs → wide ≡ front ++ slots_of offset cells → next ≡ offset + total_of cells
    → now ≡ wide ++ slots_of next zs → now ≡ start ++ slots_of at (xs ++ (cells ++ ys))
slots_with start front wide now xs cells zs ys at offset next e f o w x n =
    n ∙ ap (λ k. wide ++ slots_of k zs) x ∙ ap (λ ls. wide ++ slots_of (offset + total_of cells) ls) e
    ∙ ap (λ bytes. bytes ++ slots_of (offset + total_of cells) ys) (w ∙ ap (λ bytes. bytes ++ slots_of offset cells) f)
    ∙ append_assoc (start ++ slots_of at xs) (slots_of offset cells) (slots_of (offset + total_of cells) ys)
    ∙ append_assoc start (slots_of at xs) (slots_of offset cells ++ slots_of (offset + total_of cells) ys)
    ∙ ap (λ bytes. start ++ (slots_of at xs ++ bytes)) (sym (slots_append offset cells ys))
    ∙ ap (λ k. start ++ (slots_of at xs ++ slots_of k (cells ++ ys))) o
    ∙ ap (λ bytes. start ++ bytes) (sym (slots_append at xs (cells ++ ys)))

pub bytes_with : (start front wide now : List ℕ) (xs cells zs ys : List (List ℕ)) (end : ℕ) → zs ≡ ys
    → front ≡ start ++ flatten xs → wide ≡ front ++ flatten cells → take end now ≡ wide ++ flatten zs → length now ≤ end → now ≡ start ++ flatten (xs ++ (cells ++ ys))
bytes_with start front wide now xs cells zs ys end e f w n l =
    sym (take_all end now l) ∙ n ∙ ap (λ ls. wide ++ flatten ls) e ∙ ap (λ bytes. bytes ++ flatten ys) (w ∙ ap (λ bytes. bytes ++ flatten cells) f)
    ∙ append_assoc (start ++ flatten xs) (flatten cells) (flatten ys) ∙ append_assoc start (flatten xs) (flatten cells ++ flatten ys)
    ∙ ap (λ bytes. start ++ (flatten xs ++ bytes)) (sym (flatten_append cells ys))
    ∙ ap (λ bytes. start ++ bytes) (sym (flatten_append xs (cells ++ ys)))

take_upto : (page : List ℕ) (at k : ℕ) → take at (cells_upto page (at + k)) ≡ cells_upto page at
take_upto page at zero =
    let z : at + 0 ≡ at = omega arith in
    ap (λ n. take at (cells_upto page n)) z ∙ take_all at (cells_upto page at) (rw (length_upto page at) (omega arith))
take_upto page at (suc k) =
    let z : at + suc k ≡ suc (at + k) = omega arith in
    ap (λ n. take at (cells_upto page n)) z ∙ take-append-le at (cells_upto page (at + k)) (cell_of page (at + k) ∷ []) (rw (length_upto page (at + k)) (omega arith)) ∙ take_upto page at k

-- they are those of the page's list
pub with_is : (page : List ℕ) (at behind : ℕ) (cells all : List (List ℕ)) → at ≤ count_of page → all ≡ cells_of page → cells_with page at behind cells ≡ spliced all at behind cells
unfolding cells_of
with_is page at behind cells all h e =
    let z : at + (count_of page - at) ≡ count_of page = omega (arith, h) in
    ap (λ front. front ++ (cells ++ drop behind (cells_upto page (count_of page)))) (sym (take_upto page at (count_of page - at)) ∙ ap (λ n. take at (cells_upto page n)) z)
    ∙ ap (λ ls. take at ls ++ (cells ++ drop behind ls)) (sym e)
