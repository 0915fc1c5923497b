-- A page that was laid out reads as its cells.
use Rattle.std.proofs.Common.{◌≡◌, ℕ, zero, suc, ◌+◌, ◌-◌, ◌*◌, ◌<◌, ◌≤◌, List, [], ◌∷◌, ◌++◌, length, get_or, take, refl, sym, ap, ◌∙◌, arith, append_assoc, subst}
use Rattle.std.specs.Prelude.{slice_range, replicate}
use Rattle.std.proofs.lemmas.List.{length-append, get_or-append-add, append-nil as append_nil, length-replicate, take_all}
use Rattle.std.proofs.Math.Seq.{drop-append_seam, take-append_seam}
use Rattle.std.proofs.Math.Nat.{div-add-mod}
use Rattle.sqlrecord.specs.declared.kind.PageKind.{PageKind}
use Rattle.sqlrecord.specs.Page.{kind_byte, count_of, offset_of, length_of, cell_of, cells_of, cells_upto, lowest_of, two_at, AreCells, IsSound}
use Rattle.sqlrecord.specs.Build.{total_of, Fits, flatten, slots_of, head_of, page_of, two_bytes}

-- the cells from slot j on lie one behind another from `at` on
abbrev IsLaid : List ℕ → ℕ → ℕ → List (List ℕ) → Type 0
IsLaid page j at [] = Unit {0}
IsLaid page j at (c ∷ cs) = (offset_of page j ≡ at) × (length_of page j ≡ length c) × (slice_range page at (at + length c) ≡ c) × IsLaid page (suc j) (at + length c) cs

-- the bytes behind a beginning
behind : (page pre rest : List ℕ) (n k : ℕ) → page ≡ pre ++ rest → n ≡ length pre + k → get_or page n 0 ≡ get_or rest k 0
behind page pre rest n k e h = rw (e, h) (get_or-append-add pre rest k 0)

middle : (xs c ys : List ℕ) → slice_range (xs ++ (c ++ ys)) (length xs) (length xs + length c) ≡ c
middle xs c ys = rw (drop-append_seam xs (c ++ ys)) (let e : length xs + length c - length xs ≡ length c = omega arith in rw e (take-append_seam c ys))

length_slots : (at : ℕ) (cs : List (List ℕ)) → length (slots_of at cs) ≡ 4 * length cs
length_slots at [] = refl
length_slots at (c ∷ cs) = let w = length_slots (at + length c) cs in omega (arith, w)

pub length_flatten : (cs : List (List ℕ)) → length (flatten cs) ≡ total_of cs
length_flatten [] = refl
length_flatten (c ∷ cs) = length-append c (flatten cs) ∙ ap (λ n. length c + n) (length_flatten cs)

slots_are : (cs : List (List ℕ)) (page pre mid : List ℕ) (j at : ℕ) → page ≡ pre ++ (slots_of at cs ++ (mid ++ flatten cs))
    → length pre ≡ 16 + 4 * j → at ≡ length pre + (4 * length cs + length mid) → IsLaid page j at cs
slots_are [] page pre mid j at e h g = tt
slots_are (c ∷ cs) page pre mid j at e h g =
    let next : page ≡ (pre ++ (two_bytes at ++ two_bytes (length c))) ++ (slots_of (at + length c) cs ++ ((mid ++ c) ++ flatten cs)) = e ∙ simp append_assoc in
    let whole : page ≡ (pre ++ (slots_of at (c ∷ cs) ++ mid)) ++ (c ++ flatten cs) = e ∙ simp append_assoc in
    let front : List ℕ = pre ++ (slots_of at (c ∷ cs) ++ mid) in
    let k : length front ≡ at = length-append pre (slots_of at (c ∷ cs) ++ mid) ∙ ap (λ n. length pre + n) (length-append (slots_of at (c ∷ cs)) mid ∙ ap (λ n. n + length mid) (length_slots at (c ∷ cs))) ∙ sym g in (
      rw (behind page pre _ (16 + 4 * j) 0 e (omega (arith, h)), behind page pre _ (16 + 4 * j + 1) 1 e (omega (arith, h))) (div-add-mod at 256),
      rw (behind page pre _ (18 + 4 * j) 2 e (omega (arith, h)), behind page pre _ (18 + 4 * j + 1) 3 e (omega (arith, h))) (div-add-mod (length c) 256),
      subst (λ n. slice_range page n (n + length c) ≡ c) k (subst (λ b. slice_range b (length front) (length front + length c) ≡ c) (sym whole) (middle front c (flatten cs))),
      slots_are cs page (pre ++ (two_bytes at ++ two_bytes (length c))) (mid ++ c) (suc j) (at + length c) next
          (length-append pre (two_bytes at ++ two_bytes (length c)) ∙ omega (arith, h))
          (simp length-append (omega (arith, g))),
    )

-- slots that say where the cells are give them back
cells_are : (page : List ℕ) (done cs : List (List ℕ)) (j at : ℕ) → IsLaid page j at cs → cells_upto page j ≡ done → cells_upto page (j + length cs) ≡ done ++ cs
cells_are page done [] j at h f = ap (cells_upto page) (let z : j + 0 ≡ j = omega arith in z) ∙ f ∙ sym (append_nil done)
cells_are page done (c ∷ cs) j at h f =
    let cell : cell_of page j ≡ c = rw (h.0, h.1) h.2 in
    let z : j + suc (length cs) ≡ suc j + length cs = omega arith in
    ap (cells_upto page) z
    ∙ cells_are page (done ++ c ∷ []) cs (suc j) (at + length c) h.3 (rw (f, cell) refl)
    ∙ append_assoc done (c ∷ []) cs

record InRange (page : List ℕ) (j at past : ℕ) : Type 0 where
  low : at ≤ offset_of page j
  high : offset_of page j + length_of page j ≤ past

slots_within : (page : List ℕ) (cs : List (List ℕ)) (j at : ℕ) → IsLaid page j at cs → (i : ℕ) → i < length cs → InRange page (j + i) at (at + total_of cs)
slots_within page [] j at h i l = absurd (omega arith)
slots_within page (c ∷ cs) j at h zero l = let z : j + 0 ≡ j = omega arith in rw z (record { low = omega (arith, h.0); high = omega (arith, h.0, h.1) })
slots_within page (c ∷ cs) j at h (suc i) l =
    let w = slots_within page cs (suc j) (at + length c) h.3 i (omega arith) in
    let z : j + suc i ≡ suc j + i = omega arith in
    rw z (record { low = omega (arith, w.low); high = omega (arith, w.high) })

-- each cell ends before the next begins
slots_rise : (page : List ℕ) (cs : List (List ℕ)) (j at : ℕ) → IsLaid page j at cs → (i k : ℕ) → i < k → k < length cs
    → offset_of page (j + i) + length_of page (j + i) ≤ offset_of page (j + k)
slots_rise page [] j at h i k less l = absurd (omega arith)
slots_rise page (c ∷ cs) j at h i zero less l = absurd (omega arith)
slots_rise page (c ∷ cs) j at h zero (suc k) less l =
    let w = slots_within page cs (suc j) (at + length c) h.3 k (omega arith) in
    let z : j + 0 ≡ j = omega arith in
    let y : j + suc k ≡ suc j + k = omega arith in
    rw (z, y) (omega (arith, h.0, h.1, w.low))
slots_rise page (c ∷ cs) j at h (suc i) (suc k) less l =
    let w = slots_rise page cs (suc j) (at + length c) h.3 i k (omega arith) (omega arith) in
    let z : j + suc i ≡ suc j + i = omega arith in
    let y : j + suc k ≡ suc j + k = omega arith in
    rw (z, y) w

-- the first offset is the lowest
lowest_is : (page : List ℕ) (start n : ℕ) → start ≤ 4096 → ((i : ℕ) → i < n → start ≤ offset_of page i) → (n ≡ 0 → start ≡ 4096) → (0 < n → offset_of page 0 ≡ start) → lowest_of page n ≡ start
lowest_is page start zero top low none first = sym (none refl)
lowest_is page start (suc zero) top low none first = let e = first (omega arith) in omega (arith, e, top)
lowest_is page start (suc (suc n)) top low none first =
    let before = lowest_is page start (suc n) top (λ i h. low i (omega arith)) (λ e. absurd (omega (arith, e))) (λ h. first (omega arith)) in
    let last = low (suc n) (omega arith) in
    omega (arith, before, last)

pub record IsBuilt (page : List ℕ) (kind : PageKind) (link : ℕ) (cs : List (List ℕ)) : Type 0 where
  pub cells : cells_of page ≡ cs
  pub sound : IsSound page kind

-- a page laid out so has just these cells
built : (kind : PageKind) (start link : ℕ) (cs : List (List ℕ)) (mid page : List ℕ) → Fits cs → start + total_of cs ≡ 4096 → AreCells kind cs
    → page ≡ head_of (kind_byte kind) (length cs) start link ++ (slots_of start cs ++ (mid ++ flatten cs)) → 16 + (4 * length cs + length mid) ≡ start → IsBuilt page kind link cs
unfolding cells_of
built kind start link cs mid page room whole are e m =
    let count : count_of page ≡ length cs = rw e (div-add-mod (length cs) 256) in
    let laid : IsLaid page 0 start cs = slots_are cs page (head_of (kind_byte kind) (length cs) start link) mid 0 start e refl (sym m) in
    let all : cells_upto page (count_of page) ≡ cs = (let z : length cs ≡ 0 + length cs = omega arith in ap (cells_upto page) (count ∙ z)) ∙ cells_are page [] cs 0 start laid refl in
    let range : (i : ℕ) → i < length cs → InRange page i start 4096 = λ i h. let z : 0 + i ≡ i = omega arith in subst (λ n. InRange page n start 4096) z (subst (InRange page (0 + i) start) whole (slots_within page cs 0 start laid i h)) in
    let rise : (i k : ℕ) → i < k → k < length cs → offset_of page i + length_of page i ≤ offset_of page k = λ i k less h. let z : 0 + i ≡ i = omega arith in let y : 0 + k ≡ k = omega arith in rw (z, y) at (slots_rise page cs 0 start laid i k less h) in
    let said : two_at page 4 ≡ start = rw e (div-add-mod start 256) in
    let least : lowest_of page (count_of page) ≡ start = rw count (lowest_is page start (length cs) (omega (arith, whole)) (λ i h. (range i h).low) (none_left cs whole) (first_laid cs laid)) in
    record {
      cells = all;
      sound = record {
        head = record { is_kind = rw e refl; zero_behind_kind = rw e refl; zeros_behind_low = rw e refl; zeros_behind_link = rw e refl };
        slots = record {
          room = rw count (omega (arith, room));
          behind = λ i h. rw count (let r = range i (rw (← count) h) in omega (arith, r.low, m));
          within = λ i h. (range i (rw (← count) h)).high;
        };
        apart = λ i j less h. let r = rise i j less (rw (← count) h) in omega (arith, r);
        low = said ∙ sym least;
        cells = rw all are;
      };
    }
  where
    none_left : (cs : List (List ℕ)) → start + total_of cs ≡ 4096 → length cs ≡ 0 → start ≡ 4096
    none_left [] w z = omega (arith, w)
    none_left (c ∷ cs) w z = absurd (omega (arith, z))

    first_laid : (cs : List (List ℕ)) → IsLaid page 0 start cs → 0 < length cs → offset_of page 0 ≡ start
    first_laid [] h z = absurd (omega arith)
    first_laid (c ∷ cs) h z = h.0

length_head : (kind count low link : ℕ) → length (head_of kind count low link) ≡ 16
length_head kind count low link = refl

-- a page of which all is told
pub all_put : (now rest : List ℕ) (end : ℕ) → length now ≤ end → take end now ≡ rest → now ≡ rest
all_put now rest end l e = sym (take_all end now l) ∙ e

-- the parts, one behind another
pub put_together : (kind link : ℕ) (cs : List (List ℕ)) (p1 p2 p3 p4 : List ℕ) (start n at1 at2 : ℕ) → start ≡ 4096 - total_of cs → n ≡ length cs
    → at1 ≡ 16 → take at1 p1 ≡ head_of kind n start link → at2 ≡ at1 + 4 * n → take at2 p2 ≡ take at1 p1 ++ slots_of start cs
    → take start p3 ≡ take at2 p2 ++ replicate (start - at2) 0 → p4 ≡ take start p3 ++ flatten cs → p4 ≡ page_of kind link cs
put_together kind link cs p1 p2 p3 p4 start n at1 at2 s en e1 t1 e2 t2 t3 t4 =
    let between : start - at2 ≡ 4080 - 4 * length cs - total_of cs = omega (arith, s, en, e1, e2) in
    let page : p4 ≡ ((head_of kind n start link ++ slots_of start cs) ++ replicate (start - at2) 0) ++ flatten cs = t4 ∙ rw (t3, t2, t1) refl in
    page ∙ rw (between, en, s) refl

pub assembled : (kind : PageKind) (link : ℕ) (cs : List (List ℕ)) (p1 p2 p3 p4 : List ℕ) (start n at1 at2 : ℕ) → Fits cs → AreCells kind cs → start ≡ 4096 - total_of cs → n ≡ length cs
    → at1 ≡ 16 → take at1 p1 ≡ head_of (kind_byte kind) n start link → at2 ≡ at1 + 4 * n → take at2 p2 ≡ take at1 p1 ++ slots_of start cs
    → take start p3 ≡ take at2 p2 ++ replicate (start - at2) 0 → p4 ≡ take start p3 ++ flatten cs → IsBuilt p4 kind link cs
assembled kind link cs p1 p2 p3 p4 start n at1 at2 room are s en e1 t1 e2 t2 t3 t4 =
    let page : p4 ≡ ((head_of (kind_byte kind) (length cs) start link ++ slots_of start cs) ++ replicate (start - at2) 0) ++ flatten cs = t4 ∙ rw (t3, t2, t1, en) refl in
    built kind start link cs (replicate (start - at2) 0) p4 room (omega (arith, room, s)) are (page ∙ simp append_assoc) (rw length-replicate (omega (arith, s, room, en, e1, e2)))
