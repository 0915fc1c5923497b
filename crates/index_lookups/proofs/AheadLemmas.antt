-- Entries of a walk that are read ahead.
use Rattle.std.proofs.Common.{◌≡◌, ◌∙◌, refl, sym, ap, subst, ℕ, zero, suc, ◌<◌, Bool, true, false, List, [], ◌∷◌, ◌++◌, append_assoc, take, drop, length, map, Option, Some, None, arith}
use Rattle.std.specs.Prelude.{not, remove, slice_get, if◌then◌else◌}
use Rattle.std.specs.List.{AllByRecursion}
use Rattle.std.specs.Option.{option_map}
use Rattle.sqlval.specs.declared.schema.Column.{Column}
use Rattle.store.specs.Contents as stored
use Rattle.page_space.specs.Space.{PageMap}
use Rattle.btree_read.specs.declared.entry.Entry.{Entry}
use Rattle.btree_read.specs.declared.entry.Start.{Start}
use Rattle.btree_read.specs.declared.entry.Start.TheVariants.{At, Behind}
use Rattle.btree_read.specs.Nodes.{precedes}
use Rattle.btree_read.specs.Sorted.{is_from, first_from, from_on}
use Rattle.btree_read.proofs.ListLemmas.{each_right}
use Rattle.btree_read.proofs.OrderLemmas.{lt_trans, not_self, not_both}
use Rattle.index_trees.specs.Indexed.{index_entry}
use Rattle.index_lookups.specs.Walked.{walk_of, HoldsIndexed, StandsAt, StandsBefore}
use Rattle.index_lookups.proofs.CodeOrder.{code_of}
use Rattle.index_lookups.proofs.WalkLemmas.{AreCoded}
use Rattle.index_lookups.proofs.StepLemmas.{coded_left}
use Rattle.index_lookups.proofs.StandLemmas.{HasBegun, entries_walked, walk_coded, stands_behind}

pub some_left : (es : List Entry) → 0 < length es → es ≡ [] → ⊥
some_left [] h q = absurd (omega (arith, h))
some_left (e ∷ es) h q = absurd (cc)

pub has_first_entry : (es : List Entry) → (es ≡ [] → ⊥) → 0 < length es
has_first_entry [] h = absurd (h refl)
has_first_entry (e ∷ es) h = omega arith

-- ---- entries from a key on

-- what stands behind a key from there on is so too
from_behind : (start : Start) (k x y : List ℕ) → is_from start k x ≡ true → precedes x y ≡ true → is_from start k y ≡ true
from_behind At k x y from less = by (precedes y k) refl
  where
    never : true ≡ false → ⊥
    never q = cc

    not_true : (b : Bool) → not b ≡ true → b ≡ false
    not_true true q = absurd (cc)
    not_true false q = refl

    by : (b : Bool) → precedes y k ≡ b → not b ≡ true
    by true q = absurd (never (sym (lt_trans x y k less q) ∙ not_true (precedes x k) from))
    by false q = refl
from_behind Behind k x y from less = lt_trans k x y from less

-- the first one that is found is from there on
first_is : (start : Start) (k : List ℕ) (es : List Entry) (e : Entry) → first_from start k es ≡ Some e → is_from start k e.key ≡ true
first_is start k [] e q = absurd (none q)
  where
    none : None ≡ Some e → ⊥
    none q = cc
first_is start k (x ∷ es) e q = by (is_from start k x.key) refl q (first_is start k es e)
  where
    same : (a b : Entry) → Some a ≡ Some b → a ≡ b
    same a b q = cc

    by : (b : Bool) → is_from start k x.key ≡ b → (if b then Some x else first_from start k es) ≡ Some e → (first_from start k es ≡ Some e → is_from start k e.key ≡ true) → is_from start k e.key ≡ true
    by true h r again = subst (λ (z : Entry). is_from start k z.key ≡ true) (same x e r) h
    by false h r again = again r

first_cut : (start : Start) (k : List ℕ) (n : ℕ) (es : List Entry) → slice_get (take (suc n) (from_on start k es)) 0 ≡ first_from start k es
first_cut start k n [] = refl
first_cut start k n (x ∷ es) = by (is_from start k x.key) (first_cut start k n es)
  where
    by : (b : Bool) → slice_get (take (suc n) (from_on start k es)) 0 ≡ first_from start k es
        → slice_get (take (suc n) (if b then x ∷ from_on start k es else from_on start k es)) 0 ≡ (if b then Some x else first_from start k es)
    by true again = refl
    by false again = again

-- the first of those that are taken is the first of all
pub first_taken : (start : Start) (k : List ℕ) (n : ℕ) (es ahead : List Entry) → ahead ≡ take (suc n) (from_on start k es) → slice_get ahead 0 ≡ first_from start k es
first_taken start k n es ahead q = ap (λ (xs : List Entry). slice_get xs 0) q ∙ first_cut start k n es

cut : {A : Type 0} (n : ℕ) (xs : List A) → take n xs ++ drop n xs ≡ xs
cut zero xs = refl
cut (suc n) [] = refl
cut (suc n) (x ∷ xs) = ap (λ ys. x ∷ ys) (cut n xs)

-- ---- those of rows in the order of their codes

module _ (columns : List ℕ) where
  each_from : (start : Start) (k : List ℕ) (e : stored.Entry) (rest : List stored.Entry) → is_from start k (code_of columns e) ≡ true → AllByRecursion (λ (y : stored.Entry). precedes (code_of columns e) (code_of columns y) ≡ true) rest
      → from_on start k (map (index_entry columns) rest) ≡ map (index_entry columns) rest
  each_from start k e [] from h = refl
  each_from start k e (y ∷ rest) from h =
      ap (λ b. if b then index_entry columns y ∷ from_on start k (map (index_entry columns) rest) else from_on start k (map (index_entry columns) rest)) (from_behind start k (code_of columns e) (code_of columns y) from h.0)
      ∙ ap (λ es. index_entry columns y ∷ es) (each_from start k e rest from h.1)

  passed_by : (start : Start) (k : List ℕ) (front left : List stored.Entry) → AllByRecursion (λ (e : stored.Entry). is_from start k (code_of columns e) ≡ false) front
      → from_on start k (map (index_entry columns) (front ++ left)) ≡ from_on start k (map (index_entry columns) left)
  passed_by start k [] left h = refl
  passed_by start k (f ∷ front) left h =
      ap (λ b. if b then index_entry columns f ∷ from_on start k (map (index_entry columns) (front ++ left)) else from_on start k (map (index_entry columns) (front ++ left))) h.0
      ∙ passed_by start k front left h.1

  all_left : (start : Start) (k : List ℕ) (left : List stored.Entry) (es : List Entry) → AreCoded columns left → option_map (index_entry columns) (slice_get left 0) ≡ first_from start k es
      → from_on start k (map (index_entry columns) left) ≡ map (index_entry columns) left
  all_left start k [] es coded first = refl
  all_left start k (e ∷ left) es coded first =
      let from : is_from start k (code_of columns e) ≡ true = first_is start k es (index_entry columns e) (sym first) in
      ap (λ b. if b then index_entry columns e ∷ from_on start k (map (index_entry columns) left) else from_on start k (map (index_entry columns) left)) from
      ∙ ap (λ xs. index_entry columns e ∷ xs) (each_from start k e left from coded.0)

  each_behind : (k : List ℕ) (rest : List stored.Entry) → AllByRecursion (λ (y : stored.Entry). precedes k (code_of columns y) ≡ true) rest → from_on Behind k (map (index_entry columns) rest) ≡ map (index_entry columns) rest
  each_behind k [] h = refl
  each_behind k (y ∷ rest) h =
      ap (λ b. if b then index_entry columns y ∷ from_on Behind k (map (index_entry columns) rest) else from_on Behind k (map (index_entry columns) rest)) h.0
      ∙ ap (λ es. index_entry columns y ∷ es) (each_behind k rest h.1)

  entries_behind : (front rest : List stored.Entry) (e : stored.Entry) → AreCoded columns (front ++ e ∷ rest) → from_on Behind (code_of columns e) (map (index_entry columns) (front ++ e ∷ rest)) ≡ map (index_entry columns) rest
  entries_behind [] rest e h =
      ap (λ b. if b then index_entry columns e ∷ from_on Behind (code_of columns e) (map (index_entry columns) rest) else from_on Behind (code_of columns e) (map (index_entry columns) rest)) (not_self (code_of columns e))
      ∙ each_behind (code_of columns e) rest h.0
  entries_behind (f ∷ front) rest e h =
      let before : precedes (code_of columns f) (code_of columns e) ≡ true = (each_right (λ (y : stored.Entry). precedes (code_of columns f) (code_of columns y) ≡ true) front (e ∷ rest) h.0).0 in
      ap (λ b. if b then index_entry columns f ∷ from_on Behind (code_of columns e) (map (index_entry columns) (front ++ e ∷ rest)) else from_on Behind (code_of columns e) (map (index_entry columns) (front ++ e ∷ rest))) (not_both (code_of columns f) (code_of columns e) before)
      ∙ entries_behind front rest e h.1

  heads : (rest : List stored.Entry) (es : List Entry) → es ≡ map (index_entry columns) rest → slice_get es 0 ≡ option_map (index_entry columns) (slice_get rest 0)
  heads [] es q = ap (λ (xs : List Entry). slice_get xs 0) q
  heads (r ∷ rest) es q = ap (λ (xs : List Entry). slice_get xs 0) q

tails : (x y : Entry) (xs ys : List Entry) → x ∷ xs ≡ y ∷ ys → xs ≡ ys
tails x y xs ys q = cc

same_key : (a b : Entry) → Some a ≡ Some b → a.key ≡ b.key
same_key a b q = cc

-- ---- a walk

module _ (pages : PageMap) (root rows_root : ℕ) (types : List Column) (columns : List ℕ) (rows : List stored.Entry) (h : HoldsIndexed pages root rows_root types columns rows) where
  -- a walk that begins at a code
  pub begins_ahead : (start : Start) (code : List ℕ) (n : ℕ) (ahead : List Entry) → ahead ≡ take (suc n) (from_on start code h.index.entries) → (b : HasBegun pages root rows_root types columns rows h start code (slice_get ahead 0))
      → StandsBefore columns rows ahead b.left
  begins_ahead start code n ahead q b =
      let walked = entries_walked pages root rows_root types columns rows h in
      let coded = coded_left columns (walk_of columns rows) b.stands.front b.left b.stands.whole (walk_coded pages root rows_root types columns rows h) in
      let first : option_map (index_entry columns) (slice_get b.left 0) ≡ first_from start code h.index.entries = sym b.stands.first ∙ first_taken start code n h.index.entries ahead q in
      let all : from_on start code h.index.entries ≡ map (index_entry columns) b.left =
      ap (λ (es : List Entry). from_on start code es) (walked ∙ ap (map (index_entry columns)) b.stands.whole) ∙ passed_by columns start code b.stands.front b.left b.passed
      ∙ all_left columns start code b.left h.index.entries coded first in
      record {
        stands = b.stands;
        unread = drop (suc n) (map (index_entry columns) b.left);
        are = ap (λ xs. xs ++ drop (suc n) (map (index_entry columns) b.left)) (q ∙ ap (take (suc n)) all) ∙ cut (suc n) (map (index_entry columns) b.left);
      }

  -- ---- one entry on

  -- by those that were read ahead
  pub passes_within : (ahead new : List Entry) (e : stored.Entry) (rest : List stored.Entry) → new ≡ remove ahead 0 → (new ≡ [] → ⊥) → StandsBefore columns rows ahead (e ∷ rest) → StandsBefore columns rows new rest
  passes_within [] new e rest q some s = absurd (some q)
  passes_within (x ∷ []) new e rest q some s = absurd (some q)
  passes_within (x ∷ y ∷ ys) new e rest q some s = subst (λ (xs : List Entry). StandsBefore columns rows xs rest) (sym q) (record {
    stands = record { front = s.stands.front ++ e ∷ []; whole = s.stands.whole ∙ sym (append_assoc s.stands.front (e ∷ []) rest); first = heads columns rest (y ∷ (ys ++ s.unread)) behind };
    unread = s.unread;
    are = behind;
  })
    where
      behind : y ∷ (ys ++ s.unread) ≡ map (index_entry columns) rest
      behind = tails x (index_entry columns e) (y ∷ (ys ++ s.unread)) (map (index_entry columns) rest) s.are

  -- by those that are read then
  pub passes_beyond : (entry : Entry) (e : stored.Entry) (rest : List stored.Entry) (ahead more : List Entry) (n : ℕ) → slice_get ahead 0 ≡ Some entry → more ≡ take (suc n) (from_on Behind entry.key h.index.entries)
      → StandsBefore columns rows ahead (e ∷ rest) → StandsBefore columns rows more rest
  passes_beyond entry e rest ahead more n is q s =
      let there : StandsAt columns rows (Some entry) (e ∷ rest) = subst (λ (o : Option Entry). StandsAt columns rows o (e ∷ rest)) is s.stands in
      let key : entry.key ≡ code_of columns e = same_key entry (index_entry columns e) there.first in
      let coded = subst (AreCoded columns) s.stands.whole (walk_coded pages root rows_root types columns rows h) in
      let all : from_on Behind entry.key h.index.entries ≡ map (index_entry columns) rest =
      ap (λ (k : List ℕ). from_on Behind k h.index.entries) key
      ∙ ap (λ (es : List Entry). from_on Behind (code_of columns e) es) (entries_walked pages root rows_root types columns rows h ∙ ap (map (index_entry columns)) s.stands.whole)
      ∙ entries_behind columns s.stands.front rest e coded in
      record {
        stands = stands_behind pages root rows_root types columns rows h entry e rest (slice_get more 0) there (first_taken Behind entry.key n h.index.entries more q);
        unread = drop (suc n) (map (index_entry columns) rest);
        are = ap (λ xs. xs ++ drop (suc n) (map (index_entry columns) rest)) (q ∙ ap (take (suc n)) all) ∙ cut (suc n) (map (index_entry columns) rest);
      }
