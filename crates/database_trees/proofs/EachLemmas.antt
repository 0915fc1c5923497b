-- Rows exchanged in each index of a table, one after another.
use Rattle.std.proofs.Common.{◌≡◌, ℕ, zero, suc, ◌+◌, ◌<◌, ◌≤◌, List, [], ◌∷◌, ◌++◌, length, map, take, drop, refl, sym, ap, subst, ◌∙◌, arith, append_assoc, add-one, Bool}
use Rattle.std.specs.Prelude.{slice_index_or}
use Rattle.std.proofs.lemmas.List.{map-append, length-append}
use Rattle.std.proofs.Math.Seq.{take-length}
use Rattle.std.specs.List.{AllByRecursion}
use Rattle.sqlval.specs.declared.schema.Index.{Index}
use Rattle.sqlval.specs.Value.{Row}
use Rattle.denote.specs.SchemaOf.{index_of}
use Rattle.denote.specs.Database.{IndexDeclaration}
use Rattle.store.specs.Contents.{Entry}
use Rattle.store.specs.Errors.{HasLongKey}
use Rattle.page_space.specs.Space.{PageMap}
use Rattle.btree_read.proofs.ListLemmas.{each_right}
use Rattle.index_trees.specs.Indexed.{HoldsIndex, IndexWritten}
use Rattle.btree.specs.Kept.{LosesNoPage}
use Rattle.btree.proofs.PageLossLemmas.{loses_known}
use Rattle.database_trees.specs.declared.exchange.Exchange.{Exchange}
use Rattle.database_trees.specs.Trees.{TreeAt, Lies, HoldsTrees}
use Rattle.database_trees.specs.Held.{IndexAt, indexes_declared, index_tree, trees_of_indexes}
use Rattle.database_trees.specs.Exchanged.{Exchanges, HasLongKeyIn, IsExchangeable, with_root, with_roots, AreExchangeable, AreExchanged}
use Rattle.database_trees.proofs.TreeLemmas.{trees_changed}
use Rattle.database_trees.proofs.IndexLemmas.{index_moved}

-- the first indexes have the new rows, the others those that were held
pub record Midway (alone : Bool) (new : PageMap) (before : List TreeAt) (indexes : List Index) (behind : List TreeAt) (held rows : List Entry) (i : ℕ) (roots : List ℕ) : Type 0 where
  pub done : List IndexAt
  pub left : List IndexAt
  pub count : length roots ≡ i
  pub now : indexes_declared done ≡ with_roots roots (take i indexes)
  pub rest : indexes_declared left ≡ drop i indexes
  pub trees : HoldsTrees alone new (before ++ (trees_of_indexes rows done ++ (trees_of_indexes held left ++ behind)))

abbrev pub MidwayBy : Bool → PageMap → PageMap → List Index → Exchange → ℕ → List ℕ → Type 0
MidwayBy alone old now indexes exchange i roots = (h : AreExchangeable alone old indexes exchange) → Midway alone now h.before indexes h.behind h.held (h.left ++ h.more) i roots

pub midway_first : {alone : Bool} (old : PageMap) (indexes : List Index) (exchange : Exchange) → MidwayBy alone old old indexes exchange 0 []
midway_first old indexes exchange h = record { done = []; left = h.its; count = refl; now = refl; rest = sym h.declared; trees = h.trees }

pub record FirstLeft (left : List IndexAt) (x : Index) (xs : List Index) : Type 0 where
  pub first : IndexAt
  pub others : List IndexAt
  pub is : left ≡ first ∷ others
  pub named : first.declared ≡ x
  pub rest : indexes_declared others ≡ xs

first_left : (left : List IndexAt) (x : Index) (xs : List Index) → indexes_declared left ≡ x ∷ xs → FirstLeft left x xs
first_left [] x xs e = absurd (cc)
first_left (f ∷ others) x xs e =
    let named : f.declared ≡ x = cc in
    let rest : indexes_declared others ≡ xs = cc in
    record { first = f; others = others; is = refl; named = named; rest = rest }

drop_here : (indexes : List Index) (i : ℕ) (x : Index) → i < length indexes → x ≡ slice_index_or indexes i x → drop i indexes ≡ x ∷ drop (suc i) indexes
drop_here [] i x below is = absurd (omega (arith, below))
drop_here (y ∷ indexes) zero x below is = ap (λ z. z ∷ indexes) (sym is)
drop_here (y ∷ indexes) (suc i) x below is = drop_here indexes i x (omega (arith, below)) is

roots_more : (roots : List ℕ) (indexes : List Index) (r : ℕ) (x : Index) → length roots < length indexes → x ≡ slice_index_or indexes (length roots) x
    → with_roots (roots ++ r ∷ []) (take (suc (length roots)) indexes) ≡ with_roots roots (take (length roots) indexes) ++ with_root r x ∷ []
roots_more roots [] r x below is = absurd (omega (arith, below))
roots_more [] (y ∷ indexes) r x below is = ap (λ z. with_root r z ∷ []) (sym is)
roots_more (q ∷ roots) (y ∷ indexes) r x below is = ap (λ zs. with_root q y ∷ zs) (roots_more roots indexes r x (omega (arith, below)) is)

module _ (old mid : PageMap) (indexes : List Index) (exchange : Exchange) (i : ℕ) (roots : List ℕ) (x : Index) (below : i < length indexes) (is : x ≡ slice_index_or indexes i x) where
  pub here : {alone : Bool} (h : AreExchangeable alone old indexes exchange) → (m : Midway alone mid h.before indexes h.behind h.held (h.left ++ h.more) i roots) → FirstLeft m.left x (drop (suc i) indexes)
  here h m = first_left m.left x (drop (suc i) indexes) (m.rest ∙ drop_here indexes i x below is)

  around : {alone : Bool} (h : AreExchangeable alone old indexes exchange) → (m : Midway alone mid h.before indexes h.behind h.held (h.left ++ h.more) i roots) → (f : FirstLeft m.left x (drop (suc i) indexes))
      → HoldsTrees alone mid ((h.before ++ trees_of_indexes (h.left ++ h.more) m.done) ++ index_tree h.held f.first ∷ (trees_of_indexes h.held f.others ++ h.behind))
  around {alone} h m f =
      let D : List TreeAt = trees_of_indexes (h.left ++ h.more) m.done in
      subst (HoldsTrees alone mid) (sym (append_assoc h.before D (index_tree h.held f.first ∷ (trees_of_indexes h.held f.others ++ h.behind))))
      (subst (λ (ls : List IndexAt). HoldsTrees alone mid (h.before ++ (D ++ (trees_of_indexes h.held ls ++ h.behind)))) f.is m.trees)

  pub index_here : {alone : Bool} (h : AreExchangeable alone old indexes exchange) → (m : Midway alone mid h.before indexes h.behind h.held (h.left ++ h.more) i roots) → (f : FirstLeft m.left x (drop (suc i) indexes))
      → HoldsIndex mid x.root f.first.owned x.columns h.held
  index_here h m f =
      let t = around h m f in
      subst (λ (y : Index). HoldsIndex mid y.root f.first.owned y.columns h.held) f.named
      (each_right (Lies mid) (h.before ++ trees_of_indexes (h.left ++ h.more) m.done) (index_tree h.held f.first ∷ (trees_of_indexes h.held f.others ++ h.behind)) t.each).0

  abbrev pub exchange_here : {alone : Bool} → MidwayBy alone old mid indexes exchange i roots → AreExchangeable alone old indexes exchange → IsExchangeable mid x.root x.columns exchange
  exchange_here known h =
      let m = known h in
      let f = here h m in
      record { owned = f.first.owned; held = h.held; left = h.left; more = h.more; index = index_here h m f; exchanges = h.exchanges }

  pub midway_next : {alone : Bool} (new : PageMap) (top : ℕ) → MidwayBy alone old mid indexes exchange i roots
      → ((g : IsExchangeable mid x.root x.columns exchange) → IndexWritten mid new g.owned x.columns (g.left ++ g.more) top) → LosesNoPage mid new x.root top
      → MidwayBy alone old new indexes exchange (i + 1) (roots ++ top ∷ [])
  midway_next {alone} new top known one keeps h =
      let m = known h in
      let f = here h m in
      let rows : List Entry = h.left ++ h.more in
      let D : List TreeAt = trees_of_indexes rows m.done in
      let R : List TreeAt = trees_of_indexes h.held f.others ++ h.behind in
      let w = one (exchange_here known h) in
      let now : IndexAt = record { declared = with_root top x; owned = w.now_owned } in
      let t = trees_changed mid new (h.before ++ D) R (index_tree h.held f.first) (index_tree rows now) (around h m f) w.holds (index_moved mid new f.first.owned x.columns rows top w) (loses_known _ _ _ _ f.first.owned w.now_owned _ _ keeps (index_here h m f).tree w.holds.tree) in
      let joined : (h.before ++ D) ++ index_tree rows now ∷ R ≡ h.before ++ (trees_of_indexes rows (m.done ++ now ∷ []) ++ R) =
      append_assoc h.before D (index_tree rows now ∷ R) ∙ ap (λ ts. h.before ++ ts) (sym (append_assoc D (index_tree rows now ∷ []) R) ∙ ap (λ ts. ts ++ R) (sym (map-append (index_tree rows) m.done (now ∷ [])))) in
      let less : length roots < length indexes = omega (arith, m.count, below) in
      let at : x ≡ slice_index_or indexes (length roots) x = is ∙ ap (λ k. slice_index_or indexes k x) (sym m.count) in
      record {
        done = m.done ++ now ∷ [];
        left = f.others;
        count = length-append roots (top ∷ []) ∙ ap (λ k. k + 1) m.count;
        now = map-append (λ (j : IndexAt). j.declared) m.done (now ∷ []) ∙ ap (λ ds. ds ++ with_root top x ∷ []) (m.now ∙ ap (λ k. with_roots roots (take k indexes)) (sym m.count))
            ∙ sym (roots_more roots indexes top x less at) ∙ ap (λ k. with_roots (roots ++ top ∷ []) (take k indexes)) (ap suc m.count ∙ sym (add-one i));
        rest = f.rest ∙ ap (λ k. drop k indexes) (sym (add-one i));
        trees = subst (HoldsTrees alone new) joined t;
      }

none_left : (left : List IndexAt) → indexes_declared left ≡ [] → left ≡ []
none_left [] e = refl
none_left (f ∷ left) e = absurd (cc)

drop_past : (indexes : List Index) (n : ℕ) → length indexes ≤ n → drop n indexes ≡ []
drop_past [] zero l = refl
drop_past [] (suc n) l = refl
drop_past (x ∷ indexes) zero l = absurd (omega (arith, l))
drop_past (x ∷ indexes) (suc n) l = drop_past indexes n (omega (arith, l))

pub midway_end : {alone : Bool} (old new : PageMap) (indexes : List Index) (exchange : Exchange) (i : ℕ) (roots : List ℕ) → i ≡ length indexes → MidwayBy alone old new indexes exchange i roots
    → (h : AreExchangeable alone old indexes exchange) → AreExchanged alone new h.before indexes h.behind (h.left ++ h.more) roots
midway_end {alone} old new indexes exchange i roots is known h =
    let m = known h in
    let none : m.left ≡ [] = none_left m.left (m.rest ∙ drop_past indexes i (omega (arith, is))) in
    record {
      its = m.done;
      declared = m.now ∙ ap (with_roots roots) (ap (λ k. take k indexes) is ∙ take-length indexes);
      trees = subst (λ (ls : List IndexAt). HoldsTrees alone new (h.before ++ (trees_of_indexes (h.left ++ h.more) m.done ++ (trees_of_indexes h.held ls ++ h.behind)))) none m.trees;
    }

-- ---- limits

declared_here : (indexes : List Index) (i : ℕ) (x : Index) → i < length indexes → x ≡ slice_index_or indexes i x → slice_index_or (map index_of indexes) i (index_of x) ≡ index_of x
declared_here [] i x below is = absurd (omega (arith, below))
declared_here (y ∷ indexes) zero x below is = ap index_of (sym is)
declared_here (y ∷ indexes) (suc i) x below is = declared_here indexes i x (omega (arith, below)) is

map_length : (indexes : List Index) → length (map index_of indexes) ≡ length indexes
map_length [] = refl
map_length (x ∷ indexes) = ap suc (map_length indexes)

pub long_in : (indexes : List Index) (i : ℕ) (x : Index) (rows : List Row) → i < length indexes → x ≡ slice_index_or indexes i x → HasLongKeyIn x.columns rows → HasLongKey (map index_of indexes) rows
long_in indexes i x rows below is h = record {
  row = h.row;
  index = index_of x;
  one = h.one;
  among = (i, omega (arith, below, map_length indexes), declared_here indexes i x below is);
  long = h.long;
}
