-- Steps of plans of one table that is scanned: which plans these are, their places, and what is
-- read.
use Rattle.std.proofs.Common.{◌≡◌, ◌≤◌, ◌+◌, refl, sym, ap, ◌∙◌, subst, suc, ℕ, Bool, true, false, List, [], ◌∷◌, ◌++◌, length, map, take, drop, min, Option, Some, None, Result, Ok, Err, IfOk, rules, arith, inl, inr}
use Rattle.std.proofs.lemmas.List.{length-take}
use Rattle.std.specs.Option.{option_to_list}
use Rattle.sqlval.specs.declared.truth.Truth.{Truth}
use Rattle.sqlval.specs.declared.truth.Truth.TheVariants.{True}
use Rattle.sqlval.specs.declared.value.Value.{Value}
use Rattle.sqlval.specs.Value.{Row}
use Rattle.typing.specs.declared.typed.OrderKey.{OrderKey}
use Rattle.typing.specs.declared.typed.SetOperation.{SetOperation}
use Rattle.algebra.specs.declared.tree.Bound.{Bound}
use Rattle.algebra.specs.declared.tree.Condition.{Condition}
use Rattle.algebra.specs.declared.tree.Expression.{Expression}
use Rattle.algebra.specs.declared.tree.Expression.{the_lemmas as tree_lemmas}
use Rattle.algebra.specs.declared.tree.SetFunction.{SetFunction}
use Rattle.algebra.specs.declared.tree.StoredTable.{StoredTable}
use Rattle.algebra.specs.declared.tree.Tree.{Tree}
use Rattle.algebra.specs.declared.tree.Tree.TheVariants as t
use Rattle.algebra.specs.Listing.{ended, end_by, first_only, in_order, row_by_row, then_list, unless_ended}
use Rattle.denote.specs.declared.fault.Fault.{Fault}
use Rattle.denote.specs.Condition.{ConditionMeaning}
use Rattle.denote.specs.Evaluation.{Env, Evaluation, ◌>>=◌}
use Rattle.denote.specs.Expression.{ExpressionMeaning}
use Rattle.denote.specs.From.{kept_row, only_true}
use Rattle.denote.specs.Outcome.{Outcome}
use Rattle.denote.specs.Select.{shown_row, values_of}
use Rattle.executor.specs.Reply.{as_list, ending, outcome_of}
use Rattle.executor.specs.declared.listed.Listed.{Listed}
use Rattle.store.specs.Contents.{Entry, rows_of}
use Rattle.store.specs.View.{counted_on}
use Rattle.places.specs.declared.place.Place.{Place, Place-F, out-Place, map-Place, fold_out-Place, the_lemmas}
use Rattle.places.specs.declared.place.Place.TheVariants as p
use Rattle.places.specs.Left.{Entries}
use Rattle.places.specs.Views.{Layer, above, above_in, below, below_in, is_whole, last_number, number_in, whole_in}
use Rattle.places.proofs.Layers.{below_through, whole_through}
use Rattle.streams.specs.Ahead.{ReadsAhead, WalksOn, fault_in, fault_of, is_over_scan, walks, walks_at}
use Rattle.streams.specs.Numbers.{after_number, last_of}
use Rattle.streams.specs.Reads.{IsReadByNumber, to_read}
use Rattle.streams.proofs.ReadNodes.{read_ended, read_whole}
use Rattle.streams.proofs.TableReads.{both-lengths, length-map, lengths}

-- ---- which plans

pub over_filter : (condition : Condition) (rows : Tree) → is_over_scan (t.Filter condition rows) ≡ is_over_scan rows
unfolding is_over_scan
over_filter condition rows = search (rules, tree_lemmas)

pub over_project : (items : List Expression) (rows : Tree) → is_over_scan (t.Project items rows) ≡ is_over_scan rows
unfolding is_over_scan
over_project items rows = search (rules, tree_lemmas)

pub over_group : (columns : Option (List ℕ)) (functions : List SetFunction) (rows : Tree)
    → is_over_scan (t.Group columns functions rows) ≡ false
unfolding is_over_scan
over_group columns functions rows = search (rules, tree_lemmas)

pub over_distinct : (rows : Tree) → is_over_scan (t.Distinct rows) ≡ false
unfolding is_over_scan
over_distinct rows = search (rules, tree_lemmas)

pub over_sort : (keys : List OrderKey) (rows : Tree) → is_over_scan (t.Sort keys rows) ≡ false
unfolding is_over_scan
over_sort keys rows = search (rules, tree_lemmas)

pub over_set : (op : SetOperation) (l r : Tree) → is_over_scan (t.Set op l r) ≡ false
unfolding is_over_scan
over_set op l r = search (rules, tree_lemmas)

pub over_seek : (table : StoredTable) (columns : List ℕ) (key : List Value) → is_over_scan (t.Seek table columns key) ≡ false
unfolding is_over_scan
over_seek table columns key = search (rules, tree_lemmas)

pub over_range : (table : StoredTable) (columns : List ℕ) (low high : Option Bound)
    → is_over_scan (t.Range table columns low high) ≡ false
unfolding is_over_scan
over_range table columns low high = search (rules, tree_lemmas)

pub over_hash : (on : Condition) (l r : Tree) (places columns : List ℕ)
    → is_over_scan (t.HashJoin on l r places columns) ≡ false
unfolding is_over_scan
over_hash on l r places columns = search (rules, tree_lemmas)

pub over_member : (operand : Expression) (is_negated : Bool) (members rows : Tree)
    → is_over_scan (t.Member operand is_negated members rows) ≡ false
unfolding is_over_scan
over_member operand is_negated members rows = search (rules, tree_lemmas)

pub over_product : (l r : Tree) → is_over_scan (t.Product l r) ≡ false
unfolding is_over_scan
over_product l r = search (rules, tree_lemmas)

pub over_inner : (on : Condition) (l r : Tree) → is_over_scan (t.Inner on l r) ≡ false
unfolding is_over_scan
over_inner on l r = search (rules, tree_lemmas)

pub over_left : (on : Condition) (l r : Tree) (width : ℕ) → is_over_scan (t.Left on l r width) ≡ false
unfolding is_over_scan
over_left on l r width = search (rules, tree_lemmas)

pub over_half : (on : Condition) (l r : Tree) → is_over_scan (t.Half on l r) ≡ false
unfolding is_over_scan
over_half on l r = search (rules, tree_lemmas)

pub over_opposite : (on : Condition) (l r : Tree) → is_over_scan (t.OppositeHalf on l r) ≡ false
unfolding is_over_scan
over_opposite on l r = search (rules, tree_lemmas)

pub over_loop : (on : Condition) (l : Tree) (places : List ℕ) (table : StoredTable) (columns : List ℕ)
    → is_over_scan (t.IndexLoop on l places table columns) ≡ false
unfolding is_over_scan
over_loop on l places table columns = search (rules, tree_lemmas)

-- ---- places

walks_opened : (place : Place) → walks place ≡ walks_at (map-Place _ _ walks (out-Place place))
unfolding walks
walks_opened place = fold_out-Place _ walks_at place

pub walks_start : walks p.Start ≡ true
unfolding walks
walks_start = search (rules, the_lemmas)

walks_through : (inner : Place) → walks (p.Through inner) ≡ walks inner
unfolding walks
walks_through inner = search (rules, the_lemmas)

pub walks_not_whole : (place : Place) → walks place ≡ true → is_whole place ≡ false
walks_not_whole place w = go (out-Place place) (sym (walks_opened place) ∙ w)
  where
    go : (y : Layer) → walks_at (map-Place _ _ walks y) ≡ true → whole_in y ≡ false
    go (Place-F.Kept rows fault) e = absurd (cc)
    go (Place-F.Ended fault) e = absurd (cc)
    go _ e = refl

pub walks_below : (place : Place) → walks place ≡ true → walks (below place) ≡ true
walks_below place w = go (out-Place place) (sym (walks_opened place) ∙ w)
  where
    go : (y : Layer) → walks_at (map-Place _ _ walks y) ≡ true → walks (below_in y) ≡ true
    go (Place-F.Kept rows fault) e = absurd (cc)
    go (Place-F.Ended fault) e = absurd (cc)
    go (Place-F.Through q) e = e
    go _ e = walks_start

walks_at_number : (place : Place) (number : ℕ) → last_number place ≡ Some number → walks place ≡ true
walks_at_number place number is = walks_opened place ∙ go (out-Place place) is
  where
    go : (y : Layer) → number_in y ≡ Some number → walks_at (map-Place _ _ walks y) ≡ true
    go (Place-F.After n) e = refl
    go _ e = absurd (cc)

pub no_fault : (place : Place) → is_whole place ≡ false → fault_of place ≡ None
no_fault place goes = go (out-Place place) goes
  where
    go : (y : Layer) → whole_in y ≡ false → fault_in y ≡ None
    go (Place-F.Ended fault) e = absurd (cc)
    go _ e = refl

pub fault_ended : (fault : Option Fault) → fault_of (p.Ended fault) ≡ fault
fault_ended fault = search (rules, the_lemmas)

above_ended : (fault : Option Fault) → above (p.Ended fault) ≡ p.Ended fault
above_ended fault = search (rules, the_lemmas)

-- the place above one
fault_above : (inner : Place) → fault_of (above inner) ≡ fault_of inner
fault_above inner = go (out-Place inner)
  where
    go : (y : Layer) → fault_of (above_in y inner) ≡ fault_in y
    go (Place-F.Ended fault) = fault_ended fault
    go _ = no_fault (p.Through inner) (whole_through inner)

walks_above : (inner : Place) → WalksOn inner → WalksOn (above inner)
walks_above inner (inl w) = go (out-Place inner) (sym (walks_opened inner) ∙ w)
  where
    go : (y : Layer) → walks_at (map-Place _ _ walks y) ≡ true → WalksOn (above_in y inner)
    go (Place-F.Ended fault) e = absurd (cc)
    go _ e = inl (walks_through inner ∙ w)
walks_above inner (inr is) = inr (is.0, ap above is.1 ∙ above_ended is.0)

-- behind a block of rows that was full
pub walks_behind : (after : Option ℕ) (numbers : List ℕ) (next : Place) → 1 ≤ length numbers
    → last_number next ≡ last_of after numbers → walks next ≡ true
walks_behind after [] next some last = absurd (omega (arith, some))
walks_behind after (number ∷ []) next some last = walks_at_number next number last
walks_behind after (number ∷ other ∷ rest) next some last = walks_behind (Some number) (other ∷ rest) next (omega arith) last

-- ---- a block of a table

-- all rows of a block were read, and it is what was asked for at most
pub block_ahead : (shown : Entries) (tree : Tree) (entries : List Entry) → IsReadByNumber shown tree entries
    → (place next : Place) (rows : List Row) (most was count : ℕ) → is_whole place ≡ false
    → rows ≡ rows_of (take most (after_number (last_number place) entries))
    → to_read shown next tree ≡ length (drop most (after_number (last_number place) entries))
    → count ≡ counted_on was (length rows) → WalksOn next → fault_of next ≡ None
    → ReadsAhead shown tree (to_read shown place tree) was count most rows next
block_ahead shown tree entries is place next rows most was count goes r n counts on none =
    let found = after_number (last_number place) entries in
    let same : length rows ≡ length (take most found) =
    ap (λ (zs : List Row). length zs) r ∙ length-map (λ (e : Entry). e.1) (take most found) in
    let both : length (take most found) + length (drop most found) ≡ length found = both-lengths most found in
    let old : to_read shown place tree ≡ length found = is place goes in
    let faults : length (option_to_list (fault_of next)) ≡ 0 = ap (λ f. length (option_to_list f)) none in
    record {
      read = length rows;
      exact = same ∙ length-take most found ∙ ap (min most) (sym old);
      counted = counts;
      gives = omega (arith, faults);
      left = λ h. omega (arith, same, both, old, n);
      goes_on = on;
    }

-- ---- what is made of each row

-- at most one row, or the fault
abbrev AtMostOne : (Row → Outcome) → Type 0
AtMostOne list = (row : Row) → length (list row).rows + length (list row).faults ≤ 1

pub kept_at_most_one : (condition : ConditionMeaning) (env : Env) → AtMostOne (λ row. ended (kept_row condition env row))
kept_at_most_one condition env row = go (condition (row ∷ env))
  where
    one : (truth : Truth) → length (only_true truth row) ≤ 1
    one True = omega arith
    one _ = omega arith

    go : (made : Evaluation Truth) → length (ended (made >>= (λ truth. Ok (only_true truth row)))).rows
        + length (ended (made >>= (λ truth. Ok (only_true truth row)))).faults ≤ 1
    go (Ok truth) = let le = one truth in omega (arith, le)
    go (Err []) = omega arith
    go (Err (fault ∷ faults)) = omega arith

pub shown_at_most_one : (items : List ExpressionMeaning) (env : Env) → AtMostOne (λ row. ended (shown_row items env row))
shown_at_most_one items env row = go (values_of items (row ∷ env))
  where
    go : (made : Evaluation Row) → length (ended (made >>= (λ values. Ok (values ∷ [])))).rows
        + length (ended (made >>= (λ values. Ok (values ∷ [])))).faults ≤ 1
    go (Ok values) = omega arith
    go (Err []) = omega arith
    go (Err (fault ∷ faults)) = omega arith

-- of two lists, one after the other
joined_lengths : (first next : Outcome) (most : ℕ) → length first.rows + length first.faults ≤ 1
    → length next.rows + length next.faults ≤ most
    → length (then_list first next).rows + length (then_list first next).faults ≤ suc most
joined_lengths first next most one few = go first.rows first.faults one
  where
    go : (rows : List Row) (faults : List Fault) → length rows + length faults ≤ 1
        → length (rows ++ (unless_ended faults next).rows) + length (unless_ended faults next).faults ≤ suc most
    go rows [] le = let both = lengths rows next.rows in omega (arith, le, few, both)
    go rows (fault ∷ faults) le = let both = lengths rows [] in omega (arith, le, both)

in_order_lengths : (list : Row → Outcome) → AtMostOne list → (rows : List Row)
    → length (in_order list rows).rows + length (in_order list rows).faults ≤ length rows
in_order_lengths list one [] = omega arith
in_order_lengths list one (row ∷ rows) =
    joined_lengths (list row) (in_order list rows) (length rows) (one row) (in_order_lengths list one rows)

-- and so of what was listed of a block
pub listed_lengths : (list : Row → Outcome) → AtMostOne list → (given : List Row) (listed : Listed)
    → outcome_of listed ≡ then_list (in_order list given) (ending None)
    → length listed.rows + length (as_list listed.fault) ≤ length given
listed_lengths list one given listed is =
    let made = in_order list given in
    let rows : length listed.rows ≡ length (then_list made (ending None)).rows = ap (λ (o : Outcome). length o.rows) is in
    let faults : length (as_list listed.fault) ≡ length (then_list made (ending None)).faults =
    ap (λ (o : Outcome). length o.faults) is in
    let le = go made.rows made.faults in
    let few = in_order_lengths list one given in
    omega (arith, rows, faults, le, few)
  where
    go : (rows : List Row) (faults : List Fault)
        → length (rows ++ (unless_ended faults (ending None)).rows) + length (unless_ended faults (ending None)).faults
        ≤ length rows + length faults
    go rows [] = let both = lengths rows [] in omega (arith, both)
    go rows (fault ∷ faults) = let both = lengths rows [] in omega (arith, both)

-- ---- of rows that were read ahead

-- at the place above
pub ahead_above : (entries : Entries) (tree below_it : Tree)
    → ((place : Place) → is_whole place ≡ false → to_read entries place tree ≡ to_read entries (below place) below_it)
    → (to_come was count most : ℕ) (rows : List Row) (inner : Place)
    → ReadsAhead entries below_it to_come was count most rows inner
    → ReadsAhead entries tree to_come was count most rows (above inner)
ahead_above entries tree below_it law to_come was count most rows inner ahead =
    let faults : length (option_to_list (fault_of (above inner))) ≡ length (option_to_list (fault_of inner)) =
    ap (λ f. length (option_to_list f)) (fault_above inner) in
    let gives = ahead.gives in
    let same : to_read entries (above inner) tree ≡ to_read entries inner below_it = go (out-Place inner) refl in
    record {
      read = ahead.read;
      exact = ahead.exact;
      counted = ahead.counted;
      gives = omega (arith, faults, gives);
      left = λ none. let all = ahead.left (sym (fault_above inner) ∙ none) in omega (arith, same, all);
      goes_on = walks_above inner ahead.goes_on;
    }
  where
    go : (y : Layer) → whole_in (out-Place inner) ≡ whole_in y
        → to_read entries (above_in y inner) tree ≡ to_read entries inner below_it
    go (Place-F.Ended fault) e = read_ended entries fault tree ∙ sym (read_whole entries inner below_it e)
    go _ e = law (p.Through inner) (whole_through inner) ∙ ap (λ q. to_read entries q below_it) (below_through inner)

-- of a block fewer rows are given on
pub ahead_fewer : (entries : Entries) (tree : Tree) (to_come was count most : ℕ) (given rows : List Row) (next : Place)
    → ReadsAhead entries tree to_come was count most given next → length rows ≤ length given
    → ReadsAhead entries tree to_come was count most rows next
ahead_fewer entries tree to_come was count most given rows next ahead few =
    let gives = ahead.gives in
    record {
      read = ahead.read;
      exact = ahead.exact;
      counted = ahead.counted;
      gives = omega (arith, gives, few);
      left = ahead.left;
      goes_on = ahead.goes_on;
    }

-- or a fault ends the list
pub ahead_ended : (entries : Entries) (tree below_it : Tree) (to_come was count most : ℕ) (given rows : List Row)
    (inner : Place) (fault : Fault)
    → ReadsAhead entries below_it to_come was count most given inner → length rows + 1 ≤ length given
    → ReadsAhead entries tree to_come was count most rows (p.Ended (Some fault))
ahead_ended entries tree below_it to_come was count most given rows inner fault ahead few =
    let gives = ahead.gives in
    let faults : length (option_to_list (fault_of (p.Ended (Some fault)))) ≡ 1 =
    ap (λ f. length (option_to_list f)) (fault_ended (Some fault)) in
    record {
      read = ahead.read;
      exact = ahead.exact;
      counted = ahead.counted;
      gives = omega (arith, gives, few, faults);
      left = λ none. absurd (some_fault (sym (fault_ended (Some fault)) ∙ none));
      goes_on = inr (Some fault, refl);
    }
  where
    some_fault : Some fault ≡ None → ⊥
    some_fault h = absurd (cc)

-- at a place that was made, known by what it is
pub ahead_placed : {E : Type 0} (entries : Entries) (tree : Tree) (to_come was count most : ℕ) (rows : List Row)
    (made : Result Place E) (place : Place) → IfOk made (λ one. one ≡ place)
    → ReadsAhead entries tree to_come was count most rows place
    → IfOk made (ReadsAhead entries tree to_come was count most rows)
ahead_placed entries tree to_come was count most rows (Ok one) place is ahead =
    subst (λ (q : Place). ReadsAhead entries tree to_come was count most rows q) (sym is) ahead
ahead_placed entries tree to_come was count most rows (Err error) place is ahead = tt
