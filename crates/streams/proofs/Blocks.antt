-- Lists that are given in blocks.
use Rattle.std.specs.Prelude.{filter}
use Rattle.std.proofs.Common.{◌≡◌, refl, sym, ap, ◌∙◌, Bool, true, false, List, [], ◌∷◌, ◌++◌, Option, Some, None, Result, Ok, Err, IfOk, append_assoc, append-nil}
use Rattle.sqlval.specs.Value.{Row}
use Rattle.algebra.specs.Listing.{end_by, in_order, onwards, then_list}
use Rattle.denote.specs.declared.fault.Fault.{Fault}
use Rattle.denote.specs.Outcome.{Outcome}
use Rattle.executor.specs.Reply.{as_list, ending, outcome_of}
use Rattle.places.specs.declared.place.Members.{Members}
use Rattle.std.specs.Option.{option_to_list}
use Rattle.algebra.specs.declared.tree.Tree.{Tree}
use Rattle.places.specs.declared.place.Place.{Place}
use Rattle.places.specs.Left.{Entries, before, left, members_listed, no_more}
use Rattle.places.proofs.Blocks.{then-assoc, in_order-append}

-- a list that was given whole, and what comes after it
given-whole : (made : Outcome) (kept : List Row) (next : Outcome)
    → record { rows = kept; faults = [] } ≡ then_list made (ending None)
    → then_list made next ≡ before kept next
given-whole made kept next h = go made.rows made.faults h
  where
    go : (rows : List Row) (faults : List Fault)
        → record { rows = kept; faults = [] } ≡ then_list (record { rows = rows; faults = faults }) (ending None)
        → then_list (record { rows = rows; faults = faults }) next ≡ before kept next
    go rows [] e = ap (λ zs. before zs next) (sym (append-nil rows) ∙ sym (ap (λ (o : Outcome). o.rows) e))
    go rows (fault ∷ faults) e = absurd (nonempty (ap (λ (o : Outcome). o.faults) e))
      where
        nonempty : [] ≡ fault ∷ [] → ⊥
        nonempty f = absurd (cc)

-- and one that a fault ended
given-ended : (made : Outcome) (kept : List Row) (fault : Fault) (next : Outcome)
    → record { rows = kept; faults = fault ∷ [] } ≡ then_list made (ending None)
    → then_list made next ≡ record { rows = kept; faults = fault ∷ [] }
given-ended made kept fault next h = go made.rows made.faults h
  where
    go : (rows : List Row) (faults : List Fault)
        → record { rows = kept; faults = fault ∷ [] } ≡ then_list (record { rows = rows; faults = faults }) (ending None)
        → then_list (record { rows = rows; faults = faults }) next ≡ record { rows = kept; faults = fault ∷ [] }
    go rows [] e = absurd (empty (ap (λ (o : Outcome). o.faults) e))
      where
        empty : fault ∷ [] ≡ [] → ⊥
        empty f = absurd (cc)
    go rows (f ∷ faults) e = sym e

onwards-block : (list : Row → Outcome) (given : List Row) (rest : Outcome)
    → onwards (before given rest) (in_order list) ≡ then_list (in_order list given) (onwards rest (in_order list))
onwards-block list given rest =
    ap (λ o. then_list o (end_by rest.faults)) (in_order-append list given rest.rows)
    ∙ then-assoc (in_order list given) (in_order list rest.rows) (end_by rest.faults)

-- of a block whose rows all were listed
pub block-goes_on : (list : Row → Outcome) (given kept : List Row) (rest : Outcome)
    → record { rows = kept; faults = [] } ≡ then_list (in_order list given) (ending None)
    → before kept (onwards rest (in_order list)) ≡ onwards (before given rest) (in_order list)
block-goes_on list given kept rest h =
    sym (onwards-block list given rest ∙ given-whole (in_order list given) kept (onwards rest (in_order list)) h)

-- and of one with a fault
pub block-ends : (list : Row → Outcome) (given kept : List Row) (fault : Fault) (rest : Outcome)
    → record { rows = kept; faults = fault ∷ [] } ≡ then_list (in_order list given) (ending None)
    → before kept (no_more (Some fault)) ≡ onwards (before given rest) (in_order list)
block-ends list given kept fault rest h =
    ap (λ zs. record { rows = zs; faults = fault ∷ [] }) (append-nil kept)
    ∙ sym (onwards-block list given rest ∙ given-ended (in_order list given) kept fault (onwards rest (in_order list)) h)

-- no rows before a list
pub no-rows : (rest : Outcome) → before [] rest ≡ rest
no-rows rest = refl

-- rows before a list that goes on
pub before-then : (rows : List Row) (first next : Outcome) → then_list (before rows first) next ≡ before rows (then_list first next)
before-then rows first next = ap (λ zs. record { rows = zs; faults = (then_list first next).faults }) (append_assoc rows first.rows _)

pub before-before : (xs ys : List Row) (rest : Outcome) → before (xs ++ ys) rest ≡ before xs (before ys rest)
before-before xs ys rest = ap (λ zs. record { rows = zs; faults = rest.faults }) (append_assoc xs ys rest.rows)

pub same-ending : (fault : Option Fault) → as_list fault ≡ option_to_list fault
same-ending None = refl
same-ending (Some fault) = refl

-- a place that was made, known by what it is
pub place-is : {E : Type 0} (entries : Entries) (tree : Tree) (next : Result Place E) (q : Place) (whole : Outcome)
    → IfOk next (λ place. place ≡ q) → left entries q tree ≡ whole
    → IfOk next (λ place. left entries place tree ≡ whole)
place-is entries tree (Ok place) q whole h e = ap (λ (z : Place). left entries z tree) h ∙ e
place-is entries tree (Err error) q whole h e = tt

-- members as they are listed
pub same-members : (members : Members) (rows : List Row) (fault : Option Fault) → members.rows ≡ rows → members.fault ≡ fault
    → record { rows = rows; faults = as_list fault } ≡ members_listed members
same-members members rows fault r f = (λ i. record { rows = sym r i; faults = as_list (sym f i) })
    ∙ ap (λ faults. record { rows = members.rows; faults = faults }) (same-ending members.fault)

-- of members with these rows and this fault
pub alike-members : (members others : Members) → members.rows ≡ others.rows → members.fault ≡ others.fault
    → members_listed members ≡ members_listed others
alike-members members others r f = λ i. record { rows = r i; faults = option_to_list (f i) }

-- ---- a filter of one row more

pub kept-next : (test : Row → Bool) (found : List Row) (row : Row) (rest : List Row) → test row ≡ true
    → found ++ filter test (row ∷ rest) ≡ (found ++ row ∷ []) ++ filter test rest
kept-next test found row rest e = rw e (sym (append_assoc found (row ∷ []) (filter test rest)))

pub left-next : (test : Row → Bool) (found : List Row) (row : Row) (rest : List Row) → test row ≡ false
    → found ++ filter test (row ∷ rest) ≡ found ++ filter test rest
left-next test found row rest e = rw e refl
