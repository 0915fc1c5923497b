-- Lists that are given in blocks.
use Rattle.std.proofs.Common.{Result, Ok, Err, IfOk, ◌≡◌, List, [], ◌∷◌, ◌++◌, refl, sym, ap, ◌∙◌, append_assoc, append-nil}
use Rattle.sqlval.specs.Value.{Row}
use Rattle.denote.specs.declared.fault.Fault.{Fault}
use Rattle.denote.specs.Outcome.{Outcome}
use Rattle.algebra.specs.Listing.{then_list, in_order}

pub then-assoc : (a b c : Outcome) → then_list (then_list a b) c ≡ then_list a (then_list b c)
then-assoc a b c = go a.rows a.faults
  where
    go : (rows : List Row) (faults : List Fault)
        → then_list (then_list (record { rows = rows; faults = faults }) b) c
        ≡ then_list (record { rows = rows; faults = faults }) (then_list b c)
    go rows [] = ap (λ zs. record { rows = zs; faults = (then_list b c).faults }) (append_assoc rows b.rows _)
    go rows (fault ∷ faults) = ap (λ zs. record { rows = zs; faults = fault ∷ [] }) (append-nil (rows ++ []))

pub in_order-append : (list : Row → Outcome) (xs ys : List Row)
    → in_order list (xs ++ ys) ≡ then_list (in_order list xs) (in_order list ys)
in_order-append list [] ys = refl
in_order-append list (x ∷ xs) ys = ap (λ o. then_list (list x) o) (in_order-append list xs ys)
    ∙ sym (then-assoc (list x) (in_order list xs) (in_order list ys))

-- an equation of what was made, passed on
pub IfOk-same : {A E : Type 0} (made : Result A E) (f : A → Outcome) (x : Outcome) {y : Outcome}
    → IfOk made (λ found. f found ≡ x) → x ≡ y → IfOk made (λ found. f found ≡ y)
IfOk-same (Ok a) f x h e = h ∙ e
IfOk-same (Err e) f x h p = tt
