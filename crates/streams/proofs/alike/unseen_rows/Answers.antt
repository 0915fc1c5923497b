use Rattle.std.proofs.Common.{◌≡◌, ◌∷◌, Bool, true, false, ap, sym, ◌∙◌, rules}
use Rattle.std.specs.Prelude.{not}
use Rattle.std.specs.List.{list_any}
use Rattle.sqlval.specs.Value.{Row}
use Rattle.denote.specs.Bag.{are_alike}
use Rattle.streams.proofs.Blocks.{kept-next, left-next}
use Rattle.streams.proofs.alike.unseen_rows.Goals as goal

pub loop-row-preserved : goal.loop-row-preserved
loop-row-preserved c =
    let test : Row → Bool = λ row. not (list_any (λ (other : Row). are_alike other row) c.args.seen.now) in
    let moved : c.loop-row.row-iterator.rest.items ≡ c.in-Some.row ∷ c.next.new.self.rest.items = search rules in
    let found : c.is_among.result ≡ true = search rules in
    let kept : test c.in-Some.row ≡ false = ap not (rw c.as_slice.ensures at (sym c.is_among.ensures ∙ found)) in
    sym (left-next test c.loop-row.found c.in-Some.row c.next.new.self.rest.items kept) ∙ rw moved at c.loop-row.invariant

pub loop-row-preserved-in-Continue-1 : goal.loop-row-preserved-in-Continue-1
loop-row-preserved-in-Continue-1 c =
    let test : Row → Bool = λ row. not (list_any (λ (other : Row). are_alike other row) c.args.seen.now) in
    let moved : c.loop-row.row-iterator.rest.items ≡ c.in-Some.row ∷ c.next.new.self.rest.items = search rules in
    let found : c.is_among.result ≡ false = search rules in
    let kept : test c.in-Some.row ≡ true = ap not (rw c.as_slice.ensures at (sym c.is_among.ensures ∙ found)) in
    rw c.in_ok-push.ensures.ok (sym (kept-next test c.loop-row.found c.in-Some.row c.next.new.self.rest.items kept) ∙ rw moved at c.loop-row.invariant)
