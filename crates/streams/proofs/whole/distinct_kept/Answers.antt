use Rattle.std.proofs.Common.{◌≡◌, Bool, ap, ◌∙◌, ◌≤◌, arith}
use Rattle.std.specs.Prelude.{filter, not}
use Rattle.std.specs.List.{list_any}
use Rattle.sqlval.specs.Value.{Row}
use Rattle.algebra.specs.Listing.{first_only}
use Rattle.denote.specs.Bag.{are_alike}
use Rattle.denote.specs.Outcome.{Outcome}
use Rattle.executor.specs.Reply.{as_list, outcome_of}
use Rattle.places.specs.Left.{unseen}
use Rattle.streams.proofs.Nodes.{kept-left}
use Rattle.streams.proofs.ReadNodes.{read_kept}
use Rattle.streams.proofs.whole.distinct_kept.Goals as goal

pub returns-clause-rows : goal.returns-clause-rows
returns-clause-rows c = λ entries tree meant h.
    let given = c.args.given in
    let fault = c.in-Ok-distinct_listed.listed.fault in
    let test : Row → Bool = λ row. not (list_any (λ (other : Row). are_alike other row) given) in
    let here : outcome_of c.in-Ok.part ≡ meant = rw c.in-Ok.is at h in
    let rows = rw c.as_slice.ensures at c.in-Ok-unseen_rows.ensures in
    rw c.new.ensures (kept-left entries tree c.into_iter.result c.in-Ok-unseen_rows.rows fault _
    (c.into_iter.ensures.rest ∙ c.into_vec.ensures)
    (ap (λ zs. record { rows = zs; faults = as_list fault }) rows
    ∙ ap (λ (o : Outcome). record { rows = filter test o.rows; faults = o.faults }) c.in-Ok-distinct_listed.ensures.lists.ok
    ∙ ap (λ (o : Outcome). record { rows = unseen given o.rows; faults = first_only o.faults }) here))

pub returns-clause-reads : goal.returns-clause-reads
returns-clause-reads c = λ entries tree count limit h.
    let le : count ≤ limit = rw c.in-Ok.is at h in
    omega (arith, le, read_kept entries c.into_iter.result c.in-Ok-distinct_listed.listed.fault tree)
