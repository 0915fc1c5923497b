use Rattle.std.proofs.Common.{refl, None}
use Rattle.std.proofs.lemmas.Result.{err_from_is_err_and}
use Rattle.btree_read.proofs.NodeLemmas.{harm_weaker}
use Rattle.btree_read.proofs.LeafLemmas.{found_all, links_seen, not_ended, no_linked_no_tree, nothing_under_zero}
use Rattle.btree_read.proofs.whole.scan.Goals as goal

pub returns-then-root-eq0-clause-links : goal.returns-then-root-eq0-clause-links
returns-then-root-eq0-clause-links g c = nothing_under_zero _ _ _ (λ n h. g.met.R.PageReader.bounded _ n h) c.if-root-eq0.true

pub returns-in_err-scan_below-clause-refusal : goal.returns-in_err-scan_below-clause-refusal
returns-in_err-scan_below-clause-refusal g c =
    let p = err_from_is_err_and c.from_residual.result c.from_residual.ensures.1 in
    rw (p.1, p.2) (harm_weaker _ _ _ _ _ (no_linked_no_tree _ _ (record { entries = c.new-entries.result; named = None }) (λ n h. g.met.R.PageReader.bounded _ n h) c.if-root-eq0.false refl) c.in_err-scan_below.ensures.refusal)

pub returns-then-not-has_ended-clause-refusal : goal.returns-then-not-has_ended-clause-refusal
returns-then-not-has_ended-clause-refusal g c =
    not_ended _ _ (record { entries = c.new-entries.result; named = None }) c.scan_below.new.walk c.if-root-eq0.false refl (c.has_ended.ensures.other c.if-not-has_ended.true) c.in_ok-scan_below.ensures.sees

pub returns-clause-found : goal.returns-clause-found
returns-clause-found g c = λ owned entries w. found_all _ _ (record { entries = c.new-entries.result; named = None }) c.scan_below.new.walk c.if-root-eq0.false c.new-entries.ensures c.in_ok-scan_below.ensures.sees owned entries w

pub returns-clause-links : goal.returns-clause-links
returns-clause-links g c = links_seen _ _ (record { entries = c.new-entries.result; named = None }) c.scan_below.new.walk c.new-entries.ensures refl (c.has_ended.ensures.yes c.if-not-has_ended.false) c.in_ok-scan_below.ensures.sees
