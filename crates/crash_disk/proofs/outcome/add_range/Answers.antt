use Rattle.std.proofs.Common.{◌≡◌, ◌∙◌, ◌++◌, ◌∷◌, [], ap}
use Rattle.crash_disk.specs.declared.outcome.Outcome.{Outcome}
use Rattle.crash_disk.specs.Outcomes.{newest}
use Rattle.crash_disk.proofs.AddedLemmas.{added}
use Rattle.crash_disk.proofs.outcome.add_range.Goals as goal

pub returns-clause-ok : goal.returns-clause-ok
returns-clause-ok c =
    let was : c.latest.result.now ≡ newest c.args.first.now c.args.later.now.items = c.latest.ensures ∙ ap (newest c.args.first.now) c.as_slice.ensures.value in
    added c.add.result c.args.first.now c.args.later.now.items c.add.new.later.items c.in_ok-next.next (c.args.from, c.args.to) c.args.len c.add.ensures.ok
    (c.in_ok-next.ensures.synced ∙ ap (λ (o : Outcome). o.synced.items) was)
    (c.in_ok-next.ensures.ranges ∙ ap (λ (o : Outcome). o.ranges.items ++ (c.args.from, c.args.to) ∷ []) was)
    (c.in_ok-next.ensures.lengths ∙ ap (λ (o : Outcome). o.lengths.items ++ c.args.len ∷ []) was)
