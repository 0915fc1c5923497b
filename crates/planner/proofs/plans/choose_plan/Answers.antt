use Rattle.std.proofs.Common.{◌≡◌, [], Some}
use Rattle.algebra.specs.Listing.{reply_of, tree_listing}
use Rattle.rules.specs.Applied.{replayed}
use Rattle.planner.specs.declared.plans.Planned.{Planned}
use Rattle.planner.proofs.Parts.{ok-weaker}
use Rattle.planner.proofs.plans.choose_plan.Goals as goal

pub returns-clause-same : goal.returns-clause-same
returns-clause-same c = λ reading db good has. ok-weaker c.plan_found.result
    (λ (p : Planned) (e : replayed p.steps c.args.tree ≡ Some p.plan.tree).
    c.good_databases_fit.ensures reading db p.plan.tree c.args.tree good has
    (c.rules_keep_the_outcome.ensures.replayed p.steps c.args.tree p.plan.tree e)) c.plan_found.ensures.replays

pub returns-clause-answers : goal.returns-clause-answers
returns-clause-answers c = λ tables fits. ok-weaker c.plan_found.result
    (λ (p : Planned) (e : replayed p.steps c.args.tree ≡ Some p.plan.tree).
    c.answers_stay.ensures tables p.plan.tree c.args.tree (reply_of (tree_listing tables p.plan.tree []))
    (c.rules_keep_the_outcome.ensures.replayed p.steps c.args.tree p.plan.tree e) fits
    (c.listings_answer_in_order.ensures tables p.plan.tree)) c.plan_found.ensures.replays
