use Rattle.std.proofs.Common.{◌≡◌, ◌∷◌, [], List, length, refl, sym, ap, subst, ◌∙◌, arith}
use Rattle.std.specs.Vec.Iter.{into_iter_items}
use Rattle.crossbeam_utils.specs.Seq.{cell_view}
use Rattle.shared.specs.declared.event.Event.{Event}
use Rattle.shared.specs.declared.rule.View.{View}
use Rattle.shared.specs.Views.{AllHeard, IsHeard, Past}
use Rattle.shared.proofs.lock.Shared.into_core.Goals as goal

nothing_left : (l : List Past) → length l ≡ 0 → l ≡ []
nothing_left [] h = refl
nothing_left (x ∷ xs) h = absurd (omega arith)

pub loop-client-init : goal.loop-client-init
loop-client-init g c =
    let gives = c.into_iter-client-iterator.ensures.into_iter_gives in
    let same = ap length gives.0 in
    (refl, c.into_parts-core.ensures.keeps, refl, omega (arith, gives.1, same), λ h. h)

pub loop-client-preserved : goal.loop-client-preserved
loop-client-preserved g c =
    let was = c.loop-client.invariant in
    let step = c.in-Some.ensures.steps in
    let h = c.hear.ensures in
    let one : Past = c.in-Some.client in
    let log = (cell_view c.into_parts-core.result.1).log in
    let heard : IsHeard log one = subst (λ (l : List Event). IsHeard l one) was.2 (record { saw = h.saw; made = h.made; idle = h.idle }) in
    let fewer = was.3 in
    let gone = step.1 in
    let short = ap length step.0 in (
      h.keeper.0 ∙ was.0,
      ap (λ (v : View). v.keeps) h.keeper.1,
      ap (λ (v : View). v.log) h.keeper.1 ∙ was.2,
      omega arith,
      λ rest. was.4 (subst (AllHeard log) (sym step.0) (heard, rest)),
    )

pub returns : goal.returns
returns g c =
    let was = c.loop-client.invariant in
    let log = (cell_view c.into_parts-core.result.1).log in
    let none : into_iter_items c.loop-client.client-iterator ≡ [] = nothing_left _ (sym was.3 ∙ c.in-None.ensures.steps.0) in
    record {
      log = log;
      heard = subst (AllHeard log) c.into_iter-client-iterator.ensures.into_iter_gives.0 (was.4 (subst (AllHeard log) (sym none) tt));
      all_of = c.into_parts-core.ensures.all_of;
      own = c.into_parts-core.ensures.own;
      counted = c.into_parts-core.ensures.device;
      live = c.into_parts-core.ensures.live;
      tells = c.into_parts-core.ensures.history;
    }
