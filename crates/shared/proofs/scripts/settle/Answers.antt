use Rattle.std.proofs.Common.{rules, arith, ◌≡◌, ◌≢◌, ℕ, ◌+◌, ◌<◌, Some, [], ◌∷◌, ◌++◌, Option, length, get_or, sym, ap, ◌∙◌, subst, slice_get}
use Rattle.std.specs.Vec.Iter.{into_iter_items, into_iter_len}
use Rattle.crossbeam_utils.specs.Seq.{cell_view}
use Rattle.shared.specs.declared.rule.View.{View}
use Rattle.shared.specs.History.{calls_by, holder_of}
use Rattle.shared.specs.Scripts.{Answers, asks, Played, texts_at}
use Rattle.shared.specs.Callers.{HasPlayed}
use Rattle.shared.specs.declared.jobs.Done.{Done}
use Rattle.shared.proofs.Asking.{each_below, each_reply, later_is}
use Rattle.shared.proofs.Counting.{answered}
use Rattle.shared.proofs.Histories.{none_stands}
use Rattle.shared.proofs.Limits.{limits_answered}
use Rattle.shared.proofs.scripts.settle.Goals as goal

pub loop-one-preserved : goal.loop-one-preserved
loop-one-preserved g c =
    let was = c.loop-one.invariant in
    let step = c.in-Some.ensures.steps in
    let done = length c.loop-one.replies.items in
    let one = c.in-Some.one in
    let first = into_iter_items c.into_iter-one-iterator.result in
    let log = (cell_view c.into_parts-core.result.1).log in
    let P : ℕ → Answers → Type 0 = λ k answers. Played (texts_at c.args.scripts.now k) (calls_by k log) answers.items in
    let later : (k : ℕ) (d : Option (Done g.row.J.Denot)) → k < into_iter_len c.next.new.self → get_or (into_iter_items c.next.new.self) k d ≡ get_or first (done + 1 + k) d = λ k d below. later_is _ _ first one done k d step.0 (was.4 (k + 1) d (omega (arith, below, step.1))) in
    let next : one ≡ get_or first done one = let h = was.4 0 one in grind rules in
    let began = c.into_iter-one-iterator.ensures.into_iter_gives in
    let left : 0 < into_iter_len c.loop-one.one-iterator = search rules in
    let less : done < length c.args.done.items = omega (arith, was.3, began.1, left) in
    let there : HasPlayed c.args.scripts.now done one = subst (HasPlayed c.args.scripts.now done) (sym (next ∙ ap (λ l. get_or l done one) began.0)) (c.requires.done.1 done one less) in
    let played = subst (HasPlayed c.args.scripts.now done) c.in-Some-one.is there in
    let h = c.hear.ensures in
    let who : c.in-Some-one.field-0.client.who ≡ done = search rules in
    let said : Played (texts_at c.args.scripts.now done) c.in-Some-one.field-0.client.mine c.in-Some-one.answers.items = search rules in
    let new : P done c.in-Some-one.answers = (ap asks (ap (λ n. calls_by n log) (sym who) ∙ ap (calls_by c.in-Some-one.field-0.client.who) (sym was.2) ∙ h.made) ∙ said.0, said.1, said.2) in
    let Idle : ℕ → Type 0 = λ k. (id : ℕ) → holder_of id log ≢ Some k in
    let grown : length c.push.new.self.items ≡ done + 1 = search rules in
    let pushed : c.push.new.self.items ≡ c.loop-one.replies.items ++ c.in-Some-one.answers ∷ [] = search rules in (
      h.keeper.0 ∙ was.0,
      ap (λ (v : View). v.keeps) h.keeper.1,
      ap (λ (v : View). v.log) h.keeper.1 ∙ was.2,
      search rules,
      (λ k d below. later k d below ∙ ap (λ n. get_or first (n + k) d) (sym grown)),
      subst (λ l. (k : ℕ) (b : Answers) → slice_get l k ≡ Some b → P k b) (sym pushed) (each_reply P c.loop-one.replies.items c.in-Some-one.answers was.5 new),
      each_below Idle done (length c.push.new.self.items) grown was.6 (λ id held. h.idle id (ap (λ l. holder_of id l) was.2 ∙ held ∙ ap Some (sym who))),
    )

pub returns : goal.returns
returns g c =
    let was = c.loop-one.invariant in
    let held = c.into_parts-core.ensures in
    let none : into_iter_len c.loop-one.one-iterator ≡ 0 = search rules in
    let began = c.into_iter-one-iterator.ensures.into_iter_gives in
    let all : length c.loop-one.replies.items ≡ length c.args.scripts.now = omega (arith, was.3, began.1, none, c.requires.done.0) in
    record {
      history = record {
        log = (cell_view c.into_parts-core.result.1).log;
        all_of = held.all_of (length c.args.scripts.now) c.requires.limit;
        own = held.own;
        all = all;
        each = was.5;
        tells = held.history;
      };
      counted = held.device;
      none_left = λ id. held.live id
          ∙ none_stands (length c.args.scripts.now) (cell_view c.into_parts-core.result.1).log (held.all_of (length c.args.scripts.now) c.requires.limit)
          (λ k less. was.6 k (omega (arith, less, all))) id;
      device = λ k answers is.
          answered g.J.Room.refused _ (texts_at c.args.scripts.now k) k (cell_view c.into_parts-core.result.1).log answers.items (was.5 k answers is) held.device.told;
      limits = λ k answers is. limits_answered (texts_at c.args.scripts.now k) k (cell_view c.into_parts-core.result.1).log answers.items (was.5 k answers is) held.device.limits;
    }
