use Rattle.std.proofs.Common.{◌≡◌, sym, ◌∙◌, [], ◌∷◌, ◌++◌, slice_set}
use Rattle.std.proofs.lemmas.Result.{IfOk-weaker}
use Rattle.kernels.specs.Adding.{put_at}
use Rattle.kernels.proofs.Growing.{set-put, none-put}
use Rattle.kernels.proofs.grouping.put_place.Goals as goal

pub returns-in-Some : goal.returns-in-Some
returns-in-Some c =
    let groups = c.args.groups.now in
    let group = c.in-Some.group.now in
    IfOk-weaker c.push.result (λ _. c.push.new.self ≡ group.places ++ c.args.place ∷ [])
    (λ _. slice_set groups c.args.number (record { key = group.key; places = c.push.new.self }) ≡ put_at c.args.number c.args.place groups)
    (λ _ e. (λ i. slice_set groups c.args.number (record { key = group.key; places = e i })) ∙ set-put groups c.args.number c.args.place group (sym c.in-Some.ensures.value)) c.push.ensures.ok

pub returns-in-None : goal.returns-in-None
returns-in-None c = none-put c.args.groups.now c.args.number c.args.place (sym c.in-None.ensures.value)
