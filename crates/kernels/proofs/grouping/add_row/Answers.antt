use Rattle.std.proofs.Common.{◌≡◌, sym, ap, ◌∙◌, subst, List, [], ◌∷◌, ◌++◌}
use Rattle.std.proofs.lemmas.Result.{IfOk-weaker}
use Rattle.kernels.specs.declared.groups.Group.{Group}
use Rattle.kernels.specs.Adding.{Numbers, put_at, add_place}
use Rattle.kernels.proofs.Growing.{put-add, new-add, Numbers-put, Numbers-push}
use Rattle.kernels.proofs.grouping.add_row.Goals as goal

pub returns-in-Some-clause-added : goal.returns-in-Some-clause-added
returns-in-Some-clause-added c = λ h.
    IfOk-weaker c.put_place.result (λ _. c.put_place.new.groups ≡ put_at c.in-Some.number c.args.place c.args.groups.now)
    (λ _. c.put_place.new.groups ≡ add_place c.args.key.now c.args.place c.args.groups.now)
    (λ _ e. e ∙ put-add c.args.key.now c.args.place c.in-Some.number c.args.groups.now (sym (c.in-Some.ensures ∙ h.numbers (record { digest = c.row_digest.result; values = c.args.key }) c.row_digest.ensures))) c.put_place.ensures

pub returns-in-Some-clause-numbered : goal.returns-in-Some-clause-numbered
returns-in-Some-clause-numbered c = λ h.
    IfOk-weaker c.put_place.result (λ _. c.put_place.new.groups ≡ put_at c.in-Some.number c.args.place c.args.groups.now)
    (λ _. Numbers c.args.numbers.now c.put_place.new.groups)
    (λ _ e. subst (λ (gs : List Group). Numbers c.args.numbers.now gs) (sym e) (Numbers-put c.args.numbers.now c.in-Some.number c.args.place c.args.groups.now h)) c.put_place.ensures

pub returns-in_ok-insert-in-None-clause-added : goal.returns-in_ok-insert-in-None-clause-added
returns-in_ok-insert-in-None-clause-added c = λ h.
    let k = c.in_ok-key-in-None.ensures in
    let ps = c.in_ok-push-in-None.ensures.ok ∙ ap (λ zs. zs ++ c.args.place ∷ []) c.new-places.ensures in
    c.in_ok-push-in-None-2.ensures.ok ∙ (λ i. c.args.groups.now ++ (record { key = k i; places = ps i }) ∷ [])
    ∙ new-add c.args.key.now c.args.place c.args.groups.now (sym (c.in-None.ensures ∙ h.numbers (record { digest = c.row_digest.result; values = c.args.key }) c.row_digest.ensures))

pub returns-in_ok-insert-in-None-clause-numbered : goal.returns-in_ok-insert-in-None-clause-numbered
returns-in_ok-insert-in-None-clause-numbered c = λ h.
    subst (λ (gs : List Group). Numbers c.insert.new.self gs) (sym c.in_ok-push-in-None-2.ensures.ok)
    (Numbers-push c.args.numbers.now c.insert.new.self (record { digest = c.row_digest.result; values = c.args.key }) (record { key = c.in_ok-key-in-None.key; places = c.push.new.self }) c.args.groups.now c.len-number.result
    c.row_digest.ensures h c.in_ok-key-in-None.ensures c.len-number.ensures (sym (c.in-None.ensures ∙ h.numbers (record { digest = c.row_digest.result; values = c.args.key }) c.row_digest.ensures)) c.in_ok-insert-in-None.ensures.updates)
