use Rattle.std.proofs.Common.{◌∙◌, ◌∷◌, ℕ, List, map, sym, ap, subst}
use Rattle.transfers.specs.Words.{AsksCommand, AsksTransfer}
use Rattle.transfers.proofs.AskedForms.{form_once}
use Rattle.transfers.proofs.words.transfer_asked.Goals as goal

pub returns-clause-asked : goal.returns-clause-asked
returns-clause-asked g c = λ form way file table csv asks.
    let text = g.S.AsStr.text in
    let command = c.in-Some-split_first.command.now in
    let options = c.in-Some-split_first.options.now in
    let names = c.behind-plain.result.1.now in
    let words = ap (map text) (c.in-Some.ensures.cases.0 ∙ ap (λ ws. c.in-Some._name.now ∷ ws) c.in-Some-split_first.ensures.cases.0) in
    let h = subst (λ (ws : List (List ℕ)). AsksTransfer ws form way file table csv) words asks in
    let one = form_once (map text options) form h.0 (map text c.behind-header.result.1.now) (map text names) c.behind-header.result.0 c.behind-plain.result.0 h.1 c.behind-header.ensures c.behind-plain.ensures in
    let behind = subst (λ (rest : List (List ℕ)). AsksCommand (text command) rest way file table csv) one.1 h.2 in
    let spelled = subst (λ (word : List ℕ). AsksCommand word (map text names) way file table csv) (sym c.as_str.ensures) behind in
    rw one.0 (c.formed.ensures.asked way file table csv (c.command_asked.ensures.asked way file table csv spelled))
