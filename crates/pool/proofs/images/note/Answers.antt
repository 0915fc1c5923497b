use Rattle.std.proofs.Common.{◌≡◌, ◌==◌, ◌+◌, true, [], ap, sym, subst, ◌∙◌, arith, below_more, get_or}
use Rattle.std.specs.List.{list_any}
use Rattle.pool.specs.Images.{covers}
use Rattle.pool.proofs.NoteLemmas.{number_of}
use Rattle.pool.proofs.ReadyLemmas.{grows_then}
use Rattle.pool.proofs.images.note.Goals as goal

pub loop-pin-preserved : goal.loop-pin-preserved
loop-pin-preserved c =
    let inv = c.loop-pin.invariant in
    let step = c.note_pin.ensures in
    record {
      place = ap (λ k. k + 1) inv.place;
      grows = grows_then _ _ _ inv.grows step.grows;
      noted = below_more _ _ (λ k less none. step.grows k c.args.page (inv.noted k less none))
          (λ none. subst (λ k. list_any (λ m. m == c.args.page) (get_or c.note_pin.new.touched k []) ≡ true) inv.place
          (c.in_ok-note_pin.ensures.noted (ap (λ v. covers v c.args.images.now) (sym (number_of c.args.pins.now c.loop-pin.pin-index)) ∙ none)));
      len = step.len ∙ inv.len;
    }

pub returns-in_err-note_pin-clause-grows : goal.returns-in_err-note_pin-clause-grows
returns-in_err-note_pin-clause-grows c = grows_then _ _ _ c.loop-pin.invariant.grows c.note_pin.ensures.grows

pub returns-clause-noted : goal.returns-clause-noted
returns-clause-noted c = λ k less. c.loop-pin.invariant.noted k (omega arith)
