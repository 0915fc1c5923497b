use Rattle.std.proofs.Common.{◌∙◌, ℕ, List, [], ◌∷◌, ◌++◌, Bool, sym, ap, subst}
use Rattle.std.specs.Prelude.{if◌then◌else◌}
use Rattle.store.specs.View.{AreEntries, entry_of}
use Rattle.stored_tables.proofs.RefusalLemmas.{read_harm}
use Rattle.index_lookups.specs.Sought.{is_wanted, is_past}
use Rattle.index_lookups.specs.Walked.{HoldsNoIndexed, NoneStandsBefore}
use Rattle.index_lookups.proofs.StandLemmas.{ended_past, step_on, rest_of, split_first, stands_first}
use Rattle.index_lookups.proofs.walking.go_on.Goals as goal

pub returns-then-is_past-clause-stepped : goal.returns-then-is_past-clause-stepped
returns-then-is_past-clause-stepped g c = λ rows left list h s first are.
    ended_past (g.R.PageReader.pages c.args.space.now) c.args.place.now.root c.args.place.now.rows_root c.args.place.now.types c.args.place.now.columns rows h c.args.sought left list c.args.walk.now (entry_of c.args.row) s first are
    (ap (λ (columns : List ℕ). is_past c.args.sought columns (entry_of c.args.row)) (sym c.as_slice.ensures) ∙ sym c.if-is_past.ensures)

pub returns-in_ok-put_if-in-Ok-clause-stepped : goal.returns-in_ok-put_if-in-Ok-clause-stepped
returns-in_ok-put_if-in-Ok-clause-stepped g c = λ rows left list h s first are.
    let e = entry_of c.args.row in
    let rest = rest_of left e first in
    let q = split_first left e first in
    step_on c.args.place.now.columns rows (is_wanted c.args.sought c.args.place.now.columns) e rest list left _ q
    (c.in-Ok.ensures.stands rows rest e h (stands_first c.args.place.now.columns rows left c.args.walk.now.ahead e rest q s))
    (subst (λ (b : Bool). AreEntries c.put_if.new.found (list ++ (if b then e ∷ [] else [])))
    (c.is_wanted-is_one.ensures ∙ ap (λ (columns : List ℕ). is_wanted c.args.sought columns e) c.as_slice-in-Ok.ensures)
    (c.in_ok-put_if-in-Ok.ensures.puts list are))

pub returns-in-Err-clause-refusal : goal.returns-in-Err-clause-refusal
returns-in-Err-clause-refusal g c =
    read_harm c.in-Err.fault (HoldsNoIndexed (g.R.PageReader.pages c.args.space.now) c.args.place.now.root c.args.place.now.rows_root c.args.place.now.types c.args.place.now.columns) (NoneStandsBefore (g.R.PageReader.pages c.args.space.now) c.args.place.now.root c.args.place.now.rows_root c.args.place.now.types c.args.place.now.columns c.args.walk.now.ahead)
    (g.R.PageReader.refused c.args.space.now) (g.R.PageReader.refused c.pass.new.space) (λ none rows left h s. none rows h) c.in-Err.ensures.refusal

pub returns-then-is_past-clause-typed : goal.returns-then-is_past-clause-typed
returns-then-is_past-clause-typed g c = λ h one. h

pub returns-in_ok-put_if-in-Ok-clause-typed : goal.returns-in_ok-put_if-in-Ok-clause-typed
returns-in_ok-put_if-in-Ok-clause-typed g c = λ h one. c.in_ok-put_if-in-Ok.ensures.typed c.args.place.now.types h one
