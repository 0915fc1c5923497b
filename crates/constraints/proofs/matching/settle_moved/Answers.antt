use Rattle.std.proofs.Common.{◌≡◌, sym, ◌∙◌, subst, List, Option}
use Rattle.std.specs.Prelude.{IfSome}
use Rattle.std.proofs.lemmas.Result.{on_ok_weaker, IfErr-weaker}
use Rattle.sqlval.specs.Value.{Row}
use Rattle.denote_laws.specs.Difference.{Differs}
use Rattle.store.specs.Contents.{database_of}
use Rattle.constraints.specs.declared.matching.Moved.{Moved}
use Rattle.constraints.specs.Matched.{MovedAll}
use Rattle.constraints.specs.Settled.{AreAmong}
use Rattle.constraints.proofs.Matched.{end-matched, end-may-go}
use Rattle.constraints.proofs.matching.settle_moved.Goals as goal

pub returns-in-Some-clause-holds : goal.returns-in-Some-clause-holds
returns-in-Some-clause-holds g c =
    let db = database_of (g.S.Store.shows c.args.store.now).working in
    on_ok_weaker c.settle_matches.result
    (λ h reading old came gone sound good differs moved holds.
    let same = subst (λ (o : Option Moved). MovedAll db c.args.name.now came gone o) c.in-Some.is moved in
    let came_all : c.as_slice.result.now ≡ came = c.as_slice.ensures ∙ same.0 in
    let gone_all : c.as_slice-in-Some.result.now ≡ gone = c.as_slice-in-Some.ensures ∙ same.1 in
    h reading old sound good
    (subst (λ (rows : List Row). Differs old db c.args.name.now rows c.as_slice-in-Some.result.now) (sym came_all)
    (subst (λ (rows : List Row). Differs old db c.args.name.now came rows) (sym gone_all) differs)) holds)
    c.settle_matches.ensures.holds

pub returns-in-Some-clause-refused : goal.returns-in-Some-clause-refused
returns-in-Some-clause-refused g c =
    let db = database_of (g.S.Store.shows c.args.store.now).working in
    IfErr-weaker c.settle_matches.result _ _
    (λ refusal h reading sound among.
    h reading sound (subst (AreAmong db c.args.name.now) (sym c.as_slice.ensures) (subst (λ (o : Option Moved). IfSome o (λ m. AreAmong db c.args.name.now m.came)) c.in-Some.is among)))
    c.settle_matches.ensures.refused

pub returns-in-None-clause-holds : goal.returns-in-None-clause-holds
returns-in-None-clause-holds g c = λ reading old came gone sound good differs none holds.
    let db = database_of (g.S.Store.shows c.args.store.now).working in
    let away = subst (λ (o : Option Moved). MovedAll db c.args.name.now came gone o) c.in-None.is none in
    c.what_comes_and_goes_decides.ensures reading old db c.args.name.now came gone good differs holds
    (end-matched c.args.name.now db came away) (end-may-go c.args.name.now db gone away)
