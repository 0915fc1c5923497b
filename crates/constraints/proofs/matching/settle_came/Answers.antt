use Rattle.std.proofs.Common.{◌≡◌, sym, ◌∙◌, subst, List, [], Option}
use Rattle.std.specs.Prelude.{IfSome}
use Rattle.std.proofs.lemmas.Result.{on_ok_weaker, IfErr-weaker}
use Rattle.sqlval.specs.Value.{Row}
use Rattle.denote.specs.Database.{rows_in}
use Rattle.denote_laws.specs.Difference.{Differs}
use Rattle.store.specs.Contents.{database_of}
use Rattle.constraints.specs.Matched.{CameAll}
use Rattle.constraints.specs.Settled.{AreAmong}
use Rattle.constraints.proofs.Matched.{no-keys, none-may-go}
use Rattle.constraints.proofs.matching.settle_came.Goals as goal

pub returns-in-Some-clause-holds : goal.returns-in-Some-clause-holds
returns-in-Some-clause-holds g c =
    let db = database_of (g.S.Store.shows c.args.store.now).working in
    on_ok_weaker c.settle_matches.result
    (λ h reading old rows sound good differs same holds.
    let all : c.as_slice.result.now ≡ rows = c.as_slice.ensures ∙ subst (λ (o : Option (List Row)). CameAll db c.args.name.now rows o) c.in-Some.is same in
    h reading old sound good (subst (λ (came : List Row). Differs old db c.args.name.now came []) (sym all) differs) holds)
    c.settle_matches.ensures.holds

pub returns-in-Some-clause-refused : goal.returns-in-Some-clause-refused
returns-in-Some-clause-refused g c =
    let db = database_of (g.S.Store.shows c.args.store.now).working in
    IfErr-weaker c.settle_matches.result _ _
    (λ refusal h reading sound among.
    h reading sound (subst (AreAmong db c.args.name.now) (sym c.as_slice.ensures) (subst (λ (o : Option (List Row)). IfSome o (AreAmong db c.args.name.now)) c.in-Some.is among)))
    c.settle_matches.ensures.refused

pub returns-in-None-clause-holds : goal.returns-in-None-clause-holds
returns-in-None-clause-holds g c = λ reading old rows sound good differs none holds.
    let db = database_of (g.S.Store.shows c.args.store.now).working in
    let away = subst (λ (o : Option (List Row)). CameAll db c.args.name.now rows o) c.in-None.is none in
    c.what_comes_and_goes_decides.ensures reading old db c.args.name.now rows [] good differs holds
    (λ table there. no-keys (rows_in db) table.constraints rows (away table there))
    (λ other table there. none-may-go c.args.name.now (rows_in db c.args.name.now) table.rows table.constraints)
