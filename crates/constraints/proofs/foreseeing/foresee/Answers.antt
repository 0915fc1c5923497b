use Rattle.std.proofs.Common.{◌≡◌, ◌∙◌, refl, sym, ap, subst, [], length, Some}
use Rattle.std.proofs.lemmas.Result.{IfOk-weaker}
use Rattle.std.specs.Prelude.{Contains}
use Rattle.std.specs.FinMap.{get}
use Rattle.denote.specs.Database.{violated_by}
use Rattle.store.specs.Contents.{database_of}
use Rattle.store.specs.Indexes.{entries_of}
use Rattle.store.specs.Stored.{Stored}
use Rattle.constraints.specs.Foreseen.{Comes, has_many_more, with_more}
use Rattle.constraints.proofs.Said.{foretells-where}
use Rattle.store.specs.Going.{Going}
use Rattle.constraints.proofs.foreseeing.foresee.Goals as goal

pub returns-in-Ok-true-clause-found : goal.returns-in-Ok-true-clause-found
returns-in-Ok-true-clause-found g c = IfOk-weaker c.look_up.result _ _
    (λ foreseen h reading table sound there decided good.
    foretells-where foreseen (violated_by reading c.args.name.now table ≡ []) (violated_by reading c.args.name.now (with_more table c.args.rows.now) ≡ [])
    (λ constraint. Contains (violated_by reading c.args.name.now (with_more table c.args.rows.now)) constraint) good
    (h reading table table (with_more table c.args.rows.now) ((g.met.S.Store.goes_on_goes _ _ _ c.are_few.ensures.goes).sound sound)
    (subst (λ (s : Stored). get (database_of s.working) c.args.name.now ≡ Some table) (sym c.are_few.ensures.shows) there) decided (Comes.later refl refl refl)))
    c.look_up.ensures.found

pub returns-in-Ok-true-clause-said : goal.returns-in-Ok-true-clause-said
returns-in-Ok-true-clause-said g c = IfOk-weaker c.look_up.result _ _
    (λ foreseen h table sound there many indexed.
    h table ((g.met.S.Store.goes_on_goes _ _ _ c.are_few.ensures.goes).sound sound) (subst (λ (s : Stored). get s.working c.args.name.now ≡ Some table) (sym c.are_few.ensures.shows) there) indexed)
    c.look_up.ensures.said

pub returns-in-Ok-false-clause-said : goal.returns-in-Ok-false-clause-said
returns-in-Ok-false-clause-said g c = λ table sound there many indexed.
    let few = c.in-Ok-false.ensures.few sound ∙ ap (λ o. has_many_more (length c.args.rows.now) (entries_of o)) there ∙ many in
    cc (few, c.in-Ok-false.field-0-test)

pub returns-in-Ok-true-clause-goes : goal.returns-in-Ok-true-clause-goes
returns-in-Ok-true-clause-goes g c = g.met.S.Store.goes_on_trans _ _ _ Going.reads Going.keeps c.are_few.ensures.goes c.look_up.ensures.goes

pub returns-in-Ok-false-clause-goes : goal.returns-in-Ok-false-clause-goes
returns-in-Ok-false-clause-goes g c = g.met.S.Store.goes_on_trans _ _ _ Going.reads Going.keeps c.are_few.ensures.goes (g.met.S.Store.goes_on_refl _ Going.keeps)

pub returns-in-Err-clause-goes : goal.returns-in-Err-clause-goes
returns-in-Err-clause-goes g c = g.met.S.Store.goes_on_trans _ _ _ Going.reads Going.keeps c.are_few.ensures.goes (g.met.S.Store.goes_on_refl _ Going.keeps)
