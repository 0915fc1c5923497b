use Rattle.std.proofs.Common.{List, None, Option, Some, ap, arith, inl, inr, refl, subst, sym, ◌∙◌}
use Rattle.ast.specs.declared.statement.OrderedQuery.{OrderedQuery}
use Rattle.cursors.specs.Apart.{are_apart}
use Rattle.cursors.specs.declared.held.Declared.{Declared}
use Rattle.cursors.specs.ByName.{AllFit, AllShut, built, cursor_in, put_if, query_in, with_query}
use Rattle.cursors.proofs.Declarations.{apart_changed, apart_if_pushed, built_changed, built_kept, built_pushed, declared_nowhere, declared_there, fit_changed, fit_pushed, get_none, len_declared, place_first, put_found, removed_none, shut_changed, shut_pushed}
use Rattle.cursors.proofs.held.Cursors.declare.Goals as goal

pub invariant_of-self : goal.invariant_of-self
invariant_of-self c = record {
  apart = ap are_apart c.put_query.ensures ∙ apart_changed (with_query c.args.query) (λ d. refl) c.in-Some.at c.args.self.now.declared ∙ c.args.self.now.apart;
}

pub returns-then-len-ge-MOST_CURSORS-clause-refused : goal.returns-then-len-ge-MOST_CURSORS-clause-refused
returns-then-len-ge-MOST_CURSORS-clause-refused c =
    let all = len_declared c.args.self.now.declared c.args.self.now.apart in
    inr (
      refl,
      declared_nowhere c.args.name c.args.self.now.declared (sym c.place_of.ensures ∙ c.in-None.is),
      omega (arith, all, c.len.ensures, c.if-len-ge-MOST_CURSORS.true),
    )

pub invariant_of-self-in-None : goal.invariant_of-self-in-None
invariant_of-self-in-None c = record {
  apart = apart_if_pushed c.push.result _ c.args.self.now.declared _ c.push.ensures.ok c.push.ensures.err c.args.self.now.apart (sym c.place_of.ensures ∙ c.in-None.is);
}

pub returns-in-Some-clause-declares : goal.returns-in-Some-clause-declares
returns-in-Some-clause-declares c =
    let place = sym c.place_of.ensures ∙ c.in-Some.is in
    let first = place_first c.args.name c.args.self.now.declared c.in-Some.at place in
    ap (built query_in) c.put_query.ensures
    ∙ built_changed (with_query c.args.query) (λ d. refl) query_in c.args.name c.in-Some.at c.args.self.now.declared place
    ∙ ap (put_if (built query_in c.args.self.now.declared) c.args.name)
    (put_found (λ (d : Declared). query_in (with_query c.args.query d)) (Some c.args.query) c.args.name c.in-Some.at c.args.self.now.declared first (λ d. refl))

pub returns-in-Some-clause-room : goal.returns-in-Some-clause-room
returns-in-Some-clause-room c = inl (declared_there c.args.name c.in-Some.at c.args.self.now.declared (sym c.place_of.ensures ∙ c.in-Some.is))

pub returns-in-Some-clause-opened : goal.returns-in-Some-clause-opened
returns-in-Some-clause-opened c = λ contents.
    ap (built (cursor_in contents)) c.put_query.ensures
    ∙ built_kept (with_query c.args.query) (λ d. refl) (cursor_in contents) (λ d. refl) c.in-Some.at c.args.self.now.declared

pub returns-in-Some-clause-fits : goal.returns-in-Some-clause-fits
returns-in-Some-clause-fits c = λ contents stands. record {
  named = subst (λ (ds : List Declared). AllFit ds contents) (sym c.put_query.ensures)
      (fit_changed (with_query c.args.query) contents (λ d h. h) c.in-Some.at c.args.self.now.declared stands.named);
  unnamed = stands.unnamed;
}

pub returns-in-Some-clause-shut : goal.returns-in-Some-clause-shut
returns-in-Some-clause-shut c = λ shut. record {
  named = subst (λ (ds : List Declared). AllShut ds) (sym c.put_query.ensures)
      (shut_changed (with_query c.args.query) (λ d e. e) c.in-Some.at c.args.self.now.declared shut.named);
  unnamed = shut.unnamed;
}

pub returns-in-Ok-clause-declares : goal.returns-in-Ok-clause-declares
returns-in-Ok-clause-declares c =
    ap (built query_in) c.in-Ok.ensures.ok ∙ built_pushed query_in _ c.args.self.now.declared (sym c.place_of.ensures ∙ c.in-None.is)

pub returns-in-Ok-clause-room : goal.returns-in-Ok-clause-room
returns-in-Ok-clause-room c =
    let all = len_declared c.args.self.now.declared c.args.self.now.apart in
    inr (omega (arith, all, c.len.ensures, c.if-len-ge-MOST_CURSORS.false))

pub returns-in-Ok-clause-opened : goal.returns-in-Ok-clause-opened
returns-in-Ok-clause-opened c = λ contents.
    let none = sym c.place_of.ensures ∙ c.in-None.is in
    ap (built (cursor_in contents)) c.in-Ok.ensures.ok ∙ built_pushed (cursor_in contents) _ c.args.self.now.declared none
    ∙ removed_none (built (cursor_in contents) c.args.self.now.declared) c.args.name (get_none (cursor_in contents) c.args.name c.args.self.now.declared none)

pub returns-in-Ok-clause-fits : goal.returns-in-Ok-clause-fits
returns-in-Ok-clause-fits c = λ contents stands. record {
  named = subst (λ (ds : List Declared). AllFit ds contents) (sym c.in-Ok.ensures.ok) (fit_pushed _ contents c.args.self.now.declared tt stands.named);
  unnamed = stands.unnamed;
}

pub returns-in-Ok-clause-shut : goal.returns-in-Ok-clause-shut
returns-in-Ok-clause-shut c = λ shut. record {
  named = subst (λ (ds : List Declared). AllShut ds) (sym c.in-Ok.ensures.ok) (shut_pushed _ c.args.self.now.declared refl shut.named);
  unnamed = shut.unnamed;
}
