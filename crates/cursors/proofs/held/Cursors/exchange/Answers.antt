use Rattle.std.proofs.Common.{IsSome, List, Option, ap, refl, subst, sym, ◌∙◌}
use Rattle.cursors.specs.Apart.{are_apart}
use Rattle.cursors.specs.declared.cursor.OpenCursor.{OpenCursor}
use Rattle.cursors.specs.declared.held.Declared.{Declared}
use Rattle.cursors.specs.ByName.{AllFit, FitsIf, built, cursor_if, cursor_in, put_if, query_in, with_cursor}
use Rattle.cursors.proofs.Declarations.{apart_changed, built_changed, built_kept, declared_nowhere, declared_there, fit_at, fit_changed, get_none, got_cursor, place_first, put_found, shut_at}
use Rattle.cursors.proofs.held.Cursors.exchange.Goals as goal

pub invariant_of-self : goal.invariant_of-self
invariant_of-self c = record {
  apart = ap are_apart c.put_open.ensures.puts ∙ apart_changed (with_cursor c.args.cursor) (λ d. refl) c.in-Some.at c.args.self.now.declared ∙ c.args.self.now.apart;
}

pub returns-in-None-clause-opened : goal.returns-in-None-clause-opened
returns-in-None-clause-opened c = λ contents there.
    let nowhere = declared_nowhere c.args.name.now c.args.self.now.declared (sym c.place_of.ensures ∙ c.in-None.is) in absurd (cc)

pub returns-in-None-clause-was : goal.returns-in-None-clause-was
returns-in-None-clause-was c = λ contents. sym (get_none (cursor_in contents) c.args.name.now c.args.self.now.declared (sym c.place_of.ensures ∙ c.in-None.is))

pub returns-in-Some-clause-opened : goal.returns-in-Some-clause-opened
returns-in-Some-clause-opened c = λ contents there.
    let place = sym c.place_of.ensures ∙ c.in-Some.is in
    let first = place_first c.args.name.now c.args.self.now.declared c.in-Some.at place in
    ap (built (cursor_in contents)) c.put_open.ensures.puts
    ∙ built_changed (with_cursor c.args.cursor) (λ d. refl) (cursor_in contents) c.args.name.now c.in-Some.at c.args.self.now.declared place
    ∙ ap (put_if (built (cursor_in contents) c.args.self.now.declared) c.args.name.now)
    (put_found (λ (d : Declared). cursor_in contents (with_cursor c.args.cursor d)) (cursor_if c.args.cursor contents) c.args.name.now c.in-Some.at c.args.self.now.declared first (λ d. refl))

pub returns-in-Some-clause-was : goal.returns-in-Some-clause-was
returns-in-Some-clause-was c = λ contents.
    ap (λ (held : Option OpenCursor). cursor_if held contents) c.put_open.ensures.was
    ∙ sym (got_cursor contents c.args.name.now c.in-Some.at c.args.self.now.declared (sym c.place_of.ensures ∙ c.in-Some.is))

pub returns-in-Some-clause-declared : goal.returns-in-Some-clause-declared
returns-in-Some-clause-declared c =
    ap (built query_in) c.put_open.ensures.puts ∙ built_kept (with_cursor c.args.cursor) (λ d. refl) query_in (λ d. refl) c.in-Some.at c.args.self.now.declared

pub returns-in-Some-clause-fits : goal.returns-in-Some-clause-fits
returns-in-Some-clause-fits c = λ contents stands fits. record {
  named = subst (λ (ds : List Declared). AllFit ds contents) (sym c.put_open.ensures.puts)
      (fit_changed (with_cursor c.args.cursor) contents (λ d h. fits) c.in-Some.at c.args.self.now.declared stands.named);
  unnamed = stands.unnamed;
}

pub returns-in-Some-clause-fitted : goal.returns-in-Some-clause-fitted
returns-in-Some-clause-fitted c = λ contents stands.
    subst (λ (held : Option OpenCursor). FitsIf held contents) (sym c.put_open.ensures.was) (fit_at contents c.in-Some.at c.args.self.now.declared stands.named)

pub returns-in-Some-clause-none : goal.returns-in-Some-clause-none
returns-in-Some-clause-none c = λ shut. c.put_open.ensures.was ∙ shut_at c.in-Some.at c.args.self.now.declared shut.named

pub returns-in-Some-clause-found : goal.returns-in-Some-clause-found
returns-in-Some-clause-found c = λ there. declared_there c.args.name.now c.in-Some.at c.args.self.now.declared (sym c.place_of.ensures ∙ c.in-Some.is)
