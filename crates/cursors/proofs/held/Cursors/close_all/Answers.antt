use Rattle.std.proofs.Common.{List, ap, length, refl, subst, sym, ◌∙◌}
use Rattle.cursors.specs.Apart.{are_apart}
use Rattle.cursors.specs.declared.held.Declared.{Declared}
use Rattle.cursors.specs.ByName.{AllShut, built, query_in}
use Rattle.cursors.proofs.Declarations.{apart_closed, closed_declared, closed_shut}
use Rattle.cursors.proofs.held.Cursors.close_all.Goals as goal

pub invariant_of-self : goal.invariant_of-self
invariant_of-self c = record {
  apart = ap are_apart c.close_each.ensures ∙ apart_closed (length c.args.self.now.declared) c.args.self.now.declared ∙ c.args.self.now.apart;
}

pub returns-clause-declared : goal.returns-clause-declared
returns-clause-declared c = ap (built query_in) c.close_each.ensures ∙ closed_declared (length c.args.self.now.declared) c.args.self.now.declared

pub returns-clause-shut : goal.returns-clause-shut
returns-clause-shut c = record {
  named = subst (λ (ds : List Declared). AllShut ds) (sym c.close_each.ensures) (closed_shut c.args.self.now.declared);
  unnamed = refl;
}
