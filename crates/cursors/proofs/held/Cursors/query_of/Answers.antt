use Rattle.std.proofs.Common.{sym, ◌∙◌}
use Rattle.cursors.specs.ByName.{query_in}
use Rattle.cursors.proofs.Declarations.{found_got, found_none, get_first, get_none}
use Rattle.cursors.proofs.held.Cursors.query_of.Goals as goal

pub returns-in-None : goal.returns-in-None
returns-in-None c = sym (get_none query_in c.args.name.now c.args.self.now.declared (sym c.place_of.ensures ∙ c.in-None.is))

pub returns-in-None-get : goal.returns-in-None-get
returns-in-None-get c =
    sym (get_first query_in c.args.name.now c.args.self.now.declared c.in-Some.at (sym c.place_of.ensures ∙ c.in-Some.is)
    ∙ found_none query_in c.in-Some.at c.args.self.now.declared (sym c.in-None-get.ensures.value))

pub returns-in-Some-get : goal.returns-in-Some-get
returns-in-Some-get c =
    sym (get_first query_in c.args.name.now c.args.self.now.declared c.in-Some.at (sym c.place_of.ensures ∙ c.in-Some.is)
    ∙ found_got query_in c.in-Some.at c.args.self.now.declared c.in-Some-get.entry.now (sym c.in-Some-get.ensures.value))
