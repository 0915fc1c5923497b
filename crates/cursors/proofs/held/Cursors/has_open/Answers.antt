use Rattle.std.proofs.Common.{◌||◌, ap, is_some, sym, ◌∙◌}
use Rattle.cursors.specs.ByName.{unnamed_of}
use Rattle.cursors.proofs.Declarations.{any_open, none_open_shut, none_some, some_cursor}
use Rattle.cursors.proofs.held.Cursors.has_open.Goals as goal

pub returns-then-is_one_open-clause-is : goal.returns-then-is_one_open-clause-is
returns-then-is_one_open-clause-is c = λ contents.
    let open_there = any_open contents c.args.self.now.declared c.args.self.now.apart ∙ sym c.is_one_open.ensures ∙ c.if-is_one_open.true in
    c.if-is_one_open.true ∙ sym (ap (λ b. b || is_some (unnamed_of c.args.self.now contents)) open_there)

pub returns-else-is_one_open-clause-is : goal.returns-else-is_one_open-clause-is
returns-else-is_one_open-clause-is c = λ contents.
    let none_there = any_open contents c.args.self.now.declared c.args.self.now.apart ∙ sym c.is_one_open.ensures ∙ c.if-is_one_open.false in
    c.is_some.ensures ∙ sym (some_cursor c.args.self.now.unnamed contents) ∙ sym (ap (λ b. b || is_some (unnamed_of c.args.self.now contents)) none_there)

pub returns-else-is_one_open-clause-shut : goal.returns-else-is_one_open-clause-shut
returns-else-is_one_open-clause-shut c = λ shut. record {
  named = none_open_shut c.args.self.now.declared (sym c.is_one_open.ensures ∙ c.if-is_one_open.false);
  unnamed = none_some c.args.self.now.unnamed (sym c.is_some.ensures ∙ shut);
}
