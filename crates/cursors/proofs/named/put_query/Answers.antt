use Rattle.std.proofs.Common.{sym}
use Rattle.cursors.specs.ByName.{with_query}
use Rattle.cursors.proofs.Declarations.{changed_none, changed_set}
use Rattle.cursors.proofs.named.put_query.Goals as goal

pub returns-in-Some : goal.returns-in-Some
returns-in-Some c = changed_set (with_query c.args.query) c.args.at c.args.declared.now c.in-Some.entry.now (sym c.in-Some.ensures.value)

pub returns-in-None : goal.returns-in-None
returns-in-None c = sym (changed_none (with_query c.args.query) c.args.at c.args.declared.now (sym c.in-None.ensures.value))
