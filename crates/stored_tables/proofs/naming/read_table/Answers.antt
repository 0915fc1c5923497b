use Rattle.std.proofs.Common.{◌∙◌, ap}
use Rattle.stored_tables.specs.Named.{table_named}
use Rattle.stored_tables.proofs.naming.read_table.Goals as goal

pub returns-in-Ok-clause-found : goal.returns-in-Ok-clause-found
returns-in-Ok-clause-found g c = λ owned tables h. c.taken_out.ensures ∙ ap (table_named c.args.name.now) (c.in-Ok.ensures.found owned tables h)
