use Rattle.std.proofs.Common.{◌∙◌, sym}
use Rattle.update_delete.proofs.Keeping.{keeps-tested}
use Rattle.update_delete.proofs.harmless.may_replace.Goals as goal

pub returns-in-Ok-None-clause-sure : goal.returns-in-Ok-None-clause-sure
returns-in-Ok-None-clause-sure g c = λ reading name whole decides sure.
    let none = rw (c.in-Ok-None.field-0-is, c.from_ref.ensures.value) at (c.in-Ok-None.ensures.found reading name decides) in
    let keys = rw (c.as_slice.ensures, c.as_slice-2.ensures) at c.keep_keys.ensures in
    keeps-tested reading name c.args.table.now whole c.args.row.now c.args.new.now (sym keys ∙ c.if-keep_keys.true) none
