use Rattle.std.proofs.Common.{sym, subst, List}
use Rattle.sqlval.specs.Value.{Row}
use Rattle.store.specs.Contents.{database_of}
use Rattle.constraints.specs.Settled.{AreAmong}
use Rattle.update_delete.proofs.new_rows.settle_new.Goals as goal

pub returns-in-Err-clause-refused : goal.returns-in-Err-clause-refused
returns-in-Err-clause-refused g c = λ reading sound decided among.
    let one = rw c.in-Some.is at among in
    c.in-Err.ensures.refused reading sound decided
    (subst (λ (rows : List Row). AreAmong (database_of (g.S.Store.shows c.args.store.now).working) c.args.name.now rows) (sym c.as_slice.ensures) one)

pub returns-in-Err-settle_unless-clause-refused : goal.returns-in-Err-settle_unless-clause-refused
returns-in-Err-settle_unless-clause-refused g c = λ reading sound decided among. c.in-Err-settle_unless.ensures.refused reading sound decided
