use Rattle.std.proofs.Common.{ℕ, Option, IfOk, filter, sym, subst}
use Rattle.sqlval.specs.Matching.{matches}
use Rattle.store.specs.Contents as stored
use Rattle.store.specs.Indexes.{some_after}
use Rattle.store.specs.View.{AreEntries}
use Rattle.index_lookups.proofs.blocks.sought_at.Goals as goal

pub returns-in-Some-clause-rows : goal.returns-in-Some-clause-rows
returns-in-Some-clause-rows g c = λ rows h.
    subst (λ (a : Option ℕ). IfOk c.sought_above.result (λ found. AreEntries found (some_after a c.args.most (filter (λ (e : stored.Entry). matches c.args.place.now.columns c.args.key.now e.1) rows)))) (sym c.in-Some.is)
    (c.sought_above.ensures.rows rows h)

pub returns-in-None-clause-rows : goal.returns-in-None-clause-rows
returns-in-None-clause-rows g c = λ rows h.
    subst (λ (a : Option ℕ). IfOk c.first_sought.result (λ found. AreEntries found (some_after a c.args.most (filter (λ (e : stored.Entry). matches c.args.place.now.columns c.args.key.now e.1) rows)))) (sym c.in-None.is)
    (c.first_sought.ensures.rows rows h)

pub returns-in-Some-clause-typed : goal.returns-in-Some-clause-typed
returns-in-Some-clause-typed g c = c.sought_above.ensures.typed

pub returns-in-None-clause-typed : goal.returns-in-None-clause-typed
returns-in-None-clause-typed g c = c.first_sought.ensures.typed
