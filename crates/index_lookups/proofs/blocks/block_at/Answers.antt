use Rattle.std.proofs.Common.{List, Option, Bor, IfOk, sym, subst}
use Rattle.std.specs.Option.{option_map}
use Rattle.store.specs.declared.rows.Position.{Position as At}
use Rattle.store.specs.Contents as stored
use Rattle.store.specs.View.{AreEntries, position_of}
use Rattle.index_lookups.specs.Begun.{block_within}
use Rattle.index_lookups.proofs.StandLemmas.{first_block_is}
use Rattle.index_lookups.proofs.blocks.block_at.Goals as goal

pub returns-in-Some-clause-rows : goal.returns-in-Some-clause-rows
returns-in-Some-clause-rows g c = λ rows h.
    subst (λ (a : Option (Bor At)). IfOk c.block_behind.result (λ found. AreEntries found (block_within c.args.low.now c.args.high.now c.args.place.now.columns rows (option_map (λ (q : Bor At). position_of q.now) a) c.args.most))) (sym c.in-Some.is)
    (c.block_behind.ensures.rows rows h)

pub returns-in-None-clause-rows : goal.returns-in-None-clause-rows
returns-in-None-clause-rows g c = λ rows h.
    subst (λ (a : Option (Bor At)). IfOk c.first_block.result (λ found. AreEntries found (block_within c.args.low.now c.args.high.now c.args.place.now.columns rows (option_map (λ (q : Bor At). position_of q.now) a) c.args.most))) (sym c.in-None.is)
    (subst (λ (xs : List stored.Entry). IfOk c.first_block.result (λ found. AreEntries found xs)) (first_block_is c.args.low.now c.args.high.now c.args.place.now.columns rows c.args.most) (c.first_block.ensures.rows rows h))

pub returns-in-Some-clause-typed : goal.returns-in-Some-clause-typed
returns-in-Some-clause-typed g c = c.block_behind.ensures.typed

pub returns-in-None-clause-typed : goal.returns-in-None-clause-typed
returns-in-None-clause-typed g c = c.first_block.ensures.typed
