use Rattle.std.proofs.Common.{arith, refl}
use Rattle.std.proofs.lemmas.List.{take_rest, length-drop}
use Rattle.sqlrecord.proofs.KeyLemmas.{key_read_more, key_read_stuck}
use Rattle.sqlrecord.proofs.key_check.is_key.Goals as goal

pub loop-at-preserved : goal.loop-at-preserved
loop-at-preserved c =
    let part = rw take_rest at c.in-Some.ensures.some in
    record {
      read = key_read_more _ _ _ c.loop-at.invariant.read part;
      within = let fits = part.part.within in let size = length-drop c.loop-at.at c.args.bytes.now in omega (arith, fits, size);
    }

pub returns-in-None-clause-none : goal.returns-in-None-clause-none
returns-in-None-clause-none c is = key_read_stuck _ _ c.loop-at.invariant.read c.loop-at-test.true (rw take_rest at (c.in-None.ensures.none refl))
