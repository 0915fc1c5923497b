use Rattle.std.proofs.Common.{rules}
use Rattle.csvio.proofs.Quoted.{next_spelled}
use Rattle.csvio.proofs.record.quoted.Goals as goal

pub loop-character-preserved : goal.loop-character-preserved
loop-character-preserved c =
    next_spelled _ _ c.spelled.result.now c.args.text.now _ c.loop-character.character-index 0 (search rules) c.spelled.ensures (search rules) c.loop-character.invariant
