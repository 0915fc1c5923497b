use Rattle.sqlrecord.proofs.KeyLemmas.{key_read}
use Rattle.sqlrecord.proofs.key_decode.read_key.Goals as goal

pub returns : goal.returns
returns c = key_read _ _ _ c.loop-at.invariant.storable c.loop-at.invariant.code c.loop-at-test.false
