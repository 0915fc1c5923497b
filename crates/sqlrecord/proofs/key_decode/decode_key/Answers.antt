use Rattle.sqlrecord.proofs.KeyLemmas.{key_only}
use Rattle.sqlrecord.proofs.key_decode.decode_key.Goals as goal

pub returns-in-Some-clause-only : goal.returns-in-Some-clause-only
returns-in-Some-clause-only c other code = key_only _ _ _ c.in-Some.ensures code
