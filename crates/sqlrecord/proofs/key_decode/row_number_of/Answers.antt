use Rattle.sqlrecord.proofs.KeyLemmas.{number_read}
use Rattle.sqlrecord.proofs.key_decode.row_number_of.Goals as goal

pub returns-clause-some : goal.returns-clause-some
returns-clause-some c key n small is = number_read c.args.bytes.now key n _ small is c.from_be_bytes.ensures
