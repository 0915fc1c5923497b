use Rattle.sqlrecord.proofs.RowLemmas.{has_text}
use Rattle.sqlrecord.proofs.row_check.text_length.Goals as goal

pub returns-clause-some : goal.returns-clause-some
returns-clause-some c =
    has_text c.args.bytes.now c.from_be_bytes-length.result _ c.requires c.if-bytes-length.false (λ i. (c.type_inv.bytes i).fits) c.from_be_bytes-length.ensures c.is_text_of.ensures c.if-not-is_text_of.false
