use Rattle.std.proofs.Common.{◌∙◌, ap}
use Rattle.items.specs.Text.{as_text}
use Rattle.sqlrecord.proofs.RowLemmas.{text_part}
use Rattle.sqlrecord.proofs.row.decode_text.Goals as goal

pub returns : goal.returns
returns c =
    text_part c.args.bytes.now c.in_ok-text.text c.from_be_bytes-length.result c.requires c.if-bytes-length.false (λ i. (c.type_inv.bytes i).fits) c.from_be_bytes-length.ensures
    (c.in_ok-text.ensures ∙ ap as_text c.in-Ok.ensures)
