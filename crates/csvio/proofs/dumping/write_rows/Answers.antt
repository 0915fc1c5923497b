use Rattle.std.proofs.Common.{◌≡◌, ◌∙◌, true, false, refl, rules}
use Rattle.std.proofs.KnownBytes.{Keeps-refl}
use Rattle.csvio.specs.Dumping.{WritesRows, rows_text}
use Rattle.csvio.proofs.Dumped.{written}
use Rattle.csvio.proofs.dumping.write_rows.Goals as goal

pub returns-in_default : goal.returns-in_default
returns-in_default g c = record { writes = WritesRows.wanting refl (Keeps-refl _) }

pub returns-then-put : goal.returns-then-put
returns-then-put g c =
    let text : c.as_slice.result.now ≡ rows_text c.args.rows.now = search rules in
    record { writes = written c.args.rows.now (g.W.Write.contents c.args.writer.now) (g.W.Write.contents c.put.new.writer) c.as_slice.result.now true c.put.result c.reply_for.result c.put.ensures.writes text c.if-put.true (search rules) }

pub returns : goal.returns
returns g c =
    let text : c.as_slice.result.now ≡ rows_text c.args.rows.now = search rules in
    record { writes = written c.args.rows.now (g.W.Write.contents c.args.writer.now) (g.W.Write.contents c.put.new.writer) c.as_slice.result.now false c.put.result _ c.put.ensures.writes text c.if-put.false refl }
