use Rattle.std.proofs.Common.{◌≡◌, ◌∙◌, true, false, refl, sym, rules}
use Rattle.std.proofs.KnownBytes.{Keeps-refl}
use Rattle.csvio.specs.Formed.{WritesFormed, formed_text}
use Rattle.csvio.proofs.DumpedForms.{written_formed}
use Rattle.csvio.proofs.formed_dumping.write_formed.Goals as goal

pub returns-then-loses_text : goal.returns-then-loses_text
returns-then-loses_text g c = record { writes = WritesFormed.empty (sym c.loses_text.ensures ∙ c.if-loses_text.true) refl (Keeps-refl _) }

pub returns-in_default : goal.returns-in_default
returns-in_default g c = record { writes = WritesFormed.wanting refl (Keeps-refl _) }

pub returns-then-put : goal.returns-then-put
returns-then-put g c =
    let text : c.as_slice.result.now ≡ formed_text c.args.form c.args.columns.now c.args.rows.now = search rules in
    record {
      writes = written_formed c.args.form c.args.columns.now c.args.rows.now (g.W.Write.contents c.args.writer.now) (g.W.Write.contents c.put.new.writer) c.as_slice.result.now true c.put.result
          c.reply_for.result (sym c.loses_text.ensures ∙ c.if-loses_text.false) c.put.ensures.writes text c.if-put.true (search rules);
    }

pub returns : goal.returns
returns g c =
    let text : c.as_slice.result.now ≡ formed_text c.args.form c.args.columns.now c.args.rows.now = search rules in
    record {
      writes = written_formed c.args.form c.args.columns.now c.args.rows.now (g.W.Write.contents c.args.writer.now) (g.W.Write.contents c.put.new.writer) c.as_slice.result.now false c.put.result _
          (sym c.loses_text.ensures ∙ c.if-loses_text.false) c.put.ensures.writes text c.if-put.false refl;
    }
