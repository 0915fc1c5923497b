use Rattle.std.proofs.Common.{◌≡◌, take, false, Some}
use Rattle.csv.specs.Writing.{default_writer, fields_written, has_written, text_written, writer_setup}
use Rattle.csvio.specs.Formed.{records_text}
use Rattle.csvio.proofs.formed_text.records_text.Given as goal

-- the text of the rows so far
abbrev pub invariant-loop-row : goal.invariant-loop-row
invariant-loop-row l = record {
  text : text_written (λ v. Some v.items) l.writer ≡ Some (records_text l.plain (take l.row-index l.rows));
  setup : writer_setup l.writer ≡ default_writer;
  fields : fields_written l.writer ≡ 0;
  wrote : has_written l.writer ≡ false;
}
