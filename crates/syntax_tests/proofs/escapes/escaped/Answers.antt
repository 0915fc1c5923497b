use Rattle.std.proofs.Common.{◌≡◌, ◌∙◌, ap, take, arith}
use Rattle.std.proofs.lemmas.List.{take_all}
use Rattle.syntax_tests.specs.Escapes.{line_of}
use Rattle.syntax_tests.proofs.Lines.{line_reads_back}
use Rattle.syntax_tests.proofs.escapes.escaped.Goals as goal

pub returns-clause-read_back : goal.returns-clause-read_back
returns-clause-read_back c =
    let exact : c.loop-byte.line.items ≡ line_of c.args.text.now =
    c.loop-byte.invariant ∙ ap line_of (take_all c.loop-byte.byte-index c.args.text.now c.loop-byte-test.false) in
    rw exact (line_reads_back c.args.text.now)
