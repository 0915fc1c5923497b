use Rattle.std.proofs.Common.{rules}
use Rattle.lexer.proofs.Recognized.{semicolon_there}
use Rattle.lexer.proofs.recognition.after_semicolon.Goals as goal

pub returns-else-first-eq59-clause-none : goal.returns-else-first-eq59-clause-none
returns-else-first-eq59-clause-none c = λ e rest read. let there = semicolon_there c.args.text.now rest read in search rules
