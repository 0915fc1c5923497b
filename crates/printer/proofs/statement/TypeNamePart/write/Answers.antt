use Rattle.printer.proofs.Parts.{done, ◌⨟◌}
use Rattle.printer.proofs.statement.TypeNamePart.write.Goals as goal

pub returns-in-Integer : goal.returns-in-Integer
returns-in-Integer c = rw c.in-Integer.is c.word.ensures

pub returns-in-Int : goal.returns-in-Int
returns-in-Int c = rw c.in-Int.is c.word-in-Int.ensures

pub returns-in_ok-word-in-Varchar : goal.returns-in_ok-word-in-Varchar
returns-in_ok-word-in-Varchar c = rw c.in-Varchar.is (done c.length.result (λ last. c.in_ok-word-in-Varchar.ensures ⨟ last) c.length.ensures)

pub returns-in_ok-word-in-CharacterVarying-2 : goal.returns-in_ok-word-in-CharacterVarying-2
returns-in_ok-word-in-CharacterVarying-2 c = rw c.in-CharacterVarying.is (done c.length-in-CharacterVarying.result (λ last. c.in_ok-word-in-CharacterVarying.ensures ⨟ c.in_ok-word-in-CharacterVarying-2.ensures ⨟ last) c.length-in-CharacterVarying.ensures)
