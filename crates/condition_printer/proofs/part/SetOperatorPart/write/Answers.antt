use Rattle.condition_printer.proofs.Parts.{◌⨟◌, done}
use Rattle.condition_printer.proofs.part.SetOperatorPart.write.Goals as goal

pub returns-in-Union : goal.returns-in-Union
returns-in-Union c = rw c.in-Union.is c.word.ensures

pub returns-in_ok-word-in-UnionAll : goal.returns-in_ok-word-in-UnionAll
returns-in_ok-word-in-UnionAll c =
    rw c.in-UnionAll.is (done c.word-in-UnionAll-2.result (λ last. c.in_ok-word-in-UnionAll.ensures ⨟ last) c.word-in-UnionAll-2.ensures)

pub returns-in-Except : goal.returns-in-Except
returns-in-Except c = rw c.in-Except.is c.word-in-Except.ensures

pub returns-in_ok-word-in-ExceptAll : goal.returns-in_ok-word-in-ExceptAll
returns-in_ok-word-in-ExceptAll c =
    rw c.in-ExceptAll.is (done c.word-in-ExceptAll-2.result (λ last. c.in_ok-word-in-ExceptAll.ensures ⨟ last) c.word-in-ExceptAll-2.ensures)
