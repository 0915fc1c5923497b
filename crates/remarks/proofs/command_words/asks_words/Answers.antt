use Rattle.std.proofs.Common.{rules, IsTrue, string_bytes, codes, ◌↔◌, ◌≡◌}
use Rattle.remarks.proofs.ThirdWord.{asks_by, asks_not}
use Rattle.remarks.proofs.command_words.asks_words.Goals as goal

pub returns-in-Some-clause-asks : goal.returns-in-Some-clause-asks
returns-in-Some-clause-asks c =
    let by = asks_by (string_bytes) c.args.words.now c.in-Some.word.now (search rules) (search rules) in
    let same : IsTrue c.eq.result ↔ (string_bytes c.in-Some.word.now ≡ codes "--verbose") = search rules in
    (λ yes. by.1 (same.0 yes), λ asks. same.1 (by.0 asks))

pub returns-in-None-clause-asks : goal.returns-in-None-clause-asks
returns-in-None-clause-asks c = (λ no. absurd (search rules), λ asks. absurd (asks_not string_bytes c.args.words.now (search rules) asks))
