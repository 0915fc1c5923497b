use Rattle.check_reader.proofs.reading.read_check.Goals as goal

pub returns-in-Ok : goal.returns-in-Ok
returns-in-Ok c = record {
  reads = c.in-Ok.ensures.reads;
  rules = λ reading rules. rules c.args.table.now.name c.args.table.now.columns c.args.text.now c.in-Ok.condition c.in-Ok.ensures.reads;
  only = λ condition read nested. c.in-Ok.ensures.only condition read nested;
  refused = tt;
}

pub returns-in-Err : goal.returns-in-Err
returns-in-Err c = record {
  reads = tt;
  rules = λ reading rules. tt;
  only = λ condition read nested. c.as_damage.ensures.memory (c.in-Err.ensures.only condition read nested);
  refused = c.as_damage.ensures.either;
}
