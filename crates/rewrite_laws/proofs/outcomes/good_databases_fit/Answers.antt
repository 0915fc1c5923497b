use Rattle.denote.specs.Database.{rows_in}
use Rattle.rewrite_laws.proofs.GoodDatabases.{good-has}
use Rattle.rewrite_laws.proofs.outcomes.good_databases_fit.Goals as goal

pub returns : goal.returns
returns c = λ reading db new old good has keeps. record {
  outcome = keeps.same (rows_in db) (λ table there. good-has reading db table good (has table there));
  keys = keeps.keys;
}
