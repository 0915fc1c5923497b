use Rattle.std.proofs.Common.{ap, ℕ, Option}
use Rattle.std.specs.Prelude.{unwrap_or}
use Rattle.paged_store.proofs.seen.number_seen.Goals as goal

pub returns-in-Some : goal.returns-in-Some
returns-in-Some c = ap (λ (o : Option ℕ). unwrap_or o c.args.commits) c.in-Some.ensures

pub returns-in-None : goal.returns-in-None
returns-in-None c = ap (λ (o : Option ℕ). unwrap_or o c.args.commits) c.in-None.ensures
