use Rattle.database_versions.proofs.CrashLemmas.{crash_holds, crash_owned}
use Rattle.database_versions.proofs.crashes.last_commit_is_left.Goals as goal

pub returns-clause-holds : goal.returns-clause-holds
returns-clause-holds g c durable honest whole d = crash_holds c.args.pool.now durable honest whole d

pub returns-clause-owned : goal.returns-clause-owned
returns-clause-owned g c durable honest whole owned = crash_owned c.args.pool.now durable honest whole owned
