use Rattle.std.proofs.Common.{ap, ◌∙◌, inl, arith}
use Rattle.store.specs.Contents.{Contents, appended}
use Rattle.pool.specs.Versions.{Versions, versions_of, refused_of}
use Rattle.overlay.specs.WriteSet.{private_of}
use Rattle.database_versions.specs.Databases.{IsDatabase}
use Rattle.database_versions.specs.Refusals.{of_fault, IsCounted, NumbersEnd, NewRowsReach}
use Rattle.database_versions.proofs.RefusalLemmas.{header_fails}
use Rattle.database_versions.proofs.StepLemmas.{fails_as, changed_of, owned_of, root_fails, rows_fail}
use Rattle.database_versions.proofs.rows.append_rows.Goals as goal

pub returns-in-Ok-put_root-clause-appended : goal.returns-in-Ok-put_root-clause-appended
returns-in-Ok-put_root-clause-appended g c =
    changed_of (λ (t : Contents). appended t c.args.name.now c.args.rows) ((versions_of c.args.pool.now).pages c.args.at) ((versions_of c.read_header.new.pool).pages c.args.at) ((versions_of c.append_from.new.pool).pages c.args.at) (private_of c.args.changes.now) (private_of c.append_from.new.changes) c.in-Ok.header c.in-Ok-append_from.top c.in-Ok.ensures.says
    (ap (λ (v : Versions). v.pages c.args.at) c.read_header.ensures.versions) (ap (λ (v : Versions). v.pages c.args.at) c.append_from.ensures.versions) c.in-Ok-append_from.ensures.appended c.in-Ok-append_from.ensures.whole
    (private_of c.put_root.new.changes) c.in-Ok-put_root.ensures.put

pub returns-in-Ok-put_root-clause-owned : goal.returns-in-Ok-put_root-clause-owned
returns-in-Ok-put_root-clause-owned g c =
    owned_of (λ (t : Contents). appended t c.args.name.now c.args.rows) ((versions_of c.args.pool.now).pages c.args.at) ((versions_of c.read_header.new.pool).pages c.args.at) ((versions_of c.append_from.new.pool).pages c.args.at) (private_of c.args.changes.now) (private_of c.append_from.new.changes) c.in-Ok.header c.in-Ok-append_from.top c.in-Ok.ensures.says
    (ap (λ (v : Versions). v.pages c.args.at) c.read_header.ensures.versions) (ap (λ (v : Versions). v.pages c.args.at) c.append_from.ensures.versions) c.in-Ok-append_from.ensures.owned c.in-Ok-append_from.ensures.whole
    (private_of c.put_root.new.changes) c.in-Ok-put_root.ensures.owned

pub returns-in-Ok-put_root-clause-versions : goal.returns-in-Ok-put_root-clause-versions
returns-in-Ok-put_root-clause-versions g c = c.put_root.ensures.versions ∙ c.append_from.ensures.versions ∙ c.read_header.ensures.versions

pub returns-in-Ok-put_root-clause-settled : goal.returns-in-Ok-put_root-clause-settled
returns-in-Ok-put_root-clause-settled g c = c.put_root.ensures.settled ∙ c.append_from.ensures.settled

pub returns-in-Err-put_root-clause-versions : goal.returns-in-Err-put_root-clause-versions
returns-in-Err-put_root-clause-versions g c = c.put_root.ensures.versions ∙ c.append_from.ensures.versions ∙ c.read_header.ensures.versions

pub returns-in-Err-put_root-clause-settled : goal.returns-in-Err-put_root-clause-settled
returns-in-Err-put_root-clause-settled g c = c.put_root.ensures.settled ∙ c.append_from.ensures.settled

pub returns-in-Err-put_root-clause-refused : goal.returns-in-Err-put_root-clause-refused
returns-in-Err-put_root-clause-refused g c =
    root_fails (λ (t : Contents). appended t c.args.name.now c.args.rows) ((versions_of c.args.pool.now).pages c.args.at) ((versions_of c.read_header.new.pool).pages c.args.at) ((versions_of c.append_from.new.pool).pages c.args.at) (private_of c.args.changes.now) (private_of c.append_from.new.changes) c.in-Ok.header c.in-Ok-append_from.top c.in-Ok.ensures.says
    (ap (λ (v : Versions). v.pages c.args.at) c.read_header.ensures.versions) (ap (λ (v : Versions). v.pages c.args.at) c.append_from.ensures.versions) c.in-Ok-append_from.ensures.appended c.in-Ok-append_from.ensures.whole
    (private_of c.put_root.new.changes) (NewRowsReach (IsCounted ((versions_of c.args.pool.now).pages c.args.at) (private_of c.put_root.new.changes)) (NumbersEnd ((versions_of c.args.pool.now).pages c.args.at) (private_of c.args.changes.now) c.args.name.now c.args.rows) c.args.rows)
    (refused_of c.args.pool.now) (refused_of c.append_from.new.pool) (refused_of c.put_root.new.pool) c.in-Err-put_root.fault c.of_fault.result c.of_fault.ensures
    (let a = c.read_header.ensures.rising in let b = c.append_from.ensures.rising in omega (arith, a, b)) (λ r. inl r) (λ r. r) c.in-Err-put_root.ensures.refusal

pub returns-in-Err-append_from-clause-versions : goal.returns-in-Err-append_from-clause-versions
returns-in-Err-append_from-clause-versions g c = c.append_from.ensures.versions ∙ c.read_header.ensures.versions

pub returns-in-Err-append_from-clause-refused : goal.returns-in-Err-append_from-clause-refused
returns-in-Err-append_from-clause-refused g c =
    rows_fail ((versions_of c.args.pool.now).pages c.args.at) ((versions_of c.read_header.new.pool).pages c.args.at) (private_of c.args.changes.now) (private_of c.append_from.new.changes) c.in-Ok.header
    (refused_of c.args.pool.now) (refused_of c.read_header.new.pool) (refused_of c.append_from.new.pool) c.in-Err-append_from.error c.of_rows.result
    c.in-Ok.ensures.says (ap (λ (v : Versions). v.pages c.args.at) c.read_header.ensures.versions) c.read_header.ensures.rising c.in-Err-append_from.ensures.refusal c.args.name.now c.args.rows c.of_rows.ensures c.in-Err-append_from.ensures.limits

pub returns-in-Err-clause-refused : goal.returns-in-Err-clause-refused
returns-in-Err-clause-refused g c =
    fails_as (IsDatabase ((versions_of c.args.pool.now).pages c.args.at) (private_of c.args.changes.now)) (refused_of c.args.pool.now) (refused_of c.read_header.new.pool) (NewRowsReach (IsCounted ((versions_of c.args.pool.now).pages c.args.at) (private_of c.args.changes.now)) (NumbersEnd ((versions_of c.args.pool.now).pages c.args.at) (private_of c.args.changes.now) c.args.name.now c.args.rows) c.args.rows)
    c.of_fault-in-Err.result (of_fault c.in-Err.fault) c.of_fault-in-Err.ensures
    (header_fails ((versions_of c.args.pool.now).pages c.args.at) (private_of c.args.changes.now) (NewRowsReach (IsCounted ((versions_of c.args.pool.now).pages c.args.at) (private_of c.args.changes.now)) (NumbersEnd ((versions_of c.args.pool.now).pages c.args.at) (private_of c.args.changes.now) c.args.name.now c.args.rows) c.args.rows) (refused_of c.args.pool.now) (refused_of c.read_header.new.pool) c.in-Err.fault c.in-Err.ensures.refusal)

pub returns-in-Ok-put_root-clause-writes : goal.returns-in-Ok-put_root-clause-writes
returns-in-Ok-put_root-clause-writes g c = c.put_root.ensures.writes ∙ c.append_from.ensures.writes ∙ c.read_header.ensures.writes

pub returns-in-Err-put_root-clause-writes : goal.returns-in-Err-put_root-clause-writes
returns-in-Err-put_root-clause-writes g c = c.put_root.ensures.writes ∙ c.append_from.ensures.writes ∙ c.read_header.ensures.writes

pub returns-in-Err-append_from-clause-writes : goal.returns-in-Err-append_from-clause-writes
returns-in-Err-append_from-clause-writes g c = c.append_from.ensures.writes ∙ c.read_header.ensures.writes
