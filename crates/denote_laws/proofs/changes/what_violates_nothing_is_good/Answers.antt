use Rattle.std.proofs.Common.{◌≡◌, ap, sym, ◌∙◌, Some}
use Rattle.std.specs.FinMap.{get}
use Rattle.denote.specs.Database.{Table, IsGoodIn}
use Rattle.denote_laws.proofs.Good.{good-unviolated, references-insert, same_some}
use Rattle.denote_laws.specs.Changed.{with_table_rows}
use Rattle.denote_laws.proofs.changes.what_violates_nothing_is_good.Goals as goal

pub returns : goal.returns
returns c = λ reading db name table rows good is fitting unviolated.
    let was : IsGoodIn reading db name table = good name table is in
    let keeps : (old : Table) → get db name ≡ Some old → old.columns ≡ (with_table_rows table rows).columns = λ old e. ap (λ (t : Table). t.columns) (same_some old table (sym e ∙ is)) in
    good-unviolated reading db name (with_table_rows table rows) good keeps fitting was.alone.readable
    (record { in_constraints = was.alone.named.in_constraints; in_indexes = was.alone.named.in_indexes })
    (references-insert reading db name (with_table_rows table rows) table.constraints keeps was.referenced) unviolated
