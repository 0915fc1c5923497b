use Rattle.std.proofs.Common.{sym, subst, arith}
use borrow.Author.Tests.{ltb-true}
use Rattle.catalog_records.specs.Keepable.{IsType}
use Rattle.paged_store.proofs.keeping.is_column.Goals as goal

pub returns-in-Integer : goal.returns-in-Integer
returns-in-Integer c = λ kept. subst IsType (sym c.in-Integer.is) tt

pub returns-in-Varchar : goal.returns-in-Varchar
returns-in-Varchar c = λ kept. subst IsType (sym c.in-Varchar.is) (ltb-true 0 c.in-Varchar.limit kept, omega arith)
