use Rattle.printer.proofs.Parts.{◌⨟◌, done}
use Rattle.printer.proofs.statement.StatementPart.write.Goals as goal

pub returns-in-Query : goal.returns-in-Query
returns-in-Query c = rw c.in-Query.is c.write.ensures

pub returns-in_ok-word-in-Explain : goal.returns-in_ok-word-in-Explain
returns-in_ok-word-in-Explain c = rw c.in-Explain.is (done c.write-in-Explain.result (λ last. c.in_ok-word-in-Explain.ensures ⨟ last) c.write-in-Explain.ensures)

pub returns-in-CreateTable : goal.returns-in-CreateTable
returns-in-CreateTable c = rw c.in-CreateTable.is c.write-in-CreateTable.ensures

pub returns-in_ok-word-in-DropTable : goal.returns-in_ok-word-in-DropTable
returns-in_ok-word-in-DropTable c = rw c.in-DropTable.is (done c.named.result (λ last. c.in_ok-word-in-DropTable.ensures ⨟ last) c.named.ensures)

pub returns-in-CreateIndex : goal.returns-in-CreateIndex
returns-in-CreateIndex c = rw c.in-CreateIndex.is c.write-in-CreateIndex.ensures

pub returns-in_ok-word-in-DropIndex : goal.returns-in_ok-word-in-DropIndex
returns-in_ok-word-in-DropIndex c = rw c.in-DropIndex.is (done c.named-in-DropIndex.result (λ last. c.in_ok-word-in-DropIndex.ensures ⨟ last) c.named-in-DropIndex.ensures)

pub returns-in-Insert : goal.returns-in-Insert
returns-in-Insert c = rw c.in-Insert.is c.write-in-Insert.ensures

pub returns-in-Update : goal.returns-in-Update
returns-in-Update c = rw c.in-Update.is c.write-in-Update.ensures

pub returns-in-Delete : goal.returns-in-Delete
returns-in-Delete c = rw c.in-Delete.is c.write-in-Delete.ensures

pub returns-in-Commit : goal.returns-in-Commit
returns-in-Commit c = rw c.in-Commit.is c.with_work.ensures

pub returns-in-Rollback : goal.returns-in-Rollback
returns-in-Rollback c = rw c.in-Rollback.is c.with_work-in-Rollback.ensures

pub returns-in_ok-word-in-SetTransaction-2 : goal.returns-in_ok-word-in-SetTransaction-2
returns-in_ok-word-in-SetTransaction-2 c = rw c.in-SetTransaction.is (done c.write-in-SetTransaction.result (λ last. c.in_ok-word-in-SetTransaction.ensures ⨟ c.in_ok-word-in-SetTransaction-2.ensures ⨟ last) c.write-in-SetTransaction.ensures)

pub returns-in-DeclareCursor : goal.returns-in-DeclareCursor
returns-in-DeclareCursor c = rw c.in-DeclareCursor.is c.write-in-DeclareCursor.ensures

pub returns-in-OpenCursor : goal.returns-in-OpenCursor
returns-in-OpenCursor c = rw c.in-OpenCursor.is c.named-in-OpenCursor.ensures

pub returns-in-Fetch : goal.returns-in-Fetch
returns-in-Fetch c = rw c.in-Fetch.is c.named-in-Fetch.ensures

pub returns-in-CloseCursor : goal.returns-in-CloseCursor
returns-in-CloseCursor c = rw c.in-CloseCursor.is c.named-in-CloseCursor.ensures
