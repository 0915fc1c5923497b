use Rattle.resolve.proofs.statements.typed_built.Goals as goal

pub returns-in-Query : goal.returns-in-Query
returns-in-Query c = rw c.in-Query.is (c.query.ensures _ (rw c.get.ensures at c.typed_query.ensures))

pub returns-in-Explain : goal.returns-in-Explain
returns-in-Explain c = rw c.in-Explain.is (c.explain.ensures _ (rw c.get-in-Explain.ensures at c.typed_query-in-Explain.ensures))

pub returns-in-CreateTable : goal.returns-in-CreateTable
returns-in-CreateTable c = rw c.in-CreateTable.is (c.change.ensures _ (c.create_table.ensures _ (rw c.get-in-CreateTable.ensures at c.typed_create_table.ensures)))

pub returns-in-DropTable : goal.returns-in-DropTable
returns-in-DropTable c = rw c.in-DropTable.is (c.change-in-DropTable.ensures _ (c.drop_table.ensures _ c.typed_drop_table.ensures))

pub returns-in-CreateIndex : goal.returns-in-CreateIndex
returns-in-CreateIndex c = rw c.in-CreateIndex.is (c.change-in-CreateIndex.ensures _ (c.create_index.ensures _ (rw c.get-in-CreateIndex.ensures at c.typed_create_index.ensures)))

pub returns-in-DropIndex : goal.returns-in-DropIndex
returns-in-DropIndex c = rw c.in-DropIndex.is (c.change-in-DropIndex.ensures _ (c.drop_index.ensures _ c.typed_drop_index.ensures))

pub returns-in-Insert : goal.returns-in-Insert
returns-in-Insert c = rw c.in-Insert.is (c.change-in-Insert.ensures _ (c.insert.ensures _ (rw c.get-in-Insert.ensures at c.typed_insert.ensures)))

pub returns-in-Update : goal.returns-in-Update
returns-in-Update c = rw c.in-Update.is (c.change-in-Update.ensures _ (c.update.ensures _ (rw c.get-in-Update.ensures at c.typed_update.ensures)))

pub returns-in-Delete : goal.returns-in-Delete
returns-in-Delete c = rw c.in-Delete.is (c.change-in-Delete.ensures _ (c.delete.ensures _ (rw c.get-in-Delete.ensures at c.typed_delete.ensures)))

pub returns-in-DeclareCursor : goal.returns-in-DeclareCursor
returns-in-DeclareCursor c = let e = rw c.in-DeclareCursor.is at c.requires.built in absurd (cc e)

pub returns-in-OpenCursor : goal.returns-in-OpenCursor
returns-in-OpenCursor c = rw c.in-OpenCursor.is (c.open_cursor.ensures _ c.copied.ensures)

pub returns-in-Fetch : goal.returns-in-Fetch
returns-in-Fetch c = rw c.in-Fetch.is (c.fetch_cursor.ensures _ c.copied-in-Fetch.ensures)

pub returns-in-CloseCursor : goal.returns-in-CloseCursor
returns-in-CloseCursor c = rw c.in-CloseCursor.is (c.close_cursor.ensures _ c.copied-in-CloseCursor.ensures)
