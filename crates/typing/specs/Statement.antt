-- What a statement stands for over a schema, or reasons that hold where it is refused.
use Rattle.std.specs.Prelude.{[], ◌∷◌, Ok, Err, if◌then◌else◌}
use Rattle.sqlval.specs.declared.schema.Schema.{Schema}
use Rattle.typing.specs.Known.{Known, known}
use Rattle.refusals.specs.declared.refusal.Refusal.TheVariants.{NotSupported}
use Rattle.ast.specs.declared.statement.AccessMode.{AccessMode as Written}
use Rattle.ast.specs.declared.statement.AccessMode.TheVariants as written
use Rattle.ast.specs.declared.statement.Statement.{Statement}
use Rattle.ast.specs.declared.statement.Statement.TheVariants as statement
use Rattle.typing.specs.declared.statement.AccessMode.{AccessMode}
use Rattle.typing.specs.declared.statement.AccessMode.TheVariants as mode
use Rattle.typing.specs.declared.statement.Change.{Change}
use Rattle.typing.specs.declared.statement.Change.TheVariants as change
use Rattle.typing.specs.declared.statement.Typed.{Typed}
use Rattle.typing.specs.declared.statement.Typed.TheVariants as typed
use Rattle.typing.specs.Finding.{Finding, ◌>>=◌}
use Rattle.typing.specs.Order.{ordered_found}
use Rattle.typing.specs.CreateTable.{create_found}
use Rattle.typing.specs.Index.{index_found, dropped_index, dropped_table}
use Rattle.typing.specs.Insert.{insert_found}
use Rattle.typing.specs.Update.{update_found, delete_found}
use Rattle.typing.specs.Built.{is_built}

abbrev pub mode_of : Written → AccessMode
mode_of written.ReadOnly = mode.ReadOnly
mode_of written.ReadWrite = mode.ReadWrite

abbrev pub changes : Finding Change → Finding Typed
changes found = found >>= (λ c. Ok (typed.Change c))

-- each kind of statement; a cursor's query is typed at each OPEN, and the cursor's name is the
-- session's
abbrev pub found_over : Known → Statement → Finding Typed
found_over k (statement.Query tree) = ordered_found k tree >>= (λ q. Ok (typed.Query q))
found_over k (statement.Explain tree) = ordered_found k tree >>= (λ q. Ok (typed.Explain q))
found_over k (statement.CreateTable tree) = changes (create_found k tree >>= (λ c. Ok (change.CreateTable c)))
found_over k (statement.DropTable name) = changes (dropped_table k name >>= (λ n. Ok (change.DropTable n)))
found_over k (statement.CreateIndex tree) = changes (index_found k tree >>= (λ c. Ok (change.CreateIndex c)))
found_over k (statement.DropIndex name) = changes (dropped_index k name >>= (λ n. Ok (change.DropIndex n)))
found_over k (statement.Insert tree) = changes (insert_found k tree >>= (λ i. Ok (change.Insert i)))
found_over k (statement.Update tree) = changes (update_found k tree >>= (λ u. Ok (change.Update u)))
found_over k (statement.Delete tree) = changes (delete_found k tree >>= (λ d. Ok (change.Delete d)))
found_over k (statement.Commit has_work) = Ok typed.Commit
found_over k (statement.Rollback has_work) = Ok typed.Rollback
found_over k (statement.SetTransaction written) = Ok (typed.SetTransaction (mode_of written))
found_over k (statement.DeclareCursor tree) = Ok (typed.Declare tree)
found_over k (statement.OpenCursor name) = Ok (typed.Open name)
found_over k (statement.Fetch name) = Ok (typed.Fetch name)
found_over k (statement.CloseCursor name) = Ok (typed.Close name)

-- all that is known of the schema is what its names mean
abbrev pub statement_found : Statement → Schema → Finding Typed
statement_found tree schema = found_over (known schema) tree

-- ---- until all forms are built

-- a form that is not built yet is refused before all reasons of names, types and limits
abbrev pub answered_found : Statement → Schema → Finding Typed
answered_found tree schema = if is_built tree then statement_found tree schema else Err (NotSupported ∷ [])
