-- What a statement stands for, once what its kind asks for is found.
use Rattle.std.specs.Prelude.{ℕ, List, Ok}
use Rattle.typing.specs.declared.statement.Change.{Change}
use Rattle.typing.specs.declared.statement.Change.TheVariants as change
use Rattle.typing.specs.declared.statement.CreateIndex.{CreateIndex}
use Rattle.typing.specs.declared.statement.CreateTable.{CreateTable}
use Rattle.typing.specs.declared.statement.Delete.{Delete}
use Rattle.typing.specs.declared.statement.Insert.{Insert}
use Rattle.typing.specs.declared.statement.Typed.{Typed}
use Rattle.typing.specs.declared.statement.Typed.TheVariants as typed
use Rattle.typing.specs.declared.statement.Update.{Update}
use Rattle.typing.specs.declared.typed.OrderedQuery.{OrderedQuery}
use Rattle.typing.specs.Finding.{Finding, ◌>>=◌}

abbrev pub query_of : Finding OrderedQuery → Finding Typed
query_of found = found >>= (λ q. Ok (typed.Query q))

abbrev pub explain_of : Finding OrderedQuery → Finding Typed
explain_of found = found >>= (λ q. Ok (typed.Explain q))

abbrev pub open_of : Finding (List ℕ) → Finding Typed
open_of found = found >>= (λ n. Ok (typed.Open n))

abbrev pub fetch_of : Finding (List ℕ) → Finding Typed
fetch_of found = found >>= (λ n. Ok (typed.Fetch n))

abbrev pub close_of : Finding (List ℕ) → Finding Typed
close_of found = found >>= (λ n. Ok (typed.Close n))

abbrev pub table_of : Finding CreateTable → Finding Change
table_of found = found >>= (λ c. Ok (change.CreateTable c))

abbrev pub drop_table_of : Finding (List ℕ) → Finding Change
drop_table_of found = found >>= (λ n. Ok (change.DropTable n))

abbrev pub index_of : Finding CreateIndex → Finding Change
index_of found = found >>= (λ c. Ok (change.CreateIndex c))

abbrev pub drop_index_of : Finding (List ℕ) → Finding Change
drop_index_of found = found >>= (λ n. Ok (change.DropIndex n))

abbrev pub insert_of : Finding Insert → Finding Change
insert_of found = found >>= (λ i. Ok (change.Insert i))

abbrev pub update_of : Finding Update → Finding Change
update_of found = found >>= (λ u. Ok (change.Update u))

abbrev pub delete_of : Finding Delete → Finding Change
delete_of found = found >>= (λ d. Ok (change.Delete d))
