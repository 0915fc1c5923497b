-- What the rules of names and types give for a query, an EXPLAIN and a change.
use Rattle.std.proofs.Common.{◌≡◌, Bool, true, false, cond, [], ◌∷◌, Ok, Err, Contains, refl, sym, ap, ◌∙◌, arith}
use Rattle.refusals.specs.declared.refusal.Refusal.{Refusal}
use Rattle.refusals.specs.declared.refusal.Refusal.TheVariants as refused
use Rattle.refusals.specs.declared.refusal.Refusal.TheVariants.{NotSupported}
use Rattle.sqlval.specs.declared.schema.Schema.{Schema}
use Rattle.ast.specs.declared.statement.OrderedQuery.{OrderedQuery}
use Rattle.ast.specs.declared.statement.Statement.{Statement}
use Rattle.ast.specs.declared.statement.Statement.TheVariants as asks
use Rattle.typing.specs.declared.statement.Change.{Change}
use Rattle.typing.specs.declared.statement.Change.TheVariants as change
use Rattle.typing.specs.declared.statement.Typed.{Typed}
use Rattle.typing.specs.declared.statement.Typed.TheVariants as does
use Rattle.typing.specs.declared.typed.OrderedQuery as typed
use Rattle.typing.specs.Built.{is_built}
use Rattle.typing.specs.CreateTable.{create_found}
use Rattle.typing.specs.Finding.{Finding, ◌>>=◌, reasons_in}
use Rattle.typing.specs.Finds.{IsReasonOf}
use Rattle.typing.specs.Insert.{insert_found}
use Rattle.typing.specs.Known.{known}
use Rattle.typing.specs.Order.{ordered_found}
use Rattle.typing.specs.Statement.{answered_found, changes}
use Rattle.denote.specs.Database.{Database}
use Rattle.denote.specs.SchemaOf.{IsSchemaOf}
use Rattle.session_definitions.specs.Rules.{Rules, AreRules, Means, IsReason}
use Rattle.sessions.specs.Kinds.{is_change}
use Rattle.typing.specs.Index.{dropped_table, index_found, dropped_index}
use Rattle.typing.specs.Update.{update_found, delete_found}

pub typed_query : (x : OrderedQuery) (schema : Schema) (t : Typed) → answered_found (asks.Query x) schema ≡ Ok t → (q : typed.OrderedQuery) × (t ≡ does.Query q)
typed_query x schema t e = go (ordered_found (known schema) x) e
  where
    go : (f : Finding typed.OrderedQuery) → (f >>= (λ q. Ok (does.Query q))) ≡ Ok t → (q : typed.OrderedQuery) × (t ≡ does.Query q)
    go (Ok q) e = (q, cc)
    go (Err reasons) e = absurd (cc)

pub typed_explain : (x : OrderedQuery) (schema : Schema) (t : Typed) → answered_found (asks.Explain x) schema ≡ Ok t → (q : typed.OrderedQuery) × (t ≡ does.Explain q)
typed_explain x schema t e = go (ordered_found (known schema) x) e
  where
    go : (f : Finding typed.OrderedQuery) → (f >>= (λ q. Ok (does.Explain q))) ≡ Ok t → (q : typed.OrderedQuery) × (t ≡ does.Explain q)
    go (Ok q) e = (q, cc)
    go (Err reasons) e = absurd (cc)

change_found : (a : Bool) (f : Finding Change) (t : Typed) → cond a (changes f) (Err (NotSupported ∷ [])) ≡ Ok t → (c : Change) × (t ≡ does.Change c)
change_found true (Ok c) t e = (c, cc)
change_found true (Err reasons) t e = absurd (cc)
change_found false f t e = absurd (cc)

pub typed_change : (x : Statement) (schema : Schema) (t : Typed) → is_change x ≡ true → answered_found x schema ≡ Ok t → (c : Change) × (t ≡ does.Change c)
typed_change (asks.CreateTable x) schema t is e = change_found (is_built (asks.CreateTable x)) (create_found (known schema) x >>= (λ c. Ok (change.CreateTable c))) t e
typed_change (asks.Insert x) schema t is e = change_found (is_built (asks.Insert x)) (insert_found (known schema) x >>= (λ i. Ok (change.Insert i))) t e
typed_change (asks.DropTable x) schema t is e = change_found (is_built (asks.DropTable x)) (dropped_table (known schema) x >>= (λ n. Ok (change.DropTable n))) t e
typed_change (asks.CreateIndex x) schema t is e = change_found (is_built (asks.CreateIndex x)) (index_found (known schema) x >>= (λ c. Ok (change.CreateIndex c))) t e
typed_change (asks.DropIndex x) schema t is e = change_found (is_built (asks.DropIndex x)) (dropped_index (known schema) x >>= (λ n. Ok (change.DropIndex n))) t e
typed_change (asks.Update x) schema t is e = change_found (is_built (asks.Update x)) (update_found (known schema) x >>= (λ u. Ok (change.Update u))) t e
typed_change (asks.Delete x) schema t is e = change_found (is_built (asks.Delete x)) (delete_found (known schema) x >>= (λ d. Ok (change.Delete d))) t e
typed_change _ schema t is e = absurd (cc)

-- ---- what a statement stands for

pub means : (rules : Rules) (db : Database) (schema : Schema) (x : Statement) (t : Typed) → AreRules rules → IsSchemaOf schema db → answered_found x schema ≡ Ok t → Means rules db x t
means rules db schema x t are of found = record { schema = schema; of_database = of; found = are.statements schema x ∙ found }

none_in : (refusal : Refusal) → Contains [] refusal → ⊥
none_in refusal one = let h = one.1 in absurd (omega arith)

reason : (rules : Rules) (db : Database) (schema : Schema) (x : Statement) (refusal : Refusal) → AreRules rules → IsSchemaOf schema db
    → (found : Finding Typed) → answered_found x schema ≡ found → Contains (reasons_in found) refusal → IsReason rules db x refusal
reason rules db schema x refusal are of (Ok t) is one = absurd (none_in refusal one)
reason rules db schema x refusal are of (Err reasons) is one =
    record { schema = schema; of_database = of; reasons = reasons; found = are.statements schema x ∙ is; one = one }

-- a refusal of what types a statement: for want of memory, or a reason
pub data Against (rules : Rules) (db : Database) (x : Statement) (refusal : Refusal) : Type 0 where
  wanting : refusal ≡ refused.Memory → Against rules db x refusal
  wrong : IsReason rules db x refusal → Against rules db x refusal

pub against : (rules : Rules) (db : Database) (schema : Schema) (x : Statement) (refusal : Refusal) → AreRules rules → IsSchemaOf schema db
    → IsReasonOf (reasons_in (answered_found x schema)) refusal → Against rules db x refusal
against rules db schema x refused.Memory are of h = Against.wanting refl
against rules db schema x refused.Disk are of h = Against.wrong (reason rules db schema x refused.Disk are of _ refl h)
against rules db schema x (refused.Exceeded which) are of h = Against.wrong (reason rules db schema x (refused.Exceeded which) are of _ refl h)
against rules db schema x (refused.Invalid why) are of h = Against.wrong (reason rules db schema x (refused.Invalid why) are of _ refl h)
against rules db schema x refused.NotSupported are of h = Against.wrong (reason rules db schema x refused.NotSupported are of _ refl h)
against rules db schema x refused.ManyRows are of h = Against.wrong (reason rules db schema x refused.ManyRows are of _ refl h)
against rules db schema x refused.TextTooLong are of h = Against.wrong (reason rules db schema x refused.TextTooLong are of _ refl h)
against rules db schema x refused.OutOfRange are of h = Against.wrong (reason rules db schema x refused.OutOfRange are of _ refl h)
against rules db schema x refused.DivisionByZero are of h = Against.wrong (reason rules db schema x refused.DivisionByZero are of _ refl h)
against rules db schema x (refused.Violated name) are of h = Against.wrong (reason rules db schema x (refused.Violated name) are of _ refl h)
against rules db schema x refused.CursorState are of h = Against.wrong (reason rules db schema x refused.CursorState are of _ refl h)
against rules db schema x refused.TransactionState are of h = Against.wrong (reason rules db schema x refused.TransactionState are of _ refl h)
against rules db schema x refused.SerializationFailure are of h = Against.wrong (reason rules db schema x refused.SerializationFailure are of _ refl h)
against rules db schema x refused.Damaged are of h = Against.wrong (reason rules db schema x refused.Damaged are of _ refl h)

-- what a statement that was read is typed as
pub read_as : (x statement : Statement) (schema lent : Schema) (t : Typed) → statement ≡ x → lent ≡ schema → answered_found statement lent ≡ Ok t → answered_found x schema ≡ Ok t
read_as x statement schema lent t is lent_is found =
    sym (ap (λ y. answered_found y schema) is) ∙ sym (ap (λ l. answered_found statement l) lent_is) ∙ found
