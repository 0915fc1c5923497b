-- A call of a session is the same where the session stands alone.
use Rattle.std.proofs.Common.{◌≡◌, ◌⊎◌, ℕ, List, Bool, true, false, not, cond, ◌&&◌, ◌||◌, Option, Some, None, refl, sym, ap, ◌∙◌, subst, inl, inr}
use Rattle.std.specs.FinMap.{insert, empty}
use Rattle.sqlval.specs.Value.{Row}
use Rattle.refusals.specs.declared.refusal.Refusal.{Refusal}
use Rattle.refusals.specs.declared.refusal.Refusal.TheVariants.{CursorState, TransactionState, SerializationFailure}
use Rattle.lexer.specs.Token.{Bytes}
use Rattle.ast.specs.declared.statement.Statement.{Statement}
use Rattle.ast.specs.declared.statement.Statement.TheVariants as asks
use Rattle.denote.specs.Database.{Name, Database}
use Rattle.replies.specs.declared.reply.Reply.{Reply}
use Rattle.session_definitions.specs.Asked.{Asked}
use Rattle.session_definitions.specs.Calls.{InsertsRows}
use Rattle.session_definitions.specs.Effect.{Effect, after}
use Rattle.session_definitions.specs.InsertedRows.{inserting}
use Rattle.statement_definitions.specs.Reading.{IsRead}
use Rattle.session_definitions.specs.Rules.{Rules}
use Rattle.session_definitions.specs.Statements.{Changes, CarriesOut}
use Rattle.session_definitions.specs.Step.{Replies, Responds, Call}
use Rattle.session_definitions.specs.Transactions.{begun, has_other, began_earlier, is_overtaken, obstacle, is_read_only, has_open}
use Rattle.session_definitions.specs.World.{Transaction, Session, World, is_session}
use Rattle.session_laws.proofs.Effects.{same_key}
use Rattle.session_laws.proofs.Maps.{get_here, insert_twice}

-- the session is the writer, or there is none
abbrev pub own_writer : Bool → ℕ → Option ℕ
own_writer true s = Some s
own_writer false s = None

-- the world with this number of commits and this last database, and with this session alone
abbrev pub lonely : ℕ → Database → ℕ → Bool → Session → World
lonely n db s writes session = record { commits = n; last = db; writer = own_writer writes s; sessions = insert empty s session }

-- ---- what stands in the way there

own_is_writer : (writes : Bool) (s : ℕ) → is_session s (own_writer writes s) ≡ writes
own_is_writer true s = same_key s
own_is_writer false s = refl

no_other : (writes : Bool) (s : ℕ) → has_other s (own_writer writes s) ≡ false
no_other true s = ap not (same_key s)
no_other false s = refl

-- the session's transaction, if it has one, began at this commit
abbrev pub BeganAt : ℕ → Option Transaction → Type 0
BeganAt n None = Unit {0}
BeganAt n (Some t) = t.beginning ≡ n

not_earlier : (n : ℕ) (u : Option Transaction) → BeganAt n u → began_earlier n u ≡ false
not_earlier n None b = refl
not_earlier n (Some t) b = rw b (ap not (same_key n))

both_false : (a b : Bool) → b ≡ false → (not a && b) ≡ false
both_false true b e = refl
both_false false b e = e

free_alone : (n : ℕ) (db : Database) (s : ℕ) (writes : Bool) (session : Session) → BeganAt n session.transaction
    → is_overtaken (lonely n db s writes session) s session ≡ false
free_alone n db s writes session b =
    ap (λ v. v || (not (is_session s (own_writer writes s)) && began_earlier n session.transaction)) (no_other writes s)
    ∙ both_false (is_session s (own_writer writes s)) (began_earlier n session.transaction) (not_earlier n session.transaction b)

first_of_three : (a b c : Bool) (x y z : Refusal)
    → (cond a (Some x) (cond b (Some y) (cond c (Some z) None)) ≡ cond a (Some x) (cond b (Some y) (cond false (Some z) None)))
    ⊎ (cond a (Some x) (cond b (Some y) (cond c (Some z) None)) ≡ Some z)
first_of_three true b c x y z = inl refl
first_of_three false true c x y z = inl refl
first_of_three false false true x y z = inr refl
first_of_three false false false x y z = inl refl

-- alone, the same stands in the way of a change as among others, unless that is a serialization
-- failure
obstacles : (w : World) (n : ℕ) (db : Database) (s : ℕ) (writes : Bool) (session : Session) → BeganAt n session.transaction
    → begun (lonely n db s writes session) session ≡ begun w session
    → (obstacle w s session ≡ obstacle (lonely n db s writes session) s session) ⊎ (obstacle w s session ≡ Some SerializationFailure)
obstacles w n db s writes session b same =
    rw (same, free_alone n db s writes session b)
    (first_of_three (is_read_only (begun w session).mode) (has_open (begun w session)) (is_overtaken w s session) TransactionState CursorState SerializationFailure)

-- ---- replies

-- a statement that is no change does not ask what stands in the way of one
module _ (rules : Rules) (session : Session) (t : Transaction) (reply : Reply) (effect : Effect) where
  changes_overtaken : (o : Option Refusal) (x : Statement) → Changes rules session t (Some SerializationFailure) x reply effect
      → (effect ≡ Effect.RollsBack) ⊎ Changes rules session t o x reply effect
  changes_overtaken o x (Changes.reads_only is r) = cc
  changes_overtaken o x (Changes.has_cursor is r) = cc
  changes_overtaken o x (Changes.overtaken is fails e) = inl e
  changes_overtaken o x (Changes.wrong refusal is why r) = cc
  changes_overtaken o x (Changes.makes change db count is m a r e) = cc
  changes_overtaken o x (Changes.raises change fault is m f r) = cc
  changes_overtaken o x (Changes.violates change name is m f r) = cc

  statement_overtaken : (o : Option Refusal) (x : Statement) → CarriesOut rules session t (Some SerializationFailure) x reply effect
      → (effect ≡ Effect.RollsBack) ⊎ CarriesOut rules session t o x reply effect
  statement_overtaken o (asks.Query x) h = inr h
  statement_overtaken o (asks.Explain x) h = inr h
  statement_overtaken o (asks.CreateTable x) h = changes_overtaken o (asks.CreateTable x) h
  statement_overtaken o (asks.DropTable x) h = changes_overtaken o (asks.DropTable x) h
  statement_overtaken o (asks.CreateIndex x) h = changes_overtaken o (asks.CreateIndex x) h
  statement_overtaken o (asks.DropIndex x) h = changes_overtaken o (asks.DropIndex x) h
  statement_overtaken o (asks.Insert x) h = changes_overtaken o (asks.Insert x) h
  statement_overtaken o (asks.Update x) h = changes_overtaken o (asks.Update x) h
  statement_overtaken o (asks.Delete x) h = changes_overtaken o (asks.Delete x) h
  statement_overtaken o (asks.Commit work) h = inr h
  statement_overtaken o (asks.Rollback work) h = inr h
  statement_overtaken o (asks.SetTransaction mode) h = inr h
  statement_overtaken o (asks.DeclareCursor x) h = inr h
  statement_overtaken o (asks.OpenCursor name) h = inr h
  statement_overtaken o (asks.Fetch name) h = inr h
  statement_overtaken o (asks.CloseCursor name) h = inr h

  reply_overtaken : (o : Option Refusal) (text : Bytes) → Replies rules session t (Some SerializationFailure) text reply effect
      → (effect ≡ Effect.RollsBack) ⊎ Replies rules session t o text reply effect
  reply_overtaken o text (Replies.unread refusal why r) = inr (Replies.unread refusal why r)
  reply_overtaken o text (Replies.carried_out x read h) = carried x read (statement_overtaken o x h)
    where
      carried : (x : Statement) → IsRead text x → (effect ≡ Effect.RollsBack) ⊎ CarriesOut rules session t o x reply effect
          → (effect ≡ Effect.RollsBack) ⊎ Replies rules session t o text reply effect
      carried x read (inl back) = inl back
      carried x read (inr same) = inr (Replies.carried_out x read same)
  reply_overtaken o text (Replies.withheld h) = inr (Replies.withheld h)

module _ (rules : Rules) (session : Session) (t : Transaction) (reply : Reply) (effect : Effect) where
  inserts_overtaken : (o : Option Refusal) (table : Name) (rows : List Row) → InsertsRows rules session t (Some SerializationFailure) table rows reply effect
      → (effect ≡ Effect.RollsBack) ⊎ InsertsRows rules session t o table rows reply effect
  inserts_overtaken o table rows (InsertsRows.changes x h) = changed x (changes_overtaken (inserting rules table rows) session t reply effect o x h)
    where
      changed : (x : Statement) → (effect ≡ Effect.RollsBack) ⊎ Changes (inserting rules table rows) session t o x reply effect
          → (effect ≡ Effect.RollsBack) ⊎ InsertsRows rules session t o table rows reply effect
      changed x (inl back) = inl back
      changed x (inr same) = inr (InsertsRows.changes x same)
  inserts_overtaken o table rows (InsertsRows.withheld refusal of r) = inr (InsertsRows.withheld refusal of r)

  call_overtaken : (o : Option Refusal) (asked : Asked) → Responds rules session t (Some SerializationFailure) asked reply effect
      → (effect ≡ Effect.RollsBack) ⊎ Responds rules session t o asked reply effect
  call_overtaken o (Asked.Text text) h = reply_overtaken rules session t reply effect o text h
  call_overtaken o (Asked.Query text) h = inr h
  call_overtaken o (Asked.Rows count) h = inr h
  call_overtaken o Asked.Close h = inr h
  call_overtaken o (Asked.Insert table rows) h = inserts_overtaken o table rows h

-- the same reply and the same effect, among others and alone, unless the transaction is rolled back
pub replies_alone : (rules : Rules) (w : World) (n : ℕ) (db : Database) (s : ℕ) (writes : Bool) (session : Session) (asked : Asked) (reply : Reply) (effect : Effect)
    → BeganAt n session.transaction → begun (lonely n db s writes session) session ≡ begun w session
    → Responds rules session (begun w session) (obstacle w s session) asked reply effect
    → (effect ≡ Effect.RollsBack)
    ⊎ Responds rules session (begun (lonely n db s writes session) session) (obstacle (lonely n db s writes session) s session) asked reply effect
replies_alone rules w n db s writes session asked reply effect b same h = decide (obstacles w n db s writes session b same)
  where
    decide : (obstacle w s session ≡ obstacle (lonely n db s writes session) s session) ⊎ (obstacle w s session ≡ Some SerializationFailure)
        → (effect ≡ Effect.RollsBack)
        ⊎ Responds rules session (begun (lonely n db s writes session) session) (obstacle (lonely n db s writes session) s session) asked reply effect
    decide (inl e) =
        inr (subst (λ t. Responds rules session t (obstacle (lonely n db s writes session) s session) asked reply effect) (sym same)
        (subst (λ o. Responds rules session (begun w session) o asked reply effect) e h))
    decide (inr e) =
        subst (λ t. (effect ≡ Effect.RollsBack) ⊎ Responds rules session t (obstacle (lonely n db s writes session) s session) asked reply effect) (sym same)
        (call_overtaken rules session (begun w session) reply effect (obstacle (lonely n db s writes session) s session) asked
        (subst (λ o. Responds rules session (begun w session) o asked reply effect) e h))

pub call_alone : (rules : Rules) (w : World) (n : ℕ) (db : Database) (s : ℕ) (writes : Bool) (session : Session) (asked : Asked) (reply : Reply) (effect : Effect)
    → BeganAt n session.transaction → begun (lonely n db s writes session) session ≡ begun w session
    → Responds rules session (begun w session) (obstacle w s session) asked reply effect
    → (effect ≡ Effect.RollsBack)
    ⊎ Call rules (lonely n db s writes session) s asked reply effect (after (lonely n db s writes session) s session effect)
call_alone rules w n db s writes session asked reply effect b same h =
    as_call (replies_alone rules w n db s writes session asked reply effect b same h)
  where
    as_call : (effect ≡ Effect.RollsBack) ⊎ Responds rules session (begun (lonely n db s writes session) session) (obstacle (lonely n db s writes session) s session) asked reply effect
        → (effect ≡ Effect.RollsBack)
        ⊎ Call rules (lonely n db s writes session) s asked reply effect (after (lonely n db s writes session) s session effect)
    as_call (inl back) = inl back
    as_call (inr r) = inr (record { session = session; stands = get_here empty s session; replies = r; leaves = refl })

-- ---- the world afterwards

pub becomes_alone : (n : ℕ) (db : Database) (s : ℕ) (writes : Bool) (session x : Session)
    → after (lonely n db s writes session) s session (Effect.Becomes x) ≡ lonely n db s writes x
becomes_alone n db s writes session x =
    ap (λ m. let world : World = record { commits = n; last = db; writer = own_writer writes s; sessions = m } in world) (insert_twice empty s session x)

pub writes_alone : (n : ℕ) (db : Database) (s : ℕ) (writes : Bool) (session x : Session)
    → after (lonely n db s writes session) s session (Effect.Writes x) ≡ lonely n db s true x
writes_alone n db s writes session x =
    ap (λ m. let world : World = record { commits = n; last = db; writer = Some s; sessions = m } in world) (insert_twice empty s session x)

-- a writer's COMMIT makes its working database the last, and a reader's leaves the last as it was
pub commits_alone : (n : ℕ) (db : Database) (s : ℕ) (writes : Bool) (session : Session) (t : Transaction) → (writes ≡ false → t.working ≡ db)
    → (after (lonely n db s writes session) s session (Effect.Commits t)).last ≡ t.working
commits_alone n db s writes session t kept =
    last_of (is_session s (own_writer writes s)) _ _ t.working refl (λ e. sym (kept (sym (own_is_writer writes s) ∙ e)))
  where
    last_of : (b : Bool) (x y : World) (made : Database) → x.last ≡ made → (b ≡ false → y.last ≡ made) → (cond b x y).last ≡ made
    last_of true x y made p q = p
    last_of false x y made p q = q refl
