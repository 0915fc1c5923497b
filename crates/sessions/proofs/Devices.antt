-- A refusal of the device comes only where its count of refused calls rose.
use Rattle.std.proofs.Common.{◌≡◌, ◌≢◌, ◌⊎◌, inl, inr, ℕ, ◌+◌, ◌^◌, ◌-◌, ◌≤◌, Bool, true, false, cond, List, [], ◌∷◌, Result, Ok, Err, IfErr, Contains, refl, sym, subst, ◌∙◌, arith}
use Rattle.std.specs.Prelude.{min}
use Rattle.std.specs.List.{list_all}
use Rattle.std.proofs.lemmas.List.Elements.{All-contains}
use Rattle.std.proofs.lemmas.List.Sums.{AllPass-from_list_all}
use Rattle.refusals.specs.declared.limit.Limit.TheVariants as which
use Rattle.refusals.specs.declared.refusal.Refusal.{Refusal}
use Rattle.refusals.specs.declared.refusal.Refusal.TheVariants as refused
use Rattle.refusals.specs.declared.refusal.Refusal.TheVariants.{NotSupported}
use Rattle.sqlval.specs.declared.schema.Schema.{Schema}
use Rattle.lexer.specs.Token.{Bytes, IsFault}
use Rattle.ast.specs.declared.statement.Statement.{Statement}
use Rattle.statement_definitions.specs.Reading.{IsUnread}
use Rattle.typing.specs.declared.statement.Typed.{Typed}
use Rattle.typing.specs.Built.{is_built}
use Rattle.typing.specs.Finding.{Finding, reasons_in}
use Rattle.typing.specs.Finds.{IsReasonOf}
use Rattle.typing.specs.Statement.{answered_found, statement_found}
use Rattle.typing_laws.specs.Reasons.{is_reason, IsReasoned}
use Rattle.store.specs.declared.error.StoreError.{StoreError}
use Rattle.store.specs.declared.error.StoreError.TheVariants as error
use Rattle.store.specs.declared.error.StoreLimit.{StoreLimit}
use Rattle.store.specs.declared.error.StoreLimit.TheVariants as limit
use Rattle.store.specs.Errors.{HasRisen, MayFail}
use Rattle.replies.specs.declared.reply.Reply.{Reply}
use Rattle.replies.specs.declared.reply.Reply.TheVariants as says
use Rattle.transactions.specs.Refused.{Counts, IfRefused, refused_by}

-- ---- the count

rises_on : (top k m n : ℕ) → k ≤ m → min (m + 1) top ≤ n → min (k + 1) top ≤ n
rises_on top k m n less more = omega (arith, less, more)

rises_still : (top k m n : ℕ) → min (k + 1) top ≤ m → m ≤ n → min (k + 1) top ≤ n
rises_still top k m n more less = omega (arith, more, less)

pub risen_later : (k m n : ℕ) → k ≤ m → HasRisen m n → HasRisen k n
risen_later k m n less h = rises_on (2 ^ 64 - 1) k m n less h

pub risen_still : (k m n : ℕ) → HasRisen k m → m ≤ n → HasRisen k n
risen_still k m n h less = rises_still (2 ^ 64 - 1) k m n h less

-- a store that refused for its device
pub of_store : (sound : Type 0) (k m : ℕ) (reached : StoreLimit → Type 0) (e : StoreError) → MayFail sound k m reached e → refused_by e ≡ refused.Disk → HasRisen k m
of_store sound k m reached error.Memory h is = absurd (cc)
of_store sound k m reached error.Device h is = h
of_store sound k m reached error.Damaged h is = absurd (cc)
of_store sound k m reached (error.Exceeded limit.Pages) h is = absurd (cc)
of_store sound k m reached (error.Exceeded limit.Private) h is = absurd (cc)
of_store sound k m reached (error.Exceeded limit.Kept) h is = absurd (cc)
of_store sound k m reached (error.Exceeded limit.Record) h is = absurd (cc)
of_store sound k m reached (error.Exceeded limit.Key) h is = absurd (cc)

-- ---- what is no matter of the device

no_fault : (bytes : Bytes) (refusal : Refusal) → IsFault bytes refusal → refusal ≢ refused.Disk
no_fault bytes refusal (IsFault.long_name word rest run begins long e) is = cc
no_fault bytes refusal (IsFault.great_number digits rest run begins great e) is = cc
no_fault bytes refusal (IsFault.number_before_word digits rest run begins word e) is = cc
no_fault bytes refusal (IsFault.open_string characters opens text e) is = cc
no_fault bytes refusal (IsFault.long_string characters c rest opens text long one e) is = cc
no_fault bytes refusal (IsFault.wrong_in_string characters b rest opens text wrong e) is = cc
no_fault bytes refusal (IsFault.wrong_byte b rest opens unknown none e) is = cc

unread : (text : Bytes) (refusal : Refusal) → IsUnread text refusal → refusal ≢ refused.Disk
unread text refusal (IsUnread.too_long long e) is = cc
unread text refusal (IsUnread.no_token short fault) is = no_fault _ refusal fault.fault is
unread text refusal (IsUnread.unsupported tokens short are some e) is = cc
unread text refusal (IsUnread.too_deep tokens short are none deep e) is = cc
unread text refusal (IsUnread.too_many_operands tokens x spelled no_text text_is e) is = cc
unread text refusal (IsUnread.no_statement tokens spelled no_text e) is = cc

-- a text that is refused
pub never_read : (text : Bytes) (refusal : Refusal) → (refusal ≢ refused.Memory → IsUnread text refusal) → refusal ≢ refused.Disk
never_read text refusal h is = unread text refusal (h (λ memory. cc)) is

none_in : {X : Type 0} (x : X) → Contains [] x → ⊥
none_in x one = let h = one.1 in absurd (omega arith)

-- it is not in a list of others
nowhere : (p : Refusal → Bool) (reasons : List Refusal) → list_all p reasons ≡ true → p refused.Disk ≡ false → Contains reasons refused.Disk → ⊥
nowhere p reasons each other one =
    let passes : p refused.Disk ≡ true = All-contains (λ (r : Refusal). p r ≡ true) reasons refused.Disk (AllPass-from_list_all p reasons each) one in
    let bad : true ≡ false = sym passes ∙ other in
    cc

abbrev is_other : Refusal → Bool
is_other refused.Disk = false
is_other r = true

-- a statement against which there are reasons
pub never_typed : (x : Statement) (schema : Schema) (refusal : Refusal) → IsReasoned (statement_found x schema) → IsReasonOf (reasons_in (answered_found x schema)) refusal → refusal ≢ refused.Disk
never_typed x schema refusal reasoned h is = by (is_built x) (statement_found x schema) reasoned (subst (IsReasonOf (reasons_in (answered_found x schema))) is h)
  where
    by : (b : Bool) (found : Finding Typed) → IsReasoned found → Contains (reasons_in (cond b found (Err (NotSupported ∷ [])))) refused.Disk → ⊥
    by true (Ok t) r one = none_in refused.Disk one
    by true (Err reasons) r one = nowhere is_reason reasons r.err.each refl one
    by false found r one = nowhere is_other (NotSupported ∷ []) refl refl one

-- a statement that is refused by the state of the transaction alone
pub counts_state : (reply : Reply) (k m : ℕ) → IfRefused reply (λ refusal. refusal ≡ refused.TransactionState) → Counts reply k m
counts_state (says.Refused refusal) k m h = λ is. let bad : refused.TransactionState ≡ refused.Disk = sym h ∙ is in absurd (cc)
counts_state _ k m h = tt

-- one that is carried out
pub counts_none : (reply : Reply) (k m : ℕ) → IfRefused reply (λ refusal. ⊥) → Counts reply k m
counts_none (says.Refused refusal) k m h = absurd h
counts_none _ k m h = tt

-- one that is never refused by the device
pub never_counts : (reply : Reply) (k m : ℕ) → IfRefused reply (λ refusal. refusal ≢ refused.Disk) → Counts reply k m
never_counts (says.Refused refusal) k m h = λ is. absurd (h is)
never_counts _ k m h = tt

-- and a result whose error it never is
pub never_err : {A : Type 0} (result : Result A Refusal) (k m : ℕ) → IfErr result (λ refusal. refusal ≢ refused.Disk)
    → IfErr result (λ refusal. refusal ≡ refused.Disk → HasRisen k m)
never_err (Ok a) k m h = tt
never_err (Err refusal) k m h = λ is. absurd (h is)

-- DECLARE
pub declaring : (A B : Type 0) (refusal : Refusal) → (refusal ≡ refused.Memory) ⊎ ((refusal ≡ refused.Exceeded which.Cursors) × A × B) → refusal ≢ refused.Disk
declaring A B refusal (inl e) is = cc
declaring A B refusal (inr h) is = let e : refusal ≡ refused.Exceeded which.Cursors = h.0 in cc
