-- A limit of what a store counts is told only of a call that may reach it.
use Rattle.std.proofs.Common.{◌≡◌, ◌≢◌, ◌⊎◌, ℕ, Bool, true, false, cond, List, [], ◌∷◌, Ok, Err, Contains, refl, sym, subst, ◌∙◌, inl, inr, arith}
use Rattle.std.specs.List.{list_all}
use Rattle.std.proofs.lemmas.List.Elements.{All-contains}
use Rattle.std.proofs.lemmas.List.Sums.{AllPass-from_list_all}
use Rattle.refusals.specs.declared.limit.Limit.TheVariants as limit
use Rattle.refusals.specs.declared.refusal.Refusal.{Refusal}
use Rattle.refusals.specs.declared.refusal.Refusal.TheVariants as refused
use Rattle.refusals.specs.declared.refusal.Refusal.TheVariants.{NotSupported}
use Rattle.sqlval.specs.declared.schema.Schema.{Schema}
use Rattle.lexer.specs.Token.{Bytes, IsFault}
use Rattle.ast.specs.declared.statement.Statement.{Statement}
use Rattle.ast.specs.declared.statement.Statement.TheVariants as asks
use Rattle.statement_definitions.specs.Reading.{IsUnread}
use Rattle.typing.specs.declared.statement.Typed.{Typed}
use Rattle.typing.specs.Built.{is_built}
use Rattle.typing.specs.Finding.{Finding, reasons_in}
use Rattle.typing.specs.Finds.{IsReasonOf}
use Rattle.typing.specs.Statement.{answered_found, statement_found}
use Rattle.typing_laws.specs.Reasons.{is_reason, IsReasoned}
use Rattle.store.specs.declared.error.StoreLimit.{StoreLimit}
use Rattle.store.specs.Errors.{Never}
use Rattle.replies.specs.declared.reply.Reply.{Reply}
use Rattle.replies.specs.declared.reply.Reply.TheVariants as says
use Rattle.transactions.specs.Refused.{IfRefused, TellsReached, TellsNoLimit}
use Rattle.sessions.specs.Kinds.{is_change}
use Rattle.sessions.specs.Limits.{StatementReaches}
use Rattle.sessions.proofs.Unread.{is_memory}

-- ---- what may be reached otherwise

pub tells_wider : (P Q : StoreLimit → Type 0) → ((which : StoreLimit) → P which → Q which) → (r : Refusal) → TellsReached P r → TellsReached Q r
tells_wider P Q wider (refused.Exceeded limit.Pages) h = wider _ h
tells_wider P Q wider (refused.Exceeded limit.Private) h = wider _ h
tells_wider P Q wider (refused.Exceeded limit.Kept) h = wider _ h
tells_wider P Q wider _ h = tt

pub told_wider : (P Q : StoreLimit → Type 0) → ((which : StoreLimit) → P which → Q which) → (reply : Reply) → IfRefused reply (TellsReached P) → IfRefused reply (TellsReached Q)
told_wider P Q wider (says.Refused r) h = tells_wider P Q wider r h
told_wider P Q wider _ h = tt

-- where none is told any may be
pub tells_none : (Q : StoreLimit → Type 0) (r : Refusal) → TellsNoLimit r → TellsReached Q r
tells_none Q r h = tells_wider Never Q (λ which never. absurd never) r h

pub none_told : (Q : StoreLimit → Type 0) (reply : Reply) → IfRefused reply TellsNoLimit → IfRefused reply (TellsReached Q)
none_told Q reply h = told_wider Never Q (λ which never. absurd never) reply h

-- a change may be refused by any
change_reaches : (counted : StoreLimit → Type 0) (commits : ℕ) (x : Statement) → is_change x ≡ true → (which : StoreLimit) → StatementReaches counted commits x which
change_reaches counted commits (asks.Commit work) is which = absurd (cc)
change_reaches counted commits _ is which = is

pub told_of_change : (counted : StoreLimit → Type 0) (commits : ℕ) (x : Statement) → is_change x ≡ true → (reply : Reply) → IfRefused reply (TellsReached (StatementReaches counted commits x))
told_of_change counted commits x is (says.Refused r) = tells_any r
  where
    tells_any : (r : Refusal) → TellsReached (StatementReaches counted commits x) r
    tells_any (refused.Exceeded limit.Pages) = change_reaches counted commits x is _
    tells_any (refused.Exceeded limit.Private) = change_reaches counted commits x is _
    tells_any (refused.Exceeded limit.Kept) = change_reaches counted commits x is _
    tells_any _ = tt
told_of_change counted commits x is _ = tt

-- a statement that is refused by the state of the transaction alone
pub state_told : (Q : StoreLimit → Type 0) (reply : Reply) → IfRefused reply (λ refusal. refusal ≡ refused.TransactionState) → IfRefused reply (TellsReached Q)
state_told Q (says.Refused refusal) h = subst (TellsReached Q) (sym h) tt
state_told Q _ h = tt

-- ---- what is no matter of the store

no_fault : (bytes : Bytes) (refusal : Refusal) → IsFault bytes refusal → TellsNoLimit refusal
no_fault bytes refusal (IsFault.long_name word rest run begins long e) = subst TellsNoLimit (sym e) tt
no_fault bytes refusal (IsFault.great_number digits rest run begins great e) = subst TellsNoLimit (sym e) tt
no_fault bytes refusal (IsFault.number_before_word digits rest run begins word e) = subst TellsNoLimit (sym e) tt
no_fault bytes refusal (IsFault.open_string characters opens text e) = subst TellsNoLimit (sym e) tt
no_fault bytes refusal (IsFault.long_string characters c rest opens text long one e) = subst TellsNoLimit (sym e) tt
no_fault bytes refusal (IsFault.wrong_in_string characters b rest opens text wrong e) = subst TellsNoLimit (sym e) tt
no_fault bytes refusal (IsFault.wrong_byte b rest opens unknown none e) = subst TellsNoLimit (sym e) tt

unread : (text : Bytes) (refusal : Refusal) → IsUnread text refusal → TellsNoLimit refusal
unread text refusal (IsUnread.too_long long e) = subst TellsNoLimit (sym e) tt
unread text refusal (IsUnread.no_token short fault) = no_fault _ refusal fault.fault
unread text refusal (IsUnread.unsupported tokens short are some e) = subst TellsNoLimit (sym e) tt
unread text refusal (IsUnread.too_deep tokens short are none deep e) = subst TellsNoLimit (sym e) tt
unread text refusal (IsUnread.too_many_operands tokens x spelled no_text text_is e) = subst TellsNoLimit (sym e) tt
unread text refusal (IsUnread.no_statement tokens spelled no_text e) = subst TellsNoLimit (sym e) tt

-- a text that is refused
pub unread_tells : (text : Bytes) (refusal : Refusal) → (refusal ≢ refused.Memory → IsUnread text refusal) → TellsNoLimit refusal
unread_tells text refusal h = by (is_memory refusal)
  where
    by : (refusal ≡ refused.Memory) ⊎ (refusal ≢ refused.Memory) → TellsNoLimit refusal
    by (inl e) = subst TellsNoLimit (sym e) tt
    by (inr ne) = unread text refusal (h ne)

-- ---- a statement against which there are reasons

none_in : {X : Type 0} (x : X) → Contains [] x → ⊥
none_in x one = let h = one.1 in absurd (omega arith)

nowhere : (p : Refusal → Bool) (reasons : List Refusal) (r : Refusal) → list_all p reasons ≡ true → p r ≡ false → Contains reasons r → ⊥
nowhere p reasons r each other one =
    let passes : p r ≡ true = All-contains (λ (x : Refusal). p x ≡ true) reasons r (AllPass-from_list_all p reasons each) one in
    let bad : true ≡ false = sym passes ∙ other in
    cc

abbrev is_unsupported : Refusal → Bool
is_unsupported refused.NotSupported = true
is_unsupported r = false

no_reason : (x : Statement) (schema : Schema) (r : Refusal) → is_reason r ≡ false → is_unsupported r ≡ false → IsReasoned (statement_found x schema) → Contains (reasons_in (answered_found x schema)) r → ⊥
no_reason x schema r reason supported reasoned h = by (is_built x) (statement_found x schema) reasoned h
  where
    by : (b : Bool) (found : Finding Typed) → IsReasoned found → Contains (reasons_in (cond b found (Err (NotSupported ∷ [])))) r → ⊥
    by true (Ok t) is one = none_in r one
    by true (Err reasons) is one = nowhere is_reason reasons r is.err.each reason one
    by false found is one = nowhere is_unsupported (NotSupported ∷ []) r refl supported one

pub typed_tells : (x : Statement) (schema : Schema) (refusal : Refusal) → IsReasoned (statement_found x schema) → IsReasonOf (reasons_in (answered_found x schema)) refusal → TellsNoLimit refusal
typed_tells x schema (refused.Exceeded limit.Pages) reasoned h = no_reason x schema _ refl refl reasoned h
typed_tells x schema (refused.Exceeded limit.Private) reasoned h = no_reason x schema _ refl refl reasoned h
typed_tells x schema (refused.Exceeded limit.Kept) reasoned h = no_reason x schema _ refl refl reasoned h
typed_tells x schema _ reasoned h = tt

-- DECLARE
pub declaring_tells : (A B : Type 0) (refusal : Refusal) → (refusal ≡ refused.Memory) ⊎ ((refusal ≡ refused.Exceeded limit.Cursors) × A × B) → TellsNoLimit refusal
declaring_tells A B refusal (inl e) = subst TellsNoLimit (sym e) tt
declaring_tells A B refusal (inr h) = subst TellsNoLimit (sym h.0) tt
