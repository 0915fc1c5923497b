-- Which refusals are not X0004.
use Rattle.std.proofs.Common.{◌≡◌, Bool, true, false, cond, List, [], ◌∷◌, Ok, Err, Contains, refl, sym, ap, ◌∙◌, subst}
use Rattle.std.specs.List.{list_all}
use Rattle.std.proofs.lemmas.List.Elements.{All-contains}
use Rattle.std.proofs.lemmas.List.Sums.{AllPass-from_list_all}
use Rattle.refusals.specs.declared.refusal.Refusal.{Refusal}
use Rattle.refusals.specs.declared.refusal.Refusal.TheVariants as refused
use Rattle.sqlval.specs.declared.schema.Schema.{Schema}
use Rattle.lexer.specs.Token.{Bytes, IsFault}
use Rattle.ast.specs.declared.statement.Statement.{Statement}
use Rattle.statement_definitions.specs.Reading.{IsUnread}
use Rattle.typing.specs.declared.statement.Typed.{Typed}
use Rattle.typing.specs.Built.{is_built}
use Rattle.typing.specs.Finding.{Finding}
use Rattle.typing.specs.Statement.{statement_found}
use Rattle.typing_laws.specs.Reasons.{is_reason, IsReasoned}
use Rattle.denote.specs.Database.{Database}
use Rattle.denote.specs.declared.fault.Fault.{Fault}
use Rattle.denote.specs.declared.fault.Fault.TheVariants as fault
use Rattle.session_definitions.specs.Refusals.{IsOfStore, IsReserved, StopsFlush, refusal_of}
use Rattle.session_definitions.specs.Rules.{Rules, AreRules, IsReason}
use Rattle.session_laws.specs.Damage.{is_damage}

-- ---- of the store

pub of_store : (refusal : Refusal) → IsOfStore refusal → is_damage refusal ≡ false
of_store refused.Damaged h = absurd h
of_store _ h = refl

pub reserved : (refusal : Refusal) → IsReserved refusal → is_damage refusal ≡ false
reserved refused.Damaged h = absurd h
reserved _ h = refl

pub of_flush : (refusal : Refusal) → StopsFlush refusal → is_damage refusal ≡ false
of_flush refused.Damaged h = absurd h
of_flush _ h = refl

-- ---- of an evaluation

pub of_fault : (raised : Fault) → is_damage (refusal_of raised) ≡ false
of_fault fault.ManyRows = refl
of_fault fault.TextTooLong = refl
of_fault fault.OutOfRange = refl
of_fault fault.DivisionByZero = refl
of_fault fault.Record = refl
of_fault fault.Key = refl

-- ---- of a text

of_bytes : (bytes : Bytes) (refusal : Refusal) → IsFault bytes refusal → is_damage refusal ≡ false
of_bytes bytes refusal (IsFault.long_name word rest run begins long e) = ap is_damage e
of_bytes bytes refusal (IsFault.great_number digits rest run begins great e) = ap is_damage e
of_bytes bytes refusal (IsFault.number_before_word digits rest run begins word e) = ap is_damage e
of_bytes bytes refusal (IsFault.open_string characters opens text e) = ap is_damage e
of_bytes bytes refusal (IsFault.long_string characters c rest opens text long one e) = ap is_damage e
of_bytes bytes refusal (IsFault.wrong_in_string characters b rest opens text wrong e) = ap is_damage e
of_bytes bytes refusal (IsFault.wrong_byte b rest opens unknown none e) = ap is_damage e

pub of_text : (text : Bytes) (refusal : Refusal) → IsUnread text refusal → is_damage refusal ≡ false
of_text text refusal (IsUnread.too_long long e) = ap is_damage e
of_text text refusal (IsUnread.no_token short first) = of_bytes _ refusal first.fault
of_text text refusal (IsUnread.unsupported tokens short are some e) = ap is_damage e
of_text text refusal (IsUnread.too_deep tokens short are none deep e) = ap is_damage e
of_text text refusal (IsUnread.too_many_operands tokens x spelled no_text is e) = ap is_damage e
of_text text refusal (IsUnread.no_statement tokens spelled no_text e) = ap is_damage e

-- ---- of names and types

of_reason : (refusal : Refusal) → is_reason refusal ≡ true → is_damage refusal ≡ false
of_reason refused.Damaged h = cc (h)
of_reason _ h = refl

-- a form that is not built
abbrev is_unbuilt : Refusal → Bool
is_unbuilt refused.NotSupported = true
is_unbuilt _ = false

of_unbuilt : (refusal : Refusal) → is_unbuilt refusal ≡ true → is_damage refusal ≡ false
of_unbuilt refused.Damaged h = cc (h)
of_unbuilt _ h = refl

one_of : (p : Refusal → Bool) → ((r : Refusal) → p r ≡ true → is_damage r ≡ false) → (reasons : List Refusal) (refusal : Refusal) → list_all p reasons ≡ true
    → Contains reasons refusal → is_damage refusal ≡ false
one_of p other reasons refusal each one =
    other refusal (All-contains (λ (r : Refusal). p r ≡ true) reasons refusal (AllPass-from_list_all p reasons each) one)

found : (b : Bool) (finds : Finding Typed) (reasons : List Refusal) (refusal : Refusal) → IsReasoned finds
    → cond b finds (Err (refused.NotSupported ∷ [])) ≡ Err reasons → Contains reasons refusal → is_damage refusal ≡ false
found true (Ok typed) reasons refusal reasoned e one = absurd (cc)
found true (Err others) reasons refusal reasoned e one =
    let same : others ≡ reasons = cc in
    one_of is_reason of_reason reasons refusal (subst (λ (rs : List Refusal). list_all is_reason rs ≡ true) same reasoned.err.each) one
found false finds reasons refusal reasoned e one =
    let same : refused.NotSupported ∷ [] ≡ reasons = cc in
    one_of is_unbuilt of_unbuilt reasons refusal (subst (λ (rs : List Refusal). list_all is_unbuilt rs ≡ true) same refl) one

pub of_rules : (rules : Rules) (db : Database) (x : Statement) (refusal : Refusal) → AreRules rules → ((tree : Statement) (schema : Schema) → IsReasoned (statement_found tree schema))
    → IsReason rules db x refusal → is_damage refusal ≡ false
of_rules rules db x refusal are reasoned h =
    found (is_built x) (statement_found x h.schema) h.reasons refusal (reasoned x h.schema) (sym (are.statements h.schema x) ∙ h.found) h.one
