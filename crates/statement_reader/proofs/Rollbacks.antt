-- ROLLBACK is a statement of one or two reserved words.
use Rattle.std.proofs.Common.{◌≡◌, ◌⊎◌, ◌+◌, ◌≤◌, ◌<◌, Bool, true, false, List, [], ◌∷◌, ◌++◌, map, length, length-append, append-nil, refl, sym, ap, ◌∙◌, subst, inl, inr, arith, Some, None}
use Rattle.std.specs.Prelude.{◌↔◌}
use Rattle.lexer.specs.declared.kinds.Kind.{Kind}
use Rattle.lexer.specs.declared.kinds.Kind.TheVariants as kind
use Rattle.lexer.specs.declared.kinds.Symbol.TheVariants as symbol
use Rattle.lexer.specs.declared.kinds.Token.{Token}
use Rattle.lexer.specs.declared.words.Word.TheVariants.{Rollback, Work}
use Rattle.lexer.specs.Recognition.{IsMadeOf}
use Rattle.lexer.specs.Support.{first_unsupported, unsupported_word}
use Rattle.lexer.specs.Token.{Bytes}
use Rattle.lexer.specs.Tokens.{AreTokens, kinds_of}
use Rattle.lexer.specs.Words.{is_supported}
use Rattle.ast.specs.declared.statement.Statement.TheVariants as asks
use Rattle.ast.specs.Grammar.{IsText}
use Rattle.ast.specs.Nesting.{left_of, lefts, IsNestedWithin}
use Rattle.ast.specs.Notation.{Tokens, Written}
use Rattle.ast.specs.Words.{ROLLBACK, WORK, SEMICOLON}
use Rattle.statement_definitions.specs.Reading.{IsRead, deepest, longest_chain, longest_statement}
use Rattle.statement_definitions.specs.Rollback.{IsRollback, rollback_words}

-- ---- few tokens nest no deeper than the limit

one_left : (k : Kind) → left_of k ≤ 1
one_left (kind.Symbol symbol.LeftParenthesis) = omega arith
one_left _ = omega arith

few_lefts : (ts : Tokens) → lefts ts ≤ length ts
few_lefts [] = omega arith
few_lefts (t ∷ ts) = let a = one_left t in let b = few_lefts ts in omega arith

nested_few : (ts : Tokens) → length ts ≤ deepest → IsNestedWithin deepest ts
nested_few ts short front back e =
    let a = few_lefts front in
    let size : length ts ≡ length front + length back = ap length e ∙ length-append front back in
    omega arith

-- ---- words that are supported

abbrev AreSupported : List Kind → Type 0
AreSupported [] = Unit {0}
AreSupported (k ∷ ks) = (unsupported_word k ≡ None) × AreSupported ks

supported : (tokens : List Token) (ks : List Kind) → kinds_of tokens ≡ ks → AreSupported ks → first_unsupported tokens ≡ None
supported [] ks e are = refl
supported (t ∷ ts) [] e are = cc
supported (t ∷ ts) (k ∷ ks) e are =
    let first : t.kind ≡ k = cc in
    let others : kinds_of ts ≡ ks = cc in
    rw (first, are.0) (supported ts ks others are.1)

is_rollback_supported : is_supported Rollback ≡ true
unfolding is_supported
is_rollback_supported = refl

is_work_supported : is_supported Work ≡ true
unfolding is_supported
is_work_supported = refl

-- ---- the statement

-- its tokens, with what stands behind them
abbrev kinds_with : Bool → Tokens → Tokens
kinds_with work rest = map kind.Word (rollback_words work) ++ rest

statement_of : (work : Bool) (rest : Tokens) → (rest ≡ []) ⊎ (rest ≡ SEMICOLON ∷ []) → IsText (Some longest_chain) (kinds_with work rest) (asks.Rollback work)
statement_of false rest end = record { depth = 0; rest = rest; statement = (rest, refl, refl); end = end }
statement_of true rest end = record { depth = 0; rest = rest; statement = (WORK ∷ rest, refl, refl); end = end }

few_kinds : (work : Bool) (rest : Tokens) → length rest ≤ 1 → length (kinds_with work rest) ≤ deepest
few_kinds false rest short = omega arith
few_kinds true rest short = omega arith

supported_kinds : (work : Bool) (rest : Tokens) → AreSupported rest → AreSupported (kinds_with work rest)
supported_kinds false rest are = (rw is_rollback_supported refl, are)
supported_kinds true rest are = (rw is_rollback_supported refl, (rw is_work_supported refl, are))

read_as : (text : Bytes) (work : Bool) (tokens : List Token) (rest : Tokens) → length text ≤ longest_statement → AreTokens text tokens → kinds_of tokens ≡ kinds_with work rest
    → (rest ≡ []) ⊎ (rest ≡ SEMICOLON ∷ []) → length rest ≤ 1 → AreSupported rest → IsRead text (asks.Rollback work)
read_as text work tokens rest short are e end few all = record {
  tokens = tokens;
  spelled = record {
    short = short;
    tokenized = are;
    supported = supported tokens (kinds_with work rest) e (supported_kinds work rest all);
    nested = subst (IsNestedWithin deepest) (sym e) (nested_few (kinds_with work rest) (few_kinds work rest few));
  };
  statement = subst (λ ks. IsText (Some longest_chain) ks (asks.Rollback work)) (sym e) (statement_of work rest end);
}

made_is_read : (text : Bytes) (work : Bool) → length text ≤ longest_statement → IsMadeOf text (rollback_words work) → IsRead text (asks.Rollback work)
made_is_read text work short made = elim made.kinds [
  | inl e ↦ read_as text work made.tokens [] short made.are (e ∙ sym (append-nil (map kind.Word (rollback_words work)))) (inl refl) (omega arith) tt
  | inr e ↦ read_as text work made.tokens (SEMICOLON ∷ []) short made.are e (inr refl) (omega arith) (refl, tt)
]

kinds_are : (work : Bool) (ts after rest : Tokens) → ts ≡ ROLLBACK ∷ after → Written WORK after work rest → ts ≡ kinds_with work rest
kinds_are false ts after rest e w = rw (e, w) refl
kinds_are true ts after rest e w = rw (e, w) refl

read_is_made : (text : Bytes) (work : Bool) → IsRead text (asks.Rollback work) → IsMadeOf text (rollback_words work)
read_is_made text work read =
    let h = read.statement.statement in
    let all : kinds_of read.tokens ≡ kinds_with work read.statement.rest = kinds_are work (kinds_of read.tokens) h.0 read.statement.rest h.1 h.2 in
    record {
      tokens = read.tokens;
      are = read.spelled.tokenized;
      kinds = elim read.statement.end [
        | inl e ↦ inl (all ∙ ap (kinds_with work) e ∙ append-nil (map kind.Word (rollback_words work)))
        | inr e ↦ inr (all ∙ ap (kinds_with work) e)
      ];
    }

made_of : (text : Bytes) → IsRollback text → IsMadeOf text (rollback_words false) ⊎ IsMadeOf text (rollback_words true)
made_of text (false, read) = inl (read_is_made text false read)
made_of text (true, read) = inr (read_is_made text true read)

pub rollback_iff : (text : Bytes) → length text ≤ longest_statement → (IsMadeOf text (rollback_words false) ⊎ IsMadeOf text (rollback_words true)) ↔ IsRollback text
rollback_iff text short =
    (λ made. elim made [ inl m ↦ (false, made_is_read text false short m) | inr m ↦ (true, made_is_read text true short m) ], λ is. made_of text is)

pub too_long : (text : Bytes) → longest_statement < length text → IsRollback text → ⊥
too_long text long is = let short : length text ≤ longest_statement = (is.1).spelled.short in absurd (omega arith)
