use Rattle.std.proofs.Common.{refl, sym, ◌∙◌, ap, subst, arith}
use Rattle.std.proofs.lemmas.Result.{err_from_is_err_and}
use Rattle.lexer.specs.Support.{first_unsupported}
use Rattle.lexer.specs.Tokens.{AreTokens}
use Rattle.statement_definitions.specs.Reading.{IsUnread}
use Rattle.statement_reader.proofs.ReadTexts.{AreReadable, Parses, read_if, unread_if, only_one}
use Rattle.statement_reader.proofs.reading.read_statement.Goals as goal

pub returns-in_err-tokens-clause-only : goal.returns-in_err-tokens-clause-only
returns-in_err-tokens-clause-only c = λ x read.
    let memory = c.in_err-tokens.ensures.only read.tokens read.spelled.tokenized in
    let p = err_from_is_err_and c.from_residual.result c.from_residual.ensures.1 in
    rw p.1 (p.2 ∙ memory)

pub returns-then-not-are_supported-clause-unread : goal.returns-then-not-are_supported-clause-unread
returns-then-not-are_supported-clause-unread c = λ ne.
    let some = rw c.if-not-are_supported.true at c.are_supported.ensures in
    IsUnread.unsupported c.as_slice.result.now (omega (arith, c.if-text-gt-LONGEST_STATEMENT.false))
    (subst (AreTokens c.args.text.now) (sym c.as_slice.ensures.value) c.in_ok-tokens.ensures.found) some refl

pub returns-then-not-are_supported-clause-only : goal.returns-then-not-are_supported-clause-only
returns-then-not-are_supported-clause-only c = λ x read.
    let same = c.in_ok-tokens.ensures.only read.tokens read.spelled.tokenized in
    let none = ap (λ tokens. first_unsupported tokens) (c.as_slice.ensures.value ∙ same) ∙ read.spelled.supported in
    let some = rw c.if-not-are_supported.true at c.are_supported.ensures in
    let false_then = rw none at some in
    cc

readable : (c : goal.After-drop-tokens-2) → AreReadable c.args.text.now c.as_slice-2.result.now
readable c =
    let none = rw c.if-not-are_supported.false at c.are_supported.ensures in
    record {
      short = omega (arith, c.if-text-gt-LONGEST_STATEMENT.false);
      tokenized = subst (AreTokens c.args.text.now) (sym c.as_slice-2.ensures.value) c.in_ok-tokens.ensures.found;
      supported = ap (λ tokens. first_unsupported tokens) (c.as_slice-2.ensures.value ∙ sym c.as_slice.ensures.value) ∙ none;
    }

parses : (c : goal.After-drop-tokens-2) → Parses c.as_slice-2.result.now c.parse.result
parses c = record {
  found = c.parse.ensures.found;
  only = c.parse.ensures.only;
  syntax = c.parse.ensures.syntax;
  chain = c.parse.ensures.chain;
  nesting = c.parse.ensures.nesting;
  refusal = c.parse.ensures.refusal;
}

pub returns-clause-read : goal.returns-clause-read
returns-clause-read c = read_if c.args.text.now c.as_slice-2.result.now c.parse.result (readable c) (parses c)

pub returns-clause-unread : goal.returns-clause-unread
returns-clause-unread c = unread_if c.args.text.now c.as_slice-2.result.now c.parse.result (readable c) (parses c)

pub returns-clause-only : goal.returns-clause-only
returns-clause-only c = λ x read.
    let same = c.in_ok-tokens.ensures.only read.tokens read.spelled.tokenized in
    only_one c.args.text.now c.as_slice-2.result.now c.parse.result (parses c) x read (c.as_slice-2.ensures.value ∙ same)
