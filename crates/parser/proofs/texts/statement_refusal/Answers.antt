use Rattle.std.proofs.Common.{◌≡◌, None, inl, inr}
use Rattle.parse_terminals.specs.Readers.{kinds}
use Rattle.parse_statements.specs.ReadStatements.{text}
use Rattle.parse_expressions.specs.Levels.{inner_at}
use Rattle.parser.proofs.Found.{text_found, what_was_found, nothing_found}
use Rattle.parser.proofs.AgainText.{text_none}
use Rattle.parser.proofs.texts.statement_refusal.Goals as goal

pub returns-in-None-clause-chain : goal.returns-in-None-clause-chain
returns-in-None-clause-chain c =
    let is : _ = what_was_found c.text-found.result (text (inner_at None 65) (kinds c.args.tokens.now)) (c.refused.ensures.found c.in-None.is) c.text-found.ensures in
    λ _. (is.0, text_found None tt 65 (kinds c.args.tokens.now) (is.0, is.1) is.2)

pub returns-in-Some-clause-chain : goal.returns-in-Some-clause-chain
returns-in-Some-clause-chain c = elim c.refusal_of.ensures.refusal [
  | inl memory ↦ λ e. absurd (cc)
  | inr syntax ↦ λ e. absurd (cc)
]

pub returns-in-Some-clause-syntax : goal.returns-in-Some-clause-syntax
returns-in-Some-clause-syntax c =
    λ e shallow.
    let none : text (inner_at None 65) (kinds c.args.tokens.now) ≡ None = nothing_found c.text-found.result _ c.refused.result c.refused.ensures.refused c.in-Some.is (c.refusal_of.ensures.syntax e) c.text-found.ensures in
    text_none None 64 (kinds c.args.tokens.now) shallow none

pub returns-in-Some-clause-refusal : goal.returns-in-Some-clause-refusal
returns-in-Some-clause-refusal c = elim c.refusal_of.ensures.refusal [
  | inl memory ↦ inl memory
  | inr syntax ↦ inr (inl syntax)
]
