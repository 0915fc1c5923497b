use Rattle.std.proofs.Common.{rules, arith, ◌≡◌, true, false, Some, None, Ok, refl, ap, inl, inr}
use Rattle.refusals.specs.declared.reason.Reason.TheVariants.{Syntax}
use Rattle.refusals.specs.declared.refusal.Refusal.TheVariants.{Exceeded, Invalid}
use Rattle.refusals.specs.declared.limit.Limit.TheVariants.{Chain, Nesting}
use Rattle.parse_terminals.specs.Readers.{kinds}
use Rattle.parse_statements.specs.ReadStatements.{text}
use Rattle.parse_expressions.specs.Levels.{inner_at}
use Rattle.parser.specs.Shallow.{is_shallow}
use Rattle.parser.proofs.Nested.{shallow_nested, nested_shallow}
use Rattle.parser.proofs.Found.{text_found}
use Rattle.parser.proofs.AgainText.{text_only, text_none}
use Rattle.parser.proofs.texts.parse.Goals as goal

pub returns-then-is_nested_deeper-clause-only : goal.returns-then-is_nested_deeper-clause-only
returns-then-is_nested_deeper-clause-only c = λ x h. inr (inr refl)

pub returns-then-is_nested_deeper-clause-nesting : goal.returns-then-is_nested_deeper-clause-nesting
returns-then-is_nested_deeper-clause-nesting c =
    let deep : is_shallow (kinds c.args.tokens.now) 64 ≡ false = search rules in
    (λ _ h. let shallow = nested_shallow (kinds c.args.tokens.now) 64 h in absurd (cc), λ _. refl)

pub returns-then-is_nested_deeper-clause-refusal : goal.returns-then-is_nested_deeper-clause-refusal
returns-then-is_nested_deeper-clause-refusal c = inr (inr (inr refl))

pub returns-in-Ok-clause-found : goal.returns-in-Ok-clause-found
returns-in-Ok-clause-found c = text_found (Some 64) (omega arith) 65 (kinds c.args.tokens.now) (c.in-Ok.statement, c.in-Ok.ensures.0) c.in-Ok.ensures.1

pub returns-in-Ok-clause-only : goal.returns-in-Ok-clause-only
returns-in-Ok-clause-only c =
    let shallow : is_shallow (kinds c.args.tokens.now) 64 ≡ true = search rules in
    λ x h. inl (ap Ok (text_only (Some 64) 64 (kinds c.args.tokens.now) x c.in-Ok.statement c.in-Ok.ensures.0 h shallow c.in-Ok.ensures.1))

pub returns-in-Ok-clause-nesting : goal.returns-in-Ok-clause-nesting
returns-in-Ok-clause-nesting c =
    let shallow : is_shallow (kinds c.args.tokens.now) 64 ≡ true = search rules in
    (λ e. absurd (cc), λ h. absurd (h (shallow_nested (kinds c.args.tokens.now) 64 shallow)))

pub returns-in-Err-Memory-clause-only : goal.returns-in-Err-Memory-clause-only
returns-in-Err-Memory-clause-only c = λ x h. inr (inl refl)

pub returns-in-Err-Memory-clause-nesting : goal.returns-in-Err-Memory-clause-nesting
returns-in-Err-Memory-clause-nesting c =
    let shallow : is_shallow (kinds c.args.tokens.now) 64 ≡ true = search rules in
    (λ e. absurd (cc), λ h. absurd (h (shallow_nested (kinds c.args.tokens.now) 64 shallow)))

pub returns-in-Err-Memory-clause-refusal : goal.returns-in-Err-Memory-clause-refusal
returns-in-Err-Memory-clause-refusal c = inl refl

pub returns-in-Err-Syntax-clause-only : goal.returns-in-Err-Syntax-clause-only
returns-in-Err-Syntax-clause-only c =
    let shallow : is_shallow (kinds c.args.tokens.now) 64 ≡ true = search rules in
    let none : text (inner_at (Some 64) 65) (kinds c.args.tokens.now) ≡ None = search rules in
    λ x h. absurd (text_none (Some 64) 64 (kinds c.args.tokens.now) shallow none (x, h))

pub returns-in-Err-Syntax-clause-syntax : goal.returns-in-Err-Syntax-clause-syntax
returns-in-Err-Syntax-clause-syntax c =
    let shallow : is_shallow (kinds c.args.tokens.now) 64 ≡ true = search rules in
    let none : text (inner_at (Some 64) 65) (kinds c.args.tokens.now) ≡ None = search rules in
    λ e.
    let refused : c.statement_refusal.result ≡ Invalid Syntax = cc in
    (text_none (Some 64) 64 (kinds c.args.tokens.now) shallow none, c.statement_refusal.ensures.syntax refused shallow)

pub returns-in-Err-Syntax-clause-chain : goal.returns-in-Err-Syntax-clause-chain
returns-in-Err-Syntax-clause-chain c =
    let shallow : is_shallow (kinds c.args.tokens.now) 64 ≡ true = search rules in
    let none : text (inner_at (Some 64) 65) (kinds c.args.tokens.now) ≡ None = search rules in
    λ e.
    let refused : c.statement_refusal.result ≡ Exceeded Chain = cc in
    (text_none (Some 64) 64 (kinds c.args.tokens.now) shallow none, c.statement_refusal.ensures.chain refused)

pub returns-in-Err-Syntax-clause-nesting : goal.returns-in-Err-Syntax-clause-nesting
returns-in-Err-Syntax-clause-nesting c =
    let shallow : is_shallow (kinds c.args.tokens.now) 64 ≡ true = search rules in (
      λ e.
          let nested : c.statement_refusal.result ≡ Exceeded Nesting = cc in
          elim c.statement_refusal.ensures.refusal [
            | inl m ↦ absurd (cc)
            | inr more ↦ elim more [
              | inl s ↦ absurd (cc)
              | inr h ↦ absurd (cc)
            ]
          ],
      λ h. absurd (h (shallow_nested (kinds c.args.tokens.now) 64 shallow)),
    )

pub returns-in-Err-Syntax-clause-refusal : goal.returns-in-Err-Syntax-clause-refusal
returns-in-Err-Syntax-clause-refusal c = elim c.statement_refusal.ensures.refusal [
  | inl m ↦ inl m
  | inr more ↦ elim more [
    | inl s ↦ inr (inl s)
    | inr h ↦ inr (inr (inl h))
  ]
]
