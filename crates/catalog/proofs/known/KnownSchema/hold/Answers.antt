use Rattle.std.proofs.Common.{◌∙◌, sym, ap}
use Rattle.sqlval.specs.declared.schema.Schema.{Schema}
use Rattle.catalog.proofs.DecodeLemmas.{refused}
use Rattle.catalog.proofs.known.KnownSchema.hold.Goals as goal

pub returns-then-is_same : goal.returns-then-is_same
returns-then-is_same c = λ tables range references coded is. c.args.self.now.decoded tables range references coded (sym (c.is_same.ensures c.if-is_same.true) ∙ is)

pub returns-in_err-schema : goal.returns-in_err-schema
returns-in_err-schema c = λ tables range references coded is. refused _ c.in_err-schema.field-0.0 _ c.from_residual.ensures.1 (c.in_err-schema.ensures.again tables range references coded is)

pub invariant_of-self : goal.invariant_of-self
invariant_of-self c = record {
  decoded = λ tables range references coded is. ap (λ (s : Schema). s.tables) (c.in_ok-schema.ensures.again tables range references coded is);
  references = c.in_ok-schema.ensures.references;
}

pub returns : goal.returns
returns c = λ tables range references coded is. ap (λ (s : Schema). s.tables) (c.in_ok-schema.ensures.again tables range references coded is)
