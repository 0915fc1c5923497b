use Rattle.std.proofs.Common.{◌≡◌, ◌≢◌, ◌∙◌, refl, sym, subst, ap, List, [], ◌∷◌}
use Rattle.std.proofs.lemmas.Result.{IfOk-weaker, IfErr-weaker}
use Rattle.lexer.specs.declared.kinds.Kind.TheVariants as kind
use Rattle.lexer.specs.declared.kinds.Token.{Token}
use Rattle.lexer.specs.Tokens.{kinds_of}
use Rattle.refusals.specs.declared.refusal.Refusal.TheVariants.{Memory}
use Rattle.csvio.proofs.Named.{one_name, unnamed_fault, unnamed_tokens}
use Rattle.csvio.proofs.table_name.table_name.Goals as goal

pub returns-in-Err-clause-refused : goal.returns-in-Err-clause-refused
returns-in-Err-clause-refused c = λ ne.
    let other : c.in-Err.fault ≢ Memory = λ e. ne (c.unnamed.ensures.memory e) in
    (c.unnamed.ensures.other other, unnamed_fault c.args.text.now c.in-Err.fault other (λ all are. c.in-Err.ensures.only all are))

pub returns-in-Some-clause-gives : goal.returns-in-Some-clause-gives
returns-in-Some-clause-gives c = IfOk-weaker c.copied.result _ _
    (λ copy is. record {
      tokens = c.in-Ok.found.items;
      are = c.in-Ok.ensures.found;
      one = subst (λ (tokens : List Token). kinds_of tokens ≡ kind.Name copy ∷ []) c.as_slice.ensures.value (c.in-Some.ensures.is ∙ ap (λ name. kind.Name name ∷ []) (sym is));
    })
    c.copied.ensures.copied

pub returns-in-Some-clause-only : goal.returns-in-Some-clause-only
returns-in-Some-clause-only c = IfOk-weaker c.copied.result _ _
    (λ copy is other named.
    one_name c.args.text.now c.in-Ok.found.items c.in-Some.name.now other (λ all are. c.in-Ok.ensures.only all are)
    (subst (λ (tokens : List Token). kinds_of tokens ≡ kind.Name c.in-Some.name.now ∷ []) c.as_slice.ensures.value c.in-Some.ensures.is) named ∙ sym is)
    c.copied.ensures.copied

pub returns-in-Some-clause-refused : goal.returns-in-Some-clause-refused
returns-in-Some-clause-refused c = IfErr-weaker c.copied.result _ _ (λ refusal is ne. absurd (ne is)) c.copied.ensures.memory

pub returns-clause-refused : goal.returns-clause-refused
returns-clause-refused c = λ ne. (
  refl,
  unnamed_tokens c.args.text.now c.in-Ok.found.items (λ all are. c.in-Ok.ensures.only all are)
      (λ name is. c.in-None.ensures.none name (subst (λ (tokens : List Token). kinds_of tokens ≡ kind.Name name ∷ []) (sym c.as_slice.ensures.value) is)),
)
