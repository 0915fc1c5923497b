use Rattle.std.proofs.Common.{◌∙◌, ap, refl, sym}
use Rattle.std.specs.Option.{option_copied}
use Rattle.scopes.specs.Seen.{frames}
use Rattle.scopes.proofs.Scopes.{frames-inside, frames-outermost}
use Rattle.query_types.specs.Selects.{keyed}
use Rattle.query_types.proofs.parts.grouped.Goals as goal

pub returns-in-Outermost : goal.returns-in-Outermost
returns-in-Outermost c = rw (c.in-Outermost.is, frames-outermost) refl

pub returns-in-Inside : goal.returns-in-Inside
returns-in-Inside c =
    frames-inside _ _ _
    ∙ sym (ap (λ scope. keyed (option_copied c.args.key) (frames scope)) c.in-Inside.is ∙ ap (keyed (option_copied c.args.key)) (frames-inside _ _ _))
