use Rattle.std.proofs.Common.{◌≡◌, sym, Some, ◌∙◌, ◌+◌, true, false}
use Rattle.refusals.specs.declared.reason.Reason.TheVariants.{Name, Ambiguous}
use Rattle.refusals.specs.declared.refusal.Refusal.TheVariants.{Invalid}
use Rattle.typing.specs.declared.scope.Matches.TheVariants.{Nothing, One, Several}
use Rattle.typing.specs.Scope.{as_matches, has_table, meant}
use Rattle.scopes.proofs.Scopes.{locate-nothing, locate-one, locate-several, locate-table, locate-outwards, reason-alone}
use Rattle.scopes.proofs.columns.+locate.Goals as goal

pub returns-in_default-clause-err : goal.returns-in_default-clause-err
returns-in_default-clause-err t c = rw (locate-nothing c.args.depth c.args.name.now c.args.scope.now c.in_default.is) (reason-alone (Invalid Name))

pub returns-then-has_table-clause-err : goal.returns-then-has_table-clause-err
returns-then-has_table-clause-err t c =
    let none : as_matches (meant c.args.name.now 0 c.in-Inside.frame.now.columns) ≡ Nothing = cc in
    let there : has_table c.args.name.now.table c.in-Inside.frame.now ≡ true = cc in
    rw (locate-table c.args.depth c.args.name.now c.args.scope.now _ _ _ c.in-Inside.is none there) (reason-alone (Invalid Name))

pub returns-in-One-clause-ok : goal.returns-in-One-clause-ok
returns-in-One-clause-ok t c =
    let one : as_matches (meant c.args.name.now 0 c.in-Inside.frame.now.columns) ≡ One c.in-One.column = cc in
    locate-one c.args.depth c.args.name.now c.args.scope.now _ _ _ c.in-Inside.is _ one

pub returns-in-Several-clause-err : goal.returns-in-Several-clause-err
returns-in-Several-clause-err t c =
    let several : as_matches (meant c.args.name.now 0 c.in-Inside.frame.now.columns) ≡ Several = cc in
    rw (locate-several c.args.depth c.args.name.now c.args.scope.now _ _ _ c.in-Inside.is several) (reason-alone (Invalid Ambiguous))

pub returns-in-Some-clause-ok : goal.returns-in-Some-clause-ok
returns-in-Some-clause-ok t c =
    let none : as_matches (meant c.args.name.now 0 c.in-Inside.frame.now.columns) ≡ Nothing = cc in
    let absent : has_table c.args.name.now.table c.in-Inside.frame.now ≡ false = cc in
    rw (locate-outwards c.args.depth c.args.name.now c.args.scope.now _ _ _ c.in-Inside.is none absent)
    (rw c.in-Some.ensures.1 at c.locate.ensures.ok)

pub returns-in-Some-clause-err : goal.returns-in-Some-clause-err
returns-in-Some-clause-err t c =
    let none : as_matches (meant c.args.name.now 0 c.in-Inside.frame.now.columns) ≡ Nothing = cc in
    let absent : has_table c.args.name.now.table c.in-Inside.frame.now ≡ false = cc in
    rw (locate-outwards c.args.depth c.args.name.now c.args.scope.now _ _ _ c.in-Inside.is none absent)
    (rw c.in-Some.ensures.1 at c.locate.ensures.err)
