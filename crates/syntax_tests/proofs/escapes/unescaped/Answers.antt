use Rattle.std.proofs.Common.{◌≡◌, sym, subst, append-nil, List, ℕ, ◌++◌, []}
use Rattle.syntax_tests.specs.Escapes.{Spells}
use Rattle.syntax_tests.proofs.Lines.{nothing_left}
use Rattle.syntax_tests.proofs.escapes.unescaped.Goals as goal

pub returns : goal.returns
returns c =
    let all : Spells c.args.line.now (c.loop-rest.text.items ++ []) =
    c.loop-rest.invariant [] (nothing_left c.loop-rest.rest.now c.in_default.len_below) in
    rw (append-nil c.loop-rest.text.items) at all
