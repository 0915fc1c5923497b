use Rattle.std.proofs.Common.{◌∙◌, sym}
use Rattle.lexer.proofs.Lines.{supports_here, supports_later}
use Rattle.lexer.proofs.words.supports.Goals as goal

pub returns-then-eq : goal.returns-then-eq
returns-then-eq c =
    c.eq-then-eq.ensures
    ∙ (sym (supports_here c.loop-table.table.now _ c.args.word c.in-len1-up.len_at_least (sym c.eq.ensures ∙ c.if-eq.true)) ∙ c.loop-table.invariant)

pub loop-table-preserved : goal.loop-table-preserved
loop-table-preserved c =
    sym (supports_later c.loop-table.table.now _ c.args.word c.in-len1-up.len_at_least (sym c.eq.ensures ∙ c.if-eq.false)) ∙ c.loop-table.invariant
