use Rattle.std.proofs.Common.{Option, ap, sym, ◌∙◌}
use Rattle.std.specs.Prelude.{slice_set}
use Rattle.cursors.specs.declared.cursor.OpenCursor.{OpenCursor}
use Rattle.cursors.specs.ByName.{with_cursor}
use Rattle.cursors.proofs.Declarations.{changed_none, changed_set, cursor_got, cursor_none}
use Rattle.cursors.proofs.named.put_open.Goals as goal

pub returns-in-Some-clause-puts : goal.returns-in-Some-clause-puts
returns-in-Some-clause-puts c =
    ap (λ (held : Option OpenCursor). slice_set c.args.declared.now c.args.at (with_cursor held c.in-Some.entry.now)) c.replace.ensures.after
    ∙ changed_set (with_cursor c.args.cursor) c.args.at c.args.declared.now c.in-Some.entry.now (sym c.in-Some.ensures.value)

pub returns-in-Some-clause-was : goal.returns-in-Some-clause-was
returns-in-Some-clause-was c =
    c.replace.ensures.value ∙ sym (cursor_got c.args.at c.args.declared.now c.in-Some.entry.now (sym c.in-Some.ensures.value))

pub returns-in-None-clause-puts : goal.returns-in-None-clause-puts
returns-in-None-clause-puts c = sym (changed_none (with_cursor c.args.cursor) c.args.at c.args.declared.now (sym c.in-None.ensures.value))

pub returns-in-None-clause-was : goal.returns-in-None-clause-was
returns-in-None-clause-was c = sym (cursor_none c.args.at c.args.declared.now (sym c.in-None.ensures.value))
