use Rattle.std.proofs.Common.{Option, ap, is_some, sym, ◌∙◌}
use Rattle.cursors.specs.declared.cursor.OpenCursor.{OpenCursor}
use Rattle.cursors.specs.ByName.{cursor_if, cursor_in}
use Rattle.cursors.proofs.Declarations.{cursor_got, cursor_none, get_none, got_cursor, some_cursor}
use Rattle.cursors.proofs.held.Cursors.is_open.Goals as goal

pub returns-in-None : goal.returns-in-None
returns-in-None c = λ contents. sym (ap is_some (get_none (cursor_in contents) c.args.name.now c.args.self.now.declared (sym c.place_of.ensures ∙ c.in-None.is)))

pub returns-in-None-get : goal.returns-in-None-get
returns-in-None-get c = λ contents.
    let none = cursor_none c.in-Some.at c.args.self.now.declared (sym c.in-None-get.ensures.value) in
    sym (ap is_some (got_cursor contents c.args.name.now c.in-Some.at c.args.self.now.declared (sym c.place_of.ensures ∙ c.in-Some.is)
    ∙ ap (λ (held : Option OpenCursor). cursor_if held contents) none))

pub returns-in-Some-get : goal.returns-in-Some-get
returns-in-Some-get c = λ contents.
    let there = cursor_got c.in-Some.at c.args.self.now.declared c.in-Some-get.entry.now (sym c.in-Some-get.ensures.value) in
    c.is_some.ensures ∙ sym (some_cursor c.in-Some-get.entry.now.cursor contents)
    ∙ sym (ap is_some (got_cursor contents c.args.name.now c.in-Some.at c.args.self.now.declared (sym c.place_of.ensures ∙ c.in-Some.is)
    ∙ ap (λ (held : Option OpenCursor). cursor_if held contents) there))
