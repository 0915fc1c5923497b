use Rattle.std.specs.Prelude.{◌≡◌, true, take}
use Rattle.std.specs.List.{list_all}
use Rattle.items.specs.Text.{is_character}
use Rattle.sqlrecord.proofs.characters.is_text_of.Given as goal

abbrev pub invariant-loop-code : goal.invariant-loop-code
invariant-loop-code l = list_all is_character (take l.code-index l.codes) ≡ true
