use Rattle.std.proofs.Common.{◌≡◌, ◌+◌, ◌<◌, sym, subst}
use Rattle.sqlval.specs.CodedLength.{key_length}
use Rattle.sqlval.specs.Matching.{key_of}
use Rattle.store.specs.View.{entry_of}
use Rattle.page_space.specs.Space.{ReadRefused}
use Rattle.index_trees.specs.Indexed.{index_entry}
use Rattle.index_lookups.proofs.walking.if_entry.Goals as goal

pub returns-then-is_one-clause-entry : goal.returns-then-is_one-clause-entry
returns-then-is_one-clause-entry c = c.in-Ok.ensures.yes c.if-is_one.true

pub returns-in-Ok-clause-refusal : goal.returns-in-Ok-clause-refusal
returns-in-Ok-clause-refusal c = λ a b. c.in-Ok.ensures.no c.if-is_one.false

pub returns-clause-refusal : goal.returns-clause-refusal
returns-clause-refusal c = λ a b.
    subst (ReadRefused (c.args.entry.now ≡ index_entry c.args.columns.now (entry_of c.args.found) → 600 < key_length (key_of c.args.columns.now c.args.found.row) + 8) a b) (sym c.in-Err.ensures.memory) tt
