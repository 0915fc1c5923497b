use Rattle.std.proofs.Common.{◌≡◌, ◌∙◌, ap, subst, ℕ, List, IfOk}
use Rattle.std.specs.List.{zip}
use Rattle.std.specs.Prelude.{filter}
use Rattle.store.specs.Contents.{Entry}
use Rattle.store.specs.Sorted.{sorted_by}
use Rattle.store.specs.View.{AreEntries}
use Rattle.range_lookups.proofs.Restored.{paired-entries}
use Rattle.range_lookups.proofs.numbers.by_number.Goals as goal

pub returns : goal.returns
returns c = λ order test entries rises are.
    let same = c.in_ok-entries.ensures ∙ ap (λ (ns : List ℕ). zip ns c.args.found.rows) c.as_slice.ensures
    ∙ paired-entries c.args.found (filter test (sorted_by order entries)) are in
    subst (λ (es : List Entry). IfOk c.apart.result (λ ordered. AreEntries ordered es))
    (c.in_ok-sorted.ensures order test entries rises same) c.apart.ensures
