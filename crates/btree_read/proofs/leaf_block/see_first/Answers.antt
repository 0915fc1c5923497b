use Rattle.std.proofs.Common.{◌∙◌, refl}
use Rattle.btree_read.proofs.SeenLemmas.{first_begins}
use Rattle.btree_read.proofs.leaf_block.see_first.Goals as goal

pub returns-in-Ok-clause-begins : goal.returns-in-Ok-clause-begins
returns-in-Ok-clause-begins c =
    first_begins c.args.page _ c.args.leaf.now.cells c.args.start c.args.key.now c.args.seen.now.wanted c.first_place-first.result c.args.seen.now.walk.entries _ c.requires.entries
    c.in-Ok.ensures.entries c.in-Ok.ensures.next (c.saturating_sub-seen.ensures ∙ rw c.len.ensures.length refl) c.first_place-first.ensures.within c.first_place-first.ensures.before c.first_place-first.ensures.behind
