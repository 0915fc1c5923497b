use Rattle.std.proofs.Common.{◌≡◌, true, false, sym, ◌∙◌, rules, refl}
use Rattle.std.proofs.lemmas.Bool.{false≢true}
use Rattle.cursors.proofs.cursor.open_cursor.Goals as goal

pub returns-then-alone-clause-begins : goal.returns-then-alone-clause-begins
returns-then-alone-clause-begins g c = λ sound stands.
    let alone : c.in-Ok.alone ≡ true = search rules in
    c.unread.ensures.begins _ ((rw c.get.ensures at c.in-Ok.ensures).0 alone) stands

pub returns-else-alone-clause-unread : goal.returns-else-alone-clause-unread
returns-else-alone-clause-unread g c = λ none.
    let alone : c.in-Ok.alone ≡ false = search rules in
    absurd (false≢true (sym alone ∙ (rw c.get.ensures at c.in-Ok.ensures).1 none))

pub returns-then-alone-clause-tree : goal.returns-then-alone-clause-tree
returns-then-alone-clause-tree g c = c.unread.ensures.tree

pub returns-then-alone-clause-unread : goal.returns-then-alone-clause-unread
returns-then-alone-clause-unread g c = λ none. refl

pub returns-then-alone-clause-refused : goal.returns-then-alone-clause-refused
returns-then-alone-clause-refused g c = tt

pub returns-then-alone-clause-limits : goal.returns-then-alone-clause-limits
returns-then-alone-clause-limits g c = tt

pub returns-then-alone-clause-counts : goal.returns-then-alone-clause-counts
returns-then-alone-clause-counts g c = tt

pub returns-then-alone-clause-follows : goal.returns-then-alone-clause-follows
returns-then-alone-clause-follows g c = g.met.R.Reading.follows_refl _

pub returns-else-alone-clause-begins : goal.returns-else-alone-clause-begins
returns-else-alone-clause-begins g c = c.open_whole.ensures.begins

pub returns-else-alone-clause-tree : goal.returns-else-alone-clause-tree
returns-else-alone-clause-tree g c = c.open_whole.ensures.tree

pub returns-else-alone-clause-refused : goal.returns-else-alone-clause-refused
returns-else-alone-clause-refused g c = c.open_whole.ensures.refused

pub returns-else-alone-clause-limits : goal.returns-else-alone-clause-limits
returns-else-alone-clause-limits g c = c.open_whole.ensures.limits

pub returns-else-alone-clause-counts : goal.returns-else-alone-clause-counts
returns-else-alone-clause-counts g c = c.open_whole.ensures.counts

pub returns-else-alone-clause-follows : goal.returns-else-alone-clause-follows
returns-else-alone-clause-follows g c = c.open_whole.ensures.follows

pub returns-in-Err-clause-begins : goal.returns-in-Err-clause-begins
returns-in-Err-clause-begins g c = tt

pub returns-in-Err-clause-tree : goal.returns-in-Err-clause-tree
returns-in-Err-clause-tree g c = tt

pub returns-in-Err-clause-unread : goal.returns-in-Err-clause-unread
returns-in-Err-clause-unread g c = λ none. refl

pub returns-in-Err-clause-refused : goal.returns-in-Err-clause-refused
returns-in-Err-clause-refused g c = λ sound. tt

pub returns-in-Err-clause-limits : goal.returns-in-Err-clause-limits
returns-in-Err-clause-limits g c = tt

pub returns-in-Err-clause-counts : goal.returns-in-Err-clause-counts
returns-in-Err-clause-counts g c = λ is. absurd (cc)

pub returns-in-Err-clause-follows : goal.returns-in-Err-clause-follows
returns-in-Err-clause-follows g c = g.met.R.Reading.follows_refl _
