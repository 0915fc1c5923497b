use Rattle.sqlrecord.proofs.PageLemmas.{child_there}
use Rattle.sqlrecord.proofs.page.SlotPage.child.Goals as goal

pub four-requires : goal.four-requires
four-requires c = child_there _ _ _ _ c.value.ensures.cells c.requires.inner c.requires.place c.value.ensures.value
