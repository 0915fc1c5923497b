use Rattle.type_rules.proofs.FindsLemmas.{Finds-ok}
use Rattle.change_types.proofs.inserts.inserted.Goals as goal

pub returns : goal.returns
returns c = rw (c.in_ok-copy.ensures.copied, c.as_text.ensures.text, c.in_ok-columns.ensures) (Finds-ok _)
