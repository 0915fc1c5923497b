use Rattle.stored_tables.proofs.ContentsLemmas.{contents_back}
use Rattle.stored_tables.proofs.content_laws.contents_are_read.Goals as goal

pub returns : goal.returns
returns c = contents_back
