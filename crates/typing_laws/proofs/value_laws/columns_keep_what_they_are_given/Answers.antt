use Rattle.typing_laws.proofs.Kept.{inserted-kept, updated-kept}
use Rattle.typing_laws.proofs.value_laws.columns_keep_what_they_are_given.Goals as goal

pub returns-clause-inserted : goal.returns-clause-inserted
returns-clause-inserted c known tables insert given place column value holds well are there is = inserted-kept known tables holds insert well given are place column value there is

pub returns-clause-updated : goal.returns-clause-updated
returns-clause-updated c known tables update row place column value holds well among there is = updated-kept known tables holds update well row among place column value there is
