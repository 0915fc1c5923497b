use Rattle.algebra_laws.proofs.Ordered.{query-kept, ordered-kept}
use Rattle.algebra_laws.proofs.translation.translation_keeps_the_meaning.Goals as goal

pub returns : goal.returns
returns c = record { query = query-kept; ordered = ordered-kept }
