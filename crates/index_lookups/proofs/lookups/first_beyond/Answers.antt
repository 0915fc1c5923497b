use Rattle.std.specs.Prelude.{filter}
use Rattle.index_lookups.specs.declared.sought.Sought.TheVariants.{Beyond}
use Rattle.index_lookups.specs.Sought.{is_wanted}
use Rattle.index_lookups.specs.Walked.{walk_of}
use Rattle.index_lookups.proofs.StandLemmas.{nothing_skipped}
use Rattle.index_lookups.proofs.TypeLemmas.{first_typed}
use Rattle.index_lookups.proofs.lookups.first_beyond.Goals as goal

pub returns-in-Ok-clause-row : goal.returns-in-Ok-clause-row
returns-in-Ok-clause-row g c = λ rows h.
    c.first_of.ensures.first (filter (is_wanted (Beyond c.args.after) c.args.place.now.columns) (walk_of c.args.place.now.columns rows)) (c.in-Ok.ensures.rows rows h (nothing_skipped (Beyond c.args.after) c.args.place.now.columns))

pub returns-in-Ok-clause-typed : goal.returns-in-Ok-clause-typed
returns-in-Ok-clause-typed g c = first_typed c.args.place.now.types c.in-Ok.found c.first_of.result c.first_of.ensures.row c.in-Ok.ensures.typed
