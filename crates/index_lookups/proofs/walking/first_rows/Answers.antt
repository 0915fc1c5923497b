use Rattle.std.proofs.Common.{◌∙◌, ap, take, sym, subst}
use Rattle.std.proofs.lemmas.List.{take-map}
use Rattle.store.specs.Contents as stored
use Rattle.std.specs.List.{AllByRecursion}
use Rattle.tablestore.specs.Held.{RowFits}
use Rattle.index_lookups.proofs.TypeLemmas.{first_each}
use Rattle.index_lookups.proofs.walking.first_rows.Goals as goal

pub returns-clause-found : goal.returns-clause-found
returns-clause-found c = λ rows are. record {
  numbers = c.truncate.ensures ∙ ap (take c.args.most) are.numbers ∙ take-map (λ (e : stored.Entry). e.0) c.args.most rows;
  rows = c.truncate-2.ensures ∙ ap (take c.args.most) are.rows ∙ take-map (λ (e : stored.Entry). e.1) c.args.most rows;
}

pub returns-clause-typed : goal.returns-clause-typed
returns-clause-typed c = λ types h. subst (AllByRecursion (RowFits types)) (sym c.truncate-2.ensures) (first_each (RowFits types) c.args.most c.args.found.rows h)
