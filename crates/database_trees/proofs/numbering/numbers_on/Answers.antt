use Rattle.std.proofs.Common.{arith, ◌≡◌, ◌+◌, ◌++◌, ◌∷◌, [], ◌∙◌, ℕ, List, map, take, ap, sym}
use Rattle.std.specs.List.{enumerate_from}
use Rattle.store.specs.Contents.{Entry}
use Rattle.database_trees.proofs.RowLemmas.{numbers_more}
use Rattle.database_trees.proofs.numbering.numbers_on.Goals as goal

pub loop-row-preserved : goal.loop-row-preserved
loop-row-preserved c =
    let known = c.loop-row.invariant in
    record {
      number = omega (arith, known.number);
      numbers = c.in_ok-push.ensures.ok ∙ ap (λ (ns : List ℕ). ns ++ c.loop-row.number ∷ []) known.numbers
          ∙ ap (λ (n : ℕ). map (λ (e : Entry). e.0) (enumerate_from c.args.first (take c.loop-row._row-index c.args.rows.now)) ++ n ∷ []) known.number
          ∙ sym (numbers_more c.args.first c.args.rows.now c.loop-row._row-index [] c.loop-row-test.true);
    }
