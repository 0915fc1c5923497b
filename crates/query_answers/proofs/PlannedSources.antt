-- What may stand for the trees of VALUES means what these say, over a good database.
use Rattle.std.proofs.Common.{◌≡◌, sym, subst, ℕ, ◌+◌, ◌<◌, List, [], ◌∷◌, ◌++◌, map, length, take, get_or}
use Rattle.typing.specs.declared.typed.Expression as typed_expression
use Rattle.algebra.specs.declared.tree.Expression.{Expression}
use Rattle.algebra.specs.declared.tree.StoredTable.{StoredTable}
use Rattle.algebra.specs.Translated.{tree_of_expression}
use Rattle.algebra.specs.TreeOutcome.{tree_value}
use Rattle.denote.specs.Meaning.{Tables, value_of}
use Rattle.operator_laws.specs.Same.{Agree, Each}
use Rattle.rules.specs.Same.{KeepsExpression}
use Rattle.translation.proofs.Taken.{mapped-suc}
use Rattle.query_answers.specs.Sources.{MeansExpression}

-- ---- a turn of a loop that makes what is related to something of each item

each-next : {A B : Type 0} (R : A → B → Type 0) (xs : List A) (ys : List B) (x : A) (y : B) → Each R xs ys → R x y → Each R (xs ++ x ∷ []) (ys ++ y ∷ [])
each-next R [] [] x y h one = (one, tt)
each-next R [] (z ∷ ys) x y h one = absurd h
each-next R (z ∷ xs) [] x y h one = absurd h
each-next R (z ∷ xs) (w ∷ ys) x y h one = (h.0, each-next R xs ys x y h.1 one)

-- what was made, and one more
pub made-next : {A B C : Type 0} (R : A → B → Type 0) (f : C → B) (made : List A) (items : List C) (at : ℕ) (item : C) (x : A) → at < length items → item ≡ get_or items at item
    → Each R made (map f (take at items)) → R x (f item) → Each R (made ++ x ∷ []) (map f (take (at + 1) items))
made-next R f made items at item x below is h one =
    subst (Each R (made ++ x ∷ [])) (sym (mapped-suc f items at item below is)) (each-next R made (map f (take at items)) x (f item) h one)

-- ---- what may stand for the trees of sources

module _ (described : List ℕ → StoredTable) (tables : Tables) where
  -- an expression, as the law of these trees says over these tables
  abbrev pub ExpressionsStand : Type 0
  ExpressionsStand = (asked : typed_expression.Expression) (new : Expression) → KeepsExpression new (tree_of_expression described asked)
      → Agree (tree_value tables new) (value_of tables asked)

  row-means : ExpressionsStand → (asked : List typed_expression.Expression) (new : List Expression)
      → Each KeepsExpression new (map (tree_of_expression described) asked) → Each (MeansExpression tables) new asked
  row-means stand [] [] keeps = tt
  row-means stand [] (tree ∷ new) keeps = absurd keeps
  row-means stand (x ∷ asked) [] keeps = absurd keeps
  row-means stand (x ∷ asked) (tree ∷ new) keeps = (stand x tree keeps.0, row-means stand asked new keeps.1)

  pub rows-mean : ExpressionsStand → (asked : List (List typed_expression.Expression)) (new : List (List Expression))
      → Each (Each KeepsExpression) new (map (map (tree_of_expression described)) asked) → Each (Each (MeansExpression tables)) new asked
  rows-mean stand [] [] keeps = tt
  rows-mean stand [] (row ∷ new) keeps = absurd keeps
  rows-mean stand (x ∷ asked) [] keeps = absurd keeps
  rows-mean stand (x ∷ asked) (row ∷ new) keeps = (row-means stand x row keeps.0, rows-mean stand asked new keeps.1)
