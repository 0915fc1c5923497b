-- The reply of a listing answers the ordered outcome of its tree.
use Rattle.std.proofs.Common.{◌≡◌, refl, ap, sym, ◌∙◌, subst, List, [], ◌∷◌, ◌++◌, append-nil, rules}
use Rattle.std.specs.Prelude.{Contains, IsSorted}
use Rattle.sqlval.specs.Value.{Row}
use Rattle.typing.specs.declared.typed.OrderKey.{OrderKey}
use Rattle.algebra.specs.declared.tree.Tree.{Tree}
use Rattle.algebra.specs.Listing.{tree_listing, reply_of}
use Rattle.algebra.specs.OrderKeys.{order_keys, ordered_outcome}
use Rattle.algebra.specs.TreeOutcome.{tree_outcome}
use Rattle.algebra_laws.proofs.Trees.{trees-list}
use Rattle.algebra_laws.specs.Shown.{Lists}
use Rattle.denote.specs.declared.fault.Fault.{Fault}
use Rattle.denote.specs.Answer.{by_keys, Answers}
use Rattle.denote.specs.Bag.{Permutes}
use Rattle.denote.specs.Evaluation.{Env}
use Rattle.denote.specs.Meaning.{Tables}
use Rattle.denote.specs.Outcome.{Outcome}
use Rattle.order_laws.proofs.Ascending.{ascends-IsSorted}
use Rattle.order_laws.proofs.Trees.{trees-ascend}

pub trees-sorted : (tables : Tables) (tree : Tree) (env : Env) → IsSorted (by_keys (order_keys tree)) (tree_listing tables tree env).rows
trees-sorted tables tree env = ascends-IsSorted (order_keys tree) (tree_listing tables tree env).rows (trees-ascend tables tree env)

begins : (fault : Fault) (faults : List Fault) → Contains (fault ∷ faults) fault
begins fault faults = search (rules)

-- a list that is sorted
answers : (l o : Outcome) (keys : List OrderKey) → Lists l o → IsSorted (by_keys keys) l.rows → Answers (reply_of l) (record { unordered = o; keys = keys })
answers l o keys h order = at l.faults refl
  where
    at : (faults : List Fault) → l.faults ≡ faults → Answers (reply_of l) (record { unordered = o; keys = keys })
    at [] e = let c = h.complete e in rw e (c.0, subst (λ (zs : List Row). Permutes o.rows zs) (ap (λ r. l.rows ++ r) c.1 ∙ append-nil l.rows) h.rows, order)
    at (fault ∷ faults) e = rw e (h.within fault (subst (λ (zs : List Fault). Contains zs fault) (sym e) (begins fault faults)))

pub trees-answer : (tables : Tables) (tree : Tree) → Answers (reply_of (tree_listing tables tree [])) (ordered_outcome tables tree)
trees-answer tables tree =
    answers (tree_listing tables tree []) (tree_outcome tables tree []) (order_keys tree) (trees-list tables tree []) (trees-sorted tables tree [])
