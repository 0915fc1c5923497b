-- Lists that are kept at a place, and places that keep none.
use Rattle.std.proofs.Common.{◌≡◌, Option, rules}
use Rattle.std.specs.Option.{option_to_list}
use Rattle.std.specs.Vec.Iter.{into_iter_items}
use Rattle.std.specs.declared.vec.IntoIter.{IntoIter}
use Rattle.sqlval.specs.Value.{Row}
use Rattle.algebra.specs.declared.tree.Tree.{Tree}
use Rattle.denote.specs.declared.fault.Fault.{Fault}
use Rattle.places.specs.declared.place.Place.{the_lemmas}
use Rattle.places.specs.declared.place.Place.TheVariants as p
use Rattle.places.specs.Left.{Entries, left, no_more}

module _ (entries : Entries) where
  pub left_ended : (fault : Option Fault) (tree : Tree) → left entries (p.Ended fault) tree ≡ no_more fault
  unfolding left
  left_ended fault tree = search (rules, the_lemmas)

  pub left_kept : (rows : IntoIter Row _) (fault : Option Fault) (tree : Tree)
      → left entries (p.Kept rows fault) tree ≡ record { rows = into_iter_items rows; faults = option_to_list fault }
  unfolding left
  left_kept rows fault tree = search (rules, the_lemmas)

pub ruleset wholes = (left_ended, left_kept)
