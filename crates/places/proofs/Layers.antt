-- What is taken from places of each kind.
use Rattle.std.proofs.Common.{◌≡◌, Bool, false, List, Option, Some, rules}
use Rattle.std.specs.Vec.Iter.{into_iter_items}
use Rattle.std.specs.declared.vec.IntoIter.{IntoIter}
use Rattle.sqlval.specs.Value.{Row}
use Rattle.places.specs.declared.place.Members.{Members}
use Rattle.places.specs.declared.place.Place.{Place, the_lemmas}
use Rattle.places.specs.declared.place.Place.TheVariants as p
use Rattle.places.specs.Views.{Pairs, asked, below, is_whole, paired, seen, standing}

pub stands_pairs : (lefts : Place) (ahead : IntoIter Row _) (row : Option Row) (matched : Bool) (rights : Place)
    → standing (p.Pairs lefts ahead row matched rights)
    ≡ Pairs (record { left = lefts; ahead = into_iter_items ahead; row = row; matched = matched; right = rights })
stands_pairs lefts ahead row matched rights = search (rules, the_lemmas)

pub paired_pairs : (lefts : Place) (ahead : IntoIter Row _) (row : Option Row) (matched : Bool) (rights : Place)
    → paired (p.Pairs lefts ahead row matched rights)
    ≡ record { left = lefts; ahead = into_iter_items ahead; row = row; matched = matched; right = rights }
paired_pairs lefts ahead row matched rights = search (rules, the_lemmas)

pub whole_through : (inner : Place) → is_whole (p.Through inner) ≡ false
whole_through inner = search (rules, the_lemmas)

pub below_through : (inner : Place) → below (p.Through inner) ≡ inner
below_through inner = search (rules, the_lemmas)

pub whole_seen : (given : List Row) (inner : Place) → is_whole (p.Seen given inner) ≡ false
whole_seen given inner = search (rules, the_lemmas)

pub seen_seen : (given : List Row) (inner : Place) → seen (p.Seen given inner) ≡ (given, inner)
seen_seen given inner = search (rules, the_lemmas)

pub whole_among : (members : Members) (inner : Place) → is_whole (p.Among members inner) ≡ false
whole_among members inner = search (rules, the_lemmas)

pub asked_among : (members : Members) (inner : Place) → asked (p.Among members inner) ≡ Some (members, inner)
asked_among members inner = search (rules, the_lemmas)
