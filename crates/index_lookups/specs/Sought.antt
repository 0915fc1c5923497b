-- What is sought in an index. Our own choice.
use Rattle.std.specs.Prelude.{ℕ, Bool, false, ◌&&◌, nat_lt, List, Some}
use Rattle.std.specs.Ordering.{is_gt}
use Rattle.std.specs.Cmp.Lexicographic.{slice_cmp}
use Rattle.std.specs.declared.ops.Bound.{Bound}
use Rattle.std.specs.declared.ops.Bound.TheVariants.{Included, Excluded, Unbounded}
use Rattle.sqlval.specs.declared.value.Value.{Value}
use Rattle.sqlval.specs.Comparison.{value_order}
use Rattle.sqlval.specs.Matching.{key_of, matches}
use Rattle.store.specs.Contents.{Entry}
use Rattle.store.specs.Indexes.{first_of, is_within, is_beyond}
use Rattle.store.specs.View.{position_of}
use Rattle.index_lookups.specs.declared.sought.Sought.{Sought}
use Rattle.index_lookups.specs.declared.sought.Sought.TheVariants.{Key, KeyAbove, Within, Beyond, Above}

-- whether a row is sought
abbrev pub is_wanted : Sought → List ℕ → Entry → Bool
is_wanted (Key key) columns e = matches columns key.now e.1
is_wanted (KeyAbove key number) columns e = matches columns key.now e.1 && nat_lt number e.0
is_wanted (Within low high) columns e = is_within low.now high.now (first_of (key_of columns e.1))
is_wanted (Beyond place) columns e = is_beyond (Some (position_of place.now)) (key_of columns e.1) e.0
is_wanted (Above low high place) columns e = is_within low.now high.now (first_of (key_of columns e.1)) && is_beyond (Some (position_of place.now)) (key_of columns e.1) e.0

-- whether a value is above an upper bound in the order of an index
abbrev pub is_over : Bound Value → Value → Bool
is_over Unbounded x = false
is_over (Included high) x = is_gt (value_order x high)
is_over (Excluded high) x = is_gt (value_order x high)

-- whether neither a row nor one behind it in the order of the index is sought
abbrev pub is_past : Sought → List ℕ → Entry → Bool
is_past (Key key) columns e = is_gt (slice_cmp value_order (key_of columns e.1) key.now)
is_past (KeyAbove key number) columns e = is_gt (slice_cmp value_order (key_of columns e.1) key.now)
is_past (Within low high) columns e = is_over high.now (first_of (key_of columns e.1))
is_past (Beyond place) columns e = false
is_past (Above low high place) columns e = is_over high.now (first_of (key_of columns e.1))
