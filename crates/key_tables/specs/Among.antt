-- What a list of values has among it: all that decides IN (ISO/IEC 9075:1992, 8.4).
use Rattle.std.specs.Prelude.{◌≡◌, Bool, true, false, cond, ◌||◌, List}
use Rattle.std.specs.BTreeSet.{BTreeSet, contains}
use Rattle.std.specs.List.{list_any}
use Rattle.std.specs.Ordering.{is_eq}
use Rattle.sqlval.specs.declared.value.Value.{Value}
use Rattle.sqlval.specs.declared.value.Value.TheVariants.{Null, Int, Text}
use Rattle.sqlval.specs.Comparison.{value_order}
use Rattle.sqlval.specs.Matching.{is_equal}
use Rattle.sqlval.specs.Value.{is_null}
use Rattle.key_tables.specs.declared.member.Member.{Member}
use Rattle.key_tables.specs.declared.members.Members.{Members}
use Rattle.key_tables.specs.Values.{member_order}

abbrev pub is_integer : Value → Bool
is_integer Null = false
is_integer (Int number) = true
is_integer (Text codes) = false

abbrev pub is_text : Value → Bool
is_text Null = false
is_text (Int number) = false
is_text (Text codes) = true

-- whether a value's comparison with one of these is unknown, of lists that have these kinds of
-- values: with a null, with a value of the other type (which typing excludes), and of a null
abbrev pub is_unknown : Value → Bool → Bool → Bool → Bool
is_unknown Null nulls integers texts = nulls || (integers || texts)
is_unknown (Int number) nulls integers texts = nulls || texts
is_unknown (Text codes) nulls integers texts = nulls || integers

-- one value more in a set of members
pub record Adds (value : Value) (old new : BTreeSet Member) : Type 0 where
  pub adds : (other : Member)
      → contains member_order new other ≡ cond (is_eq (value_order value other.value)) true (contains member_order old other)

-- members have the values of a list that are not null, and say of what kinds its values are
pub record AreMembers (members : Members) (values : List Value) : Type 0 where
  pub equal : (other : Member) → contains member_order members.values other ≡ list_any (is_equal other.value) values
  pub null : members.nulls ≡ list_any is_null values
  pub integer : members.integers ≡ list_any is_integer values
  pub text : members.texts ≡ list_any is_text values
