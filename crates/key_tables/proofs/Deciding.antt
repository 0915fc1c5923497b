-- What a list has among it decides whether a value is in it.
use Rattle.std.proofs.Common.{◌≡◌, refl, ap, sym, ◌∙◌, Bool, true, false, cond, ◌||◌, if◌then◌else◌, List, [], ◌∷◌, ◌++◌, map, fold}
use Rattle.std.proofs.lemmas.List.Folds.{list_any-append}
use Rattle.std.specs.BTreeSet.{BTreeSet, contains}
use Rattle.std.specs.Cmp.{eq_by_cmp_equiv}
use Rattle.std.specs.List.{list_any}
use Rattle.std.specs.Ordering.{is_eq, int_cmp}
use Rattle.sqlval.specs.declared.truth.Truth.{Truth}
use Rattle.sqlval.specs.declared.truth.Truth.TheVariants.{False, Unknown, True}
use Rattle.sqlval.specs.declared.comparison.CompOp.TheVariants as by
use Rattle.sqlval.specs.declared.value.Value.{Value}
use Rattle.sqlval.specs.declared.value.Value.TheVariants.{Null, Int, Text}
use Rattle.sqlval.specs.Comparison.{comparison, text_order}
use Rattle.sqlval.specs.Matching.{is_equal}
use Rattle.sqlval.specs.Truth.{same_truth, truth_of, truth_or}
use Rattle.sqlval.specs.Value.{Row, is_null}
use Rattle.sqlval.proofs.ValueOrderLaws.{value_order_total}
use Rattle.denote.specs.Condition.{among, first_column}
use Rattle.denote.specs.Expression.{cell}
use Rattle.key_tables.specs.declared.member.Member.{Member}
use Rattle.key_tables.specs.declared.members.Members.{Members}
use Rattle.key_tables.specs.Among.{Adds, AreMembers, is_integer, is_text, is_unknown}
use Rattle.key_tables.specs.Values.{member_order}
use Rattle.key_tables.proofs.Ties.{equal-level}

-- ---- OR of a list

-- true where one is, else unknown where one is, else false
abbrev pub verdict : Bool → Bool → Truth
verdict some unknown = if some then True else if unknown then Unknown else False

abbrev is_true_of : Truth → Bool
is_true_of t = same_truth t True

abbrev is_unknown_of : Truth → Bool
is_unknown_of t = same_truth t Unknown

or-turned : (a b c : Truth) → truth_or (truth_or a b) c ≡ truth_or a (truth_or b c)
or-turned False b c = refl
or-turned Unknown False c = refl
or-turned Unknown Unknown False = refl
or-turned Unknown Unknown Unknown = refl
or-turned Unknown Unknown True = refl
or-turned Unknown True c = refl
or-turned True b c = refl

or-ended : (a : Truth) → a ≡ truth_or a False
or-ended False = refl
or-ended Unknown = refl
or-ended True = refl

or-first : (t : Truth) (some unknown : Bool) → truth_or t (verdict some unknown) ≡ verdict (is_true_of t || some) (is_unknown_of t || unknown)
or-first False some unknown = refl
or-first Unknown true unknown = refl
or-first Unknown false true = refl
or-first Unknown false false = refl
or-first True some unknown = refl

or-folded : (from : Truth) (ts : List Truth) → fold truth_or from ts ≡ truth_or from (verdict (list_any is_true_of ts) (list_any is_unknown_of ts))
or-folded from [] = or-ended from
or-folded from (t ∷ ts) =
    or-folded (truth_or from t) ts
    ∙ or-turned from t (verdict (list_any is_true_of ts) (list_any is_unknown_of ts))
    ∙ ap (truth_or from) (or-first t (list_any is_true_of ts) (list_any is_unknown_of ts))

any-mapped : (p : Truth → Bool) (f : Value → Truth) (xs : List Value) → list_any p (map f xs) ≡ list_any (λ x. p (f x)) xs
any-mapped p f [] = refl
any-mapped p f (x ∷ xs) = ap (λ b. p (f x) || b) (any-mapped p f xs)

among-decided : (x : Value) (values : List Value) → among x values ≡ verdict (list_any (is_equal x) values) (list_any (λ y. is_unknown_of (comparison by.Equal x y)) values)
among-decided x values =
    or-folded False (map (comparison by.Equal x) values)
    ∙ (λ i. verdict (any-mapped is_true_of (comparison by.Equal x) values i) (any-mapped is_unknown_of (comparison by.Equal x) values i))

-- ---- which comparisons are unknown

any-either : (p q : Value → Bool) (xs : List Value) → list_any (λ x. p x || q x) xs ≡ (list_any p xs || list_any q xs)
any-either p q [] = refl
any-either p q (x ∷ xs) = ap (λ b. (p x || q x) || b) (any-either p q xs) ∙ mixed (p x) (q x) (list_any p xs) (list_any q xs)
  where
    mixed : (a b c d : Bool) → ((a || b) || (c || d)) ≡ ((a || c) || (b || d))
    mixed true b c d = refl
    mixed false true true d = refl
    mixed false true false d = refl
    mixed false false c d = refl

known : (b : Bool) → is_unknown_of (truth_of b) ≡ false
known true = refl
known false = refl

unknown-null : (y : Value) → is_unknown_of (comparison by.Equal Null y) ≡ (is_null y || (is_integer y || is_text y))
unknown-null Null = refl
unknown-null (Int y) = refl
unknown-null (Text y) = refl

unknown-decided : (x : Value) (values : List Value) (nulls integers texts : Bool) → nulls ≡ list_any is_null values → integers ≡ list_any is_integer values → texts ≡ list_any is_text values
    → list_any (λ y. is_unknown_of (comparison by.Equal x y)) values ≡ is_unknown x nulls integers texts
unknown-decided Null values nulls integers texts n i t =
    (λ k. list_any (λ y. unknown-null y k) values)
    ∙ any-either is_null (λ y. is_integer y || is_text y) values
    ∙ ap (λ b. list_any is_null values || b) (any-either is_integer is_text values)
    ∙ (λ k. sym n k || (sym i k || sym t k))
unknown-decided (Int x) values nulls integers texts n i t = (λ k. list_any (λ y. here y k) values) ∙ any-either is_null is_text values ∙ (λ k. sym n k || sym t k)
  where
    here : (y : Value) → is_unknown_of (comparison by.Equal (Int x) y) ≡ (is_null y || is_text y)
    here Null = refl
    here (Int y) = known (is_eq (int_cmp x y))
    here (Text y) = refl
unknown-decided (Text x) values nulls integers texts n i t = (λ k. list_any (λ y. here y k) values) ∙ any-either is_null is_integer values ∙ (λ k. sym n k || sym i k)
  where
    here : (y : Value) → is_unknown_of (comparison by.Equal (Text x) y) ≡ (is_null y || is_integer y)
    here Null = refl
    here (Int y) = refl
    here (Text y) = known (is_eq (text_order x y))

-- members decide
pub members-decide : (members : Members) (values : List Value) (member : Member) → AreMembers members values
    → among member.value values ≡ verdict (contains member_order members.values member) (is_unknown member.value members.nulls members.integers members.texts)
members-decide members values member has =
    among-decided member.value values
    ∙ (λ i. verdict (sym (has.equal member) i) (unknown-decided member.value values members.nulls members.integers members.texts has.null has.integer has.text i))

-- ---- one value more

or-ended-by : (b : Bool) → (b || false) ≡ b
or-ended-by true = refl
or-ended-by false = refl

any-push : (p : Value → Bool) (values : List Value) (value : Value) → list_any p (values ++ value ∷ []) ≡ (list_any p values || p value)
any-push p values value = list_any-append p values (value ∷ []) ∙ ap (λ b. list_any p values || b) (or-ended-by (p value))

-- a kind of which the value is
pub push-is : (p : Value → Bool) (values : List Value) (value : Value) → p value ≡ true → true ≡ list_any p (values ++ value ∷ [])
push-is p values value e = sym (any-push p values value ∙ ap (λ b. list_any p values || b) e ∙ ended (list_any p values))
  where
    ended : (b : Bool) → (b || true) ≡ true
    ended true = refl
    ended false = refl

-- a kind of which it is not
pub push-other : (p : Value → Bool) (values : List Value) (value : Value) (found : Bool) → p value ≡ false → found ≡ list_any p values → found ≡ list_any p (values ++ value ∷ [])
push-other p values value found e h = h ∙ sym (any-push p values value ∙ ap (λ b. list_any p values || b) e ∙ or-ended-by (list_any p values))

equals-null : (x : Value) → is_equal x Null ≡ false
equals-null Null = refl
equals-null (Int x) = refl
equals-null (Text x) = refl

pub null-more : (old new : Members) (values : List Value) → AreMembers old values → new.values ≡ old.values → new.nulls ≡ true → new.integers ≡ old.integers → new.texts ≡ old.texts
    → AreMembers new (values ++ Null ∷ [])
null-more old new values has e n i t = record {
  equal = λ member. ap (λ set. contains member_order set member) e ∙ push-other (is_equal member.value) values Null (contains member_order old.values member) (equals-null member.value) (has.equal member);
  null = n ∙ push-is is_null values Null refl;
  integer = i ∙ push-other is_integer values Null old.integers refl has.integer;
  text = t ∙ push-other is_text values Null old.texts refl has.text;
}

equal-turned : (x y : Value) → is_equal x y ≡ is_equal y x
equal-turned Null Null = refl
equal-turned Null (Int y) = refl
equal-turned Null (Text y) = refl
equal-turned (Int x) Null = refl
equal-turned (Int x) (Int y) = equal-level (Int x) (Int y) refl ∙ (eq_by_cmp_equiv value_order_total).symm (Int x) (Int y) ∙ sym (equal-level (Int y) (Int x) refl)
equal-turned (Int x) (Text y) = refl
equal-turned (Text x) Null = refl
equal-turned (Text x) (Int y) = refl
equal-turned (Text x) (Text y) = equal-level (Text x) (Text y) refl ∙ (eq_by_cmp_equiv value_order_total).symm (Text x) (Text y) ∙ sym (equal-level (Text y) (Text x) refl)

-- one value more in a set, and in a list
put-equal : (old new : BTreeSet Member) (value : Value) (values : List Value) → is_null value ≡ false → ((other : Member) → contains member_order old other ≡ list_any (is_equal other.value) values)
    → Adds value old new → (other : Member) → contains member_order new other ≡ list_any (is_equal other.value) (values ++ value ∷ [])
put-equal old new value values h has put other =
    put.adds other
    ∙ (λ i. cond (sym (equal-level value other.value h) i) true (has other i))
    ∙ joined (is_equal value other.value) (list_any (is_equal other.value) values)
    ∙ ap (λ b. list_any (is_equal other.value) values || b) (equal-turned value other.value)
    ∙ sym (any-push (is_equal other.value) values value)
  where
    joined : (a b : Bool) → cond a true b ≡ (b || a)
    joined true true = refl
    joined true false = refl
    joined false true = refl
    joined false false = refl

-- a value that is not null
pub known-more : (old new : Members) (value : Value) (values : List Value) → AreMembers old values → is_null value ≡ false → Adds value old.values new.values
    → new.nulls ≡ old.nulls → new.integers ≡ list_any is_integer (values ++ value ∷ []) → new.texts ≡ list_any is_text (values ++ value ∷ [])
    → AreMembers new (values ++ value ∷ [])
known-more old new value values has h put n i t = record {
  equal = put-equal old.values new.values value values h has.equal put;
  null = n ∙ push-other is_null values value old.nulls h has.null;
  integer = i;
  text = t;
}

-- ---- the first column

pub first-more : (rows : List Row) (row : Row) → first_column (rows ++ row ∷ []) ≡ first_column rows ++ cell row 0 ∷ []
first-more [] row = refl
first-more (r ∷ rows) row = ap (λ zs. cell r 0 ∷ zs) (first-more rows row)
