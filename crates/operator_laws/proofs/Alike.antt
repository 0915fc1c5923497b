-- Values and rows that are alike are equal.
use Rattle.std.proofs.Common.{◌≡◌, refl, ap, sym, ◌∙◌, true}
use Rattle.std.specs.Cmp.{signed_Decides}
use Rattle.std.proofs.lemmas.Slice.Eq.{bytes_eq-Decides, slice_eq-Decides}
use Rattle.std.specs.Bool.{Decides}
use Rattle.sqlval.specs.declared.value.Value.{Value}
use Rattle.sqlval.specs.declared.value.Value.TheVariants.{Null, Int, Text}
use Rattle.sqlval.specs.Value.{Row}
use Rattle.denote.specs.Bag.{is_alike, are_alike}
use Rattle.operator_laws.proofs.Multiplicity.{alike, is_alike-refl}

pub is_alike-equal : (x y : Value) → is_alike x y ≡ true → x ≡ y
is_alike-equal Null Null e = refl
is_alike-equal Null (Int y) e = absurd (cc)
is_alike-equal Null (Text y) e = absurd (cc)
is_alike-equal (Int x) Null e = absurd (cc)
is_alike-equal (Int x) (Int y) e = ap Int ((signed_Decides x y).0 e)
is_alike-equal (Int x) (Text y) e = absurd (cc)
is_alike-equal (Text x) Null e = absurd (cc)
is_alike-equal (Text x) (Int y) e = absurd (cc)
is_alike-equal (Text x) (Text y) e = ap Text ((bytes_eq-Decides x y).0 e)

equal-is_alike : (x y : Value) → x ≡ y → is_alike x y ≡ true
equal-is_alike x y e = ap (λ z. is_alike x z) (sym e) ∙ is_alike-refl x

is_alike-Decides : (x y : Value) → Decides (is_alike x y) (x ≡ y)
is_alike-Decides x y = (is_alike-equal x y, equal-is_alike x y)

pub are_alike-equal : (x y : Row) → are_alike x y ≡ true → x ≡ y
are_alike-equal x y e = (slice_eq-Decides {E = is_alike} is_alike-Decides x y (are_alike x y) refl).0 e

pub are_alike-symm : (x y : Row) → are_alike x y ≡ are_alike y x
are_alike-symm x y = alike.symm x y
