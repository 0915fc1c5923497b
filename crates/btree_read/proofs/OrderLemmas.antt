-- The order of keys.
use Rattle.std.proofs.Common.{◌≡◌, [], ◌∷◌, Bool, true, false, ◌⊎◌, inl, inr, refl, sym, ap, ◌∙◌, Ordering}
use Rattle.std.specs.declared.cmp.Ordering.TheVariants.{Less, Equal, Greater}
use Rattle.std.specs.Ordering.{is_lt, nat_cmp, ordering_reverse}
use Rattle.std.specs.Cmp.Lexicographic.{slice_cmp}
use Rattle.std.proofs.lemmas.Cmp.{nat_list_cmp_total, tied_itself}
use Rattle.btree_read.specs.Nodes.{Key, precedes}

abbrev R : Key → Key → Ordering
R = slice_cmp nat_cmp

is_less : (o : Ordering) → is_lt o ≡ true → o ≡ Less
is_less Less h = refl
is_less Equal h = cc
is_less Greater h = cc

not_less : (o : Ordering) → is_lt o ≡ false → (o ≡ Equal) ⊎ (o ≡ Greater)
not_less Less h = cc
not_less Equal h = inl refl
not_less Greater h = inr refl

from_less : (o : Ordering) → o ≡ Less → is_lt o ≡ true
from_less o h = ap is_lt h

swaps : (a b : Key) → R a b ≡ Greater → R b a ≡ Less
swaps a b h = nat_list_cmp_total.antisymm b a ∙ ap ordering_reverse h

swapped : (a b : Key) → R a b ≡ Less → R b a ≡ Greater
swapped a b h = nat_list_cmp_total.antisymm b a ∙ ap ordering_reverse h

pub lt_trans : (a b c : Key) → precedes a b ≡ true → precedes b c ≡ true → precedes a c ≡ true
unfolding precedes
lt_trans a b c h g = from_less _ (nat_list_cmp_total.trans a b c (is_less _ h) (is_less _ g))

-- a < b ≤ c
pub lt_le : (a b c : Key) → precedes a b ≡ true → precedes c b ≡ false → precedes a c ≡ true
unfolding precedes
lt_le a b c h g = by (not_less _ g)
  where
    by : (R c b ≡ Equal) ⊎ (R c b ≡ Greater) → is_lt (R a c) ≡ true
    by (inl e) = from_less _ (swaps c a (nat_list_cmp_total.congr c b a e ∙ swapped a b (is_less _ h)))
    by (inr e) = from_less _ (nat_list_cmp_total.trans a b c (is_less _ h) (swaps c b e))

-- a ≤ b < c
pub le_lt : (a b c : Key) → precedes b a ≡ false → precedes b c ≡ true → precedes a c ≡ true
unfolding precedes
le_lt a b c h g = by (not_less _ h)
  where
    by : (R b a ≡ Equal) ⊎ (R b a ≡ Greater) → is_lt (R a c) ≡ true
    by (inl e) = from_less _ (sym (nat_list_cmp_total.congr b a c e) ∙ is_less _ g)
    by (inr e) = from_less _ (nat_list_cmp_total.trans a b c (swaps b a e) (is_less _ g))

pub not_both : (a b : Key) → precedes a b ≡ true → precedes b a ≡ false
unfolding precedes
not_both a b h = ap is_lt (swapped a b (is_less _ h))

pub not_self : (a : Key) → precedes a a ≡ false
unfolding precedes
not_self a = ap is_lt (tied_itself nat_list_cmp_total a)

-- a ≤ b ≤ c
pub le_le : (a b c : Key) → precedes b a ≡ false → precedes c b ≡ false → precedes c a ≡ false
le_le a b c h g = by _ refl
  where
    by : (t : Bool) → t ≡ precedes c a → precedes c a ≡ false
    by true e = let w = lt_le c a b (sym e) h in cc
    by false e = sym e

-- no key is before the empty one
pub empty_lowest : (k : Key) → precedes k [] ≡ false
unfolding precedes
empty_lowest [] = refl
empty_lowest (x ∷ xs) = refl
