-- The order of keys.
use Rattle.std.proofs.Common.{◌≡◌, ℕ, zero, suc, ◌+◌, ◌*◌, ◌^◌, ◌/◌, ◌%◌, ◌<◌, ◌≤◌, List, [], ◌∷◌, ◌++◌, length, refl, sym, ap, ◌∙◌, Ordering, arith, append_assoc}
use Rattle.std.specs.Prelude.{ℤ, pos, negsuc, ◌<ℤ◌, FitsSigned}
use Rattle.std.specs.declared.cmp.Ordering.TheVariants.{Less, Equal, Greater}
use Rattle.std.specs.Ordering.{nat_cmp, int_cmp, ordering_then, MatchOrdering}
use Rattle.std.specs.Cmp.{nat_cmp_is, int_cmp_is}
use Rattle.std.proofs.lemmas.Cmp.{ranked}
use Rattle.std.proofs.lemmas.List.{length-append}
use Rattle.std.proofs.Math.Arith.{mod-mul}
use Rattle.std.proofs.Math.Nat.{mul-le-mul_right, div-one, mod-one, pow-suc, pow-succ', mod-eq_of_lt}
use Rattle.std.proofs.lemmas.Nat.{mod_below}
use Rattle.std.proofs.lemmas.Int.{ints}
use Rattle.std.specs.List.{AllByRecursion}
use Rattle.std.specs.Int.{w64, to_be_bytes, bytes_high_first, byte_at}
use Rattle.sqlval.specs.declared.value.Value.{Value}
use Rattle.sqlval.specs.declared.value.Value.TheVariants.{Null, Int, Text}
use Rattle.sqlval.specs.Comparison.{value_order}
use Rattle.sqlval.specs.CodedLength.{key_length}
use Rattle.sqlrecord.specs.Row.{value_code, row_code}
use Rattle.sqlrecord.specs.Storable.{IsStorable, AllStorable}
use Rattle.sqlrecord.specs.Key.{biased, value_key, key_code, number_code, index_key_code, byte_order, key_order}
use Rattle.sqlrecord.proofs.ByteLemmas.{length_be, be_same_8}
use Rattle.sqlrecord.proofs.CodeLemmas.{biased_below, text_above, key_unique, key_some, value_unique, value_some, list_unique, length_key}

then_assoc : (a b c : Ordering) → ordering_then (ordering_then a b) c ≡ ordering_then a (ordering_then b c)
then_assoc Less b c = refl
then_assoc Equal b c = refl
then_assoc Greater b c = refl

-- of lists of one length the rests decide last
cmp_even : (xs ys s t : List ℕ) → length xs ≡ length ys → byte_order (xs ++ s) (ys ++ t) ≡ ordering_then (byte_order xs ys) (byte_order s t)
cmp_even [] [] s t h = refl
cmp_even [] (y ∷ ys) s t h = absurd (omega (arith, h))
cmp_even (x ∷ xs) [] s t h = absurd (omega (arith, h))
cmp_even (x ∷ xs) (y ∷ ys) s t h =
    ap (ordering_then (nat_cmp x y)) (cmp_even xs ys s t (omega arith)) ∙ sym (then_assoc (nat_cmp x y) (byte_order xs ys) (byte_order s t))

-- so they do behind a byte 0 that the lists do not have
cmp_ended : (xs ys s t : List ℕ) → AllByRecursion (λ b. 0 < b) xs → AllByRecursion (λ b. 0 < b) ys
    → byte_order (xs ++ 0 ∷ s) (ys ++ 0 ∷ t) ≡ ordering_then (byte_order xs ys) (byte_order s t)
cmp_ended [] [] s t h g = refl
cmp_ended [] (zero ∷ ys) s t h g = absurd (omega (arith, g.0))
cmp_ended [] (suc y ∷ ys) s t h g = ap (λ o. ordering_then o (byte_order s (ys ++ 0 ∷ t))) (sym (nat_cmp_is 0 (suc y) Less (omega arith)))
cmp_ended (zero ∷ xs) [] s t h g = absurd (omega (arith, h.0))
cmp_ended (suc x ∷ xs) [] s t h g = ap (λ o. ordering_then o (byte_order (xs ++ 0 ∷ s) t)) (sym (nat_cmp_is (suc x) 0 Greater (omega arith)))
cmp_ended (x ∷ xs) (y ∷ ys) s t h g =
    ap (ordering_then (nat_cmp x y)) (cmp_ended xs ys s t h.1 g.1) ∙ sym (then_assoc (nat_cmp x y) (byte_order xs ys) (byte_order s t))

-- two numbers by their high digits and then their low ones
higher : (q p r s c : ℕ) → q < p → r < c → q * c + r < p * c + s
higher q p r s c h g = let w : suc q * c ≤ p * c = mul-le-mul_right c h in omega (arith, w)

nat_pair : (q p r s c : ℕ) → r < c → s < c → nat_cmp (q * c + r) (p * c + s) ≡ ordering_then (nat_cmp q p) (nat_cmp r s)
nat_pair q p r s c h g = sym (nat_cmp_is (q * c + r) (p * c + s) _ (by (nat_cmp q p) (nat_cmp r s) (ranked q p (nat_cmp q p) refl) (ranked r s (nat_cmp r s) refl)))
  where
    by : (o w : Ordering) → MatchOrdering o (q < p) (q ≡ p) (p < q) → MatchOrdering w (r < s) (r ≡ s) (s < r)
        → MatchOrdering (ordering_then o w) (q * c + r < p * c + s) (q * c + r ≡ p * c + s) (p * c + s < q * c + r)
    by Less w a b = higher q p r s c a h
    by Greater w a b = higher p q s r c a g
    by Equal Less a b = rw a (omega (arith, b))
    by Equal Equal a b = rw (a, b) refl
    by Equal Greater a b = rw a (omega (arith, b))

byte_is : (k n : ℕ) → byte_at k n ≡ n / 256 ^ k % 256
byte_is zero n = ap (λ m. m % 256) (sym (div-one n))
byte_is (suc k) n = refl

pow_positive : (k : ℕ) → 0 < 256 ^ k
pow_positive zero = omega arith
pow_positive (suc k) = rw (pow-suc 256 k) (let w = pow_positive k in omega arith)

be_order : (k m n : ℕ) → byte_order (bytes_high_first k m) (bytes_high_first k n) ≡ nat_cmp (m % 256 ^ k) (n % 256 ^ k)
be_order zero m n = rw (mod-one m, mod-one n) refl
be_order (suc k) m n =
    let split : (x : ℕ) → x % 256 ^ suc k ≡ (x / 256 ^ k % 256) * 256 ^ k + x % 256 ^ k = λ x. rw (pow-succ' 256 k) (mod-mul x {m = 256} {c = 256 ^ k} (omega arith) (pow_positive k)) in
    rw (
      split m,
      split n,
      nat_pair (m / 256 ^ k % 256) (n / 256 ^ k % 256) (m % 256 ^ k) (n % 256 ^ k) (256 ^ k) (mod_below m (256 ^ k) (pow_positive k)) (mod_below n (256 ^ k) (pow_positive k)),
      ← byte_is k m,
      ← byte_is k n,
      ← be_order k m n,
    ) refl

-- numbers of 8 bytes
be_order_8 : (m n : ℕ) → m < 2 ^ 64 → n < 2 ^ 64 → byte_order (to_be_bytes w64 m) (to_be_bytes w64 n) ≡ nat_cmp m n
be_order_8 m n h g = be_order 8 m n ∙ ap (λ k. nat_cmp k (n % 256 ^ 8)) (mod-eq_of_lt h) ∙ ap (nat_cmp m) (mod-eq_of_lt g)

biased_order : (x y : ℤ) → FitsSigned w64 x → FitsSigned w64 y → nat_cmp (biased x) (biased y) ≡ int_cmp x y
biased_order x y h g = int_cmp_is x y _ (by x y (nat_cmp (biased x) (biased y)) h g (ranked (biased x) (biased y) _ refl))
  where
    by : (x y : ℤ) (o : Ordering) → FitsSigned w64 x → FitsSigned w64 y → MatchOrdering o (biased x < biased y) (biased x ≡ biased y) (biased y < biased x) → MatchOrdering o (x <ℤ y) (x ≡ y) (y <ℤ x)
    by (pos m) (pos n) Less h g w = omega (arith, w, ints)
    by (pos m) (pos n) Equal h g w = ap pos (omega (arith, w))
    by (pos m) (pos n) Greater h g w = omega (arith, w, ints)
    by (pos m) (negsuc n) Less h g w = absurd (omega (arith, ints, w, g))
    by (pos m) (negsuc n) Equal h g w = absurd (omega (arith, ints, w, g))
    by (pos m) (negsuc n) Greater h g w = omega (arith, ints)
    by (negsuc m) (pos n) Less h g w = omega (arith, ints)
    by (negsuc m) (pos n) Equal h g w = absurd (omega (arith, ints, w, h))
    by (negsuc m) (pos n) Greater h g w = absurd (omega (arith, ints, w, h))
    by (negsuc m) (negsuc n) Less h g w = omega (arith, w, ints)
    by (negsuc m) (negsuc n) Equal h g w = ap negsuc (omega (arith, ints, w, h, g))
    by (negsuc m) (negsuc n) Greater h g w = omega (arith, w, ints)

int_order : (x y : ℤ) → FitsSigned w64 x → FitsSigned w64 y → byte_order (to_be_bytes w64 (biased x)) (to_be_bytes w64 (biased y)) ≡ int_cmp x y
int_order x y h g = be_order_8 (biased x) (biased y) (biased_below x h) (biased_below y g) ∙ biased_order x y h g

-- keys that go on compare by their values first
value_first : (a b : Value) (s t : List ℕ) → IsStorable a → IsStorable b → byte_order (value_key a ++ s) (value_key b ++ t) ≡ ordering_then (value_order a b) (byte_order s t)
value_first Null Null s t h g = refl
value_first Null (Int y) s t h g = refl
value_first Null (Text y) s t h g = refl
value_first (Int x) Null s t h g = refl
value_first (Int x) (Int y) s t h g =
    cmp_even (to_be_bytes w64 (biased x)) (to_be_bytes w64 (biased y)) s t (length_be 8 (biased x) ∙ sym (length_be 8 (biased y)))
    ∙ ap (λ o. ordering_then o (byte_order s t)) (int_order x y h g)
value_first (Int x) (Text y) s t h g = refl
value_first (Text x) Null s t h g = refl
value_first (Text x) (Int y) s t h g = refl
value_first (Text x) (Text y) s t h g = rw (append_assoc x (0 ∷ []) s, append_assoc y (0 ∷ []) t) (cmp_ended x y s t (text_above x h) (text_above y g))

-- keys as long as one another, which go on
pub keys_first : (a b : List Value) (s t : List ℕ) → AllStorable a → AllStorable b → length a ≡ length b
    → byte_order (key_code a ++ s) (key_code b ++ t) ≡ ordering_then (key_order a b) (byte_order s t)
keys_first [] [] s t h g e = refl
keys_first [] (y ∷ ys) s t h g e = absurd (omega (arith, e))
keys_first (x ∷ xs) [] s t h g e = absurd (omega (arith, e))
keys_first (x ∷ xs) (y ∷ ys) s t h g e =
    rw (append_assoc (value_key x) (key_code xs) s, append_assoc (value_key y) (key_code ys) t)
    (value_first x y (key_code xs ++ s) (key_code ys ++ t) h.0 g.0 ∙ ap (ordering_then (value_order x y)) (keys_first xs ys s t h.1 g.1 (omega (arith, e))) ∙ sym (then_assoc (value_order x y) (key_order xs ys) (byte_order s t)))

-- whole keys
pub whole_keys : (a b : List Value) → AllStorable a → AllStorable b → byte_order (key_code a) (key_code b) ≡ key_order a b
whole_keys [] [] h g = refl
whole_keys [] (Null ∷ ys) h g = refl
whole_keys [] (Int y ∷ ys) h g = refl
whole_keys [] (Text y ∷ ys) h g = refl
whole_keys (Null ∷ xs) [] h g = refl
whole_keys (Int x ∷ xs) [] h g = refl
whole_keys (Text x ∷ xs) [] h g = refl
whole_keys (x ∷ xs) (y ∷ ys) h g = value_first x y (key_code xs) (key_code ys) h.0 g.0 ∙ ap (ordering_then (value_order x y)) (whole_keys xs ys h.1 g.1)

-- index keys: their values, and then their row numbers
pub index_keys : (a b : List Value) (m n : ℕ) → AllStorable a → AllStorable b → length a ≡ length b → m < 2 ^ 64 → n < 2 ^ 64
    → byte_order (index_key_code a m) (index_key_code b n) ≡ ordering_then (key_order a b) (nat_cmp m n)
index_keys a b m n h g e small_m small_n =
    keys_first a b (number_code m) (number_code n) h g e ∙ ap (ordering_then (key_order a b)) (be_order_8 m n small_m small_n)

-- index keys as long as one another are equal only where their values and row numbers are
pub index_keys_apart : (a b : List Value) (m n : ℕ) → AllStorable a → AllStorable b → length a ≡ length b → m < 2 ^ 64 → n < 2 ^ 64 → index_key_code a m ≡ index_key_code b n → (a ≡ b) × (m ≡ n)
index_keys_apart [] [] m n h g e small_m small_n same = (refl, be_same_8 m n small_m small_n same)
index_keys_apart [] (y ∷ ys) m n h g e small_m small_n same = absurd (omega (arith, e))
index_keys_apart (x ∷ xs) [] m n h g e small_m small_n same = absurd (omega (arith, e))
index_keys_apart (x ∷ xs) (y ∷ ys) m n h g e small_m small_n same =
    let both = key_unique x y (key_code xs ++ number_code m) (key_code ys ++ number_code n) h.0 g.0
    (sym (append_assoc (value_key x) (key_code xs) (number_code m)) ∙ same ∙ append_assoc (value_key y) (key_code ys) (number_code n)) in
    let more = index_keys_apart xs ys m n h.1 g.1 (omega (arith, e)) small_m small_n both.1 in
    (cc (both.0, more.0), more.1)

pub keys_apart : (a b : List Value) → AllStorable a → AllStorable b → key_code a ≡ key_code b → a ≡ b
keys_apart = list_unique value_key key_some key_unique

pub rows_apart : (a b : List Value) → AllStorable a → AllStorable b → row_code a ≡ row_code b → a ≡ b
rows_apart = list_unique value_code value_some value_unique

pub length_index_key : (key : List Value) (n : ℕ) → length (index_key_code key n) ≡ key_length key + 8
length_index_key key n = length-append (key_code key) (number_code n) ∙ ap (λ k. k + length (number_code n)) (length_key key) ∙ ap (λ k. key_length key + k) (length_be 8 n)
