-- One turn of reading items, beside one of the loop that counts up.
use Rattle.std.proofs.Common.{◌≡◌, ℕ, suc, ◌+◌, ◌-◌, ◌<◌, true, false, List, [], ◌∷◌, ◌++◌, length, Option, Some, None, ap, ◌∙◌, refl, arith}
use Rattle.ast.specs.Notation.{Tokens}
use Rattle.parse_terminals.specs.Readers.{Reader, ◌>>=◌, is_full, many_from}

pub one_more : {X : Type 0} {x : X} (f : ℕ → X) (n at : ℕ) → at < n → x ≡ f (n - at) → x ≡ f (suc (n - (at + 1)))
one_more f n at below e = let turn : n - at ≡ suc (n - (at + 1)) = omega arith in e ∙ ap f turn

module _ {O A : Type 0} (limit : Option ℕ) (begins : Reader O) (reads : O → Reader A) (n : ℕ) (found : List A) (ts : Tokens) where
  pub turn_ends : begins ts ≡ None → many_from limit begins reads (suc n) found ts ≡ Some (found, ts)
  turn_ends b = rw b refl

  pub turn_refuses : (x : O × Tokens) → begins ts ≡ Some x → is_full limit (length found) ≡ true → many_from limit begins reads (suc n) found ts ≡ None
  turn_refuses x b f = rw (b, f) refl

  pub turn_goes_on : (x : O × Tokens) → begins ts ≡ Some x → is_full limit (length found) ≡ false
      → many_from limit begins reads (suc n) found ts ≡ (reads x.0 x.1 >>= (λ y. many_from limit begins reads n (found ++ y.0 ∷ []) y.1))
  turn_goes_on x b f = rw (b, f) refl
