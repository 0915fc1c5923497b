-- Texts from quote to quote.
use Rattle.std.proofs.Common.{◌≡◌, ℕ, ◌+◌, ◌<◌, suc, zero, Bool, true, false, ◌==◌, if◌then◌else◌, arith, List, [], ◌∷◌, ◌++◌, length, take, drop, add-one, ap, ◌∙◌, refl, Option}
use Rattle.memchr.specs.Find.{Nowhere, Passes, is_byte}
use Rattle.replies.specs.Printed.{quotes_doubled, spelled_character}
use Rattle.replies.proofs.Written.{HasTaken}

abbrev NoQuote : List ℕ → ℕ → Type 0
NoQuote text at = Nowhere (Passes (is_byte 39) text) 0 at

behind_first : (c : ℕ) (cs : List ℕ) (at : ℕ) → NoQuote (c ∷ cs) (suc at) → NoQuote cs at
behind_first c cs at none k low high passes = none (suc k) (omega arith) (omega (arith, high)) passes

first_plain : (c : ℕ) (cs : List ℕ) (at : ℕ) → NoQuote (c ∷ cs) (suc at) → spelled_character c ≡ c ∷ []
first_plain c cs at none = go (c == 39) refl
  where
    go : (b : Bool) → (c == 39) ≡ b → (if b then 39 ∷ 39 ∷ [] else c ∷ []) ≡ c ∷ []
    go true e = absurd (none 0 (omega arith) (omega arith) e)
    go false e = refl

-- no quote
pub plain_text : (text : List ℕ) → Nowhere (Passes (is_byte 39) text) 0 (length text) → quotes_doubled text ≡ text
plain_text [] none = refl
plain_text (c ∷ cs) none =
    let rest = plain_text cs (behind_first c cs (length cs) none) in
    let first = first_plain c cs (length cs) none in
    (λ i. first i ++ rest i)

-- up to the first quote, and behind it
pub to_a_quote : (text : List ℕ) (at : ℕ) → at < length text → Nowhere (Passes (is_byte 39) text) 0 at → Passes (is_byte 39) text at
    → quotes_doubled text ≡ take at text ++ (39 ∷ 39 ∷ quotes_doubled (drop (at + 1) text))
to_a_quote [] at within none here = absurd (omega (arith, within))
to_a_quote (c ∷ cs) zero within none here = ap (λ b. (if b then 39 ∷ 39 ∷ [] else c ∷ []) ++ quotes_doubled cs) here
to_a_quote (c ∷ cs) (suc at) within none here =
    let rest = to_a_quote cs at (omega (arith, within)) (behind_first c cs at none) here in
    let first = first_plain c cs at none in
    let same : drop (at + 1) cs ≡ drop (suc at + 1) (c ∷ cs) = rw (add-one at, add-one (suc at)) refl in
    (λ i. first i ++ rest i) ∙ ap (λ zs. c ∷ (take at cs ++ (39 ∷ 39 ∷ quotes_doubled zs))) same

-- a run was taken up to the next quote
pub run_taken : (old new : Option (List ℕ)) (whole text : List ℕ) (at : ℕ) → at < length text
    → Nowhere (Passes (is_byte 39) text) 0 at → Passes (is_byte 39) text at → HasTaken old new whole (quotes_doubled text)
    → HasTaken old new whole (take at text ++ (39 ∷ 39 ∷ quotes_doubled (drop (at + 1) text)))
run_taken old new whole text at within none here before = rw (← to_a_quote text at within none here) before
