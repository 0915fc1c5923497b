-- What stands outside, item by item.
use Rattle.std.proofs.Common.{◌≡◌, refl, sym, ap, ◌∙◌, ℕ, zero, suc, ◌+◌, ◌-◌, ◌<◌, List, [], ◌∷◌, ◌++◌, append-nil, length, take, get_or, arith}
use Rattle.std.proofs.Math.Numerals.{add-one}
use Rattle.std.proofs.Math.Seq.{take-suc}
use Rattle.closed_trees.specs.Outside.{Depths, outwards}
use Rattle.closed_trees.proofs.Seeing.{outwards-append}

pub own-row : (found : Depths) (depth : ℕ) → depth ≡ 0 → found ≡ found ++ outwards (depth ∷ [])
own-row found depth is = rw is (sym (append-nil found))

pub outer-row : (found : Depths) (depth : ℕ) → 0 < depth → found ++ (depth - 1) ∷ [] ≡ found ++ outwards (depth ∷ [])
outer-row found zero above = absurd (omega (arith, above))
outer-row found (suc depth) above = let e : suc depth - 1 ≡ depth = omega arith in rw e refl

pub outwards-taken : (xs : Depths) (at x : ℕ) {made next : Depths} → at < length xs → x ≡ get_or xs at x → made ≡ outwards (take at xs) → next ≡ made ++ outwards (x ∷ []) → next ≡ outwards (take (at + 1) xs)
outwards-taken xs at x below is before more =
    let all : take (at + 1) xs ≡ take at xs ++ x ∷ [] = rw (add-one, take-suc xs at x, ← is) refl in
    more ∙ ap (λ zs. zs ++ outwards (x ∷ [])) before ∙ sym (outwards-append (take at xs) (x ∷ [])) ∙ ap outwards (sym all)
