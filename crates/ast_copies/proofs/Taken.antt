-- A turn of a loop that copies the items of a list.
use Rattle.std.proofs.Common.{◌≡◌, ℕ, ◌+◌, ◌<◌, List, [], ◌∷◌, ◌++◌, length, take, get_or, ap}
use Rattle.std.proofs.Math.Numerals.{add-one}
use Rattle.std.proofs.Math.Seq.{take-suc}

-- what was copied, and the next item, is one item more of the list
pub taken : {A : Type 0} (xs : List A) (at : ℕ) (x : A) {copied next : List A} → at < length xs → x ≡ get_or xs at x → copied ≡ take at xs
    → next ≡ copied ++ x ∷ [] → next ≡ take (at + 1) xs
taken xs at x below is before more = rw (more, before, add-one, take-suc xs at x) (ap (λ y. take at xs ++ y ∷ []) is)
