-- What calls that follow one another find.
use Rattle.std.proofs.Common.{◌≡◌, ◌∙◌, refl, Bool, true, false, not, ◌&&◌, ◌||◌, Ok, Err, IfOk}
use Rattle.std.specs.Prelude.{Result}

pub or-true : (a b : Bool) → true ≡ a → true ≡ (a || b)
or-true true b e = refl
or-true false b e = absurd (cc)

pub and-none : (a b : Bool) → a ≡ false → false ≡ (a && b)
and-none true b e = absurd (cc)
and-none false b e = refl

pub and-rest : (a b : Bool) → a ≡ true → b ≡ (a && b)
and-rest true b e = refl
and-rest false b e = absurd (cc)

pub not-either : (a b : Bool) → true ≡ a → false ≡ not (a || b)
not-either true b e = refl
not-either false b e = absurd (cc)

pub not-none : (a b : Bool) → a ≡ false → not b ≡ not (a || b)
not-none true b e = absurd (cc)
not-none false b e = refl

or-rest : (a b : Bool) → false ≡ a → b ≡ (a || b)
or-rest true b e = absurd (cc)
or-rest false b e = refl

twice : (a b : Bool) → false ≡ a → b ≡ not (a || not b)
twice true b e = absurd (cc)
twice false true e = refl
twice false false e = refl

-- a call that is made where the one before found nothing
pub or-next : {E : Type 0} (r : Result Bool E) (S T L M : Type 0) (a b c : Bool) → (S → T) → (L → M) → (S → L → false ≡ a) → c ≡ b
    → IfOk r (λ found. T → M → found ≡ c) → IfOk r (λ found. S → L → found ≡ (a || b))
or-next (Err e) S T L M a b c keeps leads none same h = tt
or-next (Ok found) S T L M a b c keeps leads none same h = λ s l. h (keeps s) (leads l) ∙ same ∙ or-rest a b (none s l)

-- one whose source is found first
pub from-source : {E : Type 0} (r : Result Bool E) (S T L I : Type 0) (b c : Bool) → (S → T) → (S → L → I) → c ≡ b
    → IfOk r (λ found. T → I → found ≡ c) → IfOk r (λ found. S → L → found ≡ b)
from-source (Err e) S T L I b c keeps source same h = tt
from-source (Ok found) S T L I b c keeps source same h = λ s l. h (keeps s) (source s l) ∙ same

-- one that needs two sources, of which one is found first
pub from-sources : {E : Type 0} (r : Result Bool E) (S T I J K L : Type 0) (b c : Bool) → (S → T) → (I → J) → (S → K → L) → c ≡ b
    → IfOk r (λ found. T → J → L → found ≡ c) → IfOk r (λ found. S → I → K → found ≡ b)
from-sources (Err e) S T I J K L b c keeps one other same h = tt
from-sources (Ok found) S T I J K L b c keeps one other same h = λ s i k. h (keeps s) (one i) (other s k) ∙ same

-- one that is given a source and looks for another
pub to-source : {E : Type 0} (r : Result Bool E) (S T L I K : Type 0) (b c : Bool) → (S → T) → (S → L → I) → (L → K) → c ≡ b
    → IfOk r (λ found. T → I → K → found ≡ c) → IfOk r (λ found. S → L → found ≡ b)
to-source (Err e) S T L I K b c keeps source rest same h = tt
to-source (Ok found) S T L I K b c keeps source rest same h = λ s l. h (keeps s) (source s l) (rest l) ∙ same

-- a row whose key is not there again
pub missed-next : {E : Type 0} (r : Result Bool E) (S T I J K : Type 0) (a b c : Bool) → (S → T) → (J → K) → (S → I → false ≡ a) → c ≡ b
    → IfOk r (λ found. T → K → found ≡ c) → IfOk r (λ found. S → I → J → found ≡ not (a || not b))
missed-next (Err e) S T I J K a b c keeps source none same h = tt
missed-next (Ok found) S T I J K a b c keeps source none same h = λ s i j. h (keeps s) (source j) ∙ same ∙ twice a b (none s i)
