-- What is made where a test holds, and what is made of the first that is found.
use Rattle.std.proofs.Common.{◌≡◌, refl, ap, sym, ◌∙◌, ℕ, suc, ◌<◌, Bool, true, false, List, [], ◌∷◌, length, get_or, drop, drop-cons, Option, Some, None}
use Rattle.std.specs.Prelude.{◌&&◌, is_some, option_and_then}
use Rattle.std.specs.Option.{option_map, option_or}
use Rattle.rules.specs.FilterRules.{if_some}
use Rattle.rules.specs.Nodes.{given, first_found}

-- something is made just where the test holds
pub given-some : {X : Type 0} (holds : Bool) (x : X) → is_some (given holds (Some x)) ≡ holds
given-some true x = refl
given-some false x = refl

pub mapped-some : {X Y : Type 0} (f : X → Y) (found : Option X) → is_some (option_map f found) ≡ is_some found
mapped-some f None = refl
mapped-some f (Some x) = refl

pub ruleset chosen = (given-some, mapped-some)

-- where something is given, the test holds
pub given-holds : {X : Type 0} (holds : Bool) (found : Option X) (new : X) → given holds found ≡ Some new → found ≡ Some new
given-holds true found new e = e
given-holds false found new e = absurd (cc (e))

-- likewise, by way of something else that is found
pub given-then : {X Y : Type 0} (holds : Bool) (f : X → Option Y) (x : X) (found : Option X) (new : Y)
    → found ≡ Some x → given holds (option_and_then f found) ≡ Some new → f x ≡ Some new
given-then holds f x found new is e = ap (option_and_then f) (sym is) ∙ given-holds holds (option_and_then f found) new e

-- likewise, where it is not known yet what is found
pub given-found : {X Y : Type 0} (holds : Bool) (f : X → Option Y) (found : Option X) (new : Y)
    → given holds (option_and_then f found) ≡ Some new → (x : X) × (found ≡ Some x) × (f x ≡ Some new)
given-found holds f None new e = absurd (let h = given-holds holds None new e in cc (h))
given-found holds f (Some x) new e = (x, refl, given-holds holds (f x) new e)

pub some-is : {X : Type 0} {x y : X} → Some x ≡ Some y → x ≡ y
some-is e = cc

-- what is given is the new one
pub given-is : {X : Type 0} (holds : Bool) (made new : X) → given holds (Some made) ≡ Some new → made ≡ new
given-is holds made new e = some-is (given-holds holds (Some made) new e)

pub if-made : {X Y : Type 0} (xs : List X) (made new : Y) → if_some xs made ≡ Some new → made ≡ new
if-made [] made new e = absurd (cc (e))
if-made (x ∷ xs) made new e = some-is e

pub mapped-either : {X Y : Type 0} (f : X → Y) (one other : Option X)
    → option_map f (option_or one other) ≡ option_or (option_map f one) (option_map f other)
mapped-either f None other = refl
mapped-either f (Some x) other = refl

-- what is made of the first that is found is the first that is made
pub mapped-first : {X Y Z : Type 0} (f : Y → Z) (find : X → Option Y) (xs : List X)
    → option_map f (first_found find xs) ≡ first_found (λ x. option_map f (find x)) xs
mapped-first f find [] = refl
mapped-first f find (x ∷ xs) = mapped-either f (find x) (first_found find xs)
    ∙ ap (option_or (option_map f (find x))) (mapped-first f find xs)

pub mapped-given : {X Y : Type 0} (f : X → Y) (holds : Bool) (found : Option X)
    → option_map f (given holds found) ≡ given holds (option_map f found)
mapped-given f true found = refl
mapped-given f false found = refl

pub mapped-then : {X Y Z : Type 0} (f : Y → Z) (g : X → Option Y) (found : Option X)
    → option_map f (option_and_then g found) ≡ option_and_then (λ x. option_map f (g x)) found
mapped-then f g None = refl
mapped-then f g (Some x) = refl

pub mapped-twice : {X Y Z : Type 0} (f : Y → Z) (g : X → Y) (found : Option X)
    → option_map f (option_map g found) ≡ option_map (λ x. f (g x)) found
mapped-twice f g None = refl
mapped-twice f g (Some x) = refl

-- what is found at a place before which nothing was
pub found-at : {X Y : Type 0} (find : X → Option Y) (xs : List X) (n : ℕ) (x : X) (y : Y) → n < length xs → x ≡ get_or xs n x
    → find x ≡ Some y → first_found find (drop n xs) ≡ first_found find xs → Some y ≡ first_found find xs
found-at find xs n x y within is e h = sym (sym h ∙ ap (first_found find) (drop-cons xs n x within)
    ∙ ap (λ z. first_found find (z ∷ drop (suc n) xs)) (sym is)
    ∙ ap (λ o. option_or o (first_found find (drop (suc n) xs))) e)

-- nothing is found there either
pub none-at : {X Y : Type 0} (find : X → Option Y) (xs : List X) (n : ℕ) (x : X) → n < length xs → x ≡ get_or xs n x
    → find x ≡ None → first_found find (drop n xs) ≡ first_found find xs
    → first_found find (drop (suc n) xs) ≡ first_found find xs
none-at find xs n x within is e h = sym (ap (first_found find) (drop-cons xs n x within)
    ∙ ap (λ z. first_found find (z ∷ drop (suc n) xs)) (sym is)
    ∙ ap (λ o. option_or o (first_found find (drop (suc n) xs))) e) ∙ h

-- something is given just where the test holds and something is made of what was found
pub told-then : {X Y : Type 0} (holds : Bool) (f : X → Option Y) (found : Option X) (x : X) (can : Bool) → found ≡ Some x
    → can ≡ is_some (f x) → (holds && can) ≡ is_some (given holds (option_and_then f found))
told-then true f found x can e told = told ∙ sym (ap (λ o. is_some (option_and_then f o)) e)
told-then false f found x can e told = refl

-- a rule at a node that is known
pub at-node : {X : Type 0} (rule : X → Option X) (tree node new : X) → tree ≡ node → rule tree ≡ Some new
    → rule node ≡ Some new
at-node rule tree node new is e = sym (ap rule is) ∙ e
