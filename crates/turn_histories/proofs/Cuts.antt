-- A legal history is cut where a part of what is told begins.
use Rattle.std.proofs.Common.{◌≡◌, ◌⊎◌, ◌∙◌, ℕ, ◌+◌, ◌<◌, ◌≤◌, List, [], ◌∷◌, ◌++◌, map, length, length-append, refl, sym, ap, inl, inr, arith, append-nil, Ok, Err}
use Rattle.std.proofs.lemmas.Bool.{cases_lt}
use Rattle.session_definitions.specs.Asked.{Asked}
use Rattle.session_definitions.specs.Run as runs
use Rattle.session_definitions.specs.Run.{Moment}
use Rattle.shared.specs.declared.event.Act.{Act}
use Rattle.shared.specs.History.{told_by, told_of}

abbrev pub events_in : List Moment → List runs.Event
events_in moments = map (λ (m : Moment). m.event) moments

-- what is told of moments
abbrev pub told_in : List Moment → List Act
told_in moments = told_by (events_in moments)

-- one list, joined of two in two ways
split : {X : Type 0} (xs ys a t : List X) → xs ++ ys ≡ a ++ t → length xs ≤ length a → (m : List X) × (a ≡ xs ++ m) × (ys ≡ m ++ t)
split [] ys a t e less = (a, refl, e)
split (x ∷ xs) ys [] t e less = absurd (omega (arith, less))
split (x ∷ xs) ys (b ∷ a) t e less =
    let same : x ∷ (xs ++ ys) ≡ b ∷ (a ++ t) = e in
    let first : b ≡ x = cc in
    let others : xs ++ ys ≡ a ++ t = cc in
    let rest = split xs ys a t others (omega (arith, less)) in
    (rest.0, ap (λ l. b ∷ l) rest.1 ∙ ap (λ c. c ∷ (xs ++ rest.0)) first, rest.2)

nothing : {X : Type 0} (l : List X) → length l ≤ 0 → l ≡ []
nothing [] less = refl
nothing (x ∷ l) less = absurd (omega (arith, less))

-- the second of the two is empty where the first is the longer one
none_left : {X : Type 0} (xs ys a t : List X) → a ++ t ≡ xs ++ ys → length t ≤ 1 → length a < length xs → ys ≡ []
none_left xs ys a t e one less =
    let both : length a + length t ≡ length xs + length ys = sym (length-append a t) ∙ ap length e ∙ length-append xs ys in
    nothing ys (omega (arith, both, one, less))

at_most_one : (e : runs.Event) → length (told_of e) ≤ 1
at_most_one (runs.Event.Makes (Ok s)) = omega arith
at_most_one (runs.Event.Makes (Err refusal)) = omega arith
at_most_one (runs.Event.Calls s (Asked.Text text) reply effect) = omega arith
at_most_one (runs.Event.Calls s (Asked.Query text) reply effect) = omega arith
at_most_one (runs.Event.Calls s (Asked.Rows count) reply effect) = omega arith
at_most_one (runs.Event.Calls s Asked.Close reply effect) = omega arith
at_most_one (runs.Event.Calls s (Asked.Insert table rows) reply effect) = omega arith
at_most_one (runs.Event.Drops s) = omega arith
at_most_one (runs.Event.Flushes left) = omega arith
at_most_one (runs.Event.SetsPieces pieces) = omega arith
at_most_one (runs.Event.FailsToClose refusal) = omega arith
at_most_one runs.Event.Reopens = omega arith

-- of the later moments the last acts are told, of the earlier ones those before
pub record Cut (moments : List Moment) (xs ys : List Act) : Type 0 where
  pub later : List Moment
  pub earlier : List Moment
  pub all : moments ≡ later ++ earlier
  pub first : told_in earlier ≡ xs
  pub last : told_in later ≡ ys

neither : {X : Type 0} (xs ys : List X) → [] ≡ xs ++ ys → (xs ≡ []) × (ys ≡ [])
neither [] ys e = (refl, sym e)
neither (x ∷ xs) ys e = absurd (cc e)

-- one moment more, where what is told before it can be cut
cut_more : (m : Moment) (ms : List Moment) (xs ys : List Act) → told_in ms ++ told_of m.event ≡ xs ++ ys
    → ((others : List Act) → told_in ms ≡ xs ++ others → Cut ms xs others)
    → (length (told_in ms) < length xs) ⊎ (length xs ≤ length (told_in ms)) → Cut (m ∷ ms) xs ys
cut_more m ms xs ys e further (inl less) =
    let none = none_left xs ys (told_in ms) (told_of m.event) e (at_most_one m.event) less in
    record { later = []; earlier = m ∷ ms; all = refl; first = e ∙ ap (λ l. xs ++ l) none ∙ append-nil xs; last = sym none }
cut_more m ms xs ys e further (inr less) =
    let parts = split xs ys (told_in ms) (told_of m.event) (sym e) less in
    let rest = further parts.0 parts.1 in
    record {
      later = m ∷ rest.later;
      earlier = rest.earlier;
      all = ap (λ l. m ∷ l) rest.all;
      first = rest.first;
      last = ap (λ l. l ++ told_of m.event) rest.last ∙ sym parts.2;
    }

pub cut : (moments : List Moment) (xs ys : List Act) → told_in moments ≡ xs ++ ys → Cut moments xs ys
cut [] xs ys e = let none = neither xs ys e in record { later = []; earlier = []; all = refl; first = sym none.0; last = sym none.1 }
cut (m ∷ ms) xs ys e = cut_more m ms xs ys e (λ others h. cut ms xs others h) (cases_lt (length (told_in ms)) (length xs))
