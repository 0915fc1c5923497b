-- The names of constraints.
use Rattle.std.proofs.Common.{◌≡◌, refl, sym, ap, ◌∙◌, ℕ, suc, ◌+◌, ◌<◌, ◌≤◌, ◌/◌, ◌%◌, List, [], ◌∷◌, ◌++◌, length, get_or, drop, drop-cons, add-one, Bool, true, Ok, Err, arith, inl, inr}
use Rattle.std.specs.Prelude.{nat_le, false, filter, if◌then◌else◌}
use Rattle.std.proofs.lemmas.List.{drop_all}
use Rattle.std.specs.Fmt.{decimal}
use Rattle.std.proofs.lemmas.Bool.{le-leb}
use Rattle.std.proofs.lemmas.Bool.Decides.{leb_tells}
use Rattle.std.proofs.lemmas.Fmt.{decimal_digit, decimal_step}
use Rattle.refusals.specs.declared.limit.Limit.TheVariants as limit
use Rattle.refusals.specs.declared.refusal.Refusal.TheVariants.{Exceeded}
use Rattle.typing.specs.Finding.{Finding, ◌>>=◌, also}
use Rattle.typing.specs.Finds.{Finds}
use Rattle.typing.specs.Table.{at_most}
use Rattle.type_rules.proofs.FindsLemmas.{Finds-also_first, Finds-exceeded, Finds-then_err}
use Rattle.table_types.specs.declared.headings.Heading.{Heading}
use Rattle.table_types.specs.Tables.{counts_found, names_allowed, names_found, names_of}

not_within : (count most : ℕ) → most < count → nat_le count most ≡ false
not_within count most h = elim (leb_tells count most) [ inl y ↦ absurd (omega (arith, y.1, h)) | inr n ↦ n.0 ]

pub names-many : (headings : List Heading) → 32 < length headings → Finds {A = List (List ℕ)} (Err (Exceeded limit.Constraints)) (names_found headings)
names-many headings h =
    let rest = names_allowed (names_of 1 headings) (counts_found headings) in
    Finds-then_err (Exceeded limit.Constraints) (also (at_most 32 limit.Constraints (length headings)) rest) (λ p. Ok p.1)
    (Finds-also_first (Exceeded limit.Constraints) (at_most 32 limit.Constraints (length headings)) rest (rw (not_within (length headings) 32 h) (Finds-exceeded limit.Constraints)))

pub names-few : (headings : List Heading) → length headings ≤ 32 → names_found headings ≡ names_allowed (names_of 1 headings) (counts_found headings)
names-few headings h = rw (le-leb (length headings) 32 h) (go (names_allowed (names_of 1 headings) (counts_found headings)))
  where
    go : (x : Finding (List (List ℕ))) → (also {A = Unit {0}} (Ok tt) x >>= (λ p. Ok p.1)) ≡ x
    go (Ok xs) = refl
    go (Err reasons) = refl

-- ---- how many have a mark

module _ (mark : Heading → Bool) (headings : List Heading) (i : ℕ) where
  pub count-next : (h : Heading) (count : ℕ) → i < length headings → h ≡ get_or headings i h →
      (count + (if mark h then 1 else 0)) + length (filter mark (drop (i + 1) headings)) ≡ count + length (filter mark (drop i headings))
  count-next h count below is =
      let split : drop i headings ≡ h ∷ drop (suc i) headings = drop-cons headings i h below ∙ ap (λ x. x ∷ drop (suc i) headings) (sym is) in
      rw (split, add-one) (go (mark h) refl)
    where
      go : (b : Bool) → mark h ≡ b → (count + (if mark h then 1 else 0)) + length (filter mark (drop (suc i) headings)) ≡ count + length (filter mark (h ∷ drop (suc i) headings))
      go true e = rw e (omega arith)
      go false e = rw e (omega arith)

  pub count-done : (count total : ℕ) → length headings ≤ i → count + length (filter mark (drop i headings)) ≡ total → count ≡ total
  count-done count total past e =
      let none : drop i headings ≡ [] = drop_all i headings past in
      let rest : count + 0 ≡ total = rw none at e in
      omega arith

pub one_digit : (n : ℕ) → n < 10 → 35 ∷ (48 + n) ∷ [] ≡ 35 ∷ decimal n
one_digit n h = ap (λ ds. 35 ∷ ds) (sym (decimal_digit n h))

pub two_digits : (n : ℕ) → 10 ≤ n → n < 100 → 35 ∷ (48 + n / 10) ∷ (48 + n % 10) ∷ [] ≡ 35 ∷ decimal n
two_digits n low high =
    let step : decimal n ≡ decimal (n / 10) ++ ((48 + n % 10) ∷ []) = decimal_step n low (omega (arith, high)) in
    let front : decimal (n / 10) ≡ (48 + n / 10) ∷ [] = decimal_digit (n / 10) (omega (arith, high)) in
    rw (step, front) refl

pub ruleset digit_steps = (one_digit, two_digits)

pub ruleset name_steps = (names-many)
