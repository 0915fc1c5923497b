-- What a step that was read has to be.
use Rattle.std.proofs.Common.{◌≡◌, ℕ, Bool, true, [], ◌∷◌, ◌++◌, length, drop, cond, refl, sym, ap, ◌∙◌, subst, inl, inr}
use Rattle.std.specs.List.{list_all, take_while}
use Rattle.std.proofs.lemmas.Bool.{cases_Bool, and_parts, and_from}
use Rattle.std.proofs.lemmas.List.Sums.{take_while-cons}
use Rattle.lexer.specs.declared.kinds.Kind.{Kind}
use Rattle.lexer.specs.Token.{Bytes, Spells, EndsBefore, IsFault, IsRun}
use Rattle.lexer.specs.Reading.{Step, Stop, Reads, Fails}

-- the bytes begin with the spelling of this token
pub record Begins (here : Bytes) (kind : Kind) (rest : Bytes) : Type 0 where
  pub spelling : Bytes
  pub text : here ≡ spelling ++ rest
  pub spells : Spells spelling kind
  pub ends : EndsBefore rest kind

-- this step is right for the bytes
abbrev pub IsStep : Bytes → Step → Type 0
IsStep here Stop = here ≡ []
IsStep here (Reads kind rest) = Begins here kind rest
IsStep here (Fails refusal) = IsFault here refusal

-- what `take_while` takes is the longest run
pub IsRun-take_while : (p : ℕ → Bool) (bs : Bytes) → IsRun p bs (take_while p bs) (drop (length (take_while p bs)) bs)
IsRun-take_while p [] = record { text = refl; inside = refl; ends = refl }
IsRun-take_while p (b ∷ bs) =
    let run = IsRun-take_while p bs in
    let cons : take_while p (b ∷ bs) ≡ cond (p b) (b ∷ take_while p bs) [] = take_while-cons p b bs in
    elim (cases_Bool (p b)) [
      | inl y ↦
          let all : take_while p (b ∷ bs) ≡ b ∷ take_while p bs = cons ∙ ap (λ c. cond c (b ∷ take_while p bs) []) y in
          subst (λ front. IsRun p (b ∷ bs) front (drop (length front) (b ∷ bs))) (sym all)
          (record { text = ap (λ more. b ∷ more) run.text; inside = rw y run.inside; ends = run.ends })
      | inr n ↦
          let none : take_while p (b ∷ bs) ≡ [] = cons ∙ ap (λ c. cond c (b ∷ take_while p bs) []) n in
          subst (λ front. IsRun p (b ∷ bs) front (drop (length front) (b ∷ bs))) (sym none)
          (record { text = refl; inside = refl; ends = n })
    ]

-- one more byte in front of a run
pub IsRun-cons : (p : ℕ → Bool) (b : ℕ) (bs run rest : Bytes) → p b ≡ true → IsRun p bs run rest → IsRun p (b ∷ bs) (b ∷ run) rest
IsRun-cons p b bs run rest y is_run = record { text = ap (λ more. b ∷ more) is_run.text; inside = rw y is_run.inside; ends = is_run.ends }

pub list_all-weaker : (p q : ℕ → Bool) → ((b : ℕ) → p b ≡ true → q b ≡ true) → (bs : Bytes) → list_all p bs ≡ true → list_all q bs ≡ true
list_all-weaker p q weaker [] h = refl
list_all-weaker p q weaker (b ∷ bs) h =
    let parts = and_parts (p b) (list_all p bs) h in
    and_from (q b) (list_all q bs) (weaker b parts.0) (list_all-weaker p q weaker bs parts.1)
