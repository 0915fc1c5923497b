-- Columns of a foreign key beside those that they reference, pair after pair.
use Rattle.std.proofs.Common.{◌≡◌, refl, ap, sym, ◌∙◌, ℕ, suc, ◌+◌, ◌<◌, List, [], ◌∷◌, length, get_or, drop, drop-cons, add-one, Ok, Err}
use Rattle.refusals.specs.declared.refusal.Refusal.{Refusal}
use Rattle.sqlval.specs.declared.schema.Column.{Column}
use Rattle.typing.specs.Finding.{Finding, reasons_in, ◌>>=◌, also}
use Rattle.typing.specs.Finds.{Finds, IsReasonOf}
use Rattle.typing.specs.References.{type_matches, types_match}
use Rattle.type_rules.proofs.FindsLemmas.{Finds-also_first, Finds-then_err}

module _ (columns others : List Column) where
  pub pair-next : (one other : ℕ) (more rest left : List ℕ) → left ≡ other ∷ rest → type_matches columns others one other ≡ Ok tt
      → types_match columns others (one ∷ more) left ≡ types_match columns others more rest
  pair-next one other more rest left is e = rw (is, e) (drops (types_match columns others more rest))
    where
      drops : (x : Finding (Unit {0})) → (also {A = Unit {0}} (Ok tt) x >>= (λ p. Ok tt)) ≡ x
      drops (Ok u) = refl
      drops (Err reasons) = refl

  pub pair-none : (one : ℕ) (more left : List ℕ) → left ≡ [] → types_match columns others (one ∷ more) left ≡ types_match columns others more left
  pair-none one more left is = rw is (at more)
    where
      at : (places : List ℕ) → ◌≡◌ {A = Finding (Unit {0})} (Ok tt) (types_match columns others places [])
      at [] = refl
      at (place ∷ places) = refl

  pub pair-refused : (one other : ℕ) (more rest left : List ℕ) (r : Refusal) → left ≡ other ∷ rest → Finds (Err r) (type_matches columns others one other)
      → IsReasonOf (reasons_in (types_match columns others (one ∷ more) left)) r
  pair-refused one other more rest left r is h =
      rw is ((Finds-then_err r (also (type_matches columns others one other) (types_match columns others more rest)) (λ p. Ok tt)
      (Finds-also_first r (type_matches columns others one other) (types_match columns others more rest) h)).err)

  module _ (places : List ℕ) (i : ℕ) (below : i < length places) where
    split : drop i places ≡ get_or places i 0 ∷ drop (i + 1) places
    split = rw add-one (drop-cons places i 0 below)

    pub pairs-next : (left rest : List ℕ) (whole : Finding (Unit {0}))
        → types_match columns others (get_or places i 0 ∷ drop (i + 1) places) left ≡ types_match columns others (drop (i + 1) places) rest
        → types_match columns others (drop i places) left ≡ whole → types_match columns others (drop (i + 1) places) rest ≡ whole
    pairs-next left rest whole step e = sym step ∙ ap (λ ps. types_match columns others ps left) (sym split) ∙ e

    pub pairs-refused : (left : List ℕ) (whole : Finding (Unit {0})) (r : Refusal) → types_match columns others (drop i places) left ≡ whole
        → IsReasonOf (reasons_in (types_match columns others (get_or places i 0 ∷ drop (i + 1) places) left)) r → Finds {A = Unit {0}} (Err r) whole
    pairs-refused left whole r e h = rw (sym e) (record { ok = tt; err = rw split h })

pub ruleset pair_steps = (pair-next, pair-none, pair-refused)
