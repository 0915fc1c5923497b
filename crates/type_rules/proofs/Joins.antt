-- Tables and joins whose sides are found.
use Rattle.std.proofs.Common.{◌≡◌, ℕ, List, ◌++◌, Ok, Err, refl, inl, inr}
use Rattle.std.specs.Prelude.{IfOk}
use Rattle.refusals.specs.declared.refusal.Refusal.{Refusal}
use Rattle.typing.specs.declared.typed.Source.{Source}
use Rattle.typing.specs.declared.typed.Source.TheVariants as source
use Rattle.typing.specs.declared.scope.Offer.{Offer}
use Rattle.typing.specs.declared.scope.TypedFrom.{TypedFrom}
use Rattle.typing.specs.Finding.{Finding, ◌>>=◌, also}
use Rattle.typing.specs.Finds.{Finds}
use Rattle.typing.specs.From.{From, crossed, frame_over, from_found}
use Rattle.typing.specs.Scope.{Scope}
use Rattle.type_rules.proofs.Covers.{Covers, also-either, then-only}
use Rattle.type_rules.proofs.FindsLemmas.{Finds-then_err, Finds-also_first, Finds-also_second}
use Rattle.type_rules.specs.Tables.{product}

abbrev made : List (List ℕ) → Finding (List Offer) → Finding Source → Finding TypedFrom
made names columns source = also columns source >>= (λ p. Ok (record { frame = frame_over names p.0; source = p.1 }))

abbrev all_columns : Finding (List Offer) → Finding (List Offer) → Finding (List Offer)
all_columns lc rc = also lc rc >>= (λ p. Ok (p.0 ++ p.1))

abbrev all_rows : Finding Source → Finding Source → Finding Source
all_rows ls rs = also ls rs >>= (λ p. Ok (source.Product p.0 p.1))

whole : (m n : List (List ℕ)) (lc : Finding (List Offer)) (ls : Finding Source) (rc : Finding (List Offer)) (rs : Finding Source) →
    IfOk (product (also (made m lc ls) (made n rc rs))) (λ v. made (m ++ n) (all_columns lc rc) (all_rows ls rs) ≡ Ok v)
whole m n (Ok a) (Ok b) (Ok c) (Ok d) = refl
whole m n (Ok a) (Ok b) (Ok c) (Err reasons) = tt
whole m n (Ok a) (Ok b) (Err reasons) rs = tt
whole m n (Ok a) (Err reasons) rc rs = tt
whole m n (Err reasons) ls rc rs = tt

module _ (refusal : Refusal) (m n : List (List ℕ)) (lc : Finding (List Offer)) (ls : Finding Source) (rc : Finding (List Offer)) (rs : Finding Source) where
  abbrev Wanted : Type 0
  Wanted = Finds {A = TypedFrom} (Err refusal) (made (m ++ n) (all_columns lc rc) (all_rows ls rs))

  from_columns : Finds {A = List Offer} (Err refusal) (all_columns lc rc) → Wanted
  from_columns h = Finds-then_err refusal (also (all_columns lc rc) (all_rows ls rs)) _ (Finds-also_first refusal (all_columns lc rc) (all_rows ls rs) h)

  from_rows : Finds {A = Source} (Err refusal) (all_rows ls rs) → Wanted
  from_rows h = Finds-then_err refusal (also (all_columns lc rc) (all_rows ls rs)) _ (Finds-also_second refusal (all_columns lc rc) (all_rows ls rs) h)

  first_columns : Finds {A = List Offer} (Err refusal) lc → Wanted
  first_columns h = from_columns (Finds-then_err refusal (also lc rc) _ (Finds-also_first refusal lc rc h))

  second_columns : Finds {A = List Offer} (Err refusal) rc → Wanted
  second_columns h = from_columns (Finds-then_err refusal (also lc rc) _ (Finds-also_second refusal lc rc h))

  first_rows : Finds {A = Source} (Err refusal) ls → Wanted
  first_rows h = from_rows (Finds-then_err refusal (also ls rs) _ (Finds-also_first refusal ls rs h))

  second_rows : Finds {A = Source} (Err refusal) rs → Wanted
  second_rows h = from_rows (Finds-then_err refusal (also ls rs) _ (Finds-also_second refusal ls rs h))

  from_left : Finds {A = TypedFrom} (Err refusal) (made m lc ls) → Wanted
  from_left h = elim (also-either refusal lc ls (then-only refusal (also lc ls) _ h)) [ inl g ↦ first_columns g | inr g ↦ first_rows g ]

  from_right : Finds {A = TypedFrom} (Err refusal) (made n rc rs) → Wanted
  from_right h = elim (also-either refusal rc rs (then-only refusal (also rc rs) _ h)) [ inl g ↦ second_columns g | inr g ↦ second_rows g ]

  either_side : Finds {A = TypedFrom} (Err refusal) (product (also (made m lc ls) (made n rc rs))) → Wanted
  either_side h = elim (also-either refusal (made m lc ls) (made n rc rs) (then-only refusal (also (made m lc ls) (made n rc rs)) _ h)) [ inl g ↦ from_left g | inr g ↦ from_right g ]

pub crossed-covers : (l r : From) (outer : Scope) → Covers (product (also (from_found l outer) (from_found r outer))) (from_found (crossed l r) outer)
crossed-covers l r outer = record {
  ok = whole l.names r.names (l.columns outer) (l.source outer) (r.columns outer) (r.source outer);
  err = λ refusal h. either_side refusal l.names r.names (l.columns outer) (l.source outer) (r.columns outer) (r.source outer) h;
}
