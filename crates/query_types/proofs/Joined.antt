-- What is found of FROM and joins, from what is found of their parts.
use Rattle.std.proofs.Common.{◌≡◌, refl, sym, ap, ◌∙◌, ℕ, zero, suc, ◌+◌, ◌<◌, ◌≤◌, List, [], ◌∷◌, ◌++◌, map, length, take, get_or, None, Ok, Err, inl, inr, arith, add-one}
use Rattle.std.proofs.lemmas.List.{take_all}
use Rattle.refusals.specs.declared.refusal.Refusal.{Refusal}
use Rattle.typing.specs.declared.typed.Condition.{Condition}
use Rattle.typing.specs.declared.typed.Source.{Source}
use Rattle.typing.specs.declared.scope.Offer.{Offer}
use Rattle.typing.specs.declared.scope.Sides.{Sides}
use Rattle.typing.specs.declared.scope.TypedFrom.{TypedFrom}
use Rattle.typing.specs.Finding.{Finding, ◌>>=◌, also}
use Rattle.typing.specs.Finds.{Finds}
use Rattle.typing.specs.From.{From, all_crossed, crossed, frame_over, from_found, joined_by, joined_on}
use Rattle.typing.specs.Part.{Part, Plain}
use Rattle.typing.specs.Scope.{Scope}
use Rattle.type_rules.proofs.Covers.{also-either, then-only}
use Rattle.type_rules.proofs.FindsLemmas.{Finds-then_err, Finds-also_first, Finds-also_second}
use Rattle.type_rules.specs.Tables.{join_sides}
use Rattle.type_rules.specs.declared.tables.Joined.{Joined}
use Rattle.query_types.specs.Selects.{join_of, with_key}

-- ---- one more of a list

module _ {X : Type 0} (f : X → From) where
  pub crossed-more : (from : From) (xs : List X) (i : ℕ) (x : X) → i < length xs → x ≡ get_or xs i x →
      all_crossed (map f (take (i + 1) xs)) from ≡ crossed (all_crossed (map f (take i xs)) from) (f x)
  crossed-more from xs i x below is = rw add-one (go from xs i below is)
    where
      go : (from : From) (xs : List X) (i : ℕ) → i < length xs → x ≡ get_or xs i x → all_crossed (map f (take (suc i) xs)) from ≡ crossed (all_crossed (map f (take i xs)) from) (f x)
      go from [] i below is = absurd (omega arith)
      go from (y ∷ ys) zero below is = ap (λ z. crossed from (f z)) (sym is)
      go from (y ∷ ys) (suc i) below is = go (crossed from (f y)) ys i (omega arith) is

  pub crossed-whole : (from : From) (xs : List X) (i : ℕ) → length xs ≤ i → all_crossed (map f (take i xs)) from ≡ all_crossed (map f xs) from
  crossed-whole from xs i past-end = ap (λ ys. all_crossed (map f ys) from) (take_all i xs past-end)

module _ {X : Type 0} (f : X → From → From) where
  pub joined-more : (from : From) (xs : List X) (i : ℕ) (x : X) → i < length xs → x ≡ get_or xs i x →
      joined_by (map f (take (i + 1) xs)) from ≡ f x (joined_by (map f (take i xs)) from)
  joined-more from xs i x below is = rw add-one (go from xs i below is)
    where
      go : (from : From) (xs : List X) (i : ℕ) → i < length xs → x ≡ get_or xs i x → joined_by (map f (take (suc i) xs)) from ≡ f x (joined_by (map f (take i xs)) from)
      go from [] i below is = absurd (omega arith)
      go from (y ∷ ys) zero below is = ap (λ z. f z from) (sym is)
      go from (y ∷ ys) (suc i) below is = go (f y from) ys i (omega arith) is

  pub joined-whole : (from : From) (xs : List X) (i : ℕ) → length xs ≤ i → joined_by (map f (take i xs)) from ≡ joined_by (map f xs) from
  joined-whole from xs i past-end = ap (λ ys. joined_by (map f ys) from) (take_all i xs past-end)

-- ---- ON

abbrev part_of : List (List ℕ) → Finding (List Offer) → Finding Source → Finding TypedFrom
part_of names columns source = also columns source >>= (λ p. Ok (record { frame = frame_over names p.0; source = p.1 }))

abbrev all_columns : Finding (List Offer) → Finding (List Offer) → Finding (List Offer)
all_columns lc rc = also lc rc >>= (λ p. Ok (p.0 ++ p.1))

-- the rows of a join, whose ON is found over the columns of both sides
abbrev sides_with : Finding (Source × Source) → Finding (List Offer × Condition) → Finding Sides
sides_with tables found = also tables found >>= (λ p. Ok (record { left = (p.0).0; right = (p.0).1; right_width = length (p.1).0; on = (p.1).1 }))

abbrev all_sides : (List Offer → Finding Condition) → Finding (List Offer) → Finding Source → Finding (List Offer) → Finding Source → Finding Sides
all_sides on lc ls rc rs = sides_with (also ls rs) (also rc (all_columns lc rc >>= on))

abbrev all_rows : (Sides → Source) → (List Offer → Finding Condition) → Finding (List Offer) → Finding Source → Finding (List Offer) → Finding Source → Finding Source
all_rows joined on lc ls rc rs = all_sides on lc ls rc rs >>= (λ sides. Ok (joined sides))

module _ (joined : Sides → Source) (m n : List (List ℕ)) (on : List Offer → Finding Condition) where
  abbrev whole : Finding (List Offer) → Finding Source → Finding (List Offer) → Finding Source → Finding TypedFrom
  whole lc ls rc rs = part_of (m ++ n) (all_columns lc rc) (all_rows joined on lc ls rc rs)

  over_on : (a c : List Offer) (b d : Source) (found : Finding Condition) →
      part_of (m ++ n) (Ok (a ++ c)) (sides_with (Ok (b, d)) (also (Ok c) found) >>= (λ sides. Ok (joined sides)))
      ≡ join_of joined (record { frame = frame_over (m ++ n) (a ++ c); left = b; right = d; right_width = length c }) found
  over_on a c b d (Ok condition) = refl
  over_on a c b d (Err reasons) = refl

  join-found : (lc : Finding (List Offer)) (ls : Finding Source) (rc : Finding (List Offer)) (rs : Finding Source) (sides : Joined) →
      join_sides (also (part_of m lc ls) (part_of n rc rs)) ≡ Ok sides → whole lc ls rc rs ≡ join_of joined sides (on sides.frame.columns)
  join-found (Ok a) (Ok b) (Ok c) (Ok d) sides e =
      let same : record { frame = frame_over (m ++ n) (a ++ c); left = b; right = d; right_width = length c } ≡ sides = cc e in
      over_on a c b d (on (a ++ c)) ∙ ap (λ s. join_of joined s (on s.frame.columns)) same
  join-found (Ok a) (Ok b) (Ok c) (Err reasons) sides e = absurd (cc e)
  join-found (Ok a) (Ok b) (Err reasons) rs sides e = absurd (cc e)
  join-found (Ok a) (Err reasons) rc rs sides e = absurd (cc e)
  join-found (Err reasons) ls rc rs sides e = absurd (cc e)

  module _ (refusal : Refusal) (lc : Finding (List Offer)) (ls : Finding Source) (rc : Finding (List Offer)) (rs : Finding Source) where
    abbrev Wanted : Type 0
    Wanted = Finds {A = TypedFrom} (Err refusal) (whole lc ls rc rs)

    from_columns : Finds {A = List Offer} (Err refusal) (all_columns lc rc) → Wanted
    from_columns h = Finds-then_err refusal (also (all_columns lc rc) (all_rows joined on lc ls rc rs)) _ (Finds-also_first refusal (all_columns lc rc) (all_rows joined on lc ls rc rs) h)

    from_rows : Finds {A = Source × Source} (Err refusal) (also ls rs) → Wanted
    from_rows h =
        Finds-then_err refusal (also (all_columns lc rc) (all_rows joined on lc ls rc rs)) _ (Finds-also_second refusal (all_columns lc rc) (all_rows joined on lc ls rc rs)
        (Finds-then_err refusal (all_sides on lc ls rc rs) _ (Finds-then_err refusal (also (also ls rs) (also rc (all_columns lc rc >>= on))) _ (Finds-also_first refusal (also ls rs) (also rc (all_columns lc rc >>= on)) h))))

    from_left : Finds {A = TypedFrom} (Err refusal) (part_of m lc ls) → Wanted
    from_left h = elim (also-either refusal lc ls (then-only refusal (also lc ls) _ h)) [
      | inl g ↦ from_columns (Finds-then_err refusal (also lc rc) _ (Finds-also_first refusal lc rc g))
      | inr g ↦ from_rows (Finds-also_first refusal ls rs g)
    ]

    from_right : Finds {A = TypedFrom} (Err refusal) (part_of n rc rs) → Wanted
    from_right h = elim (also-either refusal rc rs (then-only refusal (also rc rs) _ h)) [
      | inl g ↦ from_columns (Finds-then_err refusal (also lc rc) _ (Finds-also_second refusal lc rc g))
      | inr g ↦ from_rows (Finds-also_second refusal ls rs g)
    ]

    join-refused : Finds {A = Joined} (Err refusal) (join_sides (also (part_of m lc ls) (part_of n rc rs))) → Wanted
    join-refused h = elim (also-either refusal (part_of m lc ls) (part_of n rc rs) (then-only refusal (also (part_of m lc ls) (part_of n rc rs)) _ h)) [ inl g ↦ from_left g | inr g ↦ from_right g ]

-- a join whose sides are found, and one of which a side is refused
module _ (joined : Sides → Source) (on : Part Condition) (left right : From) (outer : Scope) where
  abbrev on_over : List Offer → Finding Condition
  on_over columns = on.found (record { scope = frame_over (left.names ++ right.names) columns ∷ outer; clause = Plain })

  names-of : (sides : Joined) → join_sides (also (from_found left outer) (from_found right outer)) ≡ Ok sides → frame_over (left.names ++ right.names) sides.frame.columns ≡ record sides.frame { key = None }
  names-of sides e = names (left.columns outer) (left.source outer) (right.columns outer) (right.source outer) e
    where
      names : (lc : Finding (List Offer)) (ls : Finding Source) (rc : Finding (List Offer)) (rs : Finding Source) →
          join_sides (also (part_of left.names lc ls) (part_of right.names rc rs)) ≡ Ok sides → frame_over (left.names ++ right.names) sides.frame.columns ≡ record sides.frame { key = None }
      names (Ok a) (Ok b) (Ok c) (Ok d) e =
          let same : record { frame = frame_over (left.names ++ right.names) (a ++ c); left = b; right = d; right_width = length c } ≡ sides = cc e in
          rw (sym same) refl
      names (Ok a) (Ok b) (Ok c) (Err reasons) e = absurd (cc e)
      names (Ok a) (Ok b) (Err reasons) rs e = absurd (cc e)
      names (Ok a) (Err reasons) rc rs e = absurd (cc e)
      names (Err reasons) ls rc rs e = absurd (cc e)

  pub on-found : (sides : Joined) → join_sides (also (from_found left outer) (from_found right outer)) ≡ Ok sides →
      from_found (joined_on joined on left right) outer ≡ join_of joined sides (on.found (record { scope = with_key None sides.frame outer; clause = Plain }))
  on-found sides e =
      join-found joined left.names right.names on_over (left.columns outer) (left.source outer) (right.columns outer) (right.source outer) sides e
      ∙ ap (λ frame. join_of joined sides (on.found (record { scope = frame ∷ outer; clause = Plain }))) (names-of sides e)

  pub on-refused : (refusal : Refusal) → Finds {A = Joined} (Err refusal) (join_sides (also (from_found left outer) (from_found right outer))) → Finds {A = TypedFrom} (Err refusal) (from_found (joined_on joined on left right) outer)
  on-refused refusal h = join-refused joined left.names right.names on_over refusal (left.columns outer) (left.source outer) (right.columns outer) (right.source outer) h
