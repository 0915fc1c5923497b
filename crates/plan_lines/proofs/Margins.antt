-- Lines behind a margin: that of a node, and those of what stands below it.
use Rattle.std.proofs.Common.{◌≡◌, refl, sym, ap, ◌∙◌, ℕ, List, [], ◌∷◌, ◌++◌, map, codes, Result, Ok, Err, OnOk}
use Rattle.std.proofs.lemmas.List.{append_assoc, map-append}
use Rattle.plan_lines.specs.Lines.{Lines, indented, shown}
use Rattle.plan_lines.specs.Margin.{Adds, behind}

-- two spaces more before a line are two spaces more of the margin
further : (margin : List ℕ) (lines : Lines) → map (behind margin) (indented lines) ≡ map (behind (margin ++ codes "  ")) lines
further margin [] = refl
further margin (line ∷ lines) =
    ap (λ first. shown first ∷ map (behind margin) (indented lines)) (sym (append_assoc margin (codes "  ") line))
    ∙ ap (λ (rest : Lines). behind (margin ++ codes "  ") line ∷ rest) (further margin lines)

-- A node, whose line stands behind those that were there, with a margin inside it.
module _ (margin inner line : List ℕ) (old middle all : Lines)
    (is : inner ≡ margin ++ codes "  ") (own : middle ≡ old ++ behind margin line ∷ []) where
  -- with lines below it
  adds_below : (lines new : Lines) → all ≡ line ∷ indented lines → Adds inner lines middle new → Adds margin all old new
  adds_below lines new made below =
      below ∙ ap (λ (m : List ℕ). middle ++ map (behind m) lines) is
      ∙ ap (λ (rest : Lines). middle ++ rest) (sym (further margin lines))
      ∙ ap (λ (m : Lines). m ++ map (behind margin) (indented lines)) own
      ∙ append_assoc old (behind margin line ∷ []) (map (behind margin) (indented lines))
      ∙ ap (λ (a : Lines). old ++ map (behind margin) a) (sym made)

  -- nothing stands below it
  pub adds_line : all ≡ line ∷ indented [] → Adds margin all old middle
  adds_line made = own ∙ ap (λ (a : Lines). old ++ map (behind margin) a) (sym made)

  -- one child, whose lines a call puts
  pub adds_child : {A E : Type 0} (lines new : Lines) → all ≡ line ∷ indented lines
      → (result : Result A E) → OnOk result (Adds inner lines middle new) → OnOk result (Adds margin all old new)
  adds_child lines new made (Ok x) below = adds_below lines new made below
  adds_child lines new made (Err e) below = tt

  -- two, of which a call puts the second
  pub adds_children : {A E : Type 0} (left right between new : Lines) → all ≡ line ∷ indented (left ++ right)
      → Adds inner left middle between → (result : Result A E) → OnOk result (Adds inner right between new)
      → OnOk result (Adds margin all old new)
  adds_children left right between new made first (Ok x) second = adds_below (left ++ right) new made
      (second ∙ ap (λ (b : Lines). b ++ map (behind inner) right) first
      ∙ append_assoc middle (map (behind inner) left) (map (behind inner) right)
      ∙ ap (λ (rest : Lines). middle ++ rest) (sym (map-append (behind inner) left right)))
  adds_children left right between new made first (Err e) second = tt
