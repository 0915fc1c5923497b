-- Scripts are cut one after another.
use Rattle.std.proofs.Common.{◌≡◌, ℕ, ◌+◌, ◌<◌, ◌≤◌, List, [], ◌∷◌, ◌++◌, length, take, get_or, refl, sym, ap, ◌∙◌, subst, subst₂}
use Rattle.std.proofs.lemmas.List.{take_more}
use Rattle.parallel_scripts.proofs.Cutting.{take_all}
use Rattle.shared.specs.Scripts.{Script, Text}
use Rattle.parallel_scripts.specs.Cut.{AreCut, HasPushed, IsCut, Parts, texts_in}

-- one script more
cut_more : (scripts : List Text) (texts : List Script) (parts : List Parts) (script : Text) (cut : Script) (kinds : Parts) → AreCut scripts texts parts → IsCut script.items (texts_in cut.items) kinds.items
    → AreCut (scripts ++ script ∷ []) (texts ++ cut ∷ []) (parts ++ kinds ∷ [])
cut_more [] texts parts script cut kinds h is =
    (cut, [], kinds, [], is, ap (λ (l : List Script). l ++ cut ∷ []) h.0, ap (λ (l : List Parts). l ++ kinds ∷ []) h.1, (refl, refl))
cut_more (s ∷ scripts) texts parts script cut kinds h is = (
  h.0,
  h.1 ++ cut ∷ [],
  h.2,
  h.3 ++ kinds ∷ [],
  h.4,
  ap (λ (l : List Script). l ++ cut ∷ []) h.5,
  ap (λ (l : List Parts). l ++ kinds ∷ []) h.6,
  cut_more scripts h.1 h.3 script cut kinds h.7 is,
)

pushed : (scripts all : List Text) (old new : List Script) (was now : List Parts) (script : Text) (bytes : List ℕ) → all ≡ scripts ++ script ∷ [] → bytes ≡ script.items → AreCut scripts old was
    → HasPushed bytes old new was now → AreCut all new now
pushed scripts all old new was now script bytes whole same h p =
    subst₂ (λ (t : List Script) (k : List Parts). AreCut all t k) (sym p.texts_are) (sym p.parts_are)
    (subst (λ (l : List Text). AreCut l (old ++ p.texts ∷ []) (was ++ p.parts ∷ [])) (sym whole)
    (cut_more scripts old was script p.texts p.parts h (subst (λ (b : List ℕ). IsCut b (texts_in p.texts.items) p.parts.items) same p.cut)))

-- the next script was cut
pub pushed_at : (scripts : List Text) (i : ℕ) (old new : List Script) (was now : List Parts) (script : Text) (bytes : List ℕ) → i < length scripts → script ≡ get_or scripts i script
    → bytes ≡ script.items → AreCut (take i scripts) old was → HasPushed bytes old new was now → AreCut (take (i + 1) scripts) new now
pushed_at scripts i old new was now script bytes less at same h p =
    pushed (take i scripts) (take (i + 1) scripts) old new was now script bytes (take_more scripts i script less ∙ ap (λ (s : Text). take i scripts ++ s ∷ []) (sym at)) same h p

-- all were cut
pub cut_whole : (scripts : List Text) (i : ℕ) (texts : List Script) (parts : List Parts) → length scripts ≤ i → AreCut (take i scripts) texts parts → AreCut scripts texts parts
cut_whole scripts i texts parts past h = subst (λ (l : List Text). AreCut l texts parts) (take_all i scripts past) h
