-- Scripts, as they are printed one after another.
use Rattle.std.proofs.Common.{◌≡◌, ℕ, ◌+◌, ◌<◌, Bool, true, false, ◌||◌, List, [], ◌∷◌, ◌++◌, length, drop, get_or, drop-cons, add-one, Option, Result, Ok, Err, is_ok, refl, sym, ap, ◌∙◌, subst}
use Rattle.replies.specs.Writes.{Writes}
use Rattle.replies.proofs.Written.{HasTaken, HasTaken-next, Writes-stop, Writes-all}
use Rattle.parallel_scripts.specs.declared.part.Part.{Part}
use Rattle.parallel_scripts.specs.Cut.{Parts}
use Rattle.parallel_scripts.specs.Shown.{Answer, Answers, has_refusal, printed_script, printed_scripts, replies_to, some_refused}

-- no answers are left
none_printed : (k : ℕ) (scripts : List Parts) → printed_scripts k scripts [] ≡ []
none_printed k [] = refl
none_printed k (parts ∷ scripts) = refl

none_refused : (scripts : List Parts) → some_refused scripts [] ≡ false
none_refused [] = refl
none_refused (parts ∷ scripts) = refl

or_false : (b : Bool) → (b || false) ≡ b
or_false true = refl
or_false false = refl

or_more : (a b c : Bool) → (a || (b || c)) ≡ ((a || b) || c)
or_more true b c = refl
or_more false b c = refl

module _ (scripts : List Parts) (i : ℕ) where
  -- the next script is the first of those that are left
  next_script : (d : Parts) → i < length scripts → drop i scripts ≡ get_or scripts i d ∷ drop (i + 1) scripts
  next_script d within = drop-cons scripts i d within ∙ ap (λ n. get_or scripts i d ∷ drop n scripts) (sym (add-one i))

  next_text : (d : Parts) (left more : List Answers) (answers : Answers) → i < length scripts → left ≡ answers ∷ more
      → printed_scripts (i + 1) (drop i scripts) left ≡ printed_script (i + 1) (get_or scripts i d).items answers.items ++ printed_scripts (i + 1 + 1) (drop (i + 1) scripts) more
  next_text d left more answers within is =
      ap (λ s. printed_scripts (i + 1) s left) (next_script d within) ∙ ap (λ l. printed_scripts (i + 1) (get_or scripts i d ∷ drop (i + 1) scripts) l) is

  next_found : (d : Parts) (left more : List Answers) (answers : Answers) → i < length scripts → left ≡ answers ∷ more
      → some_refused (drop i scripts) left ≡ has_refusal (replies_to (get_or scripts i d).items answers.items) || some_refused (drop (i + 1) scripts) more
  next_found d left more answers within is =
      ap (λ s. some_refused s left) (next_script d within) ∙ ap (λ l. some_refused (get_or scripts i d ∷ drop (i + 1) scripts) l) is

  pub goes_on : {E : Type 0} (d : Parts) (old mid new : Option (List ℕ)) (text : List ℕ) (left more : List Answers) (answers : Answers) (r : Result Bool E) (one : Bool) → i < length scripts
      → left ≡ answers ∷ more → r ≡ Ok one → HasTaken old mid text (printed_scripts (i + 1) (drop i scripts) left)
      → Writes mid new (is_ok r) (printed_script (i + 1) (get_or scripts i d).items answers.items)
      → HasTaken old new text (printed_scripts (i + 1 + 1) (drop (i + 1) scripts) more)
  goes_on d old mid new text left more answers r one within is ok before now =
      HasTaken-next old mid new text (printed_script (i + 1) (get_or scripts i d).items answers.items) (printed_scripts (i + 1 + 1) (drop (i + 1) scripts) more) r one ok
      (subst (λ l. HasTaken old mid text l) (next_text d left more answers within is) before) now

  pub stops : {A E F : Type 0} (d : Parts) (old mid new : Option (List ℕ)) (text : List ℕ) (left more : List Answers) (answers : Answers) (r : Result Bool E) (e : E) (s : Result A F) (f : F)
      → i < length scripts → left ≡ answers ∷ more → r ≡ Err e → s ≡ Err f → HasTaken old mid text (printed_scripts (i + 1) (drop i scripts) left)
      → Writes mid new (is_ok r) (printed_script (i + 1) (get_or scripts i d).items answers.items) → Writes old new (is_ok s) text
  stops d old mid new text left more answers r e s f within is failed stopped before now =
      Writes-stop old mid new text (printed_script (i + 1) (get_or scripts i d).items answers.items) (printed_scripts (i + 1 + 1) (drop (i + 1) scripts) more) r e s f failed stopped
      (subst (λ l. HasTaken old mid text l) (next_text d left more answers within is) before) now

  pub finds_on : (d : Parts) (left more : List Answers) (answers : Answers) (all refused one : Bool) → i < length scripts → left ≡ answers ∷ more
      → all ≡ (refused || some_refused (drop i scripts) left) → one ≡ has_refusal (replies_to (get_or scripts i d).items answers.items)
      → all ≡ ((refused || one) || some_refused (drop (i + 1) scripts) more)
  finds_on d left more answers all refused one within is before found =
      before ∙ ap (λ b. refused || b) (next_found d left more answers within is ∙ ap (λ b. b || some_refused (drop (i + 1) scripts) more) (sym found))
      ∙ or_more refused one (some_refused (drop (i + 1) scripts) more)

  -- the same, as the code finds the next script
  shown_is : (p : Parts) (shown : List Part) (k : ℕ) (answers : List Answer) → p ≡ get_or scripts i p → shown ≡ p.items → printed_script k shown answers ≡ printed_script k (get_or scripts i p).items answers
  shown_is p shown k answers at is = ap (λ s. printed_script k s answers) (is ∙ ap (λ (x : Parts). x.items) at)

  pub goes_by : {E : Type 0} (p : Parts) (shown : List Part) (old mid new : Option (List ℕ)) (text : List ℕ) (left more : List Answers) (answers : Answers) (r : Result Bool E) (one : Bool)
      → i < length scripts → p ≡ get_or scripts i p → shown ≡ p.items → left ≡ answers ∷ more → r ≡ Ok one → HasTaken old mid text (printed_scripts (i + 1) (drop i scripts) left)
      → Writes mid new (is_ok r) (printed_script (i + 1) shown answers.items) → HasTaken old new text (printed_scripts (i + 1 + 1) (drop (i + 1) scripts) more)
  goes_by p shown old mid new text left more answers r one within at is next ok before now =
      goes_on p old mid new text left more answers r one within next ok before (subst (λ t. Writes mid new (is_ok r) t) (shown_is p shown (i + 1) answers.items at is) now)

  pub stops_by : {A E F : Type 0} (p : Parts) (shown : List Part) (old mid new : Option (List ℕ)) (text : List ℕ) (left more : List Answers) (answers : Answers) (r : Result Bool E) (e : E) (s : Result A F) (f : F)
      → i < length scripts → p ≡ get_or scripts i p → shown ≡ p.items → left ≡ answers ∷ more → r ≡ Err e → s ≡ Err f → HasTaken old mid text (printed_scripts (i + 1) (drop i scripts) left)
      → Writes mid new (is_ok r) (printed_script (i + 1) shown answers.items) → Writes old new (is_ok s) text
  stops_by p shown old mid new text left more answers r e s f within at is next failed stopped before now =
      stops p old mid new text left more answers r e s f within next failed stopped before (subst (λ t. Writes mid new (is_ok r) t) (shown_is p shown (i + 1) answers.items at is) now)

  pub finds_by : (p : Parts) (shown : List Part) (left more : List Answers) (answers : Answers) (all refused one : Bool) → i < length scripts → p ≡ get_or scripts i p → shown ≡ p.items → left ≡ answers ∷ more
      → all ≡ (refused || some_refused (drop i scripts) left) → one ≡ has_refusal (replies_to shown answers.items) → all ≡ ((refused || one) || some_refused (drop (i + 1) scripts) more)
  finds_by p shown left more answers all refused one within at is next before found =
      finds_on p left more answers all refused one within next before (found ∙ ap (λ s. has_refusal (replies_to s answers.items)) (is ∙ ap (λ (x : Parts). x.items) at))

  -- the end of the answers
  pub no_answers : (old new : Option (List ℕ)) (is_done : Bool) (text : List ℕ) (left : List Answers) → left ≡ [] → HasTaken old new text (printed_scripts (i + 1) (drop i scripts) left)
      → Writes old new is_done text
  no_answers old new is_done text left is before =
      Writes-all old new is_done text _ before (ap (λ l. printed_scripts (i + 1) (drop i scripts) l) is ∙ none_printed (i + 1) (drop i scripts))

  pub finds_no_answers : (left : List Answers) (all refused : Bool) → left ≡ [] → all ≡ (refused || some_refused (drop i scripts) left) → refused ≡ all
  finds_no_answers left all refused is before =
      sym (before ∙ ap (λ l. refused || some_refused (drop i scripts) l) is ∙ ap (λ b. refused || b) (none_refused (drop i scripts)) ∙ or_false refused)
