-- What is read anywhere else is a symbol, the longest one, or a byte that begins nothing.
use Rattle.std.proofs.Common.{◌≡◌, ◌≢◌, ℕ, ◌≤◌, true, false, ◌&&◌, [], ◌∷◌, ◌++◌, length, Option, Some, None, eqb, refl, ap, ◌∙◌, subst, arith}
use Rattle.std.specs.Prelude.{IfSome}
use Rattle.std.proofs.lemmas.Bool.{and_parts, cond_both, eqb-true}
use Rattle.lexer.specs.declared.kinds.Symbol.{Symbol}
use Rattle.lexer.specs.declared.kinds.Symbol.TheVariants as symbol
use Rattle.lexer.specs.Token.{Bytes, IsLongest, wrong_byte, is_known, symbol_text}
use Rattle.lexer.specs.Reading.{symbol_alone, symbol_of_two, symbol_step, symbol_or_fault, symbol_in_front}
use Rattle.lexer.proofs.Steps.{IsStep}

abbrev pub IsAlone : ℕ → Option Symbol → Type 0
IsAlone b o = IfSome o (λ s. b ∷ [] ≡ symbol_text s)

abbrev pub IsTwo : ℕ → ℕ → Option Symbol → Type 0
IsTwo b c o = IfSome o (λ s. b ∷ c ∷ [] ≡ symbol_text s)

pair : (b c x y : ℕ) → (eqb b x && eqb c y) ≡ true → ◌≡◌ {A = Bytes} (b ∷ c ∷ []) (x ∷ y ∷ [])
pair b c x y e = let parts = and_parts (eqb b x) (eqb c y) e in let p : b ≡ x = eqb-true b x parts.0 in let q : c ≡ y = eqb-true c y parts.1 in cc

pub symbol_alone-text : (b : ℕ) → IsAlone b (symbol_alone b)
symbol_alone-text b =
    cond_both (eqb b 40) _ _ (IsAlone b) (λ e. ap (λ c. c ∷ []) (eqb-true b 40 e)) (λ _. cond_both (eqb b 41) _ _ (IsAlone b) (λ e. ap (λ c. c ∷ []) (eqb-true b 41 e)) (λ _. cond_both (eqb b 42) _ _ (IsAlone b) (λ e. ap (λ c. c ∷ []) (eqb-true b 42 e)) (λ _. cond_both (eqb b 43) _ _ (IsAlone b) (λ e. ap (λ c. c ∷ []) (eqb-true b 43 e)) (λ _. cond_both (eqb b 44) _ _ (IsAlone b) (λ e. ap (λ c. c ∷ []) (eqb-true b 44 e)) (λ _. cond_both (eqb b 45) _ _ (IsAlone b) (λ e. ap (λ c. c ∷ []) (eqb-true b 45 e)) (λ _. cond_both (eqb b 46) _ _ (IsAlone b) (λ e. ap (λ c. c ∷ []) (eqb-true b 46 e)) (λ _. cond_both (eqb b 47) _ _ (IsAlone b) (λ e. ap (λ c. c ∷ []) (eqb-true b 47 e)) (λ _. cond_both (eqb b 59) _ _ (IsAlone b) (λ e. ap (λ c. c ∷ []) (eqb-true b 59 e)) (λ _. cond_both (eqb b 60) _ _ (IsAlone b) (λ e. ap (λ c. c ∷ []) (eqb-true b 60 e)) (λ _. cond_both (eqb b 61) _ _ (IsAlone b) (λ e. ap (λ c. c ∷ []) (eqb-true b 61 e)) (λ _. cond_both (eqb b 62) _ _ (IsAlone b) (λ e. ap (λ c. c ∷ []) (eqb-true b 62 e)) (λ _. tt))))))))))))

pub symbol_of_two-text : (b c : ℕ) → IsTwo b c (symbol_of_two b c)
symbol_of_two-text b c =
    cond_both (eqb b 60 && eqb c 61) _ _ (IsTwo b c) (λ e. pair b c 60 61 e) (λ _. cond_both (eqb b 60 && eqb c 62) _ _ (IsTwo b c) (λ e. pair b c 60 62 e) (λ _. cond_both (eqb b 62 && eqb c 61) _ _ (IsTwo b c) (λ e. pair b c 62 61 e) (λ _. cond_both (eqb b 124 && eqb c 124) _ _ (IsTwo b c) (λ e. pair b c 124 124 e) (λ _. tt))))

-- a symbol that stands in front is read, alone or as one of two bytes
data Stands (s : Symbol) (b : ℕ) (bs : Bytes) : Type 0 where
  alone : symbol_alone b ≡ Some s → length (symbol_text s) ≡ 1 → Stands s b bs
  of_two : (c : ℕ) (cs : Bytes) → bs ≡ c ∷ cs → symbol_of_two b c ≡ Some s → Stands s b bs

first_is : (b x : ℕ) (bs rest : Bytes) → ◌≡◌ {A = Bytes} (b ∷ bs) (x ∷ rest) → b ≡ x
first_is b x bs rest e = cc

rest_is : (b x : ℕ) (bs rest : Bytes) → ◌≡◌ {A = Bytes} (b ∷ bs) (x ∷ rest) → bs ≡ rest
rest_is b x bs rest e = cc

stands : (s : Symbol) (b : ℕ) (bs more : Bytes) → b ∷ bs ≡ symbol_text s ++ more → Stands s b bs
stands symbol.LeftParenthesis b bs more e = alone (ap symbol_alone (first_is b 40 bs more e)) refl
stands symbol.RightParenthesis b bs more e = alone (ap symbol_alone (first_is b 41 bs more e)) refl
stands symbol.Asterisk b bs more e = alone (ap symbol_alone (first_is b 42 bs more e)) refl
stands symbol.Plus b bs more e = alone (ap symbol_alone (first_is b 43 bs more e)) refl
stands symbol.Comma b bs more e = alone (ap symbol_alone (first_is b 44 bs more e)) refl
stands symbol.Minus b bs more e = alone (ap symbol_alone (first_is b 45 bs more e)) refl
stands symbol.Period b bs more e = alone (ap symbol_alone (first_is b 46 bs more e)) refl
stands symbol.Solidus b bs more e = alone (ap symbol_alone (first_is b 47 bs more e)) refl
stands symbol.Semicolon b bs more e = alone (ap symbol_alone (first_is b 59 bs more e)) refl
stands symbol.Less b bs more e = alone (ap symbol_alone (first_is b 60 bs more e)) refl
stands symbol.Equal b bs more e = alone (ap symbol_alone (first_is b 61 bs more e)) refl
stands symbol.Greater b bs more e = alone (ap symbol_alone (first_is b 62 bs more e)) refl
stands symbol.LessOrEqual b bs more e = of_two 61 more (rest_is b 60 bs (61 ∷ more) e) (ap (λ c. symbol_of_two c 61) (first_is b 60 bs (61 ∷ more) e))
stands symbol.NotEqual b bs more e = of_two 62 more (rest_is b 60 bs (62 ∷ more) e) (ap (λ c. symbol_of_two c 62) (first_is b 60 bs (62 ∷ more) e))
stands symbol.GreaterOrEqual b bs more e = of_two 61 more (rest_is b 62 bs (61 ∷ more) e) (ap (λ c. symbol_of_two c 61) (first_is b 62 bs (61 ∷ more) e))
stands symbol.Concatenation b bs more e = of_two 124 more (rest_is b 124 bs (124 ∷ more) e) (ap (λ c. symbol_of_two c 124) (first_is b 124 bs (124 ∷ more) e))

at_most_two : (s : Symbol) → length (symbol_text s) ≤ 2
at_most_two symbol.LeftParenthesis = omega arith
at_most_two symbol.RightParenthesis = omega arith
at_most_two symbol.Asterisk = omega arith
at_most_two symbol.Plus = omega arith
at_most_two symbol.Comma = omega arith
at_most_two symbol.Minus = omega arith
at_most_two symbol.Period = omega arith
at_most_two symbol.Solidus = omega arith
at_most_two symbol.Semicolon = omega arith
at_most_two symbol.Less = omega arith
at_most_two symbol.Equal = omega arith
at_most_two symbol.Greater = omega arith
at_most_two symbol.LessOrEqual = omega arith
at_most_two symbol.NotEqual = omega arith
at_most_two symbol.GreaterOrEqual = omega arith
at_most_two symbol.Concatenation = omega arith

pub longest_of_two : (b c : ℕ) (s : Symbol) (rest : Bytes) → b ∷ c ∷ [] ≡ symbol_text s → IsLongest s rest
longest_of_two b c s rest own longer more h = let two : 2 ≡ length (symbol_text s) = ap length own in omega (arith, at_most_two longer)

pub longest_alone : (b : ℕ) (s : Symbol) (rest : Bytes) → b ∷ [] ≡ symbol_text s → ((c : ℕ) (cs : Bytes) → rest ≡ c ∷ cs → symbol_of_two b c ≡ None) → IsLongest s rest
longest_alone b s rest own none longer more h =
    let there : b ∷ rest ≡ symbol_text longer ++ more = ap (λ front. front ++ rest) own ∙ h in
    let size : 1 ≡ length (symbol_text s) = ap length own in
    elim (stands longer b rest more there) [
      | alone e one ↦ omega arith
      | of_two c cs r e ↦ let no : symbol_of_two b c ≡ None = none c cs r in cc
    ]

nothing_stands : (b : ℕ) (bs : Bytes) → symbol_alone b ≡ None → ((c : ℕ) (cs : Bytes) → bs ≡ c ∷ cs → symbol_of_two b c ≡ None)
    → (s : Symbol) (more : Bytes) → b ∷ bs ≢ symbol_text s ++ more
nothing_stands b bs no_alone none s more h = elim (stands s b bs more h) [
  | alone e one ↦ cc
  | of_two c cs r e ↦ let no : symbol_of_two b c ≡ None = none c cs r in cc
]

alone_sound : (b : ℕ) (bs : Bytes) → is_known b ≡ false → ((c : ℕ) (cs : Bytes) → bs ≡ c ∷ cs → symbol_of_two b c ≡ None)
    → IsStep (b ∷ bs) (symbol_or_fault (symbol_alone b) bs)
alone_sound b bs unknown none = elim (symbol_alone b) as (λ o. symbol_alone b ≡ o → IsStep (b ∷ bs) (symbol_or_fault o bs)) [
  | Some s ↦ λ e.
      let own : b ∷ [] ≡ symbol_text s = subst (IsAlone b) e (symbol_alone-text b) in
      record { spelling = symbol_text s; text = ap (λ front. front ++ bs) own; spells = refl; ends = longest_alone b s bs own none }
  | None ↦ λ e. wrong_byte b bs refl unknown (nothing_stands b bs e none) refl
] refl

pub symbol_sound : (b : ℕ) (bs : Bytes) → is_known b ≡ false → IsStep (b ∷ bs) (symbol_step b bs)
symbol_sound b [] unknown = alone_sound b [] unknown (λ c cs e. cc)
symbol_sound b (c ∷ bs) unknown = elim (symbol_of_two b c) as (λ o. symbol_of_two b c ≡ o → IsStep (b ∷ c ∷ bs) (symbol_in_front o b c bs)) [
  | Some s ↦ λ e.
      let own : b ∷ c ∷ [] ≡ symbol_text s = subst (IsTwo b c) e (symbol_of_two-text b c) in
      record { spelling = symbol_text s; text = ap (λ front. front ++ bs) own; spells = refl; ends = longest_of_two b c s bs own }
  | None ↦ λ e. alone_sound b (c ∷ bs) unknown (λ d ds r. let same : c ≡ d = cc in subst (λ x. symbol_of_two b x ≡ None) same e)
] refl
