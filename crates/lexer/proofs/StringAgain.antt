-- A string and the faults of a string are read as such.
use Rattle.std.proofs.Common.{◌≡◌, ℕ, ◌+◌, ◌≤◌, true, false, ◌&&◌, [], ◌∷◌, ◌++◌, length, eqb, leb, refl, sym, ap, ◌∙◌, subst, append_assoc, append-nil, length-append, inl, inr, arith}
use Rattle.std.specs.List.{list_all}
use Rattle.std.proofs.lemmas.Bool.{cases_Bool, and_parts, eqb-true, leb-true, le-leb, lt-leb}
use Rattle.std.proofs.lemmas.List.Folds.{list_all-append}
use Rattle.items.specs.Text.{is_character, is_text}
use Rattle.lexer.specs.declared.kinds.Kind.TheVariants as kind
use Rattle.refusals.specs.declared.refusal.Refusal.TheVariants.{Invalid, Exceeded}
use Rattle.refusals.specs.declared.reason.Reason.TheVariants as reason
use Rattle.refusals.specs.declared.limit.Limit.TheVariants as limit
use Rattle.lexer.specs.Token.{Bytes, begins_with, quoted, quoted_character}
use Rattle.lexer.specs.Reading.{Reads, Fails, next, string_from}

-- the first of more characters is one, and there is room for it
room : (done : Bytes) (c : ℕ) (more : Bytes) → is_text (done ++ c ∷ more) ≡ true → (is_character c ≡ true) × (leb 1000 (length done) ≡ false)
room done c more t =
    let parts = and_parts (leb (length (done ++ c ∷ more)) 1000) (list_all is_character (done ++ c ∷ more)) t in
    let all : (list_all is_character done && list_all is_character (c ∷ more)) ≡ true = sym (list_all-append is_character done (c ∷ more)) ∙ parts.1 in
    let own = and_parts (list_all is_character done) (list_all is_character (c ∷ more)) all in
    let short : length (done ++ c ∷ more) ≤ 1000 = leb-true (length (done ++ c ∷ more)) 1000 parts.0 in
    let size : length (done ++ c ∷ more) ≡ length done + length (c ∷ more) = length-append done (c ∷ more) in
    ((and_parts (is_character c) (list_all is_character more) own.1).0, lt-leb 1000 (length done) (omega arith))

-- one character more is read
one_more : (done : Bytes) (c : ℕ) (rest : Bytes) → is_character c ≡ true → leb 1000 (length done) ≡ false
    → string_from false done (quoted_character c ++ rest) ≡ string_from false (done ++ c ∷ []) rest
one_more done c rest k short = elim (cases_Bool (eqb c 39)) [
  | inl q ↦
      let quote : c ≡ 39 = eqb-true c 39 q in
      subst (λ d. string_from false done (quoted_character d ++ rest) ≡ string_from false (done ++ d ∷ []) rest) (sym quote) (rw short refl)
  | inr n ↦
      let plain : quoted_character c ≡ c ∷ [] = rw n refl in
      ap (λ front. string_from false done (front ++ rest)) plain ∙ rw (n, k, short) refl
]

read_over : (characters done rest : Bytes) → is_text (done ++ characters) ≡ true → string_from false done (quoted characters ++ rest) ≡ string_from false (done ++ characters) rest
read_over [] done rest t = ap (λ text. string_from false text rest) (sym (append-nil done))
read_over (c ∷ characters) done rest t =
    let fits = room done c characters t in
    let joined : (done ++ c ∷ []) ++ characters ≡ done ++ c ∷ characters = append_assoc done (c ∷ []) characters in
    ap (string_from false done) (append_assoc (quoted_character c) (quoted characters) rest)
    ∙ one_more done c (quoted characters ++ rest) fits.0 fits.1
    ∙ read_over characters (done ++ c ∷ []) rest (ap is_text joined ∙ t)
    ∙ ap (λ text. string_from false text rest) joined

pub next_string : (characters rest : Bytes) → is_text characters ≡ true → begins_with (λ b. eqb b 39) rest ≡ false
    → next ((39 ∷ quoted characters ++ 39 ∷ []) ++ rest) ≡ Reads (kind.Text characters) rest
next_string characters [] t n =
    ap (string_from false []) (append_assoc (quoted characters) (39 ∷ []) []) ∙ read_over characters [] (39 ∷ []) t ∙ rw t refl
next_string characters (b ∷ bs) t n =
    ap (string_from false []) (append_assoc (quoted characters) (39 ∷ []) (b ∷ bs)) ∙ read_over characters [] (39 ∷ b ∷ bs) t ∙ rw (n, t) refl

pub next_open_string : (characters : Bytes) → is_text characters ≡ true → next (39 ∷ quoted characters) ≡ Fails (Invalid reason.Text)
next_open_string characters t = ap (string_from false []) (sym (append-nil (quoted characters))) ∙ read_over characters [] [] t

pub next_long_string : (characters : Bytes) (c : ℕ) (rest : Bytes) → is_text characters ≡ true → length characters ≡ 1000 → is_character c ≡ true
    → next (39 ∷ quoted characters ++ (quoted_character c ++ rest)) ≡ Fails (Exceeded limit.Text)
next_long_string characters c rest t size k =
    let full : leb 1000 (length characters) ≡ true = le-leb 1000 (length characters) (omega arith) in
    read_over characters [] (quoted_character c ++ rest) t ∙ elim (cases_Bool (eqb c 39)) [
      | inl q ↦
          let quote : c ≡ 39 = eqb-true c 39 q in
          subst (λ d. string_from false characters (quoted_character d ++ rest) ≡ Fails (Exceeded limit.Text)) (sym quote) (rw full refl)
      | inr n ↦
          let plain : quoted_character c ≡ c ∷ [] = rw n refl in
          ap (λ front. string_from false characters (front ++ rest)) plain ∙ rw (n, k, full) refl
    ]

pub next_wrong_in_string : (characters : Bytes) (b : ℕ) (rest : Bytes) → is_text characters ≡ true → is_character b ≡ false
    → next (39 ∷ quoted characters ++ (b ∷ rest)) ≡ Fails (Invalid reason.Character)
next_wrong_in_string characters b rest t w =
    let no_quote : eqb b 39 ≡ false = elim (cases_Bool (eqb b 39)) [
      | inl q ↦ let quote : is_character 39 ≡ false = subst (λ c. is_character c ≡ false) (eqb-true b 39 q) w in cc
      | inr n ↦ n
    ] in
    read_over characters [] (b ∷ rest) t ∙ rw (no_quote, w) refl
