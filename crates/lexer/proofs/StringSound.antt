-- What is read after a quote is a string, or a fault of a string.
use Rattle.std.proofs.Common.{◌≡◌, ℕ, ◌≤◌, ◌<◌, Bool, true, false, [], ◌∷◌, ◌++◌, length, eqb, leb, refl, sym, ap, ◌∙◌, append_assoc, append-nil, length-append, inl, inr, arith}
use Rattle.std.specs.List.{list_all}
use Rattle.std.proofs.lemmas.Bool.{cases_Bool, and_parts, and_from, eqb-true, leb-true, leb-false, le-leb}
use Rattle.std.proofs.lemmas.List.Folds.{list_all-append}
use Rattle.items.specs.Text.{is_character, is_text}
use Rattle.lexer.specs.Token.{Bytes, open_string, long_string, wrong_in_string, quoted, quoted_character}
use Rattle.lexer.specs.Reading.{string_from}
use Rattle.lexer.proofs.Steps.{IsStep}

-- one more character in front of the closing quote
pub quoted-append : (done : Bytes) (c : ℕ) (rest : Bytes) → quoted (done ++ c ∷ []) ++ rest ≡ quoted done ++ (quoted_character c ++ rest)
quoted-append [] c rest = ap (λ more. more ++ rest) (append-nil (quoted_character c))
quoted-append (d ∷ done) c rest =
    append_assoc (quoted_character d) (quoted (done ++ c ∷ [])) rest ∙ ap (λ more. quoted_character d ++ more) (quoted-append done c rest)
    ∙ sym (append_assoc (quoted_character d) (quoted done) (quoted_character c ++ rest))

pub is_text-append : (done : Bytes) (c : ℕ) → is_text done ≡ true → is_character c ≡ true → leb 1000 (length done) ≡ false → is_text (done ++ c ∷ []) ≡ true
is_text-append done c t k short =
    let parts = and_parts (leb (length done) 1000) (list_all is_character done) t in
    let below : length done < 1000 = leb-false 1000 (length done) short in
    let size : length (done ++ c ∷ []) ≤ 1000 = omega (arith, length-append done (c ∷ [])) in
    and_from (leb (length (done ++ c ∷ [])) 1000) (list_all is_character (done ++ c ∷ [])) (le-leb (length (done ++ c ∷ [])) 1000 size)
    (list_all-append is_character done (c ∷ []) ∙ rw (parts.1, k) refl)

full : (done : Bytes) → is_text done ≡ true → leb 1000 (length done) ≡ true → length done ≡ 1000
full done t h =
    let parts = and_parts (leb (length done) 1000) (list_all is_character done) t in
    let above : 1000 ≤ length done = leb-true 1000 (length done) h in
    let below : length done ≤ 1000 = leb-true (length done) 1000 parts.0 in
    omega arith

-- a quote of which the second one may still come
abbrev pending_quote : Bool → Bytes → Bytes
pending_quote true bs = 39 ∷ bs
pending_quote false bs = bs

string_from_sound : (bs done : Bytes) (pending : Bool) (whole : Bytes) → is_text done ≡ true → whole ≡ 39 ∷ quoted done ++ pending_quote pending bs
    → IsStep whole (string_from pending done bs)
string_from_sound [] done true whole t e = rw t (record {
  spelling = 39 ∷ quoted done ++ 39 ∷ [];
  text = e ∙ sym (append-nil (39 ∷ quoted done ++ 39 ∷ []));
  spells = (refl, t);
  ends = refl;
})
string_from_sound [] done false whole t e = open_string done (e ∙ ap (λ more. 39 ∷ more) (append-nil (quoted done))) t refl
string_from_sound (b ∷ bs) done true whole t e = elim (cases_Bool (eqb b 39)) [
  | inl q ↦
      let is_quote : b ≡ 39 = eqb-true b 39 q in
      let again : whole ≡ 39 ∷ quoted done ++ (quoted_character 39 ++ bs) = e ∙ ap (λ c. 39 ∷ quoted done ++ 39 ∷ c ∷ bs) is_quote in
      rw is_quote (elim (cases_Bool (leb 1000 (length done))) [
        | inl l ↦ rw l (long_string done 39 bs again t (full done t l) refl refl)
        | inr s ↦ rw s (string_from_sound bs (done ++ 39 ∷ []) false whole (is_text-append done 39 t refl s) (again ∙ ap (λ more. 39 ∷ more) (sym (quoted-append done 39 bs))))
      ])
  | inr n ↦ rw (n, t) (record {
    spelling = 39 ∷ quoted done ++ 39 ∷ [];
    text = e ∙ sym (append_assoc (39 ∷ quoted done) (39 ∷ []) (b ∷ bs));
    spells = (refl, t);
    ends = n;
  })
]
string_from_sound (b ∷ bs) done false whole t e = elim (cases_Bool (eqb b 39)) [
  | inl q ↦
      let is_quote : b ≡ 39 = eqb-true b 39 q in
      rw q (string_from_sound bs done true whole t (e ∙ ap (λ c. 39 ∷ quoted done ++ c ∷ bs) is_quote))
  | inr n ↦
      let plain : quoted_character b ≡ b ∷ [] = rw n refl in
      let again : whole ≡ 39 ∷ quoted done ++ (quoted_character b ++ bs) = rw plain e in
      elim (cases_Bool (is_character b)) [
        | inl k ↦ elim (cases_Bool (leb 1000 (length done))) [
          | inl l ↦ rw (n, k, l) (long_string done b bs again t (full done t l) k refl)
          | inr s ↦ rw (n, k, s) (string_from_sound bs (done ++ b ∷ []) false whole (is_text-append done b t k s) (again ∙ ap (λ more. 39 ∷ more) (sym (quoted-append done b bs))))
        ]
        | inr w ↦ rw (n, w) (wrong_in_string done b bs e t w refl)
      ]
]

pub string_sound : (bs : Bytes) → IsStep (39 ∷ bs) (string_from false [] bs)
string_sound bs = string_from_sound bs [] false (39 ∷ bs) refl refl
