-- What is skipped before a token is white space and comments.
use Rattle.std.proofs.Common.{◌≡◌, ℕ, true, false, ◌&&◌, [], ◌∷◌, ◌++◌, refl, sym, ap, ◌∙◌, subst, append_assoc, append-nil, eqb, inl, inr}
use Rattle.std.proofs.lemmas.Bool.{cases_Bool, eqb-true, and_parts, false_from_ne_true}
use Rattle.lexer.specs.Token.{Bytes, is_space, begins_comment, begins_with, is_line, IsGap, nothing, space, comment, last_comment}
use Rattle.lexer.specs.Reading.{gap, gap_from, begins}

-- neither white space nor a comment stands in front
pub record IsAtToken (here : Bytes) : Type 0 where
  pub no_space : begins_with is_space here ≡ false
  pub no_comment : begins_comment here ≡ false

-- the bytes are white space and comments, and then these
pub record Skips (bytes here : Bytes) : Type 0 where
  pub front : Bytes
  pub text : bytes ≡ front ++ here
  pub gap : IsGap front here
  pub at_token : IsAtToken here

-- the bytes are the rest of a comment, and then these
data Runs (bytes here : Bytes) : Type 0 where
  to_line_feed : (line more : Bytes) → bytes ≡ line ++ 10 ∷ more → is_line line ≡ true → Skips more here → Runs bytes here
  to_end : is_line bytes ≡ true → here ≡ [] → Runs bytes here

at_end : Skips [] []
at_end = record { front = []; text = refl; gap = nothing []; at_token = record { no_space = refl; no_comment = refl } }

after_space : (b : ℕ) (bs here : Bytes) → is_space b ≡ true → Skips bs here → Skips (b ∷ bs) here
after_space b bs here s skips = record {
  front = b ∷ skips.front;
  text = ap (λ more. b ∷ more) skips.text;
  gap = space b skips.front here s skips.gap;
  at_token = skips.at_token;
}

after_comment : (bs here : Bytes) → Runs bs here → Skips (45 ∷ 45 ∷ bs) here
after_comment bs here (to_line_feed line more text is_line skips) = record {
  front = 45 ∷ 45 ∷ line ++ 10 ∷ skips.front;
  text = ap (λ rest. 45 ∷ 45 ∷ rest) (text ∙ ap (λ rest. line ++ 10 ∷ rest) skips.text ∙ sym (append_assoc line (10 ∷ skips.front) here));
  gap = comment line skips.front here is_line skips.gap;
  at_token = skips.at_token;
}
after_comment bs here (to_end is_line text) = rw text (record {
  front = 45 ∷ 45 ∷ bs;
  text = ap (λ rest. 45 ∷ 45 ∷ rest) (sym (append-nil bs));
  gap = last_comment bs is_line;
  at_token = record { no_space = refl; no_comment = refl };
})

inside : (b : ℕ) (bs : Bytes) → Skips bs (gap_from false bs) → Runs bs (gap_from true bs) → Runs (b ∷ bs) (gap_from true (b ∷ bs))
inside b bs skips runs = elim (cases_Bool (eqb b 10)) [
  | inl e ↦ rw e (to_line_feed [] bs (ap (λ c. c ∷ bs) (eqb-true b 10 e)) refl skips)
  | inr n ↦ rw n (elim runs [
    | to_line_feed line more text l s ↦ to_line_feed (b ∷ line) more (ap (λ rest. b ∷ rest) text) (rw n l) s
    | to_end l e ↦ to_end (rw n l) e
  ])
]

pub no_minus : (b : ℕ) → is_space b ≡ true → eqb b 45 ≡ false
no_minus b s = false_from_ne_true (eqb b 45) (λ e. let at : is_space 45 ≡ true = subst (λ c. is_space c ≡ true) (eqb-true b 45 e) s in cc)

two_minus : (b : ℕ) (bs : Bytes) → (eqb b 45 && begins 45 bs) ≡ true → (cs : Bytes) × (b ≡ 45) × (bs ≡ 45 ∷ cs)
two_minus b [] m = let parts = and_parts (eqb b 45) false m in cc
two_minus b (c ∷ cs) m =
    let parts = and_parts (eqb b 45) (eqb c 45) m in
    (cs, eqb-true b 45 parts.0, ap (λ d. d ∷ cs) (eqb-true c 45 parts.1))

outside : (b : ℕ) (bs : Bytes) → Skips bs (gap_from false bs) → ((cs : Bytes) → bs ≡ 45 ∷ cs → Runs cs (gap_from true cs))
    → Skips (b ∷ bs) (gap_from false (b ∷ bs))
outside b bs skips runs = elim (cases_Bool (is_space b)) [
  | inl s ↦ rw (s, no_minus b s) (after_space b bs (gap_from false bs) s skips)
  | inr n ↦ elim (cases_Bool (eqb b 45 && begins 45 bs)) [
    | inl m ↦ let two = two_minus b bs m in rw (two.1, two.2) (after_comment two.0 (gap_from true two.0) (runs two.0 two.2))
    | inr m ↦ rw (n, m) (record { front = []; text = refl; gap = nothing (b ∷ bs); at_token = record { no_space = n; no_comment = m } })
  ]
]

both : (bytes : Bytes) → Skips bytes (gap_from false bytes) × Runs bytes (gap_from true bytes)
both [] = (at_end, to_end refl refl)
both (b ∷ []) = (outside b [] at_end (λ cs e. cc), inside b [] at_end (to_end refl refl))
both (b ∷ c ∷ cs) =
    let after = both (c ∷ cs) in
    (outside b (c ∷ cs) after.0 (λ ds e. let same : cs ≡ ds = cc in subst (λ bytes. Runs bytes (gap_from true bytes)) same (both cs).1), inside b (c ∷ cs) after.0 after.1)

pub gap_sound : (bytes : Bytes) → Skips bytes (gap bytes)
unfolding gap
gap_sound bytes = (both bytes).0
