-- Steps of the loop over a text.
use Rattle.std.proofs.Common.{◌≡◌, ℕ, ◌+◌, ◌-◌, ◌≤◌, List, [], ◌∷◌, ◌++◌, length, take, drop, refl, sym, ap, ◌∙◌, subst, arith, length-drop, length-append, append-nil}
use Rattle.std.proofs.lemmas.List.{take_at, take_rest, drop_at, drop-drop}
use Rattle.std.specs.Prelude.{slice_range}
use Rattle.lexer.specs.declared.kinds.Kind.{Kind}
use Rattle.lexer.specs.declared.kinds.Token.{Token}
use Rattle.refusals.specs.declared.refusal.Refusal.{Refusal}
use Rattle.lexer.specs.Token.{Bytes, IsGap, IsFault}
use Rattle.lexer.specs.Tokens.{IsToken, AreTokensBetween, AreTokens, IsFirstFault}
use Rattle.lexer.specs.Reading.{Stop, Reads, Fails, next, gap}
use Rattle.lexer.proofs.Skipping.{Skips, gap_sound}
use Rattle.lexer.proofs.Steps.{Begins, IsStep}
use Rattle.lexer.proofs.Sound.{next_sound}

-- what stands between two places, and what stands from the second on
pub record IsCut (text : Bytes) (from to : ℕ) (front back : Bytes) : Type 0 where
  pub between : slice_range text from to ≡ front
  pub left : drop to text ≡ back
  pub order : from ≤ to
  pub within : to ≤ length text

pub cut : (text front back : Bytes) (from : ℕ) → from ≤ length text → drop from text ≡ front ++ back → IsCut text from (length text - length back) front back
cut text front back from within e =
    let lengths : length text - from ≡ length front + length back = sym (length-drop from text) ∙ ap length e ∙ length-append front back in
    let place : length text - length back ≡ from + length front = omega arith in
    let size : length text - length back - from ≡ length front = omega arith in
    record {
      between = rw (size, e) (take_at front back (length front) refl);
      left = rw place (sym (drop-drop (length front) from text) ∙ ap (drop (length front)) e ∙ drop_at front back (length front) refl);
      order = omega arith;
      within = omega arith;
    }

-- what `skip_gap` gives is the place of the next token
at_here : (text here : Bytes) (from : ℕ) → here ≡ gap (take (length text - from) (drop from text)) → Skips (drop from text) here
at_here text here from e =
    let all : here ≡ gap (drop from text) = e ∙ ap gap (take_rest text from) in
    subst (λ bytes. Skips (drop from text) bytes) (sym all) (gap_sound (drop from text))

module _ (text here : Bytes) (tokens : List Token) (from : ℕ) (within : from ≤ length text)
    (there : here ≡ gap (take (length text - from) (drop from text))) where
  pub no_token : AreTokensBetween text 0 tokens from → next here ≡ Stop → AreTokens text tokens
  no_token before e =
      let skips : Skips (drop from text) here = at_here text here from there in
      let empty : here ≡ [] = subst (IsStep here) e (next_sound here skips.at_token) in
      let all : drop from text ≡ skips.front = skips.text ∙ ap (λ bytes. skips.front ++ bytes) empty ∙ append-nil skips.front in
      record { last = from; before = before; gap = rw all (subst (λ bytes. IsGap skips.front bytes) empty skips.gap) }

  pub a_token : (rest : Bytes) (kind : Kind) → next here ≡ Reads kind rest
      → IsToken text from (record { kind = kind; start = length text - length here; end = length text - length rest })
  a_token rest kind e =
      let skips : Skips (drop from text) here = at_here text here from there in
      let begins : Begins here kind rest = subst (IsStep here) e (next_sound here skips.at_token) in
      let before : IsCut text from (length text - length here) skips.front here = cut text skips.front here from within skips.text in
      let own : IsCut text (length text - length here) (length text - length rest) begins.spelling rest =
      cut text begins.spelling rest (length text - length here) before.within (before.left ∙ begins.text) in
      record {
        after = before.order;
        within = own.within;
        gap = rw (before.between, before.left) skips.gap;
        no_comment = rw before.left skips.at_token.no_comment;
        spelling = rw own.between begins.spells;
        ends = rw own.left begins.ends;
      }

  -- what follows it
  pub what_is_left : (rest : Bytes) (kind : Kind) → next here ≡ Reads kind rest → drop (length text - length rest) text ≡ rest
  what_is_left rest kind e =
      let skips : Skips (drop from text) here = at_here text here from there in
      let begins : Begins here kind rest = subst (IsStep here) e (next_sound here skips.at_token) in
      let before : IsCut text from (length text - length here) skips.front here = cut text skips.front here from within skips.text in
      (cut text begins.spelling rest (length text - length here) before.within (before.left ∙ begins.text)).left

  pub a_fault : (refusal : Refusal) → AreTokensBetween text 0 tokens from → next here ≡ Fails refusal → IsFirstFault text refusal
  a_fault refusal before e =
      let skips : Skips (drop from text) here = at_here text here from there in
      let fault : IsFault here refusal = subst (IsStep here) e (next_sound here skips.at_token) in
      let cut_there : IsCut text from (length text - length here) skips.front here = cut text skips.front here from within skips.text in
      record {
        tokens = tokens;
        last = from;
        at = length text - length here;
        before = before;
        after = cut_there.order;
        gap = rw (cut_there.between, cut_there.left) skips.gap;
        fault = rw cut_there.left fault;
      }

pub one_more : (text : Bytes) (tokens : List Token) (token : Token) (from middle : ℕ) → AreTokensBetween text from tokens middle → IsToken text middle token
    → AreTokensBetween text from (tokens ++ token ∷ []) token.end
one_more text [] token from middle before h = (rw before h, refl)
one_more text (t ∷ ts) token from middle before h = (before.0, one_more text ts token t.end middle before.1 h)
