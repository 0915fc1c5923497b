-- From each place of a text that tokens lead to, more tokens lead on to its end or to a fault.
use Rattle.std.proofs.Common.{◌≡◌, ℕ, zero, suc, ◌+◌, ◌-◌, ◌<◌, ◌≤◌, List, [], ◌∷◌, ◌++◌, length, take, drop, refl, arith}
use Rattle.std.specs.Prelude.{slice_range}
use Rattle.std.proofs.lemmas.List.{length-take}
use Rattle.lexer.specs.declared.kinds.Token.{Token}
use Rattle.lexer.specs.Token.{Bytes}
use Rattle.lexer.specs.Tokens.{IsToken, AreTokensBetween}
use Rattle.lexer.specs.Reading.{Step, Stop, Reads, Fails, next, gap}
use Rattle.lexer.proofs.Whole.{no_token, a_token, a_fault, one_more}
use Rattle.lexer.proofs.Again.{taking}
use Rattle.syntax_laws.specs.Outcome.{HasOne, has_tokens, has_fault}

-- a token ends behind the place where it begins
token_long : (text : Bytes) (from : ℕ) (token : Token) → IsToken text from token → from < token.end
token_long text from token is =
    let some = (taking token.kind (slice_range text token.start token.end) is.spelling).some in
    let size = length-take (token.end - token.start) (drop token.start text) in
    omega (arith, some, size, is.after)

-- what is read next, and how it goes on behind a token
stepped : (text here : Bytes) (done : List Token) (from : ℕ) (step : Step) → from ≤ length text → AreTokensBetween text 0 done from
    → here ≡ gap (take (length text - from) (drop from text)) → next here ≡ step
    → ((more : List Token) (to : ℕ) → from < to → to ≤ length text → AreTokensBetween text 0 more to → HasOne text) → HasOne text
stepped text here done from Stop within before there is on = has_tokens done (no_token text here done from within there before is)
stepped text here done from (Fails fault) within before there is on = has_fault fault (a_fault text here done from within there fault before is)
stepped text here done from (Reads kind rest) within before there is on =
    let token = a_token text here done from within there rest kind is in
    on (done ++ record { kind = kind; start = length text - length here; end = length text - length rest } ∷ []) (length text - length rest)
    (token_long text from (record { kind = kind; start = length text - length here; end = length text - length rest }) token)
    token.within
    (one_more text done (record { kind = kind; start = length text - length here; end = length text - length rest }) 0 from before token)

-- with so many bytes left at most
reached : (n : ℕ) (text : Bytes) (done : List Token) (from : ℕ) → from ≤ length text → length text < from + n → AreTokensBetween text 0 done from → HasOne text
reached zero text done from within left before = absurd (omega (arith, within, left))
reached (suc n) text done from within left before =
    stepped text (gap (take (length text - from) (drop from text))) done from (next (gap (take (length text - from) (drop from text)))) within before refl refl
    (λ more to longer inside then_before. reached n text more to inside (omega (arith, longer, left)) then_before)

pub text_has_one : (text : Bytes) → HasOne text
text_has_one text = reached (suc (length text)) text [] 0 (omega arith) (omega arith) refl
