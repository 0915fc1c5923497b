-- What a piece asks for, byte by byte.
use Rattle.std.proofs.Common.{◌≡◌, ◌≢◌, ◌≤◌, ◌+◌, ◌*◌, ◌-◌, ℕ, suc, zero, min, Bool, true, false, ◌==◌, Option, None, Some, List, [], ◌∷◌, ◌++◌, take, sym, ap, ◌∙◌, subst, refl, append_assoc, append-nil, slice_index, inl, inr, arith, codes, All, slice_index_or}
use Rattle.std.proofs.lemmas.Bool.{eqb-true}
use Rattle.std.proofs.lemmas.List.Elements.{All-head, All-tail, All-append}
use Rattle.std.proofs.lemmas.Int.Digits.{digits_value_push}
use Rattle.std.specs.Str.Parse.{digits_value}
use Rattle.std.specs.Char.{digit_value, IsAsciiDigit, IsNotAsciiDigit, IsAsciiAlphabetic, IsNotAsciiAlphabetic}
use Rattle.std.specs.Int.{IsOutOfRange}
use Rattle.std.specs.Bool.{MatchBool}
use Rattle.script_pieces.specs.declared.place.Place.{Place}
use Rattle.script_pieces.specs.declared.place.Place.TheVariants.{Outside, AfterMinus, InString, InComment}
use Rattle.script_pieces.specs.declared.stage.Stage.{Stage}
use Rattle.script_pieces.specs.declared.stage.Stage.TheVariants.{Blank, At, Digits, Flush, AfterFlush, BlankText, Text, Wrong}
use Rattle.script_pieces.specs.declared.request.Request.TheVariants as found
use Rattle.script_pieces.specs.Pieces.{semicolon, quote, minus, at_sign}
use Rattle.script_pieces.specs.PieceMeaning as meaning
use Rattle.script_pieces.specs.PieceMeaning.{IsDigit, IsLetter, underscore, IsSpace, IsBlank, IsOpenComment, IsChoice, IsFlush, IsWrong, EndsNumber, Asks, BodyAsks, text_of_call, here, space, comment}
use Rattle.script_pieces.specs.Place.{place_after, goes_on_blank}
use Rattle.script_pieces.specs.Cutter.{IsPending, MayGoOn, IsEnd, Steps, WouldAsk, ByBlank, FlushAsks, ChoiceAsks, AreDigits, asked}
use Rattle.script_pieces.proofs.Texts.{pushed}
use Rattle.script_pieces.proofs.Skipping.{IsFirm, IsFirmText, MaySkip, firm_begins, not_blank, firm_on, skip_on, lone_minus_text, blank_space, blank_comment, unblank_space, unblank_comment, first_is, no_space, no_open}

-- ---- a body

pub asks_body : (body : List ℕ) (request : meaning.Request) → IsFirm body → BodyAsks body request → Asks body request
asks_body body request firm asks = record { body = body; begins = record { skipped = here body; firm = firm_begins body firm }; asks = asks }

-- a firm text without `@` is the text of a call
pub text_asks : (body : List ℕ) → IsFirmText body → slice_index body 0 ≢ at_sign → Asks body (meaning.Calls (text_of_call body))
text_asks body text no_at =
    asks_body body (meaning.Calls (text_of_call body)) text.firm (not_blank body text, λ following e. no_at (first_is _ _ e), refl)

at_is_firm : (rest : List ℕ) → IsFirm (at_sign ∷ rest)
at_is_firm rest = record { no_space_first = no_space at_sign refl; no_comment_first = λ begins. cc (first_is _ _ begins.1) }

pub at_asks : (rest : List ℕ) (request : meaning.Request) → BodyAsks (at_sign ∷ rest) request → Asks (at_sign ∷ rest) request
at_asks rest request asks = asks_body (at_sign ∷ rest) request (at_is_firm rest) asks

-- ---- what may skip blanks

pub asks_skip : (request : meaning.Request) → MaySkip (λ rest. Asks rest request)
asks_skip request = record {
  over_space = λ b rest is asks. record {
    body = asks.body;
    begins = record { skipped = space b rest asks.body is asks.begins.skipped; firm = asks.begins.firm };
    asks = asks.asks;
  };
  over_comment = λ bytes rest is asks. record {
    body = asks.body;
    begins = record { skipped = comment bytes rest asks.body is asks.begins.skipped; firm = asks.begins.firm };
    asks = asks.asks;
  };
}

pub by_blank_skip : (P Q : Type 0) → MaySkip (λ rest. ByBlank rest P Q)
by_blank_skip P Q = record {
  over_space = λ b rest is by. elim by
      [ inl p ↦ inl (blank_space b rest is p.0, p.1) | inr q ↦ inr (λ blank. q.0 (unblank_space b rest is blank), q.1) ];
  over_comment = λ bytes rest is by. elim by
      [ inl p ↦ inl (blank_comment bytes rest is p.0, p.1) | inr q ↦ inr (λ blank. q.0 (unblank_comment bytes rest is blank), q.1) ];
}

-- ---- stages of blanks

pub blank_goes_on : (place : Place) (text : List ℕ) (b : ℕ) → goes_on_blank place b ≡ true → Steps place Blank text b Blank text
blank_goes_on place text b blank rest request next empty pending is =
    skip_on (λ l. Asks l request) (asks_skip request) place b rest blank (next empty) pending is

pub flush_goes_on : (place : Place) (text : List ℕ) (b : ℕ) → goes_on_blank place b ≡ true → Steps place AfterFlush text b AfterFlush text
flush_goes_on place text b blank rest request next pending is =
    skip_on (λ l. FlushAsks l request) (by_blank_skip _ _) place b rest blank next pending is

pub flush_stops : (place : Place) (text : List ℕ) (b : ℕ) → MayGoOn place b → goes_on_blank place b ≡ false → Steps place AfterFlush text b Wrong text
flush_stops place text b may stops rest request next pending is =
    inr (not_blank (pending ++ b ∷ rest) (firm_on place b rest stops may pending is), next)

pub text_goes_on : (place : Place) (session : ℕ) (text : List ℕ) (b : ℕ) → goes_on_blank place b ≡ true
    → Steps place (BlankText session) text b (BlankText session) (text_of_call (text ++ b ∷ []))
text_goes_on place session text b blank rest request next pending is =
    let same = λ (l : List ℕ) (by : ChoiceAsks session (text_of_call (text ++ b ∷ []) ++ rest) l request).
    let P : List ℕ → Type 0 = λ call. ByBlank l (request ≡ meaning.Chooses session) (request ≡ meaning.ChoosesAndCalls session call) in
    subst P (pushed text rest b) by in
    skip_on (λ l. ChoiceAsks session (text ++ b ∷ rest) l request) (by_blank_skip _ _) place b rest blank
    (λ pending' is'. same (pending' ++ rest) (next pending' is')) pending is

pub text_begins : (place : Place) (session : ℕ) (text : List ℕ) (b : ℕ) → MayGoOn place b → goes_on_blank place b ≡ false
    → Steps place (BlankText session) text b (Text (Some session)) (text_of_call (text ++ b ∷ []))
text_begins place session text b may stops rest request next pending is =
    inr (not_blank (pending ++ b ∷ rest) (firm_on place b rest stops may pending is), next ∙ ap (λ l. meaning.ChoosesAndCalls session l) (pushed text rest b))

pub call_goes_on : (place : Place) (session : Option ℕ) (text : List ℕ) (b : ℕ) → Steps place (Text session) text b (Text session) (text_of_call (text ++ b ∷ []))
call_goes_on place None text b rest request next = next ∙ ap (λ l. meaning.Calls l) (pushed text rest b)
call_goes_on place (Some session) text b rest request next = next ∙ ap (λ l. meaning.ChoosesAndCalls session l) (pushed text rest b)

pub wrong_goes_on : (place : Place) (text : List ℕ) (b : ℕ) → Steps place Wrong text b Wrong text
wrong_goes_on place text b rest request next = next

-- ---- the beginning of a body

-- a text that begins at a place outside strings and comments
pub blank_text : (text : List ℕ) (b : ℕ) → MayGoOn Outside b → goes_on_blank Outside b ≡ false → b ≢ at_sign
    → Steps Outside Blank text b (Text None) (text_of_call (text ++ b ∷ []))
blank_text text b may stops no_at rest request next empty pending is =
    let P : List ℕ → Type 0 = λ l. Asks (l ++ b ∷ rest) request in
    let Q : meaning.Request → Type 0 = λ r. Asks (b ∷ rest) r in
    let whole : request ≡ meaning.Calls (text_of_call (b ∷ rest)) =
    next ∙ ap (λ l. meaning.Calls l) (pushed text rest b) ∙ ap (λ l. meaning.Calls (text_of_call (l ++ b ∷ rest))) empty in
    subst P (sym is) (subst Q (sym whole) (text_asks (b ∷ rest) (firm_on Outside b rest stops may [] refl) no_at))

-- and one that begins with a minus
pub blank_minus : (text : List ℕ) (b : ℕ) → MayGoOn AfterMinus b → goes_on_blank AfterMinus b ≡ false
    → Steps AfterMinus Blank text b (Text None) (text_of_call (text_of_call (text ++ minus ∷ []) ++ b ∷ []))
blank_minus text b may stops rest request next empty pending is =
    let P : List ℕ → Type 0 = λ l. Asks (l ++ b ∷ rest) request in
    let Q : meaning.Request → Type 0 = λ r. Asks (minus ∷ b ∷ rest) r in
    let whole : request ≡ meaning.Calls (text_of_call (minus ∷ b ∷ rest)) =
    next ∙ ap (λ l. meaning.Calls l) (pushed (text_of_call (text ++ minus ∷ [])) rest b ∙ pushed text (b ∷ rest) minus)
    ∙ ap (λ l. meaning.Calls (text_of_call (l ++ minus ∷ b ∷ rest))) empty in
    subst P (sym is) (subst Q (sym whole) (text_asks (minus ∷ b ∷ rest) (firm_on AfterMinus b rest stops may (minus ∷ []) refl) (λ e. cc e)))

pub blank_string : (text : List ℕ) (b : ℕ) (stage : Stage) (next_text : List ℕ) → Steps InString Blank text b stage next_text
blank_string text b stage next_text rest request next empty pending is = absurd is

-- `@` stands first
pub blank_at : (text : List ℕ) → Steps Outside Blank text at_sign At text
blank_at text rest request next empty pending is =
    let P : List ℕ → Type 0 = λ l. Asks (l ++ at_sign ∷ rest) request in
    subst P (sym is) (at_asks rest request (next empty refl))

pub blank_minus_at : (place : Place) (text : List ℕ) (b : ℕ) → place ≡ AfterMinus → MayGoOn place b → goes_on_blank place b ≡ false
    → Steps place Blank text b (Text None) (text_of_call (text_of_call (text ++ minus ∷ []) ++ b ∷ []))
blank_minus_at Outside text b is may stops = cc is
blank_minus_at AfterMinus text b is may stops = blank_minus text b may stops
blank_minus_at InString text b is may stops = cc is
blank_minus_at InComment text b is may stops = cc is

-- the three together: the first byte that is no blank
pub blank_stops : (place : Place) (text : List ℕ) (b : ℕ) → MayGoOn place b → goes_on_blank place b ≡ false → (place ≡ Outside → b ≢ at_sign) → place ≢ AfterMinus
    → Steps place Blank text b (Text None) (text_of_call (text ++ b ∷ []))
blank_stops Outside text b may stops no_at no_minus = blank_text text b may stops (no_at refl)
blank_stops AfterMinus text b may stops no_at no_minus = absurd (no_minus refl)
blank_stops InString text b may stops no_at no_minus = blank_string text b (Text None) (text_of_call (text ++ b ∷ []))
blank_stops InComment text b may stops no_at no_minus = cc stops

pub blank_at_any : (place : Place) (text : List ℕ) (b : ℕ) → goes_on_blank place b ≡ false → b ≡ at_sign → place ≢ AfterMinus
    → Steps place Blank text b At text
blank_at_any Outside text b stops at no_minus = let P : ℕ → Type 0 = λ n. Steps Outside Blank text n At text in subst P (sym at) (blank_at text)
blank_at_any AfterMinus text b stops at no_minus = absurd (no_minus refl)
blank_at_any InString text b stops at no_minus = blank_string text b At text
blank_at_any InComment text b stops at no_minus = cc stops

-- ---- digits

no_digit_zero : IsDigit 0 → ⊥
no_digit_zero d = absurd (omega (arith, d.0))

-- no digit stands first
pub StopsDigits : List ℕ → Type 0
StopsDigits text = IsDigit (slice_index text 0) → ⊥

pub ends_stop : (text : List ℕ) → EndsNumber text → IsDigit (slice_index text 0) → ⊥
ends_stop [] ends d = no_digit_zero d
ends_stop (b ∷ more) ends d = ends.0 d

-- the digits at the beginning are one run
pub one_run : (xs ys front back : List ℕ) → All IsDigit xs → All IsDigit ys → (IsDigit (slice_index front 0) → ⊥) → (IsDigit (slice_index back 0) → ⊥)
    → xs ++ front ≡ ys ++ back → (xs ≡ ys) × (front ≡ back)
one_run [] [] front back all_x all_y no_f no_b e = (refl, e)
one_run [] (y ∷ ys) front back all_x all_y no_f no_b e =
    let P : ℕ → Type 0 = λ n. IsDigit n in
    absurd (no_f (subst P (sym (first_is _ _ e)) (All-head IsDigit y ys all_y)))
one_run (x ∷ xs) [] front back all_x all_y no_f no_b e =
    let P : ℕ → Type 0 = λ n. IsDigit n in
    absurd (no_b (subst P (first_is _ _ e) (All-head IsDigit x xs all_x)))
one_run (x ∷ xs) (y ∷ ys) front back all_x all_y no_f no_b e =
    let tails : xs ++ front ≡ ys ++ back = cc e in
    let heads : x ≡ y = cc e in
    let both = one_run xs ys front back (All-tail IsDigit x xs all_x) (All-tail IsDigit y ys all_y) no_f no_b tails in
    let lists : x ∷ xs ≡ y ∷ ys = cc (heads, both.0) in
    (lists, both.1)

-- after `@` of a choice a digit stands
pub first_digit : (digits text rest : List ℕ) → digits ≢ [] → All IsDigit digits → at_sign ∷ rest ≡ at_sign ∷ (digits ++ text) → IsDigit (slice_index rest 0)
first_digit [] text rest some all e = absurd (some refl)
first_digit (d ∷ ds) text rest some all e =
    let same : rest ≡ d ∷ (ds ++ text) = cc e in
    let P : ℕ → Type 0 = λ n. IsDigit n in
    subst P (sym (first_is _ _ same)) (All-head IsDigit d ds all)

pub no_choice_without : (rest : List ℕ) → (IsDigit (slice_index rest 0) → ⊥) → (session : ℕ) (text : List ℕ) → IsChoice (at_sign ∷ rest) session text → ⊥
no_choice_without rest none session text c = none (first_digit c.digits text rest c.some c.decimal c.whole)

-- after `@` of `@flush` no digit stands
pub no_flush_digit : (rest : List ℕ) → IsDigit (slice_index rest 0) → IsFlush (at_sign ∷ rest) → ⊥
no_flush_digit rest d f =
    let second : slice_index (at_sign ∷ rest) 1 ≡ 102 = ap (λ l. slice_index l 1) f.whole in
    let P : ℕ → Type 0 = λ n. IsDigit n in
    let d' : IsDigit 102 = subst P second d in
    absurd (omega (arith, d'.1))

no_flush_other : (rest : List ℕ) → slice_index rest 0 ≢ 102 → IsFlush (at_sign ∷ rest) → ⊥
no_flush_other rest other f = other (ap (λ l. slice_index l 1) f.whole)

-- `@` and then neither a digit nor an `f` is wrong
pub at_wrong : (rest : List ℕ) → (IsDigit (slice_index rest 0) → ⊥) → slice_index rest 0 ≢ 102 → IsWrong (at_sign ∷ rest)
at_wrong rest no_digit no_letter = record {
  following = rest;
  whole = refl;
  no_choice = no_choice_without rest no_digit;
  no_flush = no_flush_other rest no_letter;
}

run_first : (digits rest : List ℕ) → digits ≢ [] → All IsDigit digits → IsDigit (slice_index (digits ++ rest) 0)
run_first [] rest some all = absurd (some refl)
run_first (d ∷ ds) rest some all = All-head IsDigit d ds all

-- `@`, digits and then no choice is wrong
pub digits_wrong : (digits rest : List ℕ) (value : ℕ) → AreDigits value digits → (IsDigit (slice_index rest 0) → ⊥)
    → (1 ≤ value → value ≤ 64 → EndsNumber rest → ⊥) → IsWrong (at_sign ∷ (digits ++ rest))
digits_wrong digits rest value are stops bad = record {
  following = digits ++ rest;
  whole = refl;
  no_choice = λ session text c.
      let whole : c.digits ++ text ≡ digits ++ rest = cc (c.whole) in
      let both = one_run c.digits digits text rest c.decimal are.decimal (ends_stop text c.ended) stops whole in
      let same : digits_value 10 digits ≡ session = ap (λ l. digits_value 10 l) (sym both.0) ∙ c.value in
      let P : List ℕ → Type 0 = λ l. EndsNumber l in
      bad (omega (arith, same, are.valued, c.least, c.greatest)) (omega (arith, same, are.valued, c.least, c.greatest)) (subst P both.1 c.ended);
  no_flush = no_flush_digit (digits ++ rest) (run_first digits rest are.some are.decimal);
}

-- `@`, digits of the value of a session and then no digit, letter or underscore is a choice
pub digits_choice : (digits rest : List ℕ) (value : ℕ) → AreDigits value digits → 1 ≤ value → value ≤ 64 → EndsNumber rest
    → IsChoice (at_sign ∷ (digits ++ rest)) value rest
digits_choice digits rest value are least greatest ends = record {
  digits = digits;
  some = are.some;
  decimal = are.decimal;
  value = omega (arith, are.valued, least, greatest);
  least = least;
  greatest = greatest;
  ended = ends;
  whole = refl;
}

digit_value_is : (b : ℕ) → IsDigit b → digit_value b ≡ b - 48
digit_value_is b d = grind (arith, d.0, d.1)

nothing_before : (digits : List ℕ) (b : ℕ) → digits ++ b ∷ [] ≢ []
nothing_before [] b e = cc e
nothing_before (d ∷ ds) b e = cc e

one_digit : (b : ℕ) → IsDigit b → All IsDigit (b ∷ [])
one_digit b d k default h = let first : k ≡ 0 = omega (arith, h) in let P : ℕ → Type 0 = λ n. IsDigit (slice_index_or (b ∷ []) n default) in subst P (sym first) d

pub more_digits : (value : ℕ) (digits : List ℕ) (b : ℕ) → AreDigits value digits → IsDigit b → AreDigits (min 65 (value * 10 + (b - 48))) (digits ++ b ∷ [])
more_digits value digits b are d = record {
  some = nothing_before digits b;
  decimal = All-append IsDigit digits (b ∷ []) are.decimal (one_digit b d);
  valued = let pushed_value = digits_value_push 10 digits b in let own = digit_value_is b d in rw (pushed_value, own) (grind (arith, are.valued));
}

pub first_digits : (b : ℕ) → IsDigit b → AreDigits (min 65 (0 * 10 + (b - 48))) (b ∷ [])
first_digits b d = record {
  some = λ e. cc e;
  decimal = one_digit b d;
  valued = let own = digit_value_is b d in rw own (grind arith);
}

not_equal_test : (b c : ℕ) → b ≢ c → (b == c) ≡ false
not_equal_test b c other = unequal (b == c) refl
  where
    unequal : (t : Bool) → (b == c) ≡ t → (b == c) ≡ false
    unequal true e = absurd (other (eqb-true b c e))
    unequal false e = e

-- a byte that is neither a minus nor a quote leads outside
pub stays_outside : (b : ℕ) → b ≢ minus → b ≢ quote → place_after Outside b ≡ Outside
stays_outside b no_minus no_quote = rw (not_equal_test b minus no_minus, not_equal_test b quote no_quote) refl

digit_outside : (b : ℕ) → IsDigit b → place_after Outside b ≡ Outside
digit_outside b d = stays_outside b (λ e. absurd (omega (arith, d.0, e))) (λ e. absurd (omega (arith, d.0, e)))

-- `@` and a digit
pub at_digit : (place : Place) (text : List ℕ) (b : ℕ) → IsDigit b → Steps place At text b (Digits (min 65 (0 * 10 + (b - 48)))) text
at_digit place text b d rest request next empty outside =
    let moved : place_after place b ≡ Outside = rw outside (digit_outside b d) in
    next empty moved (b ∷ []) (first_digits b d)

-- `@` and `f`
pub at_letter : (place : Place) (text : List ℕ) → Steps place At text 102 (Flush 1) text
at_letter place text rest request next empty outside =
    let moved : place_after place 102 ≡ Outside = rw outside refl in
    next moved (omega arith) (omega arith)

pub at_other : (place : Place) (text : List ℕ) (b : ℕ) → (IsDigit b → ⊥) → b ≢ 102 → Steps place At text b Wrong text
at_other place text b no_digit no_letter rest request next empty outside =
    let Q : meaning.Request → Type 0 = λ r. BodyAsks (at_sign ∷ b ∷ rest) r in
    subst Q (sym next) (at_wrong (b ∷ rest) no_digit no_letter)

pub digits_more : (place : Place) (value : ℕ) (text : List ℕ) (b : ℕ) → IsDigit b → Steps place (Digits value) text b (Digits (min 65 (value * 10 + (b - 48)))) text
digits_more place value text b d rest request next empty outside digits are =
    let moved : place_after place b ≡ Outside = rw outside (digit_outside b d) in
    let P : List ℕ → Type 0 = λ l. BodyAsks (at_sign ∷ l) request in
    subst P (append_assoc digits (b ∷ []) rest) (next empty moved (digits ++ b ∷ []) (more_digits value digits b are d))

-- a letter or an underscore after the digits, or no session of that number
pub digits_bad : (place : Place) (value : ℕ) (text : List ℕ) (b : ℕ) → (IsDigit b → ⊥) → (1 ≤ value → value ≤ 64 → (IsLetter b → ⊥) → b ≢ underscore → ⊥)
    → Steps place (Digits value) text b Wrong text
digits_bad place value text b no_digit bad rest request next empty outside digits are =
    let Q : meaning.Request → Type 0 = λ r. BodyAsks (at_sign ∷ (digits ++ b ∷ rest)) r in
    subst Q (sym next) (digits_wrong digits (b ∷ rest) value are no_digit (λ least greatest ends. bad least greatest ends.1 ends.2))

choice_asks : (digits rest : List ℕ) (value : ℕ) (request : meaning.Request) → AreDigits value digits → 1 ≤ value → value ≤ 64 → EndsNumber rest
    → ChoiceAsks value rest rest request → BodyAsks (at_sign ∷ (digits ++ rest)) request
choice_asks digits rest value request are least greatest ends by =
    let Q : meaning.Request → Type 0 = λ r. BodyAsks (at_sign ∷ (digits ++ rest)) r in
    let chosen = digits_choice digits rest value are least greatest ends in
    elim by [
      | inl p ↦ subst Q (sym p.1) (rest, chosen, p.0)
      | inr q ↦ subst Q (sym q.1) (rest, chosen, q.0, refl)
    ]

-- the digits are a session's, and the text begins with this byte
pub digits_end : (place : Place) (value : ℕ) (text : List ℕ) (b : ℕ) (stage : Stage) (next_text : List ℕ)
    → 1 ≤ value → value ≤ 64 → (IsDigit b → ⊥) → (IsLetter b → ⊥) → b ≢ underscore
    → Steps place (BlankText value) text b stage next_text → Steps place (Digits value) text b stage next_text
digits_end place value text b stage next_text least greatest no_digit no_letter no_underscore steps rest request next empty outside digits are =
    let P : Place → Type 0 = λ p. (pending : List ℕ) → IsPending p pending → ChoiceAsks value (text ++ b ∷ rest) (pending ++ b ∷ rest) request in
    let by : ChoiceAsks value (text ++ b ∷ rest) (b ∷ rest) request = subst P outside (steps rest request next) [] refl in
    let Q : List ℕ → Type 0 = λ l. ChoiceAsks value (l ++ b ∷ rest) (b ∷ rest) request in
    choice_asks digits (b ∷ rest) value request are least greatest (no_digit, no_letter, no_underscore) (subst Q empty by)

-- ---- the letters of `flush`

-- `@`, letters of `flush` and then not the next one is wrong
pub letters_wrong : (letters : ℕ) (rest : List ℕ) → 1 ≤ letters → letters ≤ 4 → slice_index rest 0 ≢ slice_index (codes "flush") letters
    → IsWrong (at_sign ∷ (take letters (codes "flush") ++ rest))
letters_wrong zero rest least greatest other = absurd (omega (arith, least))
letters_wrong (suc n) rest least greatest other = record {
  following = take (suc n) (codes "flush") ++ rest;
  whole = refl;
  no_choice = no_choice_without (take (suc n) (codes "flush") ++ rest) (λ d. absurd (omega (arith, d.1)));
  no_flush = λ f. not_flush n rest greatest other f.after f.whole;
}
  where
    not_flush : (n : ℕ) (rest : List ℕ) → suc n ≤ 4 → slice_index rest 0 ≢ slice_index (codes "flush") (suc n)
        → (after : List ℕ) → at_sign ∷ (take (suc n) (codes "flush") ++ rest) ≡ codes "@flush" ++ after → ⊥
    not_flush zero rest most other after e = other (ap (λ l. slice_index l 2) e)
    not_flush (suc zero) rest most other after e = other (ap (λ l. slice_index l 3) e)
    not_flush (suc (suc zero)) rest most other after e = other (ap (λ l. slice_index l 4) e)
    not_flush (suc (suc (suc zero))) rest most other after e = other (ap (λ l. slice_index l 5) e)
    not_flush (suc (suc (suc (suc n)))) rest most other after e = absurd (omega (arith, most))

pub letters_other : (place : Place) (letters : ℕ) (text : List ℕ) (b : ℕ) → b ≢ slice_index (codes "flush") letters → Steps place (Flush letters) text b Wrong text
letters_other place letters text b other rest request next outside least most =
    let Q : meaning.Request → Type 0 = λ r. BodyAsks (at_sign ∷ (take letters (codes "flush") ++ b ∷ rest)) r in
    subst Q (sym next) (letters_wrong letters (b ∷ rest) least most other)

pub flush_asks : (after : List ℕ) (request : meaning.Request) → FlushAsks after request → BodyAsks (codes "@flush" ++ after) request
flush_asks after request by =
    let Q : meaning.Request → Type 0 = λ r. BodyAsks (codes "@flush" ++ after) r in
    elim by [
      | inl p ↦ subst Q (sym p.1) (record { after = after; blank = p.0; whole = refl })
      | inr q ↦ subst Q (sym q.1) (record {
        following = codes "flush" ++ after;
        whole = refl;
        no_choice = no_choice_without (codes "flush" ++ after) (λ d. absurd (omega (arith, d.1)));
        no_flush = λ f. let same : after ≡ f.after = cc (f.whole) in let P : List ℕ → Type 0 = λ l. IsBlank l in q.0 (subst P (sym same) f.blank);
      })
    ]

-- the next letter, by the letters before
pub letters_next : (place : Place) (letters : ℕ) (text : List ℕ) (b : ℕ) → b ≡ slice_index (codes "flush") letters → letters ≤ 3
    → Steps place (Flush letters) text b (Flush (letters + 1)) text
letters_next place letters text b same few rest request next outside least most =
    let P : List ℕ → Type 0 = λ l. BodyAsks (at_sign ∷ l) request in
    let moved : place_after place b ≡ Outside = rw (outside, same) (letter_outside letters few) in
    subst P (rw same (grown letters few)) (next moved (omega arith) (omega (arith, few)))
  where
    letter_outside : (n : ℕ) → n ≤ 3 → place_after Outside (slice_index (codes "flush") n) ≡ Outside
    letter_outside zero most = refl
    letter_outside (suc zero) most = refl
    letter_outside (suc (suc zero)) most = refl
    letter_outside (suc (suc (suc zero))) most = refl
    letter_outside (suc (suc (suc (suc n)))) most = absurd (omega (arith, most))

    grown : (n : ℕ) → n ≤ 3 → take (n + 1) (codes "flush") ++ rest ≡ take n (codes "flush") ++ slice_index (codes "flush") n ∷ rest
    grown zero most = refl
    grown (suc zero) most = refl
    grown (suc (suc zero)) most = refl
    grown (suc (suc (suc zero))) most = refl
    grown (suc (suc (suc (suc n)))) most = absurd (omega (arith, most))

pub letters_last : (place : Place) (text : List ℕ) (letters : ℕ) (b : ℕ) → b ≡ slice_index (codes "flush") letters → 4 ≤ letters
    → Steps place (Flush letters) text b AfterFlush text
letters_last place text letters b same many rest request next outside least most =
    let four : letters ≡ 4 = omega (arith, many, most) in
    let letter : b ≡ 104 = same ∙ ap (λ n. slice_index (codes "flush") n) four in
    let moved : place_after place b ≡ Outside = rw (outside, letter) refl in
    let R : Place → Type 0 = λ p. (pending : List ℕ) → IsPending p pending → FlushAsks (pending ++ rest) request in
    let asks : BodyAsks (codes "@flush" ++ rest) request = flush_asks rest request (subst R moved next [] refl) in
    rw (four, letter) asks

-- ---- the end of a piece

end_stops : (place : Place) (tail : List ℕ) → IsEnd place tail → IsDigit (slice_index tail 0) → ⊥
end_stops place tail end d =
    let P : ℕ → Type 0 = λ n. IsDigit n in
    elim end [
      | inl e ↦ no_digit_zero (subst P (first_is _ _ e) d)
      | inr e ↦ let d' : IsDigit semicolon = subst P (first_is _ _ e.0) d in absurd (omega (arith, d'.1))
    ]

-- an end's first byte is none above the digits
end_low : (place : Place) (tail : List ℕ) → IsEnd place tail → slice_index tail 0 ≤ 59
end_low place tail end =
    elim end [ inl e ↦ rw e (omega arith) | inr e ↦ rw (e.0) (omega arith) ]

end_blank : (place : Place) (tail : List ℕ) → IsEnd place tail → IsBlank tail
end_blank place tail end = record { rest = tail; skipped = here tail; finish = elim end [ inl e ↦ inl e | inr e ↦ inr (inl (e.0)) ] }

end_number : (place : Place) (tail : List ℕ) → IsEnd place tail → EndsNumber tail
end_number place tail end =
    let P : List ℕ → Type 0 = λ l. EndsNumber l in
    elim end [
      | inl e ↦ subst P (sym e) tt
      | inr e ↦ subst P (sym (e.0)) ((λ d. absurd (omega (arith, d.1))), (λ l. no_letter l), (λ e'. cc e'))
    ]
  where
    no_letter : IsLetter semicolon → ⊥
    no_letter l = elim l [ inl p ↦ absurd (omega (arith, p.0)) | inr p ↦ absurd (omega (arith, p.0)) ]

end_firm : (place : Place) (tail : List ℕ) → IsEnd place tail → IsFirm tail
end_firm place tail end =
    let P : List ℕ → Type 0 = λ l. IsFirm l in
    elim end [
      | inl e ↦ subst P (sym e) (record { no_space_first = no_space 0 refl; no_comment_first = λ b. cc (b.1) })
      | inr e ↦ subst P (sym (e.0)) (record { no_space_first = no_space semicolon refl; no_comment_first = λ b. cc (b.1) })
    ]

-- a comment that nothing closes, at the end
open_blank : (bytes : List ℕ) → IsOpenComment bytes → IsBlank bytes
open_blank bytes is = record { rest = bytes; skipped = here bytes; finish = inr (inr is) }

open_asks : (inside : List ℕ) → IsOpenComment (minus ∷ minus ∷ inside) → Asks (minus ∷ minus ∷ inside) meaning.Nothing
open_asks inside is = record {
  body = minus ∷ minus ∷ inside;
  begins = record { skipped = here (minus ∷ minus ∷ inside); firm = (no_space minus refl, λ following c. no_open (minus ∷ minus ∷ inside) following c is) };
  asks = open_blank (minus ∷ minus ∷ inside) is;
}

open_asks_any : (bytes : List ℕ) → IsOpenComment bytes → Asks bytes meaning.Nothing
open_asks_any bytes is =
    let P : List ℕ → Type 0 = λ l. Asks l meaning.Nothing in
    subst P (sym is.whole) (open_asks is.inside (record { inside = is.inside; open_end = is.open_end; whole = refl }))

no_semicolon_in_comment : (tail : List ℕ) → IsEnd InComment tail → tail ≡ []
no_semicolon_in_comment tail end = elim end [ inl e ↦ e | inr e ↦ cc (e.1) ]

pending_blank : (place : Place) (tail : List ℕ) → IsEnd place tail → place ≢ AfterMinus → (pending : List ℕ) → IsPending place pending → IsBlank (pending ++ tail)
pending_blank Outside tail end no_minus pending is =
    let P : List ℕ → Type 0 = λ l. IsBlank (l ++ tail) in subst P (sym is) (end_blank Outside tail end)
pending_blank AfterMinus tail end no_minus pending is = absurd (no_minus refl)
pending_blank InString tail end no_minus pending is = absurd is
pending_blank InComment tail end no_minus pending is =
    let P : List ℕ → Type 0 = λ l. IsBlank l in
    subst P (sym (ap (λ l. pending ++ l) (no_semicolon_in_comment tail end) ∙ append-nil pending)) (open_blank pending is)

minus_not_blank : (tail : List ℕ) → IsEnd AfterMinus tail → (pending : List ℕ) → IsPending AfterMinus pending → IsBlank (pending ++ tail) → ⊥
minus_not_blank tail end pending is =
    let P : List ℕ → Type 0 = λ l. IsBlank (l ++ tail) → ⊥ in
    subst P (sym is) (not_blank (minus ∷ tail) (lone_minus_text AfterMinus tail end))

pub end_of_blank : (place : Place) (text tail : List ℕ) → IsEnd place tail → place ≢ AfterMinus → WouldAsk place Blank text tail meaning.Nothing
end_of_blank Outside text tail end no_minus empty pending is =
    let P : List ℕ → Type 0 = λ l. Asks (l ++ tail) meaning.Nothing in
    subst P (sym is) (asks_body tail meaning.Nothing (end_firm Outside tail end) (end_blank Outside tail end))
end_of_blank AfterMinus text tail end no_minus empty pending is = absurd (no_minus refl)
end_of_blank InString text tail end no_minus empty pending is = absurd is
end_of_blank InComment text tail end no_minus empty pending is =
    let P : List ℕ → Type 0 = λ l. Asks l meaning.Nothing in
    subst P (sym (ap (λ l. pending ++ l) (no_semicolon_in_comment tail end) ∙ append-nil pending)) (open_asks_any pending is)

pub end_of_minus : (text tail : List ℕ) → IsEnd AfterMinus tail
    → WouldAsk AfterMinus Blank text tail (meaning.Calls (text_of_call (text_of_call (text ++ minus ∷ []) ++ tail)))
end_of_minus text tail end empty pending is =
    let P : List ℕ → Type 0 = λ l. Asks (l ++ tail) (meaning.Calls (text_of_call (text_of_call (text ++ minus ∷ []) ++ tail))) in
    let Q : List ℕ → Type 0 = λ l. Asks (minus ∷ tail) (meaning.Calls l) in
    let whole : text_of_call (text_of_call (text ++ minus ∷ []) ++ tail) ≡ text_of_call (minus ∷ tail) =
    pushed text tail minus ∙ ap (λ l. text_of_call (l ++ minus ∷ tail)) empty in
    subst P (sym is) (subst Q (sym whole) (text_asks (minus ∷ tail) (lone_minus_text AfterMinus tail end) (λ e. cc e)))

pub end_of_at : (place : Place) (text tail : List ℕ) → IsEnd place tail → WouldAsk place At text tail meaning.Wrong
end_of_at place text tail end empty outside =
    at_wrong tail (end_stops place tail end) (λ e. absurd (omega (arith, e, end_low place tail end)))

pub end_of_choice : (place : Place) (value : ℕ) (text tail : List ℕ) → IsEnd place tail → 1 ≤ value → value ≤ 64
    → WouldAsk place (Digits value) text tail (meaning.Chooses value)
end_of_choice place value text tail end least greatest empty outside digits are =
    (tail, digits_choice digits tail value are least greatest (end_number place tail end), end_blank place tail end)

pub end_of_digits : (place : Place) (value : ℕ) (text tail : List ℕ) → IsEnd place tail → (1 ≤ value → value ≤ 64 → ⊥)
    → WouldAsk place (Digits value) text tail meaning.Wrong
end_of_digits place value text tail end bad empty outside digits are =
    digits_wrong digits tail value are (end_stops place tail end) (λ least greatest ends. bad least greatest)

pub end_of_letters : (place : Place) (letters : ℕ) (text tail : List ℕ) → IsEnd place tail → WouldAsk place (Flush letters) text tail meaning.Wrong
end_of_letters place letters text tail end outside least most =
    letters_wrong letters tail least most (λ e. absurd (omega (arith, e, end_low place tail end, high letters most)))
  where
    high : (n : ℕ) → n ≤ 4 → 100 ≤ slice_index (codes "flush") n
    high zero few = omega arith
    high (suc zero) few = omega arith
    high (suc (suc zero)) few = omega arith
    high (suc (suc (suc zero))) few = omega arith
    high (suc (suc (suc (suc zero)))) few = omega arith
    high (suc (suc (suc (suc (suc n))))) few = absurd (omega (arith, few))

pub end_of_flush : (place : Place) (text tail : List ℕ) → IsEnd place tail → place ≢ AfterMinus → WouldAsk place AfterFlush text tail meaning.Flushes
end_of_flush place text tail end no_minus pending is = inl (pending_blank place tail end no_minus pending is, refl)

pub end_of_flush_minus : (text tail : List ℕ) → IsEnd AfterMinus tail → WouldAsk AfterMinus AfterFlush text tail meaning.Wrong
end_of_flush_minus text tail end pending is = inr (minus_not_blank tail end pending is, refl)

pub end_of_session : (place : Place) (session : ℕ) (text tail : List ℕ) → IsEnd place tail → place ≢ AfterMinus
    → WouldAsk place (BlankText session) text tail (meaning.Chooses session)
end_of_session place session text tail end no_minus pending is = inl (pending_blank place tail end no_minus pending is, refl)

pub end_of_session_minus : (session : ℕ) (text tail : List ℕ) → IsEnd AfterMinus tail
    → WouldAsk AfterMinus (BlankText session) text tail (meaning.ChoosesAndCalls session (text_of_call (text ++ tail)))
end_of_session_minus session text tail end pending is = inr (minus_not_blank tail end pending is, refl)

pub end_of_text : (place : Place) (session : Option ℕ) (text tail : List ℕ) → WouldAsk place (Text session) text tail (asked (found.Calls session) (text_of_call (text ++ tail)))
end_of_text place None text tail = refl
end_of_text place (Some session) text tail = refl

-- ---- the tests of bytes

pub is_digit : (r : Bool) (b : ℕ) → r ≡ true → MatchBool r (IsAsciiDigit b) (IsNotAsciiDigit b) → IsDigit b
is_digit true b e cases = cases
is_digit false b e cases = cc e

out_of_range : (low high b : ℕ) → IsOutOfRange low high b → low ≤ b → b ≤ high → ⊥
out_of_range low high b out above below =
    elim out [ inl p ↦ absurd (omega (arith, p, above)) | inr p ↦ absurd (omega (arith, p, below)) ]

pub no_digit : (r : Bool) (b : ℕ) → r ≡ false → MatchBool r (IsAsciiDigit b) (IsNotAsciiDigit b) → IsDigit b → ⊥
no_digit true b e cases d = cc e
no_digit false b e cases d = out_of_range 48 57 b cases d.0 d.1

pub is_letter : (r : Bool) (b : ℕ) → r ≡ true → MatchBool r (IsAsciiAlphabetic b) (IsNotAsciiAlphabetic b) → IsLetter b
is_letter true b e cases = cases
is_letter false b e cases = cc e

pub no_letter : (r : Bool) (b : ℕ) → r ≡ false → MatchBool r (IsAsciiAlphabetic b) (IsNotAsciiAlphabetic b) → IsLetter b → ⊥
no_letter true b e cases l = cc e
no_letter false b e cases l =
    elim l [ inl p ↦ out_of_range 65 90 b cases.0 p.0 p.1 | inr p ↦ out_of_range 97 122 b cases.1 p.0 p.1 ]

-- ---- the same, where the place and the stage are known by equations

pub at_stage : (stage known : Stage) (place : Place) (text tail : List ℕ) (request : meaning.Request) → stage ≡ known
    → WouldAsk place known text tail request → WouldAsk place stage text tail request
at_stage stage known place text tail request is would =
    let P : Stage → Type 0 = λ s. WouldAsk place s text tail request in subst P (sym is) would

pub end_of_minus_at : (place : Place) (text tail : List ℕ) → place ≡ AfterMinus → IsEnd place tail
    → WouldAsk place Blank text tail (meaning.Calls (text_of_call (text_of_call (text ++ minus ∷ []) ++ tail)))
end_of_minus_at Outside text tail is end = cc is
end_of_minus_at AfterMinus text tail is end = end_of_minus text tail end
end_of_minus_at InString text tail is end = cc is
end_of_minus_at InComment text tail is end = cc is

pub end_of_flush_minus_at : (place : Place) (text tail : List ℕ) → place ≡ AfterMinus → IsEnd place tail → WouldAsk place AfterFlush text tail meaning.Wrong
end_of_flush_minus_at Outside text tail is end = cc is
end_of_flush_minus_at AfterMinus text tail is end = end_of_flush_minus text tail end
end_of_flush_minus_at InString text tail is end = cc is
end_of_flush_minus_at InComment text tail is end = cc is

pub end_of_session_minus_at : (place : Place) (session : ℕ) (text tail : List ℕ) → place ≡ AfterMinus → IsEnd place tail
    → WouldAsk place (BlankText session) text tail (meaning.ChoosesAndCalls session (text_of_call (text ++ tail)))
end_of_session_minus_at Outside session text tail is end = cc is
end_of_session_minus_at AfterMinus session text tail is end = end_of_session_minus session text tail end
end_of_session_minus_at InString session text tail is end = cc is
end_of_session_minus_at InComment session text tail is end = cc is
