-- What a cutter knows of a piece after its first bytes: what the piece asks for, by the bytes that
-- are still to come.
use Rattle.std.specs.Prelude.{◌≡◌, ◌≢◌, ◌⊎◌, ℕ, ◌≤◌, true, None, Some, min, List, [], ◌∷◌, ◌++◌, All, take, codes}
use Rattle.std.specs.Str.Parse.{digits_value}
use Rattle.script_pieces.specs.declared.place.Place.{Place}
use Rattle.script_pieces.specs.declared.place.Place.TheVariants.{Outside, AfterMinus, InString, InComment}
use Rattle.script_pieces.specs.declared.stage.Stage.{Stage}
use Rattle.script_pieces.specs.declared.stage.Stage.TheVariants.{Blank, At, Digits, Flush, AfterFlush, BlankText, Text, Wrong}
use Rattle.script_pieces.specs.declared.request.Request as found
use Rattle.script_pieces.specs.declared.request.Request.TheVariants as found_variants
use Rattle.script_pieces.specs.declared.cutter.Cutter.{Cutter}
use Rattle.script_pieces.specs.Pieces.{semicolon, minus, at_sign, EndsNowhere, IsFirstPiece}
use Rattle.script_pieces.specs.PieceMeaning as meaning
use Rattle.script_pieces.specs.PieceMeaning.{IsDigit, IsBlank, IsOpenComment, Asks, AsksFor, BodyAsks, text_of_call}
use Rattle.script_pieces.specs.Place.{is_outside, place_after, LeadsTo}

-- a semicolon outside strings and comments ends a piece, and no other byte does
abbrev pub MayGoOn : Place → ℕ → Type 0
MayGoOn place b = is_outside place ≡ true → b ≢ semicolon

-- what was read last and is no white space yet: a minus that may begin a comment, or a comment that
-- has not ended
abbrev pub IsPending : Place → List ℕ → Type 0
IsPending Outside bytes = bytes ≡ []
IsPending AfterMinus bytes = bytes ≡ minus ∷ []
IsPending InComment bytes = IsOpenComment bytes
IsPending InString bytes = ⊥

-- the one fact where the bytes are blank, the other where they are not
abbrev pub ByBlank : List ℕ → Type 0 → Type 0 → Type 0
ByBlank bytes P Q = (IsBlank bytes × P) ⊎ ((IsBlank bytes → ⊥) × Q)

-- `@flush` and then these bytes ask for this
abbrev pub FlushAsks : List ℕ → meaning.Request → Type 0
FlushAsks after request = ByBlank after (request ≡ meaning.Flushes) (request ≡ meaning.Wrong)

-- `@k` and then `text` ask for this, if `text` is blank exactly where its end `rest` is
abbrev pub ChoiceAsks : ℕ → List ℕ → List ℕ → meaning.Request → Type 0
ChoiceAsks session text rest request =
    ByBlank rest (request ≡ meaning.Chooses session) (request ≡ meaning.ChoosesAndCalls session (text_of_call text))

-- some digits of this value, where it is at most 65
pub record AreDigits (value : ℕ) (digits : List ℕ) : Type 0 where
  pub some : digits ≢ []
  pub decimal : All IsDigit digits
  pub valued : min 65 (digits_value 10 digits) ≡ value

-- a piece that was read up to this place and stage, with this much of its text, asks for the
-- request if `rest` follows
abbrev pub WouldAsk : Place → Stage → List ℕ → List ℕ → meaning.Request → Type 0
WouldAsk place Blank text rest request =
    text ≡ [] → (pending : List ℕ) → IsPending place pending → Asks (pending ++ rest) request
WouldAsk place At text rest request = text ≡ [] → place ≡ Outside → BodyAsks (at_sign ∷ rest) request
WouldAsk place (Digits value) text rest request =
    text ≡ [] → place ≡ Outside → (digits : List ℕ) → AreDigits value digits
    → BodyAsks (at_sign ∷ (digits ++ rest)) request
WouldAsk place (Flush letters) text rest request =
    place ≡ Outside → 1 ≤ letters → letters ≤ 4 → BodyAsks (at_sign ∷ (take letters (codes "flush") ++ rest)) request
WouldAsk place AfterFlush text rest request =
    (pending : List ℕ) → IsPending place pending → FlushAsks (pending ++ rest) request
WouldAsk place (BlankText session) text rest request =
    (pending : List ℕ) → IsPending place pending → ChoiceAsks session (text ++ rest) (pending ++ rest) request
WouldAsk place (Text None) text rest request = request ≡ meaning.Calls (text_of_call (text ++ rest))
WouldAsk place (Text (Some session)) text rest request = request ≡ meaning.ChoosesAndCalls session (text_of_call (text ++ rest))
WouldAsk place Wrong text rest request = request ≡ meaning.Wrong

-- with this byte the one stage and its text become the other: what follows then would ask for, the
-- byte and it would ask for before
abbrev pub Steps : Place → Stage → List ℕ → ℕ → Stage → List ℕ → Type 0
Steps place stage text b next_stage next_text =
    (rest : List ℕ) (request : meaning.Request) → WouldAsk (place_after place b) next_stage next_text rest request
    → WouldAsk place stage text (b ∷ rest) request

-- what stands last in a piece that ends here: a semicolon outside strings and comments, or nothing
abbrev pub IsEnd : Place → List ℕ → Type 0
IsEnd place tail = (tail ≡ []) ⊎ ((tail ≡ semicolon ∷ []) × (is_outside place ≡ true))

-- the cutter has read these bytes of a piece, and no byte of them ends it
pub record HasRead (bytes : List ℕ) (cutter : Cutter) : Type 0 where
  pub leads : LeadsTo cutter.place bytes
  pub asks : (rest : List ℕ) (request : meaning.Request) → WouldAsk cutter.place cutter.stage cutter.text rest request
      → Asks (bytes ++ rest) request

-- the text of the call that a cutter found
abbrev pub call_text : Cutter → List ℕ
call_text cutter = text_of_call cutter.text

-- what a request asks for, with the text of the call
abbrev pub asked : found.Request → List ℕ → meaning.Request
asked found_variants.Nothing text = meaning.Nothing
asked (found_variants.Chooses session) text = meaning.Chooses session
asked (found_variants.Calls None) text = meaning.Calls text
asked (found_variants.Calls (Some session)) text = meaning.ChoosesAndCalls session text
asked found_variants.Flushes text = meaning.Flushes
asked found_variants.Wrong text = meaning.Wrong

-- the byte ends no piece, and the cutter has read it too
abbrev pub GoesOn : Cutter → ℕ → Cutter → Type 0
GoesOn old b new =
    (bytes : List ℕ) → HasRead bytes old → EndsNowhere (bytes ++ b ∷ []) × HasRead (bytes ++ b ∷ []) new

-- the byte ends the piece, whatever follows, and the piece asks for this
abbrev pub EndsAt : Cutter → ℕ → found.Request → Cutter → Type 0
EndsAt old b request new =
    (bytes : List ℕ) → HasRead bytes old
    → ((rest : List ℕ) → IsFirstPiece (bytes ++ b ∷ rest) (bytes ++ b ∷ []) rest)
    × AsksFor (bytes ++ b ∷ []) (asked request (call_text new))

-- nothing ends the piece, which asks for this
abbrev pub EndsWithout : Cutter → found.Request → Cutter → Type 0
EndsWithout old request new =
    (bytes : List ℕ) → HasRead bytes old → EndsNowhere bytes × AsksFor bytes (asked request (call_text new))
