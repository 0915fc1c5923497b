-- What a piece of an input stands for. All of this is our own choice.
use Rattle.std.specs.Prelude.{◌≡◌, ◌≢◌, ◌⊎◌, ℕ, ◌≤◌, List, [], ◌∷◌, ◌++◌, take, Contains, All, codes}
use Rattle.std.specs.Str.Parse.{digits_value}
use Rattle.script_pieces.specs.Pieces.{semicolon, minus, newline, at_sign, IsComment}

-- space, tab, line feed, carriage return
abbrev pub IsSpace : ℕ → Type 0
IsSpace b = (b ≡ 32) ⊎ (b ≡ 9) ⊎ (b ≡ 10) ⊎ (b ≡ 13)

abbrev pub IsDigit : ℕ → Type 0
IsDigit b = (48 ≤ b) × (b ≤ 57)

abbrev pub IsLetter : ℕ → Type 0
IsLetter b = ((65 ≤ b) × (b ≤ 90)) ⊎ ((97 ≤ b) × (b ≤ 122))

abbrev pub underscore : ℕ
underscore = 95

-- between `bytes` and `rest` stand white space and whole comments
pub data Skips : List ℕ → List ℕ → Type 0 where
  here : (bytes : List ℕ) → Skips bytes bytes
  space : (b : ℕ) (following rest : List ℕ) → IsSpace b → Skips following rest → Skips (b ∷ following) rest
  comment : (bytes following rest : List ℕ) → IsComment bytes following → Skips following rest → Skips bytes rest

-- a comment that nothing closes
pub record IsOpenComment (bytes : List ℕ) : Type 0 where
  pub inside : List ℕ
  pub open_end : Contains inside newline → ⊥
  pub whole : bytes ≡ minus ∷ minus ∷ inside

-- white space and comments, and then a semicolon or nothing
pub record IsBlank (bytes : List ℕ) : Type 0 where
  pub rest : List ℕ
  pub skipped : Skips bytes rest
  pub finish : (rest ≡ []) ⊎ (rest ≡ semicolon ∷ []) ⊎ IsOpenComment rest

-- neither white space nor a whole comment stands here
abbrev pub BeginsFirmly : List ℕ → Type 0
BeginsFirmly [] = Unit {0}
BeginsFirmly (b ∷ more) = (IsSpace b → ⊥) × ((following : List ℕ) → IsComment (b ∷ more) following → ⊥)

-- the piece without the white space and the comments at its beginning
pub record IsBody (piece body : List ℕ) : Type 0 where
  pub skipped : Skips piece body
  pub firm : BeginsFirmly body

-- no digit, letter or underscore stands first
abbrev pub EndsNumber : List ℕ → Type 0
EndsNumber [] = Unit {0}
EndsNumber (b ∷ following) = (IsDigit b → ⊥) × (IsLetter b → ⊥) × (b ≢ underscore)

-- `@k` and then `text`: it chooses session k, from 1 to 64
pub record IsChoice (body : List ℕ) (session : ℕ) (text : List ℕ) : Type 0 where
  pub digits : List ℕ
  pub some : digits ≢ []
  pub decimal : All IsDigit digits
  pub value : digits_value 10 digits ≡ session
  pub least : 1 ≤ session
  pub greatest : session ≤ 64
  pub ended : EndsNumber text
  pub whole : body ≡ (at_sign ∷ digits) ++ text

-- `@flush`
pub record IsFlush (body : List ℕ) : Type 0 where
  pub after : List ℕ
  pub blank : IsBlank after
  pub whole : body ≡ codes "@flush" ++ after

-- neither, though it begins with `@`
pub record IsWrong (body : List ℕ) : Type 0 where
  pub following : List ℕ
  pub whole : body ≡ at_sign ∷ following
  pub no_choice : (session : ℕ) (text : List ℕ) → IsChoice body session text → ⊥
  pub no_flush : IsFlush body → ⊥

-- of a longer text its first 65,537 bytes are the text of the call
abbrev pub text_of_call : List ℕ → List ℕ
text_of_call text = take 65537 text

-- what a piece asks for
pub data Request : Type 0 where
  Nothing : Request
  Chooses : (session : ℕ) → Request
  Calls : (text : List ℕ) → Request
  ChoosesAndCalls : (session : ℕ) (text : List ℕ) → Request
  Flushes : Request
  Wrong : Request

-- the piece without its beginning asks for this
abbrev pub BodyAsks : List ℕ → Request → Type 0
BodyAsks body Nothing = IsBlank body
BodyAsks body (Chooses session) = (text : List ℕ) × IsChoice body session text × IsBlank text
BodyAsks body (ChoosesAndCalls session call) =
    (text : List ℕ) × IsChoice body session text × (IsBlank text → ⊥) × (call ≡ text_of_call text)
BodyAsks body Flushes = IsFlush body
BodyAsks body Wrong = IsWrong body
BodyAsks body (Calls call) =
    (IsBlank body → ⊥) × ((following : List ℕ) → body ≢ at_sign ∷ following) × (call ≡ text_of_call body)

-- the piece asks for this
pub record Asks (piece : List ℕ) (request : Request) : Type 0 where
  pub body : List ℕ
  pub begins : IsBody piece body
  pub asks : BodyAsks body request

-- the piece asks for this, and for nothing else
pub record AsksFor (piece : List ℕ) (request : Request) : Type 0 where
  pub asks : Asks piece request
  pub only : (other : Request) → Asks piece other → other ≡ request
