-- Reading from the front of a list of tokens, one function for each way in which the grammar joins
-- its rules. A step of the proof: the grammar itself is what parsing promises.
use Rattle.std.specs.Prelude.{◌≡◌, ℕ, zero, suc, ◌-◌, nat_le, Bool, true, false, if◌then◌else◌, List, [], ◌∷◌, ◌++◌, length, Option, Some, None, Result, Ok, Err}
use denote.Enum.Bare.{sameb}
use Rattle.std.specs.Borrow.{Bor}
use Rattle.lexer.specs.contracts.words.Word.{the_type as word_type}
use Rattle.lexer.specs.contracts.kinds.Symbol.{the_type as symbol_type}
use Rattle.lexer.specs.declared.kinds.Kind.{Kind}
use Rattle.lexer.specs.declared.kinds.Kind.TheVariants as kind
use Rattle.lexer.specs.declared.kinds.Symbol.{Symbol}
use Rattle.lexer.specs.declared.kinds.Symbol.TheVariants as s
use Rattle.lexer.specs.declared.kinds.Token.{Token}
use Rattle.lexer.specs.declared.words.Word.{Word}
use Rattle.ast.specs.Notation.{Tokens}
use Rattle.parse_terminals.specs.declared.error.ParseError.{ParseError}
use Rattle.parse_terminals.specs.declared.error.ParseError.TheVariants.{Syntax}

-- what tokens are, without their places
abbrev pub kinds : List Token → Tokens
kinds [] = []
kinds (t ∷ ts) = t.kind ∷ kinds ts

-- what was read and the tokens after it, or nothing
abbrev pub Outcome : Type 0 → Type 0
Outcome A = Option (A × Tokens)

abbrev pub Reader : Type 0 → Type 0
Reader A = Tokens → Outcome A

infixl 10 ◌>>=◌
abbrev pub ◌>>=◌ : {A B : Type 0} → Outcome A → ((A × Tokens) → Outcome B) → Outcome B
(Some x) >>= f = f x
None >>= f = None

-- ---- what a function gives

-- It returned what is read, unless memory ran out.
abbrev pub Gives : {A : Type 0} → Result (A × Bor (List Token)) ParseError → Outcome A → Type 0
Gives (Ok x) read = read ≡ Some (x.0, kinds x.1.now)
Gives (Err e) read = e ≡ Syntax → read ≡ None

-- the same, where the tokens after it are left out
abbrev pub GivesAll : {A : Type 0} → Result A ParseError → Outcome A → Type 0
GivesAll (Ok x) read = (rest : Tokens) × (read ≡ Some (x, rest))
GivesAll (Err e) read = e ≡ Syntax → read ≡ None

abbrev pub GivesRest : Result (Bor (List Token)) ParseError → Outcome (Unit {0}) → Type 0
GivesRest (Ok x) read = read ≡ Some (tt, kinds x.now)
GivesRest (Err e) read = e ≡ Syntax → read ≡ None

abbrev pub Finds : {A : Type 0} → Option (A × Bor (List Token)) → Outcome A → Type 0
Finds (Some x) read = read ≡ Some (x.0, kinds x.1.now)
Finds None read = read ≡ None

abbrev pub FindsRest : Option (Bor (List Token)) → Outcome (Unit {0}) → Type 0
FindsRest (Some x) read = read ≡ Some (tt, kinds x.now)
FindsRest None read = read ≡ None

-- A function value, of which this is the relation of arguments to answers, gives what is read.
abbrev pub ReadsBy : {A : Type 0} → (Bor (List Token) → Result (A × Bor (List Token)) ParseError → Type 0)
    → Reader A → Type 0
ReadsBy {A} post reads = (at : Bor (List Token)) (answer : Result (A × Bor (List Token)) ParseError) → post at answer
    → Gives answer (reads (kinds at.now))

-- The same where it looks whether something comes next, and where what came before is an argument.
abbrev pub FindsBy : {O : Type 0} → (Bor (List Token) → Option (O × Bor (List Token)) → Type 0) → Reader O → Type 0
FindsBy {O} post begins = (at : Bor (List Token)) (answer : Option (O × Bor (List Token))) → post at answer
    → Finds answer (begins (kinds at.now))

abbrev pub ReadsAfter : {O A : Type 0} → (O → Bor (List Token) → Result (A × Bor (List Token)) ParseError → Type 0)
    → (O → Reader A) → Type 0
ReadsAfter {O} {A} post reads =
    (o : O) (at : Bor (List Token)) (answer : Result (A × Bor (List Token)) ParseError) → post o at answer
    → Gives answer (reads o (kinds at.now))

-- ---- tokens

-- `==` on words and on symbols
abbrev pub same_word : Word → Word → Bool
same_word = sameb word_type

abbrev pub same_symbol : Symbol → Symbol → Bool
same_symbol = sameb symbol_type

abbrev pub is_word : Word → Kind → Bool
is_word w (kind.Word v) = same_word v w
is_word w _ = false

abbrev pub is_symbol : Symbol → Kind → Bool
is_symbol w (kind.Symbol v) = same_symbol v w
is_symbol w _ = false

-- the next token is so
abbrev pub next_is : (Kind → Bool) → Tokens → Bool
next_is p [] = false
next_is p (t ∷ ts) = p t

abbrev pub rest_of : Tokens → Tokens
rest_of [] = []
rest_of (t ∷ ts) = ts

unfoldable pub word : Word → Reader (Unit {0})
word w ts = if next_is (is_word w) ts then Some (tt, rest_of ts) else None

unfoldable pub symbol : Symbol → Reader (Unit {0})
symbol w ts = if next_is (is_symbol w) ts then Some (tt, rest_of ts) else None

-- whether the word comes next, and what follows it then
unfoldable pub eat_word : Word → Tokens → Bool × Tokens
eat_word w ts = if next_is (is_word w) ts then (true, rest_of ts) else (false, ts)

abbrev pub name : Reader (List ℕ)
name (kind.Name x ∷ ts) = Some (x, ts)
name _ = None

abbrev pub number : Reader ℕ
number (kind.Number x ∷ ts) = Some (x, ts)
number _ = None

abbrev pub after_close : ℕ → Tokens → (ℕ → Tokens) → Tokens
after_close zero ts f = ts
after_close (suc n) ts f = f n

-- what follows the end of the parentheses that are open, one more than n of them
abbrev pub skip : Tokens → ℕ → Tokens
skip [] n = []
skip (t ∷ ts) n =
    if is_symbol s.LeftParenthesis t then skip ts (suc n)
    else (if is_symbol s.RightParenthesis t then after_close n ts (skip ts) else skip ts n)

-- ---- how readings are joined

abbrev pub if_next : {A B : Type 0} → Outcome A → Outcome B → ((A × Tokens) → Outcome B) → Outcome B
if_next None absent next = absent
if_next (Some x) absent next = next x

-- whether a chain has as many operands after its first as the limit allows
abbrev pub is_full : Option ℕ → ℕ → Bool
is_full None others = false
is_full (Some limit) others = nat_le (limit - 1) others

abbrev pub if_full : {B : Type 0} → Bool → Outcome B → Outcome B
if_full true next = None
if_full false next = next

-- Items, each where `begin` reads something before it, and no more than the limit allows. The
-- number bounds the turns, and each turn takes a token.
abbrev pub many_from : {O A : Type 0} → Option ℕ → Reader O → (O → Reader A) → ℕ → List A → Reader (List A)
many_from limit begin item zero found ts = Some (found, ts)
many_from limit begin item (suc n) found ts = if_next (begin ts) (Some (found, ts))
    (λ o. if_full (is_full limit (length found)) (item o.0 o.1 >>= (λ x. many_from limit begin item n (found ++ x.0 ∷ []) x.1)))

abbrev pub many : {O A : Type 0} → Option ℕ → Reader O → (O → Reader A) → List A → Reader (List A)
many limit begin item found ts = many_from limit begin item (length ts) found ts

-- items with commas between them
abbrev pub listed : {A : Type 0} → Reader A → Reader (List A)
listed item ts = item ts >>= (λ x. many None (symbol s.Comma) (λ _. item) (x.0 ∷ []) x.1)

-- one and then the other
abbrev pub both : {A B : Type 0} → Reader A → Reader B → Reader (A × B)
both first second ts = first ts >>= (λ x. second x.1 >>= (λ y. Some ((x.0, y.0), y.1)))

-- what stood before, with what is read next
abbrev pub paired : {A B : Type 0} → A → Outcome B → Outcome (A × B)
paired x next = next >>= (λ y. Some ((x, y.0), y.1))

-- what follows a token
abbrev pub after : {A : Type 0} → Reader (Unit {0}) → Reader A → Reader A
after token item ts = token ts >>= (λ x. item x.1)

-- what stands before a token
abbrev pub before : {A : Type 0} → Reader A → Reader (Unit {0}) → Reader A
before item token ts = item ts >>= (λ x. token x.1 >>= (λ y. Some (x.0, y.1)))

abbrev pub parenthesized : {A : Type 0} → Reader A → Reader A
parenthesized item = after (symbol s.LeftParenthesis) (before item (symbol s.RightParenthesis))

-- with another tree
abbrev pub made : {A B : Type 0} → (A → B) → Reader A → Reader B
made f item ts = item ts >>= (λ x. Some (f x.0, x.1))

-- if there is one
abbrev pub optional : {A : Type 0} → Reader A → Reader (Option A)
optional item ts = if_next (item ts) (Some (None, ts)) (λ x. Some (Some x.0, x.1))

-- if something that begins one comes next
abbrev pub maybe : {O A : Type 0} → Reader O → (O → Reader A) → Reader (Option A)
maybe begin item ts = if_next (begin ts) (Some (None, ts)) (λ o. item o.0 o.1 >>= (λ x. Some (Some x.0, x.1)))

-- the same for a list that is never empty
abbrev pub maybe_listed : {O A : Type 0} → Reader O → (O → Reader (List A)) → Reader (List A)
maybe_listed begin item ts = if_next (begin ts) (Some ([], ts)) (λ o. item o.0 o.1)

-- whether a word is written
abbrev pub written : Word → Reader Bool
written w ts = Some (eat_word w ts)
