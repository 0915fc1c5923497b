-- The printed text of tokens has just these tokens.
use Rattle.std.proofs.Common.{◌≡◌, ℕ, ◌+◌, ◌-◌, ◌*◌, ◌%◌, ◌≤◌, ◌<◌, Bool, true, false, ◌&&◌, List, [], ◌∷◌, ◌++◌, length, drop, eqb, None, refl, sym, ap, ◌∙◌, subst, arith, length-drop}
use Rattle.std.specs.Char.{is_ascii_digit, is_ascii_uppercase, to_ascii_uppercase}
use Rattle.std.specs.List.{list_all}
use Rattle.std.specs.Fmt.{decimal}
use Rattle.std.specs.Prelude.{nat_le, is_none}
use Rattle.std.proofs.lemmas.Bool.{and_parts, and_from, and_left}
use Rattle.std.proofs.lemmas.Bool.Decides.{nat_tests}
use Rattle.std.proofs.lemmas.Fmt.{decimal_by_steps}
use Rattle.std.proofs.lemmas.List.{drop_all}
use Rattle.std.proofs.lemmas.List.Folds.{list_all-append}
use Rattle.std.proofs.lemmas.List.Sums.{fold-append}
use Rattle.lexer.specs.declared.kinds.Kind.{Kind}
use Rattle.lexer.specs.declared.kinds.Kind.TheVariants as kind
use Rattle.lexer.specs.declared.kinds.Symbol.{Symbol}
use Rattle.lexer.specs.declared.kinds.Symbol.TheVariants as symbol
use Rattle.lexer.specs.declared.kinds.Token.{Token}
use Rattle.lexer.specs.Name.{begins_name, is_identifier, is_name, is_name_character}
use Rattle.lexer.specs.Words.{reserved, word_text}
use Rattle.lexer.specs.Number.{greatest_number}
use Rattle.lexer.specs.Token.{Bytes, Spells, EndsBefore, IsLongest, IsGap, nothing, space, begins_with, begins_comment, folded, is_word_byte, number_of, symbol_text}
use Rattle.lexer.specs.Tokens.{IsToken, AreTokensBetween, kinds_of}
use Rattle.lexer.specs.Reading.{symbol_of_two}
use Rattle.lexer.specs.Printing.{kind_text, spaced_text, text_of, IsKind, AreKinds, HasKinds}
use Rattle.lexer.proofs.SymbolSound.{longest_alone, longest_of_two}
use Rattle.lexer.proofs.Whole.{IsCut, cut}
use Rattle.lexer.proofs.WordTable.{is_identifier-word_text}

-- ---- each kind's text spells it

upper_stays : (b : ℕ) → is_name_character b ≡ true → to_ascii_uppercase b ≡ b
upper_stays b h = grind (arith, nat_tests)

folded-identifier : (text : Bytes) → list_all is_name_character text ≡ true → folded text ≡ text
folded-identifier [] h = refl
folded-identifier (b ∷ bs) h =
    let parts = and_parts (is_name_character b) (list_all is_name_character bs) h in
    let first : to_ascii_uppercase b ≡ b = upper_stays b parts.0 in
    let others : folded bs ≡ bs = folded-identifier bs parts.1 in
    cc

pub is_identifier-is_name : (name : Bytes) → is_name name ≡ true → is_identifier name ≡ true
is_identifier-is_name name h = (and_parts (nat_le (length name) 64) (is_identifier name) (and_parts (nat_le (length name) 64 && is_identifier name) (is_none (reserved name)) h).0).1

folded-is_identifier : (text : Bytes) → is_identifier text ≡ true → folded text ≡ text
folded-is_identifier text h = folded-identifier text (and_parts (begins_name text) (list_all is_name_character text) h).1

record IsDecimal (n : ℕ) (digits : Bytes) : Type 0 where
  all : list_all is_ascii_digit digits ≡ true
  first : begins_with is_ascii_digit digits ≡ true
  value : number_of digits ≡ n

digit_code : (d : ℕ) → d < 10 → is_ascii_digit (48 + d) ≡ true
digit_code d h = grind (arith, nat_tests)

first-append : (ds : Bytes) (d : ℕ) → begins_with is_ascii_digit ds ≡ true → begins_with is_ascii_digit (ds ++ d ∷ []) ≡ true
first-append [] d h = cc
first-append (c ∷ ds) d h = h

number_of-append : (ds : Bytes) (d : ℕ) → number_of (ds ++ d ∷ []) ≡ 10 * number_of ds + (d - 48)
number_of-append ds d = fold-append (λ n digit. 10 * n + (digit - 48)) 0 ds (d ∷ [])

decimal_spells : (n : ℕ) → n ≤ greatest_number → IsDecimal n (decimal n)
decimal_spells n small = decimal_by_steps IsDecimal
    (λ k below. record { all = rw (digit_code k below) refl; first = digit_code k below; value = omega arith })
    (λ k ds above before.
    let below : k % 10 < 10 = omega arith in
    record {
      all = list_all-append is_ascii_digit ds ((48 + k % 10) ∷ []) ∙ rw (before.all, digit_code (k % 10) below) refl;
      first = first-append ds (48 + k % 10) before.first;
      value = number_of-append ds (48 + k % 10) ∙ rw before.value (omega arith);
    })
    n (omega arith)

kind_spells : (k : Kind) → IsKind k → Spells (kind_text k) k
kind_spells (kind.Word w) h = folded-is_identifier (word_text w) (is_identifier-word_text w)
kind_spells (kind.Name name) h = (folded-is_identifier name (is_identifier-is_name name h), h)
kind_spells (kind.Number n) h =
    let spells = decimal_spells n h in (
      and_from (begins_with is_ascii_digit (decimal n)) (list_all is_ascii_digit (decimal n)) spells.first spells.all,
      subst (λ v. v ≤ greatest_number) (sym spells.value) h,
      sym spells.value,
    )
kind_spells (kind.Text characters) h = (refl, h)
kind_spells (kind.Symbol s) h = refl

-- ---- nothing that follows makes it longer

no_first : (p : ℕ → Bool) (kinds : List Kind) → p 32 ≡ false → begins_with p (spaced_text kinds) ≡ false
no_first p [] h = refl
no_first p (k ∷ kinds) h = h

first_space : (kinds : List Kind) (c : ℕ) (cs : Bytes) → spaced_text kinds ≡ c ∷ cs → c ≡ 32
first_space [] c cs e = cc
first_space (k ∷ kinds) c cs e = cc

-- no symbol goes on with a space
alone_ends : (b : ℕ) (s : Symbol) (kinds : List Kind) → b ∷ [] ≡ symbol_text s → symbol_of_two b 32 ≡ None → IsLongest s (spaced_text kinds)
alone_ends b s kinds own none = longest_alone b s (spaced_text kinds) own (λ c cs e. subst (λ d. symbol_of_two b d ≡ None) (sym (first_space kinds c cs e)) none)

symbol_ends : (s : Symbol) (kinds : List Kind) → IsLongest s (spaced_text kinds)
symbol_ends symbol.LeftParenthesis kinds = alone_ends 40 symbol.LeftParenthesis kinds refl refl
symbol_ends symbol.RightParenthesis kinds = alone_ends 41 symbol.RightParenthesis kinds refl refl
symbol_ends symbol.Asterisk kinds = alone_ends 42 symbol.Asterisk kinds refl refl
symbol_ends symbol.Plus kinds = alone_ends 43 symbol.Plus kinds refl refl
symbol_ends symbol.Comma kinds = alone_ends 44 symbol.Comma kinds refl refl
symbol_ends symbol.Minus kinds = alone_ends 45 symbol.Minus kinds refl refl
symbol_ends symbol.Period kinds = alone_ends 46 symbol.Period kinds refl refl
symbol_ends symbol.Solidus kinds = alone_ends 47 symbol.Solidus kinds refl refl
symbol_ends symbol.Semicolon kinds = alone_ends 59 symbol.Semicolon kinds refl refl
symbol_ends symbol.Less kinds = alone_ends 60 symbol.Less kinds refl refl
symbol_ends symbol.Equal kinds = alone_ends 61 symbol.Equal kinds refl refl
symbol_ends symbol.Greater kinds = alone_ends 62 symbol.Greater kinds refl refl
symbol_ends symbol.LessOrEqual kinds = longest_of_two 60 61 symbol.LessOrEqual (spaced_text kinds) refl
symbol_ends symbol.NotEqual kinds = longest_of_two 60 62 symbol.NotEqual (spaced_text kinds) refl
symbol_ends symbol.GreaterOrEqual kinds = longest_of_two 62 61 symbol.GreaterOrEqual (spaced_text kinds) refl
symbol_ends symbol.Concatenation kinds = longest_of_two 124 124 symbol.Concatenation (spaced_text kinds) refl

kind_ends : (k : Kind) (kinds : List Kind) → EndsBefore (spaced_text kinds) k
kind_ends (kind.Word w) kinds = no_first is_word_byte kinds refl
kind_ends (kind.Name name) kinds = no_first is_word_byte kinds refl
kind_ends (kind.Number n) kinds = no_first is_word_byte kinds refl
kind_ends (kind.Text characters) kinds = no_first (λ b. eqb b 39) kinds refl
kind_ends (kind.Symbol s) kinds = symbol_ends s kinds

-- ---- no comment begins with it

no_comment-first : (bytes rest : Bytes) → begins_with (λ b. eqb b 45) bytes ≡ false → (0 < length bytes) → begins_comment (bytes ++ rest) ≡ false
no_comment-first [] rest h some = absurd (omega arith)
no_comment-first (b ∷ bs) rest h some = and_left (eqb b 45) (begins_with (λ c. eqb c 45) (bs ++ rest)) h

letter_no_minus : (b : ℕ) → is_ascii_uppercase b ≡ true → eqb b 45 ≡ false
letter_no_minus b h = grind (arith, nat_tests)

digit_no_minus : (b : ℕ) → is_ascii_digit b ≡ true → eqb b 45 ≡ false
digit_no_minus b h = grind (arith, nat_tests)

identifier_no_comment : (text rest : Bytes) → begins_name text ≡ true → begins_comment (text ++ rest) ≡ false
identifier_no_comment [] rest h = cc
identifier_no_comment (b ∷ bs) rest h = and_left (eqb b 45) (begins_with (λ c. eqb c 45) (bs ++ rest)) (letter_no_minus b h)

digits_no_comment : (text rest : Bytes) → begins_with is_ascii_digit text ≡ true → begins_comment (text ++ rest) ≡ false
digits_no_comment [] rest h = cc
digits_no_comment (b ∷ bs) rest h = and_left (eqb b 45) (begins_with (λ c. eqb c 45) (bs ++ rest)) (digit_no_minus b h)

kind_no_comment : (k : Kind) (kinds : List Kind) → IsKind k → begins_comment (kind_text k ++ spaced_text kinds) ≡ false
kind_no_comment (kind.Word w) kinds h = identifier_no_comment (word_text w) (spaced_text kinds) (and_parts (begins_name (word_text w)) (list_all is_name_character (word_text w)) (is_identifier-word_text w)).0
kind_no_comment (kind.Name name) kinds h = identifier_no_comment name (spaced_text kinds) (and_parts (begins_name name) (list_all is_name_character name) (is_identifier-is_name name h)).0
kind_no_comment (kind.Number n) kinds h = digits_no_comment (decimal n) (spaced_text kinds) (decimal_spells n h).first
kind_no_comment (kind.Text characters) kinds h = refl
kind_no_comment (kind.Symbol symbol.Minus) kinds h = no_first (λ b. eqb b 45) kinds refl
kind_no_comment (kind.Symbol _) kinds h = refl

-- ---- the tokens and their places

places : Bytes → List Kind → List Token
places text [] = []
places text (k ∷ kinds) = record {
  kind = k;
  start = length text - length (kind_text k ++ spaced_text kinds);
  end = length text - length (spaced_text kinds);
} ∷ places text kinds

kinds-places : (text : Bytes) (kinds : List Kind) → kinds_of (places text kinds) ≡ kinds
unfolding places
kinds-places text [] = refl
kinds-places text (k ∷ kinds) = ap (λ others. k ∷ others) (kinds-places text kinds)

-- one token behind a gap
token_there : (text gap : Bytes) (k : Kind) (kinds : List Kind) (from : ℕ) → from ≤ length text → IsKind k
    → IsGap gap (kind_text k ++ spaced_text kinds) → drop from text ≡ gap ++ (kind_text k ++ spaced_text kinds)
    → IsToken text from (record { kind = k; start = length text - length (kind_text k ++ spaced_text kinds); end = length text - length (spaced_text kinds) })
    × (drop (length text - length (spaced_text kinds)) text ≡ spaced_text kinds) × (length text - length (spaced_text kinds) ≤ length text)
token_there text gap k kinds from within is_kind is_gap e =
    let here : Bytes = kind_text k ++ spaced_text kinds in
    let before : IsCut text from (length text - length here) gap here = cut text gap here from within e in
    let own : IsCut text (length text - length here) (length text - length (spaced_text kinds)) (kind_text k) (spaced_text kinds) =
    cut text (kind_text k) (spaced_text kinds) (length text - length here) before.within before.left in (
      record {
        after = before.order;
        within = own.within;
        gap = rw (before.between, before.left) is_gap;
        no_comment = rw before.left (kind_no_comment k kinds is_kind);
        spelling = rw own.between (kind_spells k is_kind);
        ends = rw own.left (kind_ends k kinds);
      },
      own.left,
      own.within,
    )

spaced_tokens : (text : Bytes) (kinds : List Kind) (from : ℕ) → from ≤ length text → drop from text ≡ spaced_text kinds → AreKinds kinds
    → AreTokensBetween text from (places text kinds) (length text)
unfolding places
spaced_tokens text [] from within e are = let none : length text - from ≡ 0 = sym (length-drop from text) ∙ ap length e in omega arith
spaced_tokens text (k ∷ kinds) from within e are =
    let there = token_there text (32 ∷ []) k kinds from within are.0 (space 32 [] (kind_text k ++ spaced_text kinds) refl (nothing (kind_text k ++ spaced_text kinds))) e in
    (there.0, spaced_tokens text kinds (length text - length (spaced_text kinds)) there.2 there.1 are.1)

pub HasKinds-text_of : (kinds : List Kind) → AreKinds kinds → HasKinds (text_of kinds) kinds
unfolding places
HasKinds-text_of [] are = record { tokens = []; are = record { last = 0; before = refl; gap = nothing [] }; kinds_are = refl }
HasKinds-text_of (k ∷ kinds) are =
    let text : Bytes = text_of (k ∷ kinds) in
    let there = token_there text [] k kinds 0 (omega arith) are.0 (nothing (kind_text k ++ spaced_text kinds)) refl in
    record {
      tokens = places text (k ∷ kinds);
      are = record {
        last = length text;
        before = (there.0, spaced_tokens text kinds (length text - length (spaced_text kinds)) there.2 there.1 are.1);
        gap = rw (drop_all (length text) text (omega arith)) (nothing []);
      };
      kinds_are = kinds-places text (k ∷ kinds);
    }

pub read_again : (kinds : List Kind) (text : Bytes) → text ≡ text_of kinds → AreKinds kinds → HasKinds text kinds
read_again kinds text e are = subst (λ bytes. HasKinds bytes kinds) (sym e) (HasKinds-text_of kinds are)
