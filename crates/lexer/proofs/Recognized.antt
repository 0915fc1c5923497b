-- Texts that are nothing but given reserved words: what is read of them are their tokens.
use Rattle.std.proofs.Common.{◌≡◌, ◌≢◌, ℕ, ◌-◌, ◌≤◌, List, [], ◌∷◌, ◌++◌, map, length, take, drop, refl, sym, ap, ◌∙◌, subst, inl, inr, arith, append-nil}
use Rattle.std.specs.Prelude.{◌↔◌, IsTrue, ◌==◌}
use Rattle.std.specs.List.{take_while}
use Rattle.std.proofs.lemmas.Bool.{eqb-true}
use Rattle.std.proofs.lemmas.List.{take_rest, take_at}
use Rattle.lexer.specs.declared.kinds.Kind.{Kind}
use Rattle.lexer.specs.declared.kinds.Kind.TheVariants as kind
use Rattle.lexer.specs.declared.kinds.Symbol.TheVariants as symbol
use Rattle.lexer.specs.declared.kinds.Token.{Token}
use Rattle.lexer.specs.declared.words.Word.{Word}
use Rattle.lexer.specs.Words.{word_text}
use Rattle.lexer.specs.Token.{Bytes, IsGap, folded, is_word_byte}
use Rattle.lexer.specs.Tokens.{IsToken, AreTokensBetween, kinds_of}
use Rattle.lexer.specs.Reading.{Stop, Reads, next, gap}
use Rattle.lexer.specs.Recognition.{IsMadeOf, Follows, IsNothing, IsEnd}
use Rattle.lexer.proofs.Skipping.{Skips, gap_sound}
use Rattle.lexer.proofs.Steps.{Begins, IsStep, IsRun-take_while}
use Rattle.lexer.proofs.Sound.{next_sound}
use Rattle.lexer.proofs.WordAgain.{IsWord, IsWord-folded, next_word, take_while-run}
use Rattle.lexer.proofs.WordTable.{is_identifier-word_text}
use Rattle.lexer.proofs.Whole.{a_token, what_is_left}
use Rattle.lexer.proofs.Unique.{read, at_end}

-- ---- chains of tokens

-- the bytes are read as these kinds, and then nothing is left
abbrev Chain : List Kind → Bytes → Type 0
Chain [] bytes = next (gap bytes) ≡ Stop
Chain (k ∷ ks) bytes = (rest : Bytes) × (next (gap bytes) ≡ Reads k rest) × Chain ks rest

-- tokens of these kinds from a place on to the end of the text
record IsTail (text : Bytes) (from : ℕ) (kinds : List Kind) : Type 0 where
  tokens : List Token
  last : ℕ
  between : AreTokensBetween text from tokens last
  blank : IsGap (drop last text) []
  are : kinds_of tokens ≡ kinds

no_more : (bytes : Bytes) → next (gap bytes) ≡ Stop → IsGap bytes []
no_more bytes e =
    let skips : Skips bytes (gap bytes) = gap_sound bytes in
    let empty : gap bytes ≡ [] = subst (IsStep (gap bytes)) e (next_sound (gap bytes) skips.at_token) in
    let all : bytes ≡ skips.front = skips.text ∙ ap (λ b. skips.front ++ b) empty ∙ append-nil skips.front in
    subst (λ b. IsGap b []) (sym all) (subst (λ b. IsGap skips.front b) empty skips.gap)

tail : (text : Bytes) (kinds : List Kind) (from : ℕ) → from ≤ length text → Chain kinds (drop from text) → IsTail text from kinds
tail text [] from within e = record { tokens = []; last = from; between = refl; blank = no_more (drop from text) e; are = refl }
tail text (k ∷ ks) from within chain =
    let here : Bytes = gap (drop from text) in
    let there : here ≡ gap (take (length text - from) (drop from text)) = ap gap (sym (take_rest text from)) in
    let token : Token = record { kind = k; start = length text - length here; end = length text - length chain.0 } in
    let is : IsToken text from token = a_token text here [] from within there chain.0 k chain.1 in
    let left : drop token.end text ≡ chain.0 = what_is_left text here [] from within there chain.0 k chain.1 in
    let more = tail text ks token.end is.within (subst (Chain ks) (sym left) chain.2) in
    record { tokens = token ∷ more.tokens; last = more.last; between = (is, more.between); blank = more.blank; are = ap (λ l. k ∷ l) more.are }

chain_of : (text : Bytes) (tokens : List Token) (from last : ℕ) → AreTokensBetween text from tokens last → next (gap (drop last text)) ≡ Stop
    → Chain (kinds_of tokens) (drop from text)
chain_of text [] from last h e = ap (λ n. next (gap (drop n text))) h ∙ e
chain_of text (t ∷ ts) from last h e =
    let at = read text from t h.0 in
    (drop t.end text, ap next at.there ∙ at.step, chain_of text ts t.end last h.1 e)

-- ---- words

followed : (words : List Word) (ks : List Kind) (bytes rest : Bytes) → Follows words bytes rest → Chain ks rest → Chain (map kind.Word words ++ ks) bytes
followed [] ks bytes rest h chain = subst (Chain ks) (sym h) chain
followed (w ∷ ws) ks bytes rest h chain = (h.0, h.1, followed ws ks h.0 rest h.2 chain)

unfollowed : (words : List Word) (ks : List Kind) (bytes : Bytes) → Chain (map kind.Word words ++ ks) bytes → (rest : Bytes) × Follows words bytes rest × Chain ks rest
unfollowed [] ks bytes chain = (bytes, refl, chain)
unfollowed (w ∷ ws) ks bytes chain = let more = unfollowed ws ks chain.0 chain.2 in (more.0, (chain.0, chain.1, more.1), more.2)

same_rest : (k l : Kind) (rest left : Bytes) → Reads k rest ≡ Reads l left → rest ≡ left
same_rest k l rest left e = cc

follows_once : (words : List Word) (bytes rest other : Bytes) → Follows words bytes rest → Follows words bytes other → rest ≡ other
follows_once [] bytes rest other h k = sym h ∙ k
follows_once (w ∷ ws) bytes rest other h k =
    let e : h.0 ≡ k.0 = same_rest (kind.Word w) (kind.Word w) h.0 k.0 (sym h.1 ∙ k.1) in
    follows_once ws k.0 rest other (subst (λ b. Follows ws b rest) e h.2) k.2

-- ---- whole texts

made : (text rest : Bytes) (words : List Word) → Follows words text rest → IsEnd rest → IsMadeOf text words
made text rest words h end = elim end [
  | inl stop ↦
      let t = tail text (map kind.Word words ++ []) 0 (omega arith) (followed words [] text rest h stop) in
      record { tokens = t.tokens; are = record { last = t.last; before = t.between; gap = t.blank }; kinds = inl (t.are ∙ append-nil (map kind.Word words)) }
  | inr s ↦
      let t = tail text (map kind.Word words ++ kind.Symbol symbol.Semicolon ∷ []) 0 (omega arith) (followed words (kind.Symbol symbol.Semicolon ∷ []) text rest h s) in
      record { tokens = t.tokens; are = record { last = t.last; before = t.between; gap = t.blank }; kinds = inr t.are }
]

abbrev IsLed : Bytes → List Word → Type 0
IsLed text words = (rest : Bytes) × Follows words text rest × IsEnd rest

led : (text : Bytes) (words : List Word) → IsMadeOf text words → IsLed text words
led text words is =
    let chain = chain_of text is.tokens 0 is.are.last is.are.before (at_end text is.tokens is.are) in
    elim is.kinds [
      | inl e ↦
          let p = unfollowed words [] text (subst (λ ks. Chain ks text) (e ∙ sym (append-nil (map kind.Word words))) chain) in
          (p.0, p.1, inl p.2)
      | inr e ↦
          let p = unfollowed words (kind.Symbol symbol.Semicolon ∷ []) text (subst (λ ks. Chain ks text) e chain) in
          (p.0, p.1, inr p.2)
    ]

pub made_iff : (text rest : Bytes) (words : List Word) → Follows words text rest → IsEnd rest ↔ IsMadeOf text words
made_iff text rest words h =
    (made text rest words h, λ is. let l = led text words is in subst IsEnd (follows_once words text l.0 rest l.1 h) l.2)

pub unmade : (text : Bytes) (words : List Word) → ((rest : Bytes) → Follows words text rest → ⊥) → IsMadeOf text words → ⊥
unmade text words none is = let l = led text words is in none l.0 l.1

-- ---- one token

-- what is read behind white space and comments is right there
step_there : (text : Bytes) → IsStep (gap text) (next (gap text))
step_there text = next_sound (gap text) (gap_sound text).at_token

pub empty_there : (text : Bytes) → IsNothing text → gap text ≡ []
empty_there text e = subst (IsStep (gap text)) e (step_there text)

pub nothing_there : (text : Bytes) → gap text ≡ [] → IsNothing text
nothing_there text e = ap next e

pub nothing_iff : (text here : Bytes) → here ≡ gap text → IsTrue (length here == 0) ↔ IsNothing text
nothing_iff text [] e = (λ _. nothing_there text (sym e), λ _. refl)
nothing_iff text (b ∷ bs) e = (λ t. let none = eqb-true (length (b ∷ bs)) 0 t in absurd (omega arith), λ n. let no : b ∷ bs ≡ [] = e ∙ empty_there text n in cc)

pub semicolon_there : (text rest : Bytes) → next (gap text) ≡ Reads (kind.Symbol symbol.Semicolon) rest → gap text ≡ 59 ∷ rest
semicolon_there text rest e =
    let begins : Begins (gap text) (kind.Symbol symbol.Semicolon) rest = subst (IsStep (gap text)) e (step_there text) in
    begins.text ∙ ap (λ s. s ++ rest) begins.spells

pub a_semicolon : (rest : Bytes) → next (59 ∷ rest) ≡ Reads (kind.Symbol symbol.Semicolon) rest
a_semicolon [] = refl
a_semicolon (b ∷ bs) = refl

pub word_there : (text rest : Bytes) (w : Word) → next (gap text) ≡ Reads (kind.Word w) rest → (gap text ≡ []) → ⊥
word_there text rest w e none = let stop : Stop ≡ Reads (kind.Word w) rest = sym (nothing_there text none) ∙ e in cc

-- the run in front is what stands before the rest
run_taken : (bytes : Bytes) → take (length (take_while is_word_byte bytes)) bytes ≡ take_while is_word_byte bytes
run_taken bytes =
    let is_run = IsRun-take_while is_word_byte bytes in
    ap (take (length (take_while is_word_byte bytes))) is_run.text ∙ take_at (take_while is_word_byte bytes) (drop (length (take_while is_word_byte bytes)) bytes) _ refl

pub a_word : (first : ℕ) (after run rest : Bytes) (w : Word) → run ≡ take (length (take_while is_word_byte after)) after
    → rest ≡ drop (length (take_while is_word_byte after)) after → folded (first ∷ run) ≡ word_text w → next (first ∷ after) ≡ Reads (kind.Word w) rest
a_word first after run rest w front back e =
    let is_run = IsRun-take_while is_word_byte after in
    let own : run ≡ take_while is_word_byte after = front ∙ run_taken after in
    let all : first ∷ after ≡ (first ∷ run) ++ rest = ap (λ b. first ∷ b) (is_run.text ∙ rw (own, back) refl) in
    ap next all ∙ next_word (first ∷ run) rest w e (rw back is_run.ends)

pub no_other_word : (text : Bytes) (first : ℕ) (after run rest : Bytes) (w : Word) → gap text ≡ first ∷ after
    → run ≡ take (length (take_while is_word_byte after)) after → next (gap text) ≡ Reads (kind.Word w) rest → folded (first ∷ run) ≡ word_text w
no_other_word text first after own_run rest w there front e =
    let begins : Begins (gap text) (kind.Word w) rest = subst (IsStep (gap text)) e (step_there text) in
    let is_word : IsWord begins.spelling = IsWord-folded begins.spelling (rw begins.spells (is_identifier-word_text w)) in
    let both : first ∷ after ≡ is_word.first ∷ (is_word.run ++ rest) = sym there ∙ begins.text ∙ ap (λ s. s ++ rest) is_word.spelling_is in
    let same_first : first ≡ is_word.first = cc in
    let same_after : after ≡ is_word.run ++ rest = cc in
    let run : take_while is_word_byte after ≡ is_word.run = ap (take_while is_word_byte) same_after ∙ take_while-run is_word_byte is_word.run rest is_word.inside begins.ends in
    let same_word : first ∷ own_run ≡ begins.spelling = rw (front, run_taken after, same_first, run) (sym is_word.spelling_is) in
    subst (λ s. folded s ≡ word_text w) (sym same_word) begins.spells

-- ---- the loops

-- behind what was passed stand `left` words still
pub record IsAmong (words : List Word) (text : Bytes) (left : List Word) (rest : Bytes) : Type 0 where
  pub to_all : (end : Bytes) → Follows left rest end → Follows words text end
  pub to_left : (end : Bytes) → Follows words text end → Follows left rest end

pub among_all : (words : List Word) (text : Bytes) → IsAmong words text words text
among_all words text = record { to_all = λ end h. h; to_left = λ end h. h }

pub among_others : (words : List Word) (text : Bytes) (w : Word) (others : List Word) (rest more : Bytes) → IsAmong words text (w ∷ others) rest
    → next (gap rest) ≡ Reads (kind.Word w) more → IsAmong words text others more
among_others words text w others rest more is e = record {
  to_all = λ end h. is.to_all end (more, e, h);
  to_left = λ end h.
      let k = is.to_left end h in
      let same : k.0 ≡ more = same_rest (kind.Word w) (kind.Word w) k.0 more (sym k.1 ∙ e) in
      subst (λ b. Follows others b end) same k.2;
}

pub among_none : (words : List Word) (text : Bytes) (w : Word) (others : List Word) (rest : Bytes) → IsAmong words text (w ∷ others) rest
    → ((more : Bytes) → next (gap rest) ≢ Reads (kind.Word w) more) → (end : Bytes) → Follows words text end → ⊥
among_none words text w others rest is none end h = let k = is.to_left end h in none k.0 k.1

-- what is left of a run and of its text in upper case
pub record AreAmong (run text left more : Bytes) : Type 0 where
  pub to_all : folded left ≡ more → folded run ≡ text
  pub to_left : folded run ≡ text → folded left ≡ more

pub all_among : (run text : Bytes) → AreAmong run text run text
all_among run text = record { to_all = λ e. e; to_left = λ e. e }
