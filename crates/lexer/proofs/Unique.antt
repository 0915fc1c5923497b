-- A text has one list of tokens or one first fault, and never both.
use Rattle.std.proofs.Common.{◌≡◌, ◌≢◌, ℕ, ◌+◌, ◌-◌, ◌≤◌, ◌<◌, false, List, [], ◌∷◌, ◌++◌, Result, Ok, Err, length, drop, refl, sym, ap, ◌∙◌, subst, arith, append-nil, length-drop, ◌⊎◌, inl, inr}
use Rattle.std.specs.Prelude.{slice_range, IfOk, IfErr, MatchResult}
use Rattle.std.proofs.lemmas.List.{take-append-drop, drop-drop, length-take}
use Rattle.lexer.specs.declared.kinds.Kind.{Kind}
use Rattle.lexer.specs.declared.kinds.Token.{Token}
use Rattle.refusals.specs.declared.refusal.Refusal.{Refusal}
use Rattle.refusals.specs.declared.refusal.Refusal.TheVariants.{Memory}
use Rattle.lexer.specs.Token.{Bytes, begins_with, is_space}
use Rattle.lexer.specs.Tokens.{IsToken, AreTokens, AreTokensBetween, IsFirstFault}
use Rattle.lexer.specs.Reading.{Step, Stop, Reads, Fails, next, gap}
use Rattle.lexer.proofs.Skipping.{IsAtToken}
use Rattle.lexer.proofs.SkippingAgain.{gap-IsGap}
use Rattle.lexer.proofs.Again.{next_token, next_fault, taking, at_fault}

split : (text : Bytes) (from to : ℕ) → from ≤ to → slice_range text from to ++ drop to text ≡ drop from text
split text from to order =
    let place : from + (to - from) ≡ to = omega arith in
    let left : drop (to - from) (drop from text) ≡ drop to text = drop-drop (to - from) from text ∙ ap (λ n. drop n text) place in
    ap (λ more. slice_range text from to ++ more) (sym left) ∙ take-append-drop (to - from) (drop from text)

-- where a token stands, it is read
pub record IsRead (text : Bytes) (from : ℕ) (token : Token) : Type 0 where
  pub there : gap (drop from text) ≡ drop token.start text
  pub step : next (drop token.start text) ≡ Reads token.kind (drop token.end text)
  pub start_within : token.start ≤ length text
  pub end_within : token.end ≤ length text

pub read : (text : Bytes) (from : ℕ) (token : Token) → IsToken text from token → IsRead text from token
read text from token is_token =
    let spelling : Bytes = slice_range text token.start token.end in
    let takes = taking token.kind spelling is_token.spelling in
    let size : length spelling ≤ token.end - token.start = omega (arith, length-take (token.end - token.start) (drop token.start text)) in
    let some : 0 < length spelling = takes.some in
    let order : token.start ≤ token.end = omega arith in
    let within : token.end ≤ length text = is_token.within in
    let own : spelling ++ drop token.end text ≡ drop token.start text = split text token.start token.end order in
    let at_token : IsAtToken (drop token.start text) =
    record { no_space = subst (λ bytes. begins_with is_space bytes ≡ false) own (takes.no_space (drop token.end text)); no_comment = is_token.no_comment } in
    record {
      there = ap gap (sym (split text from token.start is_token.after)) ∙ gap-IsGap (slice_range text from token.start) (drop token.start text) is_token.gap at_token;
      step = ap next (sym own) ∙ next_token token.kind spelling (drop token.end text) is_token.spelling is_token.ends;
      start_within = omega arith;
      end_within = within;
    }

-- what comes after the last token
abbrev IsLast : Step → Type 0
IsLast Stop = Unit {0}
IsLast (Reads kind rest) = ⊥
IsLast (Fails refusal) = Unit {0}

same_place : (text : Bytes) (i j : ℕ) → i ≤ length text → j ≤ length text → drop i text ≡ drop j text → i ≡ j
same_place text i j at_i at_j e =
    let lengths : length text - i ≡ length text - j = sym (length-drop i text) ∙ ap length e ∙ length-drop j text in
    omega arith

reads_same_kind : (k l : Kind) (rest left : Bytes) → Reads k rest ≡ Reads l left → k ≡ l
reads_same_kind k l rest left e = cc

reads_same_rest : (k l : Kind) (rest left : Bytes) → Reads k rest ≡ Reads l left → rest ≡ left
reads_same_rest k l rest left e = cc

same_token : (text : Bytes) (from : ℕ) (t u : Token) → IsToken text from t → IsToken text from u → t ≡ u
same_token text from t u is_t is_u =
    let at_t = read text from t is_t in
    let at_u = read text from u is_u in
    let here : drop t.start text ≡ drop u.start text = sym at_t.there ∙ at_u.there in
    let steps : Reads t.kind (drop t.end text) ≡ Reads u.kind (drop u.end text) = sym at_t.step ∙ ap next here ∙ at_u.step in
    let kinds : t.kind ≡ u.kind = reads_same_kind t.kind u.kind (drop t.end text) (drop u.end text) steps in
    let starts : t.start ≡ u.start = same_place text t.start u.start at_t.start_within at_u.start_within here in
    let ends : t.end ≡ u.end = same_place text t.end u.end at_t.end_within at_u.end_within (reads_same_rest t.kind u.kind (drop t.end text) (drop u.end text) steps) in
    let all : ◌≡◌ {A = Token} (record { kind = t.kind; start = t.start; end = t.end }) (record { kind = u.kind; start = u.start; end = u.end }) = cc in
    all

unique : (text : Bytes) (ts us : List Token) (from a b : ℕ) (s r : Step) → AreTokensBetween text from ts a → next (gap (drop a text)) ≡ s → IsLast s
    → AreTokensBetween text from us b → next (gap (drop b text)) ≡ r → IsLast r → (ts ≡ us) × (s ≡ r)
unique text [] [] from a b s r h e last k f last' = (refl, sym e ∙ ap (λ n. next (gap (drop n text))) (sym h ∙ k) ∙ f)
unique text [] (u ∷ us) from a b s r h e last k f last' =
    let at_u = read text from u k.0 in
    let reads : s ≡ Reads u.kind (drop u.end text) = sym e ∙ ap (λ n. next (gap (drop n text))) (sym h) ∙ ap next at_u.there ∙ at_u.step in
    absurd (subst IsLast reads last)
unique text (t ∷ ts) [] from a b s r h e last k f last' =
    let at_t = read text from t h.0 in
    let reads : r ≡ Reads t.kind (drop t.end text) = sym f ∙ ap (λ n. next (gap (drop n text))) (sym k) ∙ ap next at_t.there ∙ at_t.step in
    absurd (subst IsLast reads last')
unique text (t ∷ ts) (u ∷ us) from a b s r h e last k f last' =
    let same : t ≡ u = same_token text from t u h.0 k.0 in
    let others = unique text ts us t.end a b s r h.1 e last (subst (λ v. AreTokensBetween text v.end us b) (sym same) k.1) f last' in
    let tails : ts ≡ us = others.0 in
    (cc, others.1)

pub at_end : (text : Bytes) (tokens : List Token) (are : AreTokens text tokens) → next (gap (drop are.last text)) ≡ Stop
at_end text tokens are =
    let none : gap (drop are.last text ++ []) ≡ [] = gap-IsGap (drop are.last text) [] are.gap (record { no_space = refl; no_comment = refl }) in
    ap (λ bytes. next (gap bytes)) (sym (append-nil (drop are.last text))) ∙ ap next none

at_first_fault : (text : Bytes) (refusal : Refusal) (first : IsFirstFault text refusal) → next (gap (drop first.last text)) ≡ Fails refusal
at_first_fault text refusal first =
    let here : gap (slice_range text first.last first.at ++ drop first.at text) ≡ drop first.at text =
    gap-IsGap (slice_range text first.last first.at) (drop first.at text) first.gap (at_fault (drop first.at text) refusal first.fault) in
    ap (λ bytes. next (gap bytes)) (sym (split text first.last first.at first.after)) ∙ ap next here ∙ next_fault (drop first.at text) refusal first.fault

pub AreTokens-unique : (text : Bytes) (ts us : List Token) → AreTokens text ts → AreTokens text us → ts ≡ us
AreTokens-unique text ts us are are' =
    (unique text ts us 0 are.last are'.last Stop Stop are.before (at_end text ts are) tt are'.before (at_end text us are') tt).0

pub no_fault : (text : Bytes) (ts : List Token) (refusal : Refusal) → AreTokens text ts → IsFirstFault text refusal → ⊥
no_fault text ts refusal are first =
    let same : Stop ≡ Fails refusal =
    (unique text ts first.tokens 0 are.last first.last Stop (Fails refusal) are.before (at_end text ts are) tt first.before (at_first_fault text refusal first) tt).1 in
    cc

pub IsFirstFault-unique : (text : Bytes) (r q : Refusal) → IsFirstFault text r → IsFirstFault text q → r ≡ q
IsFirstFault-unique text r q first other =
    let same : Fails r ≡ Fails q =
    (unique text first.tokens other.tokens 0 first.last other.last (Fails r) (Fails q) first.before (at_first_fault text r first) tt other.before (at_first_fault text q other) tt).1 in
    cc

memory_or : (refusal : Refusal) → (refusal ≡ Memory) ⊎ (refusal ≢ Memory)
memory_or Memory = inl refl
memory_or _ = inr (λ e. cc)

module _ {V : Type 0} (items : V → List Token) (text : Bytes) where
  pub only_tokens : (result : Result V Refusal) → IfOk result (λ v. AreTokens text (items v)) → IfErr result (λ r. r ≢ Memory → IsFirstFault text r)
      → (all : List Token) → AreTokens text all → MatchResult result (λ v. items v ≡ all) (λ r. r ≡ Memory)
  only_tokens (Ok v) found fault all are = AreTokens-unique text (items v) all found are
  only_tokens (Err r) found fault all are = elim (memory_or r) [ inl m ↦ m | inr n ↦ absurd (no_fault text all r are (fault n)) ]

  pub only_fault : (result : Result V Refusal) → IfOk result (λ v. AreTokens text (items v)) → IfErr result (λ r. r ≢ Memory → IsFirstFault text r)
      → (refusal : Refusal) → IsFirstFault text refusal → MatchResult result (λ v. ⊥) (λ r. (r ≡ Memory) ⊎ (r ≡ refusal))
  only_fault (Ok v) found fault refusal first = no_fault text (items v) refusal found first
  only_fault (Err r) found fault refusal first = elim (memory_or r) [ inl m ↦ inl m | inr n ↦ inr (IsFirstFault-unique text r refusal (fault n) first) ]
