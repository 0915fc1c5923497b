-- A piece asks for one thing.
use Rattle.std.proofs.Common.{◌≡◌, ◌<◌, arith, ℕ, List, [], ◌∷◌, ◌++◌, sym, ap, ◌∙◌, subst, refl, inl, inr}
use Rattle.std.specs.Str.Parse.{digits_value}
use Rattle.script_pieces.specs.Pieces.{semicolon, minus, at_sign, IsComment}
use Rattle.script_pieces.specs.PieceMeaning.{Skips, here, space, comment, IsBlank, BeginsFirmly, IsChoice, IsFlush, Asks, BodyAsks, text_of_call, Request, Nothing, Chooses, Calls, ChoosesAndCalls, Flushes, Wrong}
use Rattle.script_pieces.proofs.Skipping.{after_space, after_comment, first_is}
use Rattle.script_pieces.proofs.Cutting.{one_run, ends_stop, no_flush_digit, first_digit}

comment_not_firm : (bytes following : List ℕ) → IsComment bytes following → BeginsFirmly bytes → ⊥
comment_not_firm [] following is firm = cc is.whole
comment_not_firm (b ∷ more) following is firm = firm.1 following is

firm_stays : (xs rest : List ℕ) → Skips xs rest → BeginsFirmly xs → rest ≡ xs
firm_stays xs rest (here bytes) firm = refl
firm_stays xs rest (space b following rest' is p) firm = absurd (firm.0 is)
firm_stays xs rest (comment bytes following rest' is p) firm = absurd (comment_not_firm bytes following is firm)

-- what is left behind blanks is one list
one_body : (xs body other : List ℕ) → Skips xs body → BeginsFirmly body → Skips xs other → BeginsFirmly other → body ≡ other
one_body xs body other (here bytes) firm q firm' = sym (firm_stays xs other q firm)
one_body xs body other (space b following rest is p) firm q firm' =
    elim (after_space (b ∷ following) other q b following refl is) [
      | inl e ↦ let P : List ℕ → Type 0 = λ l. BeginsFirmly l in let f : BeginsFirmly (b ∷ following) = subst P e firm' in absurd (f.0 is)
      | inr q' ↦ one_body following body other p firm q' firm'
    ]
one_body xs body other (comment bytes following rest is p) firm q firm' =
    elim (after_comment bytes other q following is) [
      | inl e ↦ let P : List ℕ → Type 0 = λ l. BeginsFirmly l in absurd (comment_not_firm bytes following is (subst P e firm'))
      | inr q' ↦ one_body following body other p firm q' firm'
    ]

no_at : (b : ℕ) → b < 64 → b ≡ at_sign → ⊥
no_at b less e = absurd (omega (arith, less, e))

-- nothing blank begins with `@`
blank_no_at : (body : List ℕ) → BeginsFirmly body → IsBlank body → (following : List ℕ) → body ≡ at_sign ∷ following → ⊥
blank_no_at body firm blank following at =
    let same : blank.rest ≡ at_sign ∷ following = firm_stays body blank.rest blank.skipped firm ∙ at in
    elim blank.finish [
      | inl e ↦ no_at 0 (omega arith) (first_is [] (at_sign ∷ following) (sym e ∙ same))
      | inr f ↦ elim f [
        | inl e ↦ no_at semicolon (omega arith) (first_is (semicolon ∷ []) (at_sign ∷ following) (sym e ∙ same))
        | inr o ↦ no_at minus (omega arith) (first_is (minus ∷ minus ∷ o.inside) (at_sign ∷ following) (sym o.whole ∙ same))
      ]
    ]

no_choice_flush : (body : List ℕ) (session : ℕ) (text : List ℕ) → IsChoice body session text → IsFlush body → ⊥
no_choice_flush body session text c f =
    let P : List ℕ → Type 0 = λ l. IsFlush l in
    no_flush_digit (c.digits ++ text) (first_digit c.digits text (c.digits ++ text) c.some c.decimal refl) (subst P c.whole f)

one_choice : (body : List ℕ) (session other : ℕ) (text more : List ℕ) → IsChoice body session text → IsChoice body other more → (session ≡ other) × (text ≡ more)
one_choice body session other text more c d =
    let whole : at_sign ∷ (c.digits ++ text) ≡ at_sign ∷ (d.digits ++ more) = sym c.whole ∙ d.whole in
    let tails : c.digits ++ text ≡ d.digits ++ more = cc whole in
    let both = one_run c.digits d.digits text more c.decimal d.decimal (ends_stop text c.ended) (ends_stop more d.ended) tails in
    (sym c.value ∙ ap (λ l. digits_value 10 l) both.0 ∙ d.value, both.1)

moved_blank : (xs ys : List ℕ) → xs ≡ ys → IsBlank xs → IsBlank ys
moved_blank xs ys e blank = let P : List ℕ → Type 0 = λ l. IsBlank l in subst P e blank

one_asked : (body : List ℕ) (one other : Request) → BeginsFirmly body → BodyAsks body one → BodyAsks body other → one ≡ other
one_asked body Nothing Nothing firm a b = refl
one_asked body Nothing (Chooses s) firm a b = absurd (blank_no_at body firm a _ b.1.whole)
one_asked body Nothing (Calls t) firm a b = absurd (b.0 a)
one_asked body Nothing (ChoosesAndCalls s t) firm a b = absurd (blank_no_at body firm a _ b.1.whole)
one_asked body Nothing Flushes firm a b = absurd (blank_no_at body firm a _ b.whole)
one_asked body Nothing Wrong firm a b = absurd (blank_no_at body firm a _ b.whole)
one_asked body (Chooses s) Nothing firm a b = absurd (blank_no_at body firm b _ a.1.whole)
one_asked body (Chooses s) (Chooses s') firm a b = ap (λ n. Chooses n) ((one_choice body s s' a.0 b.0 a.1 b.1).0)
one_asked body (Chooses s) (Calls t) firm a b = absurd (b.1 _ a.1.whole)
one_asked body (Chooses s) (ChoosesAndCalls s' t) firm a b = absurd (b.2 (moved_blank a.0 b.0 ((one_choice body s s' a.0 b.0 a.1 b.1).1) a.2))
one_asked body (Chooses s) Flushes firm a b = absurd (no_choice_flush body s a.0 a.1 b)
one_asked body (Chooses s) Wrong firm a b = absurd (b.no_choice s a.0 a.1)
one_asked body (Calls t) Nothing firm a b = absurd (a.0 b)
one_asked body (Calls t) (Chooses s) firm a b = absurd (a.1 _ b.1.whole)
one_asked body (Calls t) (Calls t') firm a b = ap (λ l. Calls l) (a.2 ∙ sym b.2)
one_asked body (Calls t) (ChoosesAndCalls s t') firm a b = absurd (a.1 _ b.1.whole)
one_asked body (Calls t) Flushes firm a b = absurd (a.1 _ b.whole)
one_asked body (Calls t) Wrong firm a b = absurd (a.1 _ b.whole)
one_asked body (ChoosesAndCalls s t) Nothing firm a b = absurd (blank_no_at body firm b _ a.1.whole)
one_asked body (ChoosesAndCalls s t) (Chooses s') firm a b = absurd (a.2 (moved_blank b.0 a.0 ((one_choice body s' s b.0 a.0 b.1 a.1).1) b.2))
one_asked body (ChoosesAndCalls s t) (Calls t') firm a b = absurd (b.1 _ a.1.whole)
one_asked body (ChoosesAndCalls s t) (ChoosesAndCalls s' t') firm a b =
    let both = one_choice body s s' a.0 b.0 a.1 b.1 in
    let texts : t ≡ t' = a.3 ∙ ap text_of_call both.1 ∙ sym b.3 in
    let sessions : s ≡ s' = both.0 in
    cc (sessions, texts)
one_asked body (ChoosesAndCalls s t) Flushes firm a b = absurd (no_choice_flush body s a.0 a.1 b)
one_asked body (ChoosesAndCalls s t) Wrong firm a b = absurd (b.no_choice s a.0 a.1)
one_asked body Flushes Nothing firm a b = absurd (blank_no_at body firm b _ a.whole)
one_asked body Flushes (Chooses s) firm a b = absurd (no_choice_flush body s b.0 b.1 a)
one_asked body Flushes (Calls t) firm a b = absurd (b.1 _ a.whole)
one_asked body Flushes (ChoosesAndCalls s t) firm a b = absurd (no_choice_flush body s b.0 b.1 a)
one_asked body Flushes Flushes firm a b = refl
one_asked body Flushes Wrong firm a b = absurd (b.no_flush a)
one_asked body Wrong Nothing firm a b = absurd (blank_no_at body firm b _ a.whole)
one_asked body Wrong (Chooses s) firm a b = absurd (a.no_choice s b.0 b.1)
one_asked body Wrong (Calls t) firm a b = absurd (b.1 _ a.whole)
one_asked body Wrong (ChoosesAndCalls s t) firm a b = absurd (a.no_choice s b.0 b.1)
one_asked body Wrong Flushes firm a b = absurd (a.no_flush b)
one_asked body Wrong Wrong firm a b = refl

-- a piece asks for one thing
pub one_request : (piece : List ℕ) (one other : Request) → Asks piece one → Asks piece other → one ≡ other
one_request piece one other a b =
    let same : b.body ≡ a.body = one_body piece b.body a.body b.begins.skipped b.begins.firm a.begins.skipped a.begins.firm in
    let P : List ℕ → Type 0 = λ l. BodyAsks l other in
    one_asked a.body one other a.begins.firm a.asks (subst P same b.asks)
