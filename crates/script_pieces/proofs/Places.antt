-- How places follow one another, and where a piece ends.
use Rattle.std.proofs.Common.{◌≡◌, ◌≢◌, ℕ, Bool, true, false, List, [], ◌∷◌, ◌++◌, sym, ap, ◌∙◌, subst, refl, append_assoc, append-nil, ◌==◌, if◌then◌else◌, Contains, slice_index, get_or, arith, inl, inr}
use Rattle.std.proofs.lemmas.List.Elements.{Contains-append_cases}
use Rattle.std.proofs.lemmas.Bool.{eqb-true, eqb-false, true≢false}
use Rattle.script_pieces.specs.declared.place.Place.{Place}
use Rattle.script_pieces.specs.declared.place.Place.TheVariants.{Outside, AfterMinus, InString, InComment}
use Rattle.script_pieces.specs.Pieces.{semicolon, quote, minus, newline, BeginsComment, IsUnclosed, IsUnended, Passes, here, string, comment, byte}
use Rattle.script_pieces.specs.Place.{begun_by, place_after, is_outside, IsInString, IsInComment, IsAfterMinus, LeadsTo}

pub Passes-trans : (xs ys zs : List ℕ) → Passes xs ys → Passes ys zs → Passes xs zs
Passes-trans xs ys zs (here bytes) q = q
Passes-trans xs ys zs (string bytes following rest s p) q = string _ _ _ s (Passes-trans _ _ _ p q)
Passes-trans xs ys zs (comment bytes following rest s p) q = comment _ _ _ s (Passes-trans _ _ _ p q)
Passes-trans xs ys zs (byte b following rest n m c p) q = byte _ _ _ n m c (Passes-trans _ _ _ p q)

-- ---- one more byte outside strings and comments

head_is : (b : ℕ) (rest more : List ℕ) (c : ℕ) → b ∷ rest ≡ c ∷ more → b ≡ c
head_is b rest more c e = ap (λ l. slice_index l 0) e

-- no comment begins with another byte than a minus
pub no_comment : (b : ℕ) (rest : List ℕ) → b ≢ minus → BeginsComment (b ∷ rest) → ⊥
no_comment b rest other begins = other (head_is b rest (minus ∷ begins.0) minus begins.1)

-- a minus before another byte begins no comment
pub no_comment_yet : (b : ℕ) (rest : List ℕ) → b ≢ minus → BeginsComment (minus ∷ b ∷ rest) → ⊥
no_comment_yet b rest other begins = other (ap (λ l. slice_index l 1) begins.1)

-- a byte that is none of the four goes on
plain_byte : (b : ℕ) (rest : List ℕ) → b ≢ semicolon → b ≢ quote → b ≢ minus → Passes (b ∷ rest) rest
plain_byte b rest no_end no_quote no_minus = byte b rest rest no_end no_quote (no_comment b rest no_minus) (here rest)

-- a minus before another byte goes on too
plain_minus : (b : ℕ) (rest : List ℕ) → b ≢ minus → Passes (minus ∷ b ∷ rest) (b ∷ rest)
plain_minus b rest other = byte minus (b ∷ rest) (b ∷ rest) (λ e. cc e) (λ e. cc e) (no_comment_yet b rest other) (here (b ∷ rest))

-- after bytes that lead outside, or behind a minus there, another byte than a minus is reached
reaches : (place : Place) (bytes : List ℕ) (b : ℕ) (rest : List ℕ) → is_outside place ≡ true → LeadsTo place bytes → b ≢ minus
    → Passes (bytes ++ b ∷ rest) (b ∷ rest)
reaches Outside bytes b rest outside leads other = leads (b ∷ rest)
reaches AfterMinus bytes b rest outside leads other =
    rw (leads.whole, append_assoc leads.before (minus ∷ []) (b ∷ rest))
    (Passes-trans _ _ _ (leads.passed (minus ∷ b ∷ rest)) (plain_minus b rest other))
reaches InString bytes b rest outside leads other = cc outside
reaches InComment bytes b rest outside leads other = cc outside

-- a semicolon there ends the piece
pub ends_piece : (place : Place) (bytes rest : List ℕ) → is_outside place ≡ true → LeadsTo place bytes
    → Passes (bytes ++ semicolon ∷ rest) (semicolon ∷ rest)
ends_piece place bytes rest outside leads = reaches place bytes semicolon rest outside leads (λ e. cc e)

-- ---- one more byte

after_plain : (place : Place) (bytes : List ℕ) (b : ℕ) → is_outside place ≡ true → LeadsTo place bytes → b ≢ semicolon → b ≢ quote → b ≢ minus
    → LeadsTo Outside (bytes ++ b ∷ [])
after_plain place bytes b outside leads no_end no_quote no_minus rest =
    rw (append_assoc bytes (b ∷ []) rest)
    (Passes-trans _ _ _ (reaches place bytes b rest outside leads no_minus) (plain_byte b rest no_end no_quote no_minus))

pub no_member : (x : ℕ) → Contains [] x → ⊥
no_member x c = absurd (omega (arith, c.1))

after_quote : (place : Place) (bytes : List ℕ) → is_outside place ≡ true → LeadsTo place bytes → LeadsTo InString (bytes ++ quote ∷ [])
after_quote place bytes outside leads = record {
  before = bytes;
  inside = [];
  whole = refl;
  passed = λ rest. reaches place bytes quote rest outside leads (λ e. cc e);
  unclosed = no_member _;
}

close_string : (bytes : List ℕ) → LeadsTo InString bytes → LeadsTo Outside (bytes ++ quote ∷ [])
close_string bytes leads rest =
    rw (append_assoc bytes (quote ∷ []) rest, leads.whole, append_assoc leads.before (quote ∷ leads.inside) (quote ∷ rest))
    (Passes-trans _ _ _ (leads.passed (leads.inside ++ quote ∷ rest))
    (string _ rest rest (record { inside = leads.inside; closed = leads.unclosed; whole = refl }) (here rest)))

close_comment : (bytes : List ℕ) → LeadsTo InComment bytes → LeadsTo Outside (bytes ++ newline ∷ [])
close_comment bytes leads rest =
    rw (append_assoc bytes (newline ∷ []) rest, leads.whole, append_assoc leads.before (minus ∷ minus ∷ leads.inside) (newline ∷ rest))
    (Passes-trans _ _ _ (leads.passed (leads.inside ++ newline ∷ rest))
    (comment _ rest rest (record { inside = leads.inside; closed = leads.unclosed; whole = refl }) (here rest)))

after_minus : (bytes : List ℕ) → LeadsTo Outside bytes → LeadsTo AfterMinus (bytes ++ minus ∷ [])
after_minus bytes leads = record { before = bytes; whole = refl; passed = leads }

-- a second minus begins a comment
begin_comment : (bytes : List ℕ) → LeadsTo AfterMinus bytes → LeadsTo InComment (bytes ++ minus ∷ [])
begin_comment bytes leads = record {
  before = leads.before;
  inside = [];
  whole = ap (λ l. l ++ minus ∷ []) leads.whole ∙ append_assoc leads.before (minus ∷ []) (minus ∷ []);
  passed = λ rest. leads.passed (minus ∷ minus ∷ rest);
  unclosed = no_member _;
}

grown : (before inside : List ℕ) (front bytes : List ℕ) (b : ℕ) → bytes ≡ before ++ (front ++ inside) → bytes ++ b ∷ [] ≡ before ++ (front ++ (inside ++ b ∷ []))
grown before inside front bytes b e =
    ap (λ l. l ++ b ∷ []) e ∙ append_assoc before (front ++ inside) (b ∷ []) ∙ ap (λ l. before ++ l) (append_assoc front inside (b ∷ []))

pub still_open : (inside : List ℕ) (b c : ℕ) → (Contains inside c → ⊥) → b ≢ c → Contains (inside ++ b ∷ []) c → ⊥
still_open inside b c unclosed other has =
    elim (Contains-append_cases inside (b ∷ []) c has) [ inl h ↦ unclosed h | inr h ↦ other (only_member b c h) ]
  where
    only_member : (b c : ℕ) → Contains (b ∷ []) c → b ≡ c
    only_member b c h = let first : h.0 ≡ 0 = omega (arith, h.1) in subst (λ i. get_or (b ∷ []) i c ≡ c) first h.2

in_string : (bytes : List ℕ) (b : ℕ) → LeadsTo InString bytes → b ≢ quote → LeadsTo InString (bytes ++ b ∷ [])
in_string bytes b leads other = record {
  before = leads.before;
  inside = leads.inside ++ b ∷ [];
  whole = grown leads.before leads.inside (quote ∷ []) bytes b leads.whole;
  passed = leads.passed;
  unclosed = still_open leads.inside b quote leads.unclosed other;
}

in_comment : (bytes : List ℕ) (b : ℕ) → LeadsTo InComment bytes → b ≢ newline → LeadsTo InComment (bytes ++ b ∷ [])
in_comment bytes b leads other = record {
  before = leads.before;
  inside = leads.inside ++ b ∷ [];
  whole = grown leads.before leads.inside (minus ∷ minus ∷ []) bytes b leads.whole;
  passed = leads.passed;
  unclosed = still_open leads.inside b newline leads.unclosed other;
}

-- ---- any byte that ends no piece

-- outside, by whether it is a minus or a quote
outside_on : (place : Place) (bytes : List ℕ) (b : ℕ) (m q : Bool) → (b == minus) ≡ m → (b == quote) ≡ q → is_outside place ≡ true
    → (m ≡ true → LeadsTo Outside bytes) → LeadsTo place bytes → b ≢ semicolon
    → LeadsTo (if m then AfterMinus else (if q then InString else Outside)) (bytes ++ b ∷ [])
outside_on place bytes b true q m_is q_is outside minus_case leads no_end =
    rw (eqb-true b minus m_is) (after_minus bytes (minus_case refl))
outside_on place bytes b false true m_is q_is outside minus_case leads no_end =
    rw (eqb-true b quote q_is) (after_quote place bytes outside leads)
outside_on place bytes b false false m_is q_is outside minus_case leads no_end =
    after_plain place bytes b outside leads no_end (eqb-false b quote q_is) (eqb-false b minus m_is)

second_minus : (bytes : List ℕ) (b : ℕ) (m : Bool) → (b == minus) ≡ m → LeadsTo AfterMinus bytes → b ≢ semicolon
    → LeadsTo (if m then InComment else begun_by b) (bytes ++ b ∷ [])
second_minus bytes b true m_is leads no_end = rw (eqb-true b minus m_is) (begin_comment bytes leads)
second_minus bytes b false m_is leads no_end =
    outside_on AfterMinus bytes b (b == minus) (b == quote) refl refl refl (λ e. absurd (true≢false (sym e ∙ m_is))) leads no_end

string_on : (bytes : List ℕ) (b : ℕ) (q : Bool) → (b == quote) ≡ q → LeadsTo InString bytes → LeadsTo (if q then Outside else InString) (bytes ++ b ∷ [])
string_on bytes b true q_is leads = rw (eqb-true b quote q_is) (close_string bytes leads)
string_on bytes b false q_is leads = in_string bytes b leads (eqb-false b quote q_is)

comment_on : (bytes : List ℕ) (b : ℕ) (n : Bool) → (b == newline) ≡ n → LeadsTo InComment bytes → LeadsTo (if n then Outside else InComment) (bytes ++ b ∷ [])
comment_on bytes b true n_is leads = rw (eqb-true b newline n_is) (close_comment bytes leads)
comment_on bytes b false n_is leads = in_comment bytes b leads (eqb-false b newline n_is)

-- what was read leads to the place after one more byte, unless that byte ends the piece
pub leads_on : (place : Place) (bytes : List ℕ) (b : ℕ) → LeadsTo place bytes → (is_outside place ≡ true → b ≢ semicolon)
    → LeadsTo (place_after place b) (bytes ++ b ∷ [])
leads_on Outside bytes b leads no_end = outside_on Outside bytes b (b == minus) (b == quote) refl refl refl (λ _. leads) leads (no_end refl)
leads_on AfterMinus bytes b leads no_end = second_minus bytes b (b == minus) refl leads (no_end refl)
leads_on InString bytes b leads no_end = string_on bytes b (b == quote) refl leads
leads_on InComment bytes b leads no_end = comment_on bytes b (b == newline) refl leads

-- ---- the last piece, and the first byte

pub leads_from_nothing : LeadsTo Outside []
leads_from_nothing rest = here rest

lone_minus : (more : List ℕ) → minus ∷ [] ≡ minus ∷ minus ∷ more → ⊥
lone_minus more e = cc e

unended_outside : (bytes : List ℕ) → LeadsTo Outside bytes → Passes bytes []
unended_outside bytes leads = subst (λ l. Passes l []) (append-nil bytes) (leads [])

unended_minus : (bytes : List ℕ) → IsAfterMinus bytes → Passes bytes []
unended_minus bytes leads =
    rw (leads.whole)
    (Passes-trans _ _ _ (leads.passed (minus ∷ [])) (byte minus [] [] (λ e. cc e) (λ e. cc e) (λ begins. lone_minus begins.0 begins.1) (here [])))

unended_string : (bytes : List ℕ) → IsInString bytes → IsUnclosed bytes
unended_string bytes leads = record {
  rest = quote ∷ leads.inside;
  before = rw (leads.whole) (leads.passed leads.inside);
  open_end = inl (leads.inside, refl, leads.unclosed);
}

unended_comment : (bytes : List ℕ) → IsInComment bytes → IsUnclosed bytes
unended_comment bytes leads = record {
  rest = minus ∷ minus ∷ leads.inside;
  before = rw (leads.whole) (leads.passed leads.inside);
  open_end = inr (leads.inside, refl, leads.unclosed);
}

-- a last piece that nothing ends
pub unended : (place : Place) (bytes : List ℕ) → LeadsTo place bytes → IsUnended bytes
unended Outside bytes leads = inl (unended_outside bytes leads)
unended AfterMinus bytes leads = inl (unended_minus bytes leads)
unended InString bytes leads = inr (unended_string bytes leads)
unended InComment bytes leads = inr (unended_comment bytes leads)
