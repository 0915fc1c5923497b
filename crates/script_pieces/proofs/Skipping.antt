-- White space and comments: what may be skipped, and what may not.
use Rattle.std.proofs.Common.{◌≡◌, ◌≢◌, ◌⊎◌, ℕ, Bool, true, false, ◌||◌, ◌==◌, if◌then◌else◌, List, [], ◌∷◌, ◌++◌, sym, ap, ◌∙◌, subst, refl, append_assoc, Contains, slice_index, inl, inr, arith}
use Rattle.std.proofs.lemmas.Bool.{eqb-true, eqb-false, true≢false}
use Rattle.std.proofs.lemmas.List.Elements.{Contains-append_right}
use Rattle.script_pieces.specs.declared.place.Place.{Place}
use Rattle.script_pieces.specs.declared.place.Place.TheVariants.{Outside, AfterMinus, InString, InComment}
use Rattle.script_pieces.specs.Pieces.{semicolon, quote, minus, newline, IsComment, BeginsComment}
use Rattle.script_pieces.specs.PieceMeaning.{IsSpace, Skips, here, space, comment, IsBlank, IsOpenComment, BeginsFirmly}
use Rattle.script_pieces.specs.Place.{begun_by, place_after, is_space, goes_on_blank}
use Rattle.script_pieces.specs.Cutter.{IsPending, MayGoOn, IsEnd}
use Rattle.script_pieces.proofs.Places.{no_comment, no_comment_yet, no_member, still_open}

-- ---- single bytes

pub first_is : (xs ys : List ℕ) → xs ≡ ys → slice_index xs 0 ≡ slice_index ys 0
first_is xs ys e = ap (λ l. slice_index l 0) e

pub space_true : (b : ℕ) → IsSpace b → is_space b ≡ true
space_true b s =
    elim s [ inl e ↦ rw e refl | inr t ↦ elim t [ inl e ↦ rw e refl | inr u ↦ elim u [ inl e ↦ rw e refl | inr e ↦ rw e refl ] ] ]

or_true : (p q : Bool) → (p || q) ≡ true → (p ≡ true) ⊎ (q ≡ true)
or_true true q e = inl refl
or_true false q e = inr e

pub true_space : (b : ℕ) → is_space b ≡ true → IsSpace b
true_space b e =
    elim (or_true (b == 32) (b == 9 || (b == 10 || b == 13)) e) [
      | inl p ↦ inl (eqb-true b 32 p)
      | inr f ↦ elim (or_true (b == 9) (b == 10 || b == 13) f) [
        | inl p ↦ inr (inl (eqb-true b 9 p))
        | inr g ↦ elim (or_true (b == 10) (b == 13) g)
            [ inl p ↦ inr (inr (inl (eqb-true b 10 p))) | inr p ↦ inr (inr (inr (eqb-true b 13 p))) ]
      ]
    ]

-- a byte that is not space by the test is none
pub no_space : (b : ℕ) → is_space b ≡ false → IsSpace b → ⊥
no_space b e s = true≢false (sym (space_true b s) ∙ e)

-- white space is no byte that the test refuses
pub space_is_not : (b c : ℕ) → is_space c ≡ false → IsSpace b → b ≡ c → ⊥
space_is_not b c e s same = let P : ℕ → Type 0 = λ n. IsSpace n in no_space c e (subst P same s)

-- ---- a firm beginning

pub comment_begins : (bytes following : List ℕ) → IsComment bytes following → BeginsComment bytes
comment_begins bytes following is = (is.inside ++ newline ∷ following, is.whole)

pub comment_first : (bytes following : List ℕ) → IsComment bytes following → slice_index bytes 0 ≡ minus
comment_first bytes following is = first_is _ _ is.whole

-- neither a space nor a comment stands first
pub record IsFirm (bytes : List ℕ) : Type 0 where
  pub no_space_first : IsSpace (slice_index bytes 0) → ⊥
  pub no_comment_first : BeginsComment bytes → ⊥

pub firm_begins : (bytes : List ℕ) → IsFirm bytes → BeginsFirmly bytes
firm_begins [] firm = tt
firm_begins (b ∷ more) firm = (firm.no_space_first, λ following is. firm.no_comment_first (comment_begins (b ∷ more) following is))

skips_firm : (xs rest : List ℕ) → Skips xs rest → IsFirm xs → rest ≡ xs
skips_firm xs rest (here bytes) firm = refl
skips_firm xs rest (space b following rest' is p) firm = absurd (firm.no_space_first is)
skips_firm xs rest (comment bytes following rest' is p) firm = absurd (firm.no_comment_first (comment_begins bytes following is))

-- a text stands first: neither white space, nor a comment, nor the end of the piece
pub record IsFirmText (bytes : List ℕ) : Type 0 where
  pub firm : IsFirm bytes
  pub some : bytes ≢ []
  pub no_end : bytes ≢ semicolon ∷ []

pub not_blank : (bytes : List ℕ) → IsFirmText bytes → IsBlank bytes → ⊥
not_blank bytes text blank =
    let same : blank.rest ≡ bytes = skips_firm bytes blank.rest blank.skipped text.firm in
    elim blank.finish [
      | inl e ↦ text.some (sym same ∙ e)
      | inr f ↦ elim f
          [ inl e ↦ text.no_end (sym same ∙ e) | inr o ↦ text.firm.no_comment_first (o.inside, sym same ∙ o.whole) ]
    ]

plain_text : (b : ℕ) (rest : List ℕ) → is_space b ≡ false → b ≢ minus → b ≢ semicolon → IsFirmText (b ∷ rest)
plain_text b rest no_blank no_minus no_semicolon = record {
  firm = record { no_space_first = no_space b no_blank; no_comment_first = no_comment b rest no_minus };
  some = λ e. cc e;
  no_end = λ e. no_semicolon (first_is _ _ e);
}

minus_text : (b : ℕ) (rest : List ℕ) → b ≢ minus → IsFirmText (minus ∷ b ∷ rest)
minus_text b rest no_minus = record {
  firm = record { no_space_first = no_space minus refl; no_comment_first = no_comment_yet b rest no_minus };
  some = λ e. cc e;
  no_end = λ e. cc e;
}

-- a minus at the end
pub lone_minus_text : (place : Place) (tail : List ℕ) → IsEnd place tail → IsFirmText (minus ∷ tail)
lone_minus_text place tail end =
    let P : List ℕ → Type 0 = λ l. IsFirmText (minus ∷ l) in
    elim end [
      | inl e ↦ subst P (sym e) (record {
        firm = record { no_space_first = no_space minus refl; no_comment_first = λ begins. cc (begins.1) };
        some = λ e'. cc e';
        no_end = λ e'. cc (first_is _ _ e');
      })
      | inr e ↦ subst P (sym e.0) (minus_text semicolon [] (λ e'. cc e'))
    ]

or_false : (p q : Bool) → (p || q) ≡ false → (p ≡ false) × (q ≡ false)
or_false true q e = cc e
or_false false q e = (refl, e)

-- a byte with which blanks do not go on makes a text
pub firm_on : (place : Place) (b : ℕ) (rest : List ℕ) → goes_on_blank place b ≡ false → MayGoOn place b
    → (pending : List ℕ) → IsPending place pending → IsFirmText (pending ++ b ∷ rest)
firm_on Outside b rest stops may pending is =
    let both = or_false (b == minus) (is_space b) stops in
    let P : List ℕ → Type 0 = λ l. IsFirmText (l ++ b ∷ rest) in
    subst P (sym is) (plain_text b rest both.1 (eqb-false b minus both.0) (may refl))
firm_on AfterMinus b rest stops may pending is =
    let P : List ℕ → Type 0 = λ l. IsFirmText (l ++ b ∷ rest) in
    subst P (sym is) (minus_text b rest (eqb-false b minus stops))
firm_on InString b rest stops may pending is = absurd is
firm_on InComment b rest stops may pending is = cc stops

-- ---- blanks that go on

-- what is said of bytes may be said of them with a space or a comment before them
pub record MaySkip (P : List ℕ → Type 0) : Type 0 where
  pub over_space : (b : ℕ) (rest : List ℕ) → IsSpace b → P rest → P (b ∷ rest)
  pub over_comment : (bytes rest : List ℕ) → IsComment bytes rest → P rest → P bytes

skip_outside : (P : List ℕ → Type 0) → MaySkip P → (b : ℕ) (rest : List ℕ) (m q : Bool) → (b == minus) ≡ m → (b == quote) ≡ q → (m || is_space b) ≡ true
    → ((pending : List ℕ) → IsPending (if m then AfterMinus else (if q then InString else Outside)) pending → P (pending ++ rest)) → P (b ∷ rest)
skip_outside P may b rest true q m_is q_is blank next = rw (eqb-true b minus m_is) (next (minus ∷ []) refl)
skip_outside P may b rest false true m_is q_is blank next = absurd (space_is_not b quote refl (true_space b blank) (eqb-true b quote q_is))
skip_outside P may b rest false false m_is q_is blank next = may.over_space b rest (true_space b blank) (next [] refl)

skip_minus : (P : List ℕ → Type 0) → (b : ℕ) (rest : List ℕ) (m : Bool) → (b == minus) ≡ m → m ≡ true
    → ((pending : List ℕ) → IsPending (if m then InComment else begun_by b) pending → P (pending ++ rest)) → P (minus ∷ b ∷ rest)
skip_minus P b rest true m_is blank next =
    rw (eqb-true b minus m_is) (next (minus ∷ minus ∷ []) (record { inside = []; open_end = no_member newline; whole = refl }))
skip_minus P b rest false m_is blank next = cc blank

skip_comment : (P : List ℕ → Type 0) → MaySkip P → (b : ℕ) (rest : List ℕ) (n : Bool) → (b == newline) ≡ n → (pending : List ℕ) → IsOpenComment pending
    → ((pending : List ℕ) → IsPending (if n then Outside else InComment) pending → P (pending ++ rest)) → P (pending ++ b ∷ rest)
skip_comment P may b rest true n_is pending is next =
    rw (eqb-true b newline n_is)
    (may.over_comment (pending ++ newline ∷ rest) rest
    (record { inside = is.inside; closed = is.open_end; whole = ap (λ l. l ++ newline ∷ rest) is.whole })
    (next [] refl))
skip_comment P may b rest false n_is pending is next =
    subst P (append_assoc pending (b ∷ []) rest)
    (next (pending ++ b ∷ []) (record {
      inside = is.inside ++ b ∷ [];
      open_end = still_open is.inside b newline is.open_end (eqb-false b newline n_is);
      whole = ap (λ l. l ++ b ∷ []) is.whole;
    }))

-- where blanks go on, what may skip them speaks of what follows
pub skip_on : (P : List ℕ → Type 0) → MaySkip P → (place : Place) (b : ℕ) (rest : List ℕ) → goes_on_blank place b ≡ true
    → ((pending : List ℕ) → IsPending (place_after place b) pending → P (pending ++ rest))
    → (pending : List ℕ) → IsPending place pending → P (pending ++ b ∷ rest)
skip_on P may Outside b rest blank next pending is =
    let Q : List ℕ → Type 0 = λ l. P (l ++ b ∷ rest) in
    subst Q (sym is) (skip_outside P may b rest (b == minus) (b == quote) refl refl blank next)
skip_on P may AfterMinus b rest blank next pending is =
    let Q : List ℕ → Type 0 = λ l. P (l ++ b ∷ rest) in
    subst Q (sym is) (skip_minus P b rest (b == minus) refl blank next)
skip_on P may InString b rest blank next pending is = absurd is
skip_on P may InComment b rest blank next pending is = skip_comment P may b rest (b == newline) refl pending is next

-- ---- what is blank, before and after a blank

pub blank_space : (b : ℕ) (rest : List ℕ) → IsSpace b → IsBlank rest → IsBlank (b ∷ rest)
blank_space b rest is blank = record { rest = blank.rest; skipped = space b rest blank.rest is blank.skipped; finish = blank.finish }

pub blank_comment : (bytes rest : List ℕ) → IsComment bytes rest → IsBlank rest → IsBlank bytes
blank_comment bytes rest is blank = record { rest = blank.rest; skipped = comment bytes rest blank.rest is blank.skipped; finish = blank.finish }

pub after_space : (xs x : List ℕ) → Skips xs x → (b : ℕ) (rest : List ℕ) → xs ≡ b ∷ rest → IsSpace b → (x ≡ b ∷ rest) ⊎ Skips rest x
after_space xs x (here bytes) b rest e s = inl e
after_space xs x (space c following x' is p) b rest e s =
    let t : following ≡ rest = cc e in
    let P : List ℕ → Type 0 = λ l. Skips l x' in
    inr (subst P t p)
after_space xs x (comment bytes following x' is p) b rest e s =
    absurd (space_is_not b minus refl s (sym (first_is _ _ e) ∙ comment_first bytes following is))

-- what ends blanks does not begin with white space
no_finish : (x : List ℕ) (b : ℕ) (rest : List ℕ) → x ≡ b ∷ rest → IsSpace b → (x ≡ []) ⊎ (x ≡ semicolon ∷ []) ⊎ IsOpenComment x → ⊥
no_finish x b rest e s finish =
    elim finish [
      | inl nil ↦ cc (sym nil ∙ e)
      | inr f ↦ elim f [
        | inl end ↦ space_is_not b semicolon refl s (first_is _ _ (sym e ∙ end))
        | inr o ↦ space_is_not b minus refl s (first_is _ _ (sym e ∙ o.whole))
      ]
    ]

pub unblank_space : (b : ℕ) (rest : List ℕ) → IsSpace b → IsBlank (b ∷ rest) → IsBlank rest
unblank_space b rest is blank =
    elim (after_space (b ∷ rest) blank.rest blank.skipped b rest refl is) [
      | inl e ↦ absurd (no_finish blank.rest b rest e is blank.finish)
      | inr p ↦ record { rest = blank.rest; skipped = p; finish = blank.finish }
    ]

pub contains_head : (c : ℕ) (xs : List ℕ) → Contains (c ∷ xs) c
contains_head c xs = (0, omega arith, refl)

contains_later : (x c : ℕ) (xs : List ℕ) → Contains xs c → Contains (x ∷ xs) c
contains_later x c xs has = Contains-append_right (x ∷ []) xs c has

-- the first of a byte parts a list in one way
pub parted : (c : ℕ) (xs ys front back : List ℕ) → (Contains xs c → ⊥) → (Contains ys c → ⊥) → xs ++ c ∷ front ≡ ys ++ c ∷ back → front ≡ back
parted c [] [] front back no_x no_y e = cc e
parted c [] (y ∷ ys) front back no_x no_y e =
    let P : ℕ → Type 0 = λ n. Contains (n ∷ ys) c in
    let same : c ≡ y = cc e in
    absurd (no_y (subst P same (contains_head c ys)))
parted c (x ∷ xs) [] front back no_x no_y e =
    let P : ℕ → Type 0 = λ n. Contains (n ∷ xs) c in
    let same : c ≡ x = cc e in
    absurd (no_x (subst P same (contains_head c xs)))
parted c (x ∷ xs) (y ∷ ys) front back no_x no_y e =
    let tails : xs ++ c ∷ front ≡ ys ++ c ∷ back = cc e in
    parted c xs ys front back (λ has. no_x (contains_later x c xs has)) (λ has. no_y (contains_later y c ys has)) tails

pub one_comment : (bytes following rest : List ℕ) → IsComment bytes following → IsComment bytes rest → following ≡ rest
one_comment bytes following rest one other =
    let whole : minus ∷ minus ∷ (one.inside ++ newline ∷ following) ≡ minus ∷ minus ∷ (other.inside ++ newline ∷ rest) = sym one.whole ∙ other.whole in
    let tails : one.inside ++ newline ∷ following ≡ other.inside ++ newline ∷ rest = cc whole in
    parted newline one.inside other.inside following rest one.closed other.closed tails

pub no_open : (bytes rest : List ℕ) → IsComment bytes rest → IsOpenComment bytes → ⊥
no_open bytes rest is open_one =
    let whole : minus ∷ minus ∷ open_one.inside ≡ minus ∷ minus ∷ (is.inside ++ newline ∷ rest) = sym open_one.whole ∙ is.whole in
    let tails : is.inside ++ newline ∷ rest ≡ open_one.inside = sym (cc whole) in
    let P : List ℕ → Type 0 = λ l. Contains l newline in
    open_one.open_end (subst P tails (Contains-append_right is.inside (newline ∷ rest) newline (contains_head newline rest)))

pub after_comment : (xs x : List ℕ) → Skips xs x → (rest : List ℕ) → IsComment xs rest → (x ≡ xs) ⊎ Skips rest x
after_comment xs x (here bytes) rest c = inl refl
after_comment xs x (space b following x' is p) rest c = absurd (space_is_not b minus refl is (comment_first (b ∷ following) rest c))
after_comment xs x (comment bytes following x' is p) rest c =
    let P : List ℕ → Type 0 = λ l. Skips l x' in
    inr (subst P (one_comment bytes following rest is c) p)

no_finish_comment : (x xs rest : List ℕ) → x ≡ xs → IsComment xs rest → (x ≡ []) ⊎ (x ≡ semicolon ∷ []) ⊎ IsOpenComment x → ⊥
no_finish_comment x xs rest e is finish =
    elim finish [
      | inl nil ↦ cc (sym nil ∙ e ∙ is.whole)
      | inr f ↦ elim f [
        | inl end ↦ cc (sym end ∙ e ∙ is.whole)
        | inr o ↦ let P : List ℕ → Type 0 = λ l. IsOpenComment l in no_open xs rest is (subst P e o)
      ]
    ]

pub unblank_comment : (bytes rest : List ℕ) → IsComment bytes rest → IsBlank bytes → IsBlank rest
unblank_comment bytes rest is blank =
    elim (after_comment bytes blank.rest blank.skipped rest is) [
      | inl e ↦ absurd (no_finish_comment blank.rest bytes rest e is blank.finish)
      | inr p ↦ record { rest = blank.rest; skipped = p; finish = blank.finish }
    ]
