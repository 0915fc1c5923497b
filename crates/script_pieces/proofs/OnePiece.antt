-- Bytes have one first piece, or none.
use Rattle.std.proofs.Common.{◌≡◌, ◌≢◌, ◌⊎◌, ◌<◌, arith, ℕ, List, [], ◌∷◌, ◌++◌, sym, ◌∙◌, subst, refl, slice_index, Contains, inl, inr}
use Rattle.std.proofs.lemmas.List.Elements.{Contains-append_right}
use Rattle.script_pieces.specs.Pieces.{semicolon, quote, minus, newline, IsString, IsComment, BeginsComment, IsUnended, IsFirstPiece, Passes, here, string, comment, byte}
use Rattle.script_pieces.proofs.Skipping.{first_is, parted, contains_head, comment_begins, comment_first, one_comment, no_open}

apart : (b c : ℕ) → b < c → b ≡ c → ⊥
apart b c less e = absurd (omega (arith, less, e))

string_first : (bytes following : List ℕ) → IsString bytes following → slice_index bytes 0 ≡ quote
string_first bytes following is = first_is _ _ is.whole

one_string : (bytes following rest : List ℕ) → IsString bytes following → IsString bytes rest → following ≡ rest
one_string bytes following rest one other =
    let whole : quote ∷ (one.inside ++ quote ∷ following) ≡ quote ∷ (other.inside ++ quote ∷ rest) = sym one.whole ∙ other.whole in
    let tails : one.inside ++ quote ∷ following ≡ other.inside ++ quote ∷ rest = cc whole in
    parted quote one.inside other.inside following rest one.closed other.closed tails

after_string : (xs x : List ℕ) → Passes xs x → (rest : List ℕ) → IsString xs rest → (x ≡ xs) ⊎ Passes rest x
after_string xs x (here bytes) rest is = inl refl
after_string xs x (string bytes following x' s p) rest is =
    let P : List ℕ → Type 0 = λ l. Passes l x' in inr (subst P (one_string bytes following rest s is) p)
after_string xs x (comment bytes following x' c p) rest is = absurd (apart quote minus (omega arith) (sym (string_first bytes rest is) ∙ comment_first bytes following c))
after_string xs x (byte b following x' n m c p) rest is = absurd (m (string_first (b ∷ following) rest is))

after_comment : (xs x : List ℕ) → Passes xs x → (rest : List ℕ) → IsComment xs rest → (x ≡ xs) ⊎ Passes rest x
after_comment xs x (here bytes) rest is = inl refl
after_comment xs x (string bytes following x' s p) rest is = absurd (apart quote minus (omega arith) (sym (string_first bytes following s) ∙ comment_first bytes rest is))
after_comment xs x (comment bytes following x' c p) rest is =
    let P : List ℕ → Type 0 = λ l. Passes l x' in inr (subst P (one_comment bytes following rest c is) p)
after_comment xs x (byte b following x' n m c p) rest is = absurd (c (comment_begins (b ∷ following) rest is))

after_byte : (xs x : List ℕ) → Passes xs x → (b : ℕ) (rest : List ℕ) → xs ≡ b ∷ rest → b ≢ quote → (BeginsComment (b ∷ rest) → ⊥) → (x ≡ xs) ⊎ Passes rest x
after_byte xs x (here bytes) b rest e n c = inl refl
after_byte xs x (string bytes following x' s p) b rest e n c = absurd (n (sym (first_is _ _ e) ∙ string_first bytes following s))
after_byte xs x (comment bytes following x' is p) b rest e n c =
    let begins = comment_begins bytes following is in absurd (c (begins.0, sym e ∙ begins.1))
after_byte xs x (byte d following x' n' m' c' p) b rest e n c =
    let tails : following ≡ rest = cc e in
    let P : List ℕ → Type 0 = λ l. Passes l x' in inr (subst P tails p)

-- to what nothing passes from, bytes pass in one way
one_end : (xs a b : List ℕ) → Passes xs a → Passes xs b → ((x : List ℕ) → Passes a x → x ≡ a) → ((x : List ℕ) → Passes b x → x ≡ b) → a ≡ b
one_end xs a b (here bytes) q stuck_a stuck_b = sym (stuck_a b q)
one_end xs a b (string bytes following rest s p) q stuck_a stuck_b =
    let P : List ℕ → Type 0 = λ l. Passes l a in
    elim (after_string bytes b q following s)
    [ inl e ↦ stuck_b a (subst P (sym e) (string bytes following a s p)) | inr q' ↦ one_end following a b p q' stuck_a stuck_b ]
one_end xs a b (comment bytes following rest s p) q stuck_a stuck_b =
    let P : List ℕ → Type 0 = λ l. Passes l a in
    elim (after_comment bytes b q following s)
    [ inl e ↦ stuck_b a (subst P (sym e) (comment bytes following a s p)) | inr q' ↦ one_end following a b p q' stuck_a stuck_b ]
one_end xs a b (byte d following rest n m c p) q stuck_a stuck_b =
    let P : List ℕ → Type 0 = λ l. Passes l a in
    elim (after_byte (d ∷ following) b q d following refl m c)
    [ inl e ↦ stuck_b a (subst P (sym e) (byte d following a n m c p)) | inr q' ↦ one_end following a b p q' stuck_a stuck_b ]

nothing_passes : (xs x : List ℕ) → Passes xs x → xs ≡ [] → x ≡ xs
nothing_passes xs x (here bytes) e = refl
nothing_passes xs x (string bytes following rest s p) e = absurd (apart 0 quote (omega arith) (sym (first_is bytes [] e) ∙ string_first bytes following s))
nothing_passes xs x (comment bytes following rest s p) e = absurd (apart 0 minus (omega arith) (sym (first_is bytes [] e) ∙ comment_first bytes following s))
nothing_passes xs x (byte b following rest n m c p) e = cc e

semicolon_stays : (xs x : List ℕ) → Passes xs x → (rest : List ℕ) → xs ≡ semicolon ∷ rest → x ≡ xs
semicolon_stays xs x (here bytes) rest e = refl
semicolon_stays xs x (string bytes following rest' s p) rest e = absurd (apart quote semicolon (omega arith) (sym (string_first bytes following s) ∙ first_is bytes (semicolon ∷ rest) e))
semicolon_stays xs x (comment bytes following rest' s p) rest e = absurd (apart minus semicolon (omega arith) (sym (comment_first bytes following s) ∙ first_is bytes (semicolon ∷ rest) e))
semicolon_stays xs x (byte b following rest' n m c p) rest e = absurd (n (first_is _ _ e))

open_string_stays : (xs x : List ℕ) → Passes xs x → (inside : List ℕ) → xs ≡ quote ∷ inside → (Contains inside quote → ⊥) → x ≡ xs
open_string_stays xs x (here bytes) inside e open_end = refl
open_string_stays xs x (string bytes following rest s p) inside e open_end =
    let whole : quote ∷ (s.inside ++ quote ∷ following) ≡ quote ∷ inside = sym s.whole ∙ e in
    let tails : s.inside ++ quote ∷ following ≡ inside = cc whole in
    let P : List ℕ → Type 0 = λ l. Contains l quote in
    absurd (open_end (subst P tails (Contains-append_right s.inside (quote ∷ following) quote (contains_head quote following))))
open_string_stays xs x (comment bytes following rest s p) inside e open_end = absurd (apart quote minus (omega arith) (sym (first_is bytes (quote ∷ inside) e) ∙ comment_first bytes following s))
open_string_stays xs x (byte b following rest n m c p) inside e open_end = absurd (m (first_is _ _ e))

open_comment_stays : (xs x : List ℕ) → Passes xs x → (inside : List ℕ) → xs ≡ minus ∷ minus ∷ inside → (Contains inside newline → ⊥) → x ≡ xs
open_comment_stays xs x (here bytes) inside e open_end = refl
open_comment_stays xs x (string bytes following rest s p) inside e open_end = absurd (apart quote minus (omega arith) (sym (string_first bytes following s) ∙ first_is bytes (minus ∷ minus ∷ inside) e))
open_comment_stays xs x (comment bytes following rest s p) inside e open_end =
    absurd (no_open bytes following s (record { inside = inside; open_end = open_end; whole = e }))
open_comment_stays xs x (byte b following rest n m c p) inside e open_end = absurd (c (inside, e))

pub one_first_piece : (bytes piece rest other more : List ℕ) → IsFirstPiece bytes piece rest → IsFirstPiece bytes other more → rest ≡ more
one_first_piece bytes piece rest other more one two =
    let same : semicolon ∷ rest ≡ semicolon ∷ more =
    one_end bytes (semicolon ∷ rest) (semicolon ∷ more) one.before two.before
    (λ x p. semicolon_stays (semicolon ∷ rest) x p rest refl) (λ x p. semicolon_stays (semicolon ∷ more) x p more refl) in
    cc same

-- bytes that nothing ends have no first piece
pub unended_is_no_piece : (bytes piece rest : List ℕ) → IsUnended bytes → IsFirstPiece bytes piece rest → ⊥
unended_is_no_piece bytes piece rest unended first =
    let stuck = λ (x : List ℕ) (p : Passes (semicolon ∷ rest) x). semicolon_stays (semicolon ∷ rest) x p rest refl in
    elim unended [
      | inl p ↦
          let same : [] ≡ semicolon ∷ rest = one_end bytes [] (semicolon ∷ rest) p first.before (λ x q. nothing_passes [] x q refl) stuck in cc same
      | inr u ↦ elim u.open_end [
        | inl s ↦
            let same : u.rest ≡ semicolon ∷ rest = one_end bytes u.rest (semicolon ∷ rest) u.before first.before (λ x q. open_string_stays u.rest x q s.0 s.1 s.2) stuck in
            apart quote semicolon (omega arith) (sym (first_is u.rest (quote ∷ s.0) s.1) ∙ first_is u.rest (semicolon ∷ rest) same)
        | inr c ↦
            let same : u.rest ≡ semicolon ∷ rest = one_end bytes u.rest (semicolon ∷ rest) u.before first.before (λ x q. open_comment_stays u.rest x q c.0 c.1 c.2) stuck in
            apart minus semicolon (omega arith) (sym (first_is u.rest (minus ∷ minus ∷ c.0) c.1) ∙ first_is u.rest (semicolon ∷ rest) same)
      ]
    ]
