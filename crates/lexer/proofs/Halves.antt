-- A text is looked for in the half of some rising lines in which it may stand.
use Rattle.std.proofs.Common.{◌≡◌, ℕ, zero, suc, ◌<◌, ◌-◌, Bool, true, false, List, [], ◌∷◌, None, map, length, take, drop, get_or, refl, sym, ap, subst, ◌∙◌, inl, inr, arith}
use Rattle.std.proofs.lemmas.Bool.{cases_Bool, and_parts}
use Rattle.std.proofs.lemmas.Cmp.{nat_list_cmp_total, tied_itself}
use Rattle.std.proofs.lemmas.List.{take_rest, take-map}
use Rattle.std.proofs.lemmas.Slice.Eq.{bytes_eq-Decides}
use Rattle.std.specs.Cmp.Lexicographic.{slice_cmp}
use Rattle.std.specs.List.{list_all}
use Rattle.std.specs.Ordering.{is_lt, nat_cmp, ordering_reverse}
use Rattle.std.specs.Str.{bytes_eq}
use Rattle.std.specs.declared.cmp.Ordering.{Ordering}
use Rattle.std.specs.declared.cmp.Ordering.TheVariants.{Less, Equal, Greater}
use Rattle.lexer.specs.Words.{Entry, are_rising, vocabulary, word_with}
use Rattle.lexer.proofs.Lines.{Line}

abbrev order : List ℕ → List ℕ → Ordering
order = slice_cmp nat_cmp

abbrev in_entries : List Line → List Entry
in_entries = map {B = Entry} (λ entry. (entry.0.now, entry.1, entry.2))

is_less : (o : Ordering) → is_lt o ≡ true → o ≡ Less
is_less Less e = refl
is_less Equal e = cc
is_less Greater e = cc

no_less_itself : (a : List ℕ) → order a a ≡ Less → ⊥
no_less_itself a less = let bad : Less ≡ Equal = sym less ∙ tied_itself nat_list_cmp_total a in cc

no_less_back : (a b : List ℕ) → order a b ≡ Less → order b a ≡ Less → ⊥
no_less_back a b less back =
    let bad : Less ≡ Greater = sym less ∙ nat_list_cmp_total.antisymm a b ∙ ap ordering_reverse back in cc

all_at : (P : Entry → Bool) (es : List Entry) (k : ℕ) (d : Entry) → list_all P es ≡ true → k < length es → P (get_or es k d) ≡ true
all_at P [] k d all less = absurd (omega (arith, less))
all_at P (e ∷ es) zero d all less = (and_parts (P e) (list_all P es) all).0
all_at P (e ∷ es) (suc k) d all less = all_at P es k d (and_parts (P e) (list_all P es) all).1 (omega (arith, less))

all_take : (P : Entry → Bool) (k : ℕ) (es : List Entry) → list_all P es ≡ true → list_all P (take k es) ≡ true
all_take P zero es all = refl
all_take P (suc k) [] all = refl
all_take P (suc k) (e ∷ es) all =
    let parts = and_parts (P e) (list_all P es) all in rw parts.0 (all_take P k es parts.1)

rising_take : (k : ℕ) (es : List Entry) → are_rising es ≡ true → are_rising (take k es) ≡ true
rising_take zero es rising = refl
rising_take (suc k) [] rising = refl
rising_take (suc k) (e ∷ es) rising =
    let parts = and_parts (list_all (λ later. is_lt (slice_cmp nat_cmp e.0 later.0)) es) (are_rising es) rising in
    rw (all_take (λ later. is_lt (slice_cmp nat_cmp e.0 later.0)) k es parts.0) (rising_take k es parts.1)

rising_drop : (k : ℕ) (es : List Entry) → are_rising es ≡ true → are_rising (drop k es) ≡ true
rising_drop zero es rising = rising
rising_drop (suc k) [] rising = rising
rising_drop (suc k) (e ∷ es) rising =
    rising_drop k es (and_parts (list_all (λ later. is_lt (slice_cmp nat_cmp e.0 later.0)) es) (are_rising es) rising).1

-- a text that is not the one of a line
not_same : (a text : List ℕ) → (a ≡ text → ⊥) → bytes_eq a text ≡ false
not_same a text other = elim (cases_Bool (bytes_eq a text)) [ inl y ↦ absurd (other ((bytes_eq-Decides a text).0 y)) | inr n ↦ n ]

-- it stands in none of the lines above
none_above : (low : List ℕ) (es : List Entry) (text : List ℕ) → order text low ≡ Less → list_all (λ later. is_lt (slice_cmp nat_cmp low later.0)) es ≡ true
    → word_with es text ≡ None
none_above low [] text less all = refl
none_above low (e ∷ es) text less all =
    let parts = and_parts (is_lt (slice_cmp nat_cmp low e.0)) (list_all (λ later. is_lt (slice_cmp nat_cmp low later.0)) es) all in
    rw (not_same e.0 text (λ same. no_less_back text low less (subst (λ (t : List ℕ). order low t ≡ Less) same (is_less (order low e.0) parts.0))))
    (none_above low es text less parts.1)

none_from : (es : List Entry) (d : Entry) (text : List ℕ) → 0 < length es → order text (get_or es 0 d).0 ≡ Less → are_rising es ≡ true → word_with es text ≡ None
none_from [] d text some less rising = absurd (omega (arith, some))
none_from (e ∷ es) d text some less rising =
    let parts = and_parts (list_all (λ later. is_lt (slice_cmp nat_cmp e.0 later.0)) es) (are_rising es) rising in
    rw (not_same e.0 text (λ same. no_less_itself text (subst (λ (t : List ℕ). order text t ≡ Less) same less)))
    (none_above e.0 es text less parts.0)

low_same : (k : ℕ) (es : List Entry) (d : Entry) (text : List ℕ) → k < length es → order text (get_or es k d).0 ≡ Less → are_rising es ≡ true
    → word_with (take k es) text ≡ word_with es text
low_same zero es d text within less rising = sym (none_from es d text within less rising)
low_same (suc k) [] d text within less rising = refl
low_same (suc k) (e ∷ es) d text within less rising =
    let parts = and_parts (list_all (λ later. is_lt (slice_cmp nat_cmp e.0 later.0)) es) (are_rising es) rising in
    let rest = low_same k es d text (omega (arith, within)) less parts.1 in
    elim (cases_Bool (bytes_eq e.0 text)) [ inl y ↦ rw y refl | inr n ↦ rw n rest ]

high_same : (k : ℕ) (es : List Entry) (d : Entry) (text : List ℕ) → k < length es → (order text (get_or es k d).0 ≡ Less → ⊥) → are_rising es ≡ true
    → word_with (drop k es) text ≡ word_with es text
high_same zero es d text within not_less rising = refl
high_same (suc k) [] d text within not_less rising = refl
high_same (suc k) (e ∷ es) d text within not_less rising =
    let parts = and_parts (list_all (λ later. is_lt (slice_cmp nat_cmp e.0 later.0)) es) (are_rising es) rising in
    let below = is_less _ (all_at (λ later. is_lt (slice_cmp nat_cmp e.0 later.0)) es k d parts.0 (omega (arith, within))) in
    let other = not_same e.0 text (λ same. not_less (subst (λ (t : List ℕ). order t (get_or es k d).0 ≡ Less) same below)) in
    rw other (high_same k es d text (omega (arith, within)) not_less parts.1)

-- ---- the same of lines as the code holds them

entries_drop : (k : ℕ) (lines : List Line) → in_entries (drop k lines) ≡ drop k (in_entries lines)
entries_drop zero lines = refl
entries_drop (suc k) [] = refl
entries_drop (suc k) (line ∷ lines) = entries_drop k lines

entry_at : (k : ℕ) (lines : List Line) (d : Line) → get_or (in_entries lines) k (d.0.now, d.1, d.2) ≡ ((get_or lines k d).0.now, (get_or lines k d).1, (get_or lines k d).2)
entry_at k [] d = refl
entry_at zero (line ∷ lines) d = refl
entry_at (suc k) (line ∷ lines) d = entry_at k lines d

entries_length : (lines : List Line) → length (in_entries lines) ≡ length lines
entries_length [] = refl
entries_length (line ∷ lines) = let rest = entries_length lines in omega (arith, rest)

-- a text before the one in the middle stands in the first half, if anywhere
pub in_low : (lines : List Line) (k : ℕ) (d : Line) (text at : List ℕ) → k < length lines → at ≡ (get_or lines k d).0.now → order text at ≡ Less
    → are_rising (in_entries lines) ≡ true
    → (are_rising (in_entries (take k lines)) ≡ true) × (word_with (in_entries (take k lines)) text ≡ word_with (in_entries lines) text)
in_low lines k d text at within is less rising =
    let half : in_entries (take k lines) ≡ take k (in_entries lines) = sym (take-map (λ (entry : Line). (entry.0.now, entry.1, entry.2)) k lines) in
    let there : order text (get_or (in_entries lines) k (d.0.now, d.1, d.2)).0 ≡ Less =
    subst (λ (t : List ℕ). order text t ≡ Less) (is ∙ sym (ap (λ (e : Entry). e.0) (entry_at k lines d))) less in (
      ap are_rising half ∙ rising_take k (in_entries lines) rising,
      ap (λ (es : List Entry). word_with es text) half
          ∙ low_same k (in_entries lines) (d.0.now, d.1, d.2) text (omega (arith, within, entries_length lines)) there rising,
    )

-- and another one in the second
pub in_high : (lines : List Line) (k : ℕ) (d : Line) (text at : List ℕ) → k < length lines → at ≡ (get_or lines k d).0.now → (order text at ≡ Less → ⊥)
    → are_rising (in_entries lines) ≡ true
    → (are_rising (in_entries (take (length lines - k) (drop k lines))) ≡ true)
    × (word_with (in_entries (take (length lines - k) (drop k lines))) text ≡ word_with (in_entries lines) text)
in_high lines k d text at within is not_less rising =
    let half : in_entries (take (length lines - k) (drop k lines)) ≡ drop k (in_entries lines) =
    ap in_entries (take_rest lines k) ∙ entries_drop k lines in
    let there : order text (get_or (in_entries lines) k (d.0.now, d.1, d.2)).0 ≡ Less → ⊥ =
    subst (λ (t : List ℕ). order text t ≡ Less → ⊥) (is ∙ sym (ap (λ (e : Entry). e.0) (entry_at k lines d))) not_less in (
      ap are_rising half ∙ rising_drop k (in_entries lines) rising,
      ap (λ (es : List Entry). word_with es text) half
          ∙ high_same k (in_entries lines) (d.0.now, d.1, d.2) text (omega (arith, within, entries_length lines)) there rising,
    )

-- the texts of the table rise
pub vocabulary_rises : are_rising vocabulary ≡ true
vocabulary_rises = refl
