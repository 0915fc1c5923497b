-- Rows that go from a table that is referenced, and rows that come to it: each row that references
-- it still finds its match, if each key that goes is there again or is in no such row.
use Rattle.std.proofs.Common.{◌≡◌, refl, ap, sym, ◌∙◌, subst, ℕ, Bool, true, false, not, ◌&&◌, ◌||◌, List, [], ◌∷◌, ◌++◌}
use Rattle.std.specs.List.{list_any, list_all}
use Rattle.std.specs.Cmp.Lexicographic.{pointwise}
use Rattle.std.specs.Ordering.{is_eq, int_cmp}
use Rattle.std.specs.declared.cmp.Ordering.{Ordering}
use Rattle.std.specs.declared.cmp.Ordering.TheVariants.{Less, Equal, Greater}
use Rattle.std.proofs.lemmas.List.Folds.{list_any-append}
use Rattle.sqlval.specs.declared.schema.Reference.{Reference}
use Rattle.sqlval.specs.declared.value.Value.{Value}
use Rattle.sqlval.specs.declared.value.Value.TheVariants.{Null, Int, Text}
use Rattle.sqlval.specs.declared.truth.Truth.TheVariants.{True}
use Rattle.sqlval.specs.Comparison.{text_order}
use Rattle.sqlval.specs.Truth.{same_truth, truth_of}
use Rattle.sqlval.specs.Matching.{is_equal, key_of, matches}
use Rattle.sqlval.specs.Value.{Row, is_null}
use Rattle.sqlval.proofs.ValueOrderLaws.{value_order-level}
use Rattle.denote.specs.Database.{is_matched, has_unmatched}
use Rattle.denote_laws.specs.Difference.{may_go}
use Rattle.denote_laws.proofs.Tables.{pointwise-symm}

level : (o : Ordering) → same_truth (truth_of (is_eq o)) True ≡ true → o ≡ Equal
level Less e = absurd (cc)
level Equal e = refl
level Greater e = absurd (cc)

equal_one : (x y : Value) → is_equal x y ≡ true → x ≡ y
equal_one Null Null e = refl
equal_one Null (Int y) e = absurd (cc)
equal_one Null (Text y) e = absurd (cc)
equal_one (Int x) Null e = absurd (cc)
equal_one (Int x) (Int y) e = value_order-level (Int x) (Int y) (level (int_cmp x y) e)
equal_one (Int x) (Text y) e = absurd (cc)
equal_one (Text x) Null e = absurd (cc)
equal_one (Text x) (Int y) e = absurd (cc)
equal_one (Text x) (Text y) e = value_order-level (Text x) (Text y) (level (text_order x y) e)

both_true : (a b : Bool) → (a && b) ≡ true → (a ≡ true) × (b ≡ true)
both_true true true e = (refl, refl)
both_true true false e = absurd (cc)
both_true false b e = absurd (cc)

pub equal_keys : (xs ys : List Value) → pointwise is_equal xs ys ≡ true → xs ≡ ys
equal_keys [] [] e = refl
equal_keys [] (y ∷ ys) e = absurd (cc)
equal_keys (x ∷ xs) [] e = absurd (cc)
equal_keys (x ∷ xs) (y ∷ ys) e =
    let both = both_true (is_equal x y) (pointwise is_equal xs ys) e in
    let head = equal_one x y both.0 in
    let tail = equal_keys xs ys both.1 in
    cc

-- the first of two, where the other is denied
first_of : (a b : Bool) → (a || not b) ≡ true → b ≡ true → a ≡ true
first_of true b e f = refl
first_of false true e f = absurd (cc)
first_of false false e f = absurd (cc)

pub or_left : (a b : Bool) → a ≡ true → (a || b) ≡ true
or_left true b e = refl
or_left false b e = absurd (cc)

pub or_right : (a b : Bool) → b ≡ true → (a || b) ≡ true
or_right true b e = refl
or_right false b e = e

-- what is denied of one and of others
denied : (a m rest : Bool) → (a || not (m || rest)) ≡ true → ((a || not m) ≡ true) × ((a || not rest) ≡ true)
denied true m rest e = (refl, refl)
denied false true rest e = absurd (cc)
denied false false rest e = (refl, e)

neither : (a b : Bool) → (a || b) ≡ false → (a ≡ false) × (b ≡ false)
neither true b e = absurd (cc)
neither false b e = (refl, e)

not_not : (a : Bool) → not a ≡ false → a ≡ true
not_not true e = refl
not_not false e = absurd (cc)

module _ (reference : Reference) where
  -- whether a row of the referenced table is a match of this row
  abbrev meets : Row → Row → Bool
  meets row other = matches reference.referenced (key_of reference.columns row) other

  -- whether a row that goes may go, for one row that references: its key is among these rows, or is
  -- not in that row
  abbrev may_go_for : List Row → Row → Row → Bool
  may_go_for news row gone =
      list_any (matches reference.referenced (key_of reference.referenced gone)) news || not (matches reference.columns (key_of reference.referenced gone) row)

  met_again : (news : List Row) (row gone : Row) → may_go_for news row gone ≡ true → meets row gone ≡ true → list_any (meets row) news ≡ true
  met_again news row gone free met =
      let same : key_of reference.referenced gone ≡ key_of reference.columns row = equal_keys (key_of reference.referenced gone) (key_of reference.columns row) met in
      let turned : matches reference.columns (key_of reference.referenced gone) row ≡ true = pointwise-symm (key_of reference.columns row) (key_of reference.referenced gone) ∙ met in
      subst (λ (key : List Value). list_any (matches reference.referenced key) news ≡ true) same
      (first_of (list_any (matches reference.referenced (key_of reference.referenced gone)) news) (matches reference.columns (key_of reference.referenced gone) row) free turned)

  one_gone : (news : List Row) (row : Row) (gone : List Row) → list_all (may_go_for news row) gone ≡ true → list_any (meets row) gone ≡ true → list_any (meets row) news ≡ true
  one_gone news row [] free met = absurd (cc)
  one_gone news row (g ∷ gone) free met =
      let both = both_true (may_go_for news row g) (list_all (may_go_for news row) gone) free in
      at (meets row g) refl met both.0 (λ later. one_gone news row gone both.1 later)
    where
      at : (b : Bool) → meets row g ≡ b → (b || list_any (meets row) gone) ≡ true → may_go_for news row g ≡ true
          → (list_any (meets row) gone ≡ true → list_any (meets row) news ≡ true) → list_any (meets row) news ≡ true
      at true is e first rest = met_again news row g first is
      at false is e first rest = rest e

  still_matched : (stay gone came : List Row) (row : Row) → is_matched reference (stay ++ gone) row ≡ true → list_all (may_go_for (stay ++ came) row) gone ≡ true
      → is_matched reference (stay ++ came) row ≡ true
  still_matched stay gone came row was free = at (list_any is_null (key_of reference.columns row)) was
    where
      new : (b : Bool) → list_any (meets row) stay ≡ b → (b || list_any (meets row) gone) ≡ true → list_any (meets row) (stay ++ came) ≡ true
      new true is e = list_any-append (meets row) stay came ∙ or_left (list_any (meets row) stay) (list_any (meets row) came) is
      new false is e = one_gone (stay ++ came) row gone free e

      at : (b : Bool) → (b || list_any (meets row) (stay ++ gone)) ≡ true → (b || list_any (meets row) (stay ++ came)) ≡ true
      at true e = refl
      at false e = new (list_any (meets row) stay) refl (sym (list_any-append (meets row) stay gone) ∙ e)

  free_for : (news : List Row) (row : Row) (rows gone : List Row) → list_all (may_go reference news (row ∷ rows)) gone ≡ true
      → (list_all (may_go_for news row) gone ≡ true) × (list_all (may_go reference news rows) gone ≡ true)
  free_for news row rows [] e = (refl, refl)
  free_for news row rows (g ∷ gone) e =
      let both = both_true (may_go reference news (row ∷ rows) g) (list_all (may_go reference news (row ∷ rows)) gone) e in
      let here = denied (list_any (matches reference.referenced (key_of reference.referenced g)) news) (matches reference.columns (key_of reference.referenced g) row)
      (list_any (matches reference.columns (key_of reference.referenced g)) rows) both.0 in
      let later = free_for news row rows gone both.1 in
      (both_are (may_go_for news row g) (list_all (may_go_for news row) gone) here.0 later.0, both_are (may_go reference news rows g) (list_all (may_go reference news rows) gone) here.1 later.1)
    where
      both_are : (a b : Bool) → a ≡ true → b ≡ true → (a && b) ≡ true
      both_are true b e f = f
      both_are false b e f = absurd (cc)

  -- rows that reference a table from which rows go and to which rows come
  pub still_all_matched : (stay gone came rows : List Row) → has_unmatched reference (stay ++ gone) rows ≡ false → list_all (may_go reference (stay ++ came) rows) gone ≡ true
      → has_unmatched reference (stay ++ came) rows ≡ false
  still_all_matched stay gone came [] was free = refl
  still_all_matched stay gone came (row ∷ rows) was free =
      let parts = neither (not (is_matched reference (stay ++ gone) row)) (has_unmatched reference (stay ++ gone) rows) was in
      let free_ones = free_for (stay ++ came) row rows gone free in
      rw (still_matched stay gone came row (not_not (is_matched reference (stay ++ gone) row) parts.0) free_ones.0)
      (still_all_matched stay gone came rows parts.1 free_ones.1)
