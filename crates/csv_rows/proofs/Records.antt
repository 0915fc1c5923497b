-- The records of a text one after another.
use Rattle.std.proofs.Common.{◌≡◌, ◌≢◌, ℕ, List, [], ◌∷◌, ◌++◌, length, map, true, false, Option, Some, None, option_map, ap, sym, ◌∙◌, subst}
use Rattle.std.specs.List.{AllByRecursion}
use Rattle.std.specs.Prelude.{IfSome}
use Rattle.std.proofs.lemmas.List.{length-map}
use Rattle.csv.specs.Machine.{next_record}
use Rattle.csv.specs.Reading.{AreRecords, ExplainsRead, Reached, ReadsNext, TookRecord}
use Rattle.csv.specs.declared.parser.Config.{Config}
use Rattle.csv.specs.declared.parser.State.{State}
use Rattle.csv.specs.declared.reader.Reader.{Reader}
use Rattle.csv.specs.declared.error.ErrorKind.{ErrorKind}
use Rattle.csv.specs.declared.error.ErrorKind.TheVariants as kind
use Rattle.csv.proofs.ReadFacts.{found-some}
use Rattle.sqlval.specs.Value.{Row}
use Rattle.sqlrecord.specs.Storable.{AllStorable}
use Rattle.replies.specs.Printed.{printed_value}
use Rattle.csv_rows.specs.Causes.{cause_of}
use Rattle.csv_rows.specs.Rows.{HaveWidth, records_of}
use Rattle.csv_rows.specs.declared.error.ReadError.TheVariants.{Field}

-- the length that the next record is to have: that of all before it
abbrev pub Expects : Option ℕ → List Row → Type 0
Expects None rows = rows ≡ []
Expects (Some width) [] = ⊥
Expects (Some width) (row ∷ rows) = HaveWidth width (row ∷ rows)

widths-more : (width : ℕ) (rows : List Row) (row : Row) → HaveWidth width rows → length row ≡ width → HaveWidth width (rows ++ row ∷ [])
widths-more width [] row all is = (is, tt)
widths-more width (first ∷ rows) row all is = (all.0, widths-more width rows row all.1 is)

pub expects-more : (expected : Option ℕ) (rows : List Row) (row : Row) (width : ℕ) → Expects expected rows → IfSome expected (λ e. Some width ≡ Some e) → length row ≡ width
    → Expects (Some width) (rows ++ row ∷ [])
expects-more None [] row width none same is = (is, tt)
expects-more None (first ∷ rows) row width none same is = absurd (cc none)
expects-more (Some e) [] row width some same is = absurd some
expects-more (Some e) (first ∷ rows) row width all same is =
    let one : e ≡ width = cc same in widths-more width (first ∷ rows) row (subst (λ w. HaveWidth w (first ∷ rows)) one all) is

pub one_width : (expected : Option ℕ) (rows : List Row) → Expects expected rows → (width : ℕ) × HaveWidth width rows
one_width None [] none = (0, tt)
one_width None (row ∷ rows) none = absurd (cc none)
one_width (Some width) [] some = absurd some
one_width (Some width) (row ∷ rows) all = (width, all)

-- the record that a read took is the next one of the text
pub read_next : (cfg used : Config) (s : State) (source rest : Option (List ℕ)) (bytes : List ℕ) (fields : List (List ℕ)) (after : State) → used ≡ cfg → source ≡ Some bytes
    → ReadsNext used s source rest true fields after → Some fields ≡ option_map (λ p. p.0) (next_record cfg s [] [] bytes)
read_next cfg used s None rest bytes fields after same known read = absurd (cc known)
read_next cfg used s (Some xs) None bytes fields after same known read = absurd read
read_next cfg used s (Some xs) (Some ys) bytes fields after same known read =
    let one : xs ≡ bytes = cc known in
    subst (λ b. Some fields ≡ option_map (λ p. p.0) (next_record cfg s [] [] b)) one
    (subst (λ u. Some fields ≡ option_map (λ p. p.0) (next_record u s [] [] xs)) same (found-some _ fields after ys read))

-- records that were read are the first of all records of the text, and the next one comes behind
-- them
pub record Continues (all before : List (List (List ℕ))) (next : List (List ℕ)) : Type 0 where
  pub rest : List (List (List ℕ))
  pub is : all ≡ before ++ next ∷ rest

pub goes_on : (cfg : Config) (s : State) (xs : List ℕ) (before all : List (List (List ℕ))) (at : State) (left : List ℕ) (next : List (List ℕ))
    → Reached cfg s xs before at left → Some next ≡ option_map (λ p. p.0) (next_record cfg at [] [] left) → AreRecords cfg s xs all → Continues all before next
unfolding Reached
goes_on cfg s xs [] [] at left next reached found all =
    let none : next_record cfg at [] [] left ≡ None = cc (reached.0, reached.1, all.2.0, all.2.1, all.3) in absurd (cc (rw none at found))
goes_on cfg s xs [] (r ∷ rs) at left next reached found all =
    let some : next_record cfg at [] [] left ≡ Some all.2.0 = cc (reached.0, reached.1, all.2.1) in
    let same : r ≡ next = cc (rw some at found, all.2.2) in
    record { rest = rs; is = ap (λ x. x ∷ rs) same }
goes_on cfg s xs (b ∷ before) [] at left next reached found all =
    let none : next_record cfg s [] [] xs ≡ None = cc (all.2.0, all.2.1, all.3) in absurd (cc (none, reached.1))
goes_on cfg s xs (b ∷ before) (r ∷ rs) at left next reached found all =
    let one : reached.0 ≡ all.2.0 = cc (reached.1, all.2.1) in
    let tail : Reached cfg all.2.0.1 all.2.0.2 before at left = subst (λ p. Reached cfg p.1 p.2 before at left) one reached.3 in
    let more = goes_on cfg all.2.0.1 all.2.0.2 before rs at left next tail found (all.0, all.1, all.2.3, all.3) in
    let first : r ≡ b = cc (one, reached.2, all.2.2) in
    record { rest = more.rest; is = ap (λ x. x ∷ rs) first ∙ ap (λ x. b ∷ x) more.is }

-- the row of a record among others
pub record IsRowOf (rows : List Row) (width : ℕ) (fields : List (List ℕ)) : Type 0 where
  pub row : Row
  pub storable : AllStorable row
  pub printed : map printed_value row ≡ fields
  pub long : length row ≡ width

pub row_among : (rows : List Row) (before : List (List (List ℕ))) (fields : List (List ℕ)) (rest : List (List (List ℕ))) (width : ℕ)
    → records_of rows ≡ before ++ fields ∷ rest → AllByRecursion AllStorable rows → HaveWidth width rows → IsRowOf rows width fields
row_among [] [] fields rest width e all even = absurd (cc e)
row_among [] (b ∷ before) fields rest width e all even = absurd (cc e)
row_among (row ∷ rows) [] fields rest width e all even = record { row = row; storable = all.0; printed = cc e; long = even.0 }
row_among (row ∷ rows) (b ∷ before) fields rest width e all even =
    let more = row_among rows before fields rest width (cc e) all.1 even.1 in
    record { row = more.row; storable = more.storable; printed = more.printed; long = more.long }

-- where a record of another length comes behind rows, there are no rows of one width
pub uneven : (expected len : ℕ) (before rows : List Row) (fields : List (List ℕ)) (rest : List (List (List ℕ))) (width : ℕ) → Expects (Some expected) before
    → records_of rows ≡ records_of before ++ fields ∷ rest → AllByRecursion AllStorable rows → HaveWidth width rows → length fields ≡ len → expected ≢ len → ⊥
uneven expected len [] rows fields rest width some e all even is other = some
uneven expected len (row ∷ before) [] fields rest width some e all even is other = absurd (cc e)
uneven expected len (row ∷ before) (first ∷ rows) fields rest width some e all even is other =
    let last = row_among (first ∷ rows) (records_of (row ∷ before)) fields rest width e all even in
    let front : map printed_value first ≡ map printed_value row = cc e in
    let wide : width ≡ expected = sym even.0 ∙ sym (length-map first printed_value) ∙ ap length front ∙ length-map row printed_value ∙ some.0 in
    let long : width ≡ len = sym last.long ∙ sym (length-map last.row printed_value) ∙ ap length last.printed ∙ is in
    other (sym wide ∙ long)

-- a refusal that is told as a field's is of a record of another length
pub record IsUneven {R : Type 0} (rem : R → Option (List ℕ)) (old new : Reader R) : Type 0 where
  pub expected : ℕ
  pub len : ℕ
  pub fields : List (List ℕ)
  pub known : old.expected ≡ Some expected
  pub other : expected ≢ len
  pub took : TookRecord rem old new fields
  pub long : length fields ≡ len

pub told_uneven : {R : Type 0} (rem : R → Option (List ℕ)) (old new : Reader R) (why : ErrorKind) → cause_of why ≡ Field → ExplainsRead rem old new false why → IsUneven rem old new
told_uneven rem old new (kind.Io error) e told = absurd (cc e)
told_uneven rem old new (kind.UnequalLengths place expected len) e told =
    record { expected = expected; len = len; fields = told.3; known = told.1; other = told.2; took = told.4; long = told.5 }
told_uneven rem old new (kind.Utf8 place error) e told = absurd (cc told.0)
told_uneven rem old new kind.OutOfMemory e told = absurd (cc e)
told_uneven rem old new (kind.Serialize text) e told = absurd told
told_uneven rem old new (kind.Deserialize place error) e told = absurd told
