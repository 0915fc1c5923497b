-- One step of a cursor.
use Rattle.std.proofs.Common.{◌≡◌, ◌⊎◌, ℕ, zero, suc, ◌<◌, ◌+◌, ◌-◌, take, append-nil, Bool, true, false, List, [], ◌∷◌, ◌++◌, length, Option, None, Some, Result, Ok, Err, refl, sym, ap, subst, ◌∙◌, arith, append_assoc, inl, inr, rules}
use Rattle.std.proofs.lemmas.List.{length-append}
use Rattle.std.specs.Option.{option_to_list}
use Rattle.std.specs.Prelude.{OnOk, is_err}
use Rattle.std.specs.Vec.Iter.{into_iter_items}
use Rattle.std.specs.declared.alloc.Global.{Global}
use Rattle.std.specs.declared.vec.IntoIter.{IntoIter}
use Rattle.sqlval.specs.Value.{Row}
use Rattle.refusals.specs.declared.refusal.Refusal.{Refusal}
use Rattle.denote.specs.declared.fault.Fault.{Fault}
use Rattle.denote.specs.Outcome.{Outcome}
use Rattle.algebra.specs.Listing.{tree_listing}
use Rattle.algebra.specs.declared.tree.Tree.{Tree}
use Rattle.executor.specs.declared.listed.Listed.{Listed}
use Rattle.executor.specs.Reply.{as_list, outcome_of}
use Rattle.places.specs.declared.place.Place.{Place, the_lemmas}
use Rattle.places.specs.declared.place.Place.TheVariants as p
use Rattle.places.specs.Indexes.{HasIndexes}
use Rattle.places.specs.Left.{Entries, before, entries_in, left, no_more, rows_by}
use Rattle.places.specs.Views.{is_whole}
use Rattle.places.proofs.LeftNodes.{left_start}
use Rattle.places.proofs.Wholes.{left_ended}
use Rattle.query_answers.specs.Answered.{rows_found}
use Rattle.query_answers.specs.Planned.{StandsFor}
use Rattle.query_answers.proofs.ByItself.{lists_plan}
use Rattle.rules.specs.Same.{IsSameTree}
use Rattle.session_definitions.specs.Cursor.{Begins, IsAtEnd, MayGive, MayRaise, having_given}
use Rattle.session_definitions.specs.Refusals.{IsReserved, refusal_of}
use Rattle.session_definitions.specs.World.{Cursor}
use Rattle.store.specs.Contents.{Contents}
use Rattle.store.specs.View.{Shown}
use Rattle.streams.specs.Parts.{names_in_parts}
use Rattle.cursors.specs.declared.cursor.OpenCursor.{OpenCursor}
use Rattle.cursors.specs.Opened.{BeginsAt, CanGoOn, Fits, HasNext, IsAhead, IsAlike, MayTake, cursor_of, entries_at, rest_list, rows_given, whole_list}
use Rattle.cursors.proofs.Lists.{Answers, Sorts, begins, given_is, raises, whole}

-- the rows of the whole list, those that were given before
pub parts : (cursor : OpenCursor) (contents : Contents) → Fits cursor contents
    → (whole_list cursor contents).rows ≡ (cursor_of cursor contents).given ++ (rest_list cursor contents).rows
parts cursor contents fits = ap (λ (o : Outcome). o.rows) (sym fits.whole)

end_is : (cursor : OpenCursor) (contents : Contents) → Fits cursor contents → (whole_list cursor contents).faults ≡ (rest_list cursor contents).faults
end_is cursor contents fits = ap (λ (o : Outcome). o.faults) (sym fits.whole)

abbrev pub moved : OpenCursor → IntoIter Row Global → Place → OpenCursor
moved cursor ahead place = record { tree = cursor.tree; plan = cursor.plan; ahead = ahead; place = place }

module _ (cursor : OpenCursor) (ahead : IntoIter Row Global) (place : Place) (contents : Contents) (fits : Fits cursor contents) where
  abbrev rest : Outcome
  rest = rest_list (moved cursor ahead place) contents

  -- a row is given
  module _ (row : Row) (takes : before (row ∷ []) (rest_list (moved cursor ahead place) contents) ≡ rest_list cursor contents) where
    now_given : (whole_list cursor contents).rows ≡ ((cursor_of cursor contents).given ++ row ∷ []) ++ rest.rows
    now_given = parts cursor contents fits ∙ ap (λ (o : Outcome). (cursor_of cursor contents).given ++ o.rows) (sym takes)
        ∙ sym (append_assoc (cursor_of cursor contents).given (row ∷ []) rest.rows)

    given_now : (cursor_of (moved cursor ahead place) contents).given ≡ (cursor_of cursor contents).given ++ row ∷ []
    given_now = given_is (whole_list cursor contents).rows ((cursor_of cursor contents).given ++ row ∷ []) rest.rows now_given

    pub gives : cursor_of (moved cursor ahead place) contents ≡ having_given (cursor_of cursor contents) (row ∷ [])
    gives = λ i. record { outcome = (cursor_of cursor contents).outcome; given = given_now i }

    pub may_give : Sorts → Answers → MayGive (cursor_of cursor contents) row
    may_give sorts answers = begins (rows_found contents) cursor.plan cursor.tree fits.same sorts answers ((cursor_of cursor contents).given ++ row ∷ []) rest.rows now_given

    pub fits_on : CanGoOn cursor.plan place contents → Fits (moved cursor ahead place) contents
    fits_on goes_on = record {
      same = fits.same;
      whole = (λ i. before (given_now i) rest)
          ∙ (λ i. record { rows = sym now_given i; faults = (ap (λ (o : Outcome). o.faults) takes ∙ sym (end_is cursor contents fits)) i });
      goes_on = goes_on;
    }

  -- the same is left
  module _ (same : rest_list (moved cursor ahead place) contents ≡ rest_list cursor contents) where
    stays : cursor_of (moved cursor ahead place) contents ≡ cursor_of cursor contents
    stays = ap (λ (o : Outcome). let it : Cursor = record { outcome = (cursor_of cursor contents).outcome; given = rows_given (whole_list cursor contents).rows o.rows } in it) same

    pub alike : CanGoOn cursor.plan place contents → IsAlike cursor (moved cursor ahead place) contents
    alike goes_on = record {
      fits = record {
        same = fits.same;
        whole = (λ i. before (rows_given (whole_list cursor contents).rows (same i).rows) (same i)) ∙ fits.whole;
        goes_on = goes_on;
      };
      same = stays;
    }

-- nothing is left
module _ (cursor : OpenCursor) (contents : Contents) (fits : Fits cursor contents) (sorts : Sorts) (answers : Answers) (fault : Option Fault)
    (over : rest_list cursor contents ≡ no_more fault) where
  all_given : (whole_list cursor contents).rows ≡ (cursor_of cursor contents).given
  all_given = parts cursor contents fits ∙ ap (λ (o : Outcome). (cursor_of cursor contents).given ++ o.rows) over ∙ append-nil (cursor_of cursor contents).given

  ends_by : (whole_list cursor contents).faults ≡ option_to_list fault
  ends_by = end_is cursor contents fits ∙ ap (λ (o : Outcome). o.faults) over

  pub is_at_end : fault ≡ None → IsAtEnd (cursor_of cursor contents)
  is_at_end none =
      let found = whole (rows_found contents) cursor.plan cursor.tree fits.same sorts answers (cursor_of cursor contents).given all_given
      (ends_by ∙ ap option_to_list none) in
      record { clean = found.0; all = found.1 }

  pub may_raise : (raised : Fault) → fault ≡ Some raised → MayRaise (cursor_of cursor contents) raised
  may_raise raised is =
      raises (rows_found contents) cursor.plan cursor.tree fits.same sorts answers raised [] (ends_by ∙ ap option_to_list is)

-- ---- a cursor is opened

as_ends : (fault : Option Fault) → option_to_list fault ≡ as_list fault
as_ends None = refl
as_ends (Some fault) = refl

given_none : (rows : List Row) → rows_given rows rows ≡ []
given_none rows = ap (λ n. take n rows) (none_left (length rows))
  where
    none_left : (n : ℕ) → n - n ≡ 0
    none_left n = omega arith

-- where all of its list is left
begins_at : (cursor : OpenCursor) (contents : Contents) → rest_list cursor contents ≡ whole_list cursor contents → IsSameTree (rows_found contents) cursor.plan cursor.tree
    → CanGoOn cursor.plan cursor.place contents → BeginsAt cursor contents
begins_at cursor contents same stands goes_on = record {
  fits = record { same = stands; whole = (λ i. before (given i) (rest_list cursor contents)) ∙ same; goes_on = goes_on };
  given = given;
}
  where
    given : (cursor_of cursor contents).given ≡ []
    given = ap (λ (o : Outcome). rows_given (whole_list cursor contents).rows o.rows) same ∙ given_none (whole_list cursor contents).rows

is_ended : (fault : Option Fault) → is_whole (p.Ended fault) ≡ true
is_ended fault = search (rules, the_lemmas)

-- of a list that was made whole
pub begins_whole : (tree plan : Tree) (ahead : IntoIter Row Global) (fault : Option Fault) (listed : Listed) (contents : Contents) → into_iter_items ahead ≡ listed.rows → fault ≡ listed.fault
    → outcome_of listed ≡ tree_listing (rows_found contents) plan [] → IsSameTree (rows_found contents) plan tree
    → BeginsAt (record { tree = tree; plan = plan; ahead = ahead; place = p.Ended fault }) contents
begins_whole tree plan ahead fault listed contents items ends is stands =
    begins_at (record { tree = tree; plan = plan; ahead = ahead; place = p.Ended fault }) contents same stands (inl (is_ended fault))
  where
    same : before (into_iter_items ahead) (left (entries_at contents) (p.Ended fault) plan) ≡ tree_listing (rows_found contents) plan []
    same = ap (λ (o : Outcome). before (into_iter_items ahead) o) (left_ended (entries_at contents) fault plan)
        ∙ ap (λ (rows : List Row). let it : Outcome = record { rows = rows; faults = option_to_list fault } in it) (append-nil (into_iter_items ahead))
        ∙ (λ i. record { rows = items i; faults = (as_ends fault ∙ ap as_list ends) i }) ∙ is

-- of a plan that was not begun
pub begins_unread : (tree plan : Tree) (ahead : IntoIter Row Global) (contents : Contents) → into_iter_items ahead ≡ [] → names_in_parts plan ≡ [] → StandsFor contents plan tree
    → BeginsAt (record { tree = tree; plan = plan; ahead = ahead; place = p.Start }) contents
begins_unread tree plan ahead contents none alone stands =
    begins_at (record { tree = tree; plan = plan; ahead = ahead; place = p.Start }) contents same stands.same (inr (alone, stands.indexed))
  where
    shown : Shown
    shown = record { contents = contents; refused = 0; damaged = 0; read = 0 }

    same : before (into_iter_items ahead) (left (entries_at contents) p.Start plan) ≡ tree_listing (rows_found contents) plan []
    same = ap (λ (rows : List Row). before rows (left (entries_at contents) p.Start plan)) none
        ∙ left_start (entries_at contents) plan ∙ lists_plan shown plan

-- ---- one row, however many were read ahead

-- a cursor that is alike to one that fits
pub alike_first : (cursor : OpenCursor) (contents : Contents) → Fits cursor contents → IsAlike cursor cursor contents
alike_first cursor contents fits = record { fits = fits; same = refl }

module _ (old cursor : OpenCursor) (contents : Contents) (there : IsAlike old cursor contents) (ahead : IntoIter Row Global) where
  -- the next row is ahead
  module _ (row : Row) (is : into_iter_items cursor.ahead ≡ row ∷ into_iter_items ahead) where
    takes : before (row ∷ []) (rest_list (moved cursor ahead cursor.place) contents) ≡ rest_list cursor contents
    takes = ap (λ (rows : List Row). before rows (left (entries_at contents) cursor.place cursor.plan)) (sym is)

    pub row_comes : Sorts → Answers → HasNext (Some row) (cursor_of old contents) (cursor_of (moved cursor ahead cursor.place) contents)
    row_comes sorts answers = (
      subst (λ (c : Cursor). MayGive c row) there.same (may_give cursor ahead cursor.place contents there.fits row takes sorts answers),
      gives cursor ahead cursor.place contents there.fits row takes ∙ ap (λ (c : Cursor). having_given c (row ∷ [])) there.same,
    )

    pub row_fits : Fits (moved cursor ahead cursor.place) contents
    row_fits = fits_on cursor ahead cursor.place contents there.fits row takes there.fits.goes_on

  -- none is
  module _ (none : (into_iter_items cursor.ahead ≡ []) × (into_iter_items ahead ≡ [])) where
    same_rest : rest_list (moved cursor ahead cursor.place) contents ≡ rest_list cursor contents
    same_rest = ap (λ (rows : List Row). before rows (left (entries_at contents) cursor.place cursor.plan)) (none.1 ∙ sym none.0)

    still : IsAlike cursor (moved cursor ahead cursor.place) contents
    still = alike cursor ahead cursor.place contents there.fits same_rest there.fits.goes_on

    -- and the list has ended
    module _ (fault : Option Fault) (ended : cursor.place ≡ p.Ended fault) (sorts : Sorts) (answers : Answers) where
      over : rest_list cursor contents ≡ no_more fault
      over = ap (λ (rows : List Row). before rows (left (entries_at contents) cursor.place cursor.plan)) none.0
          ∙ ap (λ (q : Place). left (entries_at contents) q cursor.plan) ended ∙ left_ended (entries_at contents) fault cursor.plan

      pub end_comes_next : (next : Option Row) → (next ≡ None) × (fault ≡ None) → HasNext next (cursor_of old contents) (cursor_of (moved cursor ahead cursor.place) contents)
      end_comes_next next h = subst (λ (n : Option Row). HasNext n (cursor_of old contents) (cursor_of (moved cursor ahead cursor.place) contents)) (sym h.0) (
        subst IsAtEnd there.same (is_at_end cursor contents there.fits sorts answers fault over h.1),
        still.same ∙ there.same,
      )

      pub end_fits : Fits (moved cursor ahead cursor.place) contents
      end_fits = still.fits

      pub fault_comes_next : (refusal : Refusal) → (raised : Fault) × (refusal ≡ refusal_of raised) × (fault ≡ Some raised) → MayTake refusal 1 (cursor_of old contents)
      fault_comes_next refusal h =
          inr (omega arith, (h.0, h.1, subst (λ (c : Cursor). MayRaise c h.0) there.same (may_raise cursor contents there.fits sorts answers fault over h.0 h.2)))

    -- or a block is read
    pub block_comes : (rows : IntoIter Row Global) (place : Place)
        → before (into_iter_items rows) (left (entries_at contents) place cursor.plan) ≡ left (entries_at contents) cursor.place cursor.plan
        → CanGoOn cursor.plan place contents → IsAlike old (moved cursor rows place) contents
    block_comes rows place reads goes_on =
        let on = alike cursor rows place contents there.fits
        (reads ∙ sym (ap (λ (items : List Row). before items (left (entries_at contents) cursor.place cursor.plan)) none.0)) goes_on in
        record { fits = on.fits; same = on.same ∙ there.same }

-- a block is read over what shows the same tables
pub block_read : (Sound Later : Type 0) (contents shown : Contents) → (Sound → Later) → shown ≡ contents → (old cursor : OpenCursor) (ahead : IntoIter Row Global)
    → (into_iter_items cursor.ahead ≡ []) × (into_iter_items ahead ≡ []) → (Sound → Fits old contents → IsAlike old cursor contents) → (rows : IntoIter Row Global) (place : Place)
    → (Later → CanGoOn cursor.plan cursor.place shown
    → before (into_iter_items rows) (left (entries_at shown) place cursor.plan) ≡ left (entries_at shown) cursor.place cursor.plan)
    → (Later → CanGoOn cursor.plan cursor.place shown → CanGoOn cursor.plan place shown)
    → Sound → Fits old contents → IsAlike old (moved cursor rows place) contents
block_read Sound Later contents shown on same old cursor ahead none so_far rows place reads goes sound fits =
    let there = so_far sound fits in
    let can : CanGoOn cursor.plan cursor.place shown = subst (λ (c : Contents). CanGoOn cursor.plan cursor.place c) (sym same) there.fits.goes_on in
    block_comes old cursor contents there ahead none rows place
    (subst (λ (c : Contents). before (into_iter_items rows) (left (entries_at c) place cursor.plan) ≡ left (entries_at c) cursor.place cursor.plan) same (reads (on sound) can))
    (subst (λ (c : Contents). CanGoOn cursor.plan place c) same (goes (on sound) can))

-- ---- rows one after another

-- so many rows have come from where a cursor was
pub record HasCome (old new : OpenCursor) (rows : List Row) (count : ℕ) (contents : Contents) : Type 0 where
  pub fits : Fits new contents
  pub leaves : cursor_of new contents ≡ having_given (cursor_of old contents) rows
  pub begun : Begins (cursor_of old contents).outcome ((cursor_of old contents).given ++ rows)
  pub all : length rows ≡ count

abbrev pub HasTaken : Type 0 → Contents → OpenCursor → OpenCursor → List Row → ℕ → Type 0
HasTaken Sound contents old new rows count = Sound → Fits old contents → HasCome old new rows count contents

-- none has come yet
pub none_come : (Sound : Type 0) (contents : Contents) (old : OpenCursor) → Sorts → Answers → HasTaken Sound contents old old [] 0
none_come Sound contents old sorts answers sound fits = record {
  fits = fits;
  leaves = λ i. record { outcome = (cursor_of old contents).outcome; given = sym (append-nil (cursor_of old contents).given) i };
  begun = subst (λ (given : List Row). Begins (cursor_of old contents).outcome given) (sym (append-nil (cursor_of old contents).given))
      (begins (rows_found contents) old.plan old.tree fits.same sorts answers (cursor_of old contents).given (rest_list old contents).rows (parts old contents fits));
  all = refl;
}

pub one_longer : {T E : Type 0} (result : Result T E) (failed : Bool) (rows more : List Row) (row : Row) (count : ℕ)
    → OnOk result (more ≡ rows ++ row ∷ []) → failed ≡ is_err result → failed ≡ false → length rows ≡ count → length more ≡ count + 1
one_longer (Ok x) failed rows more row count put is whole so_many = ap length put ∙ length-append rows (row ∷ []) ∙ ap (λ k. k + 1) so_many
one_longer (Err e) failed rows more row count put is whole so_many = let bad : true ≡ false = sym is ∙ whole in absurd (cc)

-- a call more, over what shows the same tables
module _ (Sound Later : Type 0) (contents shown : Contents) (on : Sound → Later) (same : shown ≡ contents) (old new to : OpenCursor) (rows : List Row) (count : ℕ)
    (taken : HasTaken Sound contents old new rows count) where
  next_here : (next : Option Row) → (Later → Fits new shown → HasNext next (cursor_of new shown) (cursor_of to shown))
      → Sound → Fits new contents → HasNext next (cursor_of new contents) (cursor_of to contents)
  next_here next h sound = subst (λ (c : Contents). Fits new c → HasNext next (cursor_of new c) (cursor_of to c)) same (h (on sound))

  fits_here : (Later → Fits new shown → Fits to shown) → Sound → Fits new contents → Fits to contents
  fits_here h sound = subst (λ (c : Contents). Fits new c → Fits to c) same (h (on sound))

  -- one more row comes
  comes_next : (row : Row) → (Later → Fits new shown → HasNext (Some row) (cursor_of new shown) (cursor_of to shown))
      → (Later → Fits new shown → Fits to shown) → HasTaken Sound contents old to (rows ++ row ∷ []) (count + 1)
  comes_next row next fits sound first =
      let there = taken sound first in
      let one = next_here (Some row) next sound there.fits in
      let longer = length-append rows (row ∷ []) in
      let so_many = there.all in
      record {
        fits = fits_here fits sound there.fits;
        leaves = one.1 ∙ ap (λ (c : Cursor). having_given c (row ∷ [])) there.leaves
            ∙ (λ i. record { outcome = (cursor_of old contents).outcome; given = append_assoc (cursor_of old contents).given rows (row ∷ []) i });
        begun = subst (λ (given : List Row). Begins (cursor_of old contents).outcome given) (append_assoc (cursor_of old contents).given rows (row ∷ []))
            (subst (λ (c : Cursor). Begins c.outcome (c.given ++ row ∷ [])) there.leaves one.0);
        all = omega (arith, longer, so_many);
      }

  -- and is put behind those that came
  pub comes_pushed : {T E : Type 0} (result : Result T E) (failed : Bool) (more : List Row) (row : Row)
      → OnOk result (more ≡ rows ++ row ∷ []) → failed ≡ is_err result → failed ≡ false
      → (Later → Fits new shown → HasNext (Some row) (cursor_of new shown) (cursor_of to shown))
      → (Later → Fits new shown → Fits to shown) → HasTaken Sound contents old to more (count + 1)
  comes_pushed (Ok x) failed more row put is whole next fits =
      subst (λ (list : List Row). HasTaken Sound contents old to list (count + 1)) (sym put) (comes_next row next fits)
  comes_pushed (Err e) failed more row put is whole next fits = let bad : true ≡ false = sym is ∙ whole in absurd (cc)

  -- the end is reached before
  pub end_comes : (most : ℕ) → count < most → (Later → Fits new shown → HasNext None (cursor_of new shown) (cursor_of to shown))
      → Sound → Fits old contents → IsAhead rows most (cursor_of old contents) (cursor_of to contents)
  end_comes most below next sound first =
      let there = taken sound first in
      let one = next_here None next sound there.fits in
      let so_many = there.all in
      record {
        may = there.begun;
        leaves = one.1 ∙ there.leaves;
        all = inr (omega (arith, below, so_many), subst IsAtEnd (sym one.1) one.0);
      }

  pub fits_after : (Later → Fits new shown → Fits to shown) → Sound → Fits old contents → Fits to contents
  fits_after fits sound first = fits_here fits sound (taken sound first).fits

  -- or a refusal
  pub refusal_comes : (most : ℕ) (refusal : Refusal) → count < most → (Later → Fits new shown → MayTake refusal 1 (cursor_of new shown))
      → Sound → Fits old contents → MayTake refusal most (cursor_of old contents)
  refusal_comes most refusal below h sound first =
      by (subst (λ (c : Contents). Fits new c → MayTake refusal 1 (cursor_of new c)) same (h (on sound)) (taken sound first).fits)
    where
      by : MayTake refusal 1 (cursor_of new contents) → MayTake refusal most (cursor_of old contents)
      by (inl reserved) = inl reserved
      by (inr raised) = inr (omega (arith, below), (raised.1.0, raised.1.1, subst (λ (c : Cursor). MayRaise c raised.1.0) (taken sound first).leaves raised.1.2))

-- all have come
pub all_come : (Sound : Type 0) (contents : Contents) (old new : OpenCursor) (rows : List Row) (count : ℕ) → HasTaken Sound contents old new rows count
    → Sound → Fits old contents → IsAhead rows count (cursor_of old contents) (cursor_of new contents)
all_come Sound contents old new rows count taken sound first =
    let there = taken sound first in
    record { may = there.begun; leaves = there.leaves; all = inl there.all }
