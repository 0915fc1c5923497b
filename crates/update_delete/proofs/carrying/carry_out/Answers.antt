use Rattle.std.proofs.Common.{◌≡◌, ◌∙◌, sym, ap, subst, List, ℕ, Some, IfSome}
use Rattle.std.specs.FinMap.{get}
use Rattle.std.specs.Prelude.{count_by}
use Rattle.sqlval.specs.Value.{Row}
use Rattle.store.specs.declared.view.View.TheVariants as at
use Rattle.store.specs.Contents.{StoredTable, database_of}
use Rattle.store.specs.Stored.{Stored, working_on, marked_now, undone}
use Rattle.constraints.specs.Changed.{RefusesChange}
use Rattle.constraints.specs.Matched.{AllHold, BreaksAny, IsAtNoEnd, MovedAll}
use Rattle.constraints.specs.Settled.{AreAmong, Holds, OthersHold}
use Rattle.constraints.proofs.Matched.{breaks-any}
use Rattle.denote_laws.specs.Difference.{Differs}
use Rattle.update_delete.specs.declared.change.RowChange.{RowChange}
use Rattle.update_delete.specs.RowChanges.{is_change, rows_new}
use Rattle.update_delete.specs.Made.{all_made}
use Rattle.update_delete.proofs.Carried.{all_short, among_made, decided_made, differ_made, holds_made, others_made, carried, broken, moved_all, none_before, some_among, taken_back, taken_back_at_once, where_new}
use Rattle.constraints.proofs.Limits.{tells_none}
use Rattle.update_delete.specs.Reached.{IsNumberedOut, MakingReaches}
use Rattle.update_delete.proofs.Reaching.{reached_before}
use Rattle.store.specs.Going.{Going}
use Rattle.update_delete.proofs.carrying.carry_out.Goals as goal

pub returns-in-Err-make_changes-clause-refused : goal.returns-in-Err-make_changes-clause-refused
returns-in-Err-make_changes-clause-refused g c = λ reading change sound decided meant.
    let old = g.S.Store.shows c.args.store.now in
    let mid = g.S.Store.shows c.begin.new.store in
    let marks : mid ≡ marked_now old = c.in_default.ensures.shows ∙ ap marked_now (c.rows_moved.ensures.shows ∙ c.rows_to_look_up.ensures.shows) in
    RefusesChange.withheld (c.in-Err-make_changes.ensures.refused ((g.met.S.Store.goes_on_goes _ _ _ c.begin.ensures.goes).sound ((g.met.S.Store.goes_on_goes _ _ _ c.rows_moved.ensures.goes).sound ((g.met.S.Store.goes_on_goes _ _ _ c.rows_to_look_up.ensures.goes).sound sound)))
    (all_short reading old mid change c.args.name.now c.args.planned marks meant))

pub returns-in-Err-make_changes-clause-same : goal.returns-in-Err-make_changes-clause-same
returns-in-Err-make_changes-clause-same g c =
    let old = g.S.Store.shows c.args.store.now in
    let mid = g.S.Store.shows c.begin.new.store in
    let marks : mid ≡ marked_now old = c.in_default.ensures.shows ∙ ap marked_now (c.rows_moved.ensures.shows ∙ c.rows_to_look_up.ensures.shows) in
    taken_back_at_once old mid (g.S.Store.shows c.make_changes.new.store) marks
    c.in-Err-make_changes.ensures.undone

pub returns-in-Ok-settle_moved-clause-changes : goal.returns-in-Ok-settle_moved-clause-changes
returns-in-Ok-settle_moved-clause-changes g c = λ reading change sound decided good harmless.
    let meant = harmless.meant in
    let holds : Holds reading (database_of (g.S.Store.shows c.args.store.now).working) c.args.name.now = λ table is. (good c.args.name.now table is).alone.unviolated in
    let old = g.S.Store.shows c.args.store.now in
    let mid = g.S.Store.shows c.begin.new.store in
    let made = g.S.Store.shows c.make_changes.new.store in
    let still = c.rows_moved.ensures.shows ∙ c.rows_to_look_up.ensures.shows in
    let marks : mid ≡ marked_now old = c.in_default.ensures.shows ∙ ap marked_now still in
    let looked = (g.met.S.Store.goes_on_goes _ _ _ c.rows_to_look_up.ensures.goes).sound sound in
    let ready = (g.met.S.Store.goes_on_goes _ _ _ c.begin.ensures.goes).sound ((g.met.S.Store.goes_on_goes _ _ _ c.rows_moved.ensures.goes).sound looked) in
    let all : made ≡ working_on mid (all_made c.args.name.now c.args.planned.numbers c.args.planned.changes mid.working) =
    c.in_default-make_changes.ensures.shows ready
    ∙ ap (λ (ns : List ℕ). working_on mid (all_made c.args.name.now ns c.args.planned.changes mid.working)) c.as_slice-4.ensures in
    let rises = λ (t : StoredTable) (there : get old.working c.args.name.now ≡ Some t). g.met.S.Store.numbers_rise c.args.store.now at.Working c.args.name.now t sound there in
    let new = rw c.as_slice-2.ensures at c.in-Ok.ensures.new in
    let is_sound = (g.met.S.Store.goes_on_goes _ _ _ c.make_changes.ensures.goes).sound ready in
    let kept = c.in_default-settle_new.ensures.kept in
    let own : Holds reading (database_of made.working) c.args.name.now =
    c.in_default-settle_new.ensures.holds reading is_sound
    (decided_made reading old mid change c.args.name.now c.args.planned marks meant made all rises (g.C.Checks.decides c.args.checks.now reading) decided)
    (λ known. holds_made reading old mid change c.args.name.now c.args.planned marks meant made all rises (harmless.leaves_good known holds))
    (where_new c.in-Ok.rows c.args.planned (λ (rows : List Row). OthersHold reading (database_of made.working) c.args.name.now rows) new
    (λ unsure. others_made reading old mid change c.args.name.now c.args.planned marks meant made all rises unsure (harmless.others_good unsure holds))) in
    let differs = differ_made reading old mid change c.args.name.now c.args.planned marks meant made all rises in
    let moved = moved_all (database_of old.working) (database_of made.working) c.args.name.now c.args.planned c.in-Ok-rows_moved.moved differs (rw c.as_slice-3.ensures at c.in-Ok-rows_moved.ensures.some)
    (none_before c.in-Ok-rows_moved.moved (λ none. subst (λ (s : Stored). IsAtNoEnd (database_of s.working) c.args.name.now) c.rows_to_look_up.ensures.shows (none looked)) c.in-Ok-rows_moved.ensures.none) in
    let whole = c.in-Ok-settle_moved.ensures.holds reading (database_of old.working) (rows_new c.args.planned.changes) c.args.planned.gone
    ((g.met.S.Store.goes_on_goes _ _ _ c.settle_new.ensures.goes).sound is_sound) good
    (subst (λ (s : Stored). Differs (database_of old.working) (database_of s.working) c.args.name.now (rows_new c.args.planned.changes) c.args.planned.gone) (sym kept) differs)
    (subst (λ (s : Stored). MovedAll (database_of s.working) c.args.name.now (rows_new c.args.planned.changes) c.args.planned.gone c.in-Ok-rows_moved.moved) (sym kept) moved)
    (subst (λ (s : Stored). Holds reading (database_of s.working) c.args.name.now) (sym kept) own) in
    carried reading old mid change c.args.name.now c.args.planned marks meant made all rises (g.S.Store.shows c.settle_moved.new.store) _ _ (c.in-Ok-settle_moved.ensures.kept ∙ kept)
    (subst (λ (s : Stored). AllHold reading (database_of s.working)) kept whole)
    (c.touched-count.ensures ∙ ap (λ (cs : List RowChange). count_by is_change cs) c.as_slice.ensures ∙ meant.touched) c.reply_for.ensures.gives

pub returns-in-Err-settle_new-clause-refused : goal.returns-in-Err-settle_new-clause-refused
returns-in-Err-settle_new-clause-refused g c = λ reading change sound decided meant.
    let old = g.S.Store.shows c.args.store.now in
    let mid = g.S.Store.shows c.begin.new.store in
    let made = g.S.Store.shows c.make_changes.new.store in
    let still = c.rows_moved.ensures.shows ∙ c.rows_to_look_up.ensures.shows in
    let marks : mid ≡ marked_now old = c.in_default.ensures.shows ∙ ap marked_now still in
    let looked = (g.met.S.Store.goes_on_goes _ _ _ c.rows_to_look_up.ensures.goes).sound sound in
    let ready = (g.met.S.Store.goes_on_goes _ _ _ c.begin.ensures.goes).sound ((g.met.S.Store.goes_on_goes _ _ _ c.rows_moved.ensures.goes).sound looked) in
    let all : made ≡ working_on mid (all_made c.args.name.now c.args.planned.numbers c.args.planned.changes mid.working) =
    c.in_default-make_changes.ensures.shows ready
    ∙ ap (λ (ns : List ℕ). working_on mid (all_made c.args.name.now ns c.args.planned.changes mid.working)) c.as_slice-4.ensures in
    let rises = λ (t : StoredTable) (there : get old.working c.args.name.now ≡ Some t). g.met.S.Store.numbers_rise c.args.store.now at.Working c.args.name.now t sound there in
    let new = rw c.as_slice-2.ensures at c.in-Ok.ensures.new in
    let is_sound = (g.met.S.Store.goes_on_goes _ _ _ c.make_changes.ensures.goes).sound ready in
    broken reading old mid change c.args.name.now c.args.planned marks meant made all rises c.in-Err-settle_new.refusal
    (breaks-any reading (database_of made.working) c.args.name.now c.in-Err-settle_new.refusal
    (c.in-Err-settle_new.ensures.refused reading is_sound
    (decided_made reading old mid change c.args.name.now c.args.planned marks meant made all rises (g.C.Checks.decides c.args.checks.now reading) decided)
    (where_new c.in-Ok.rows c.args.planned (λ (rows : List Row). AreAmong (database_of made.working) c.args.name.now rows) new
    (λ unsure. among_made reading old mid change c.args.name.now c.args.planned marks meant made all rises))))

pub returns-clause-refused : goal.returns-clause-refused
returns-clause-refused g c = λ reading change sound decided meant.
    let old = g.S.Store.shows c.args.store.now in
    let mid = g.S.Store.shows c.begin.new.store in
    let made = g.S.Store.shows c.make_changes.new.store in
    let still = c.rows_moved.ensures.shows ∙ c.rows_to_look_up.ensures.shows in
    let marks : mid ≡ marked_now old = c.in_default.ensures.shows ∙ ap marked_now still in
    let looked = (g.met.S.Store.goes_on_goes _ _ _ c.rows_to_look_up.ensures.goes).sound sound in
    let ready = (g.met.S.Store.goes_on_goes _ _ _ c.begin.ensures.goes).sound ((g.met.S.Store.goes_on_goes _ _ _ c.rows_moved.ensures.goes).sound looked) in
    let all : made ≡ working_on mid (all_made c.args.name.now c.args.planned.numbers c.args.planned.changes mid.working) =
    c.in_default-make_changes.ensures.shows ready
    ∙ ap (λ (ns : List ℕ). working_on mid (all_made c.args.name.now ns c.args.planned.changes mid.working)) c.as_slice-4.ensures in
    let rises = λ (t : StoredTable) (there : get old.working c.args.name.now ≡ Some t). g.met.S.Store.numbers_rise c.args.store.now at.Working c.args.name.now t sound there in
    let new = rw c.as_slice-2.ensures at c.in-Ok.ensures.new in
    let is_sound = (g.met.S.Store.goes_on_goes _ _ _ c.make_changes.ensures.goes).sound ready in
    let kept = c.in_default-settle_new.ensures.kept in
    broken reading old mid change c.args.name.now c.args.planned marks meant made all rises c.in-Err-settle_moved.refusal
    (subst (λ (s : Stored). BreaksAny reading (database_of s.working) c.in-Err-settle_moved.refusal) kept
    (c.in-Err-settle_moved.ensures.refused reading ((g.met.S.Store.goes_on_goes _ _ _ c.settle_new.ensures.goes).sound is_sound)
    (subst (λ (s : Stored). IfSome c.in-Ok-rows_moved.moved (λ m. AreAmong (database_of s.working) c.args.name.now m.came)) (sym kept)
    (some_among c.in-Ok-rows_moved.moved c.args.planned (AreAmong (database_of made.working) c.args.name.now)
    (among_made reading old mid change c.args.name.now c.args.planned marks meant made all rises) (rw c.as_slice-3.ensures at c.in-Ok-rows_moved.ensures.some)))))

pub returns-in-Err-settle_new-clause-same : goal.returns-in-Err-settle_new-clause-same
returns-in-Err-settle_new-clause-same g c =
    let old = g.S.Store.shows c.args.store.now in
    let mid = g.S.Store.shows c.begin.new.store in
    let marks : mid ≡ marked_now old = c.in_default.ensures.shows ∙ ap marked_now (c.rows_moved.ensures.shows ∙ c.rows_to_look_up.ensures.shows) in
    taken_back old mid (g.S.Store.shows c.make_changes.new.store) (g.S.Store.shows c.settle_new.new.store) _ marks
    c.in_default-make_changes.ensures.alone c.in-Err-settle_new.ensures.undone

pub returns-clause-same : goal.returns-clause-same
returns-clause-same g c =
    let old = g.S.Store.shows c.args.store.now in
    let mid = g.S.Store.shows c.begin.new.store in
    let marks : mid ≡ marked_now old = c.in_default.ensures.shows ∙ ap marked_now (c.rows_moved.ensures.shows ∙ c.rows_to_look_up.ensures.shows) in
    taken_back old mid (g.S.Store.shows c.make_changes.new.store) (g.S.Store.shows c.settle_moved.new.store) _ marks
    c.in_default-make_changes.ensures.alone (c.in-Err-settle_moved.ensures.undone ∙ ap undone c.in_default-settle_new.ensures.kept)

pub returns-in-Err-rows_moved-clause-limits : goal.returns-in-Err-rows_moved-clause-limits
returns-in-Err-rows_moved-clause-limits g c = tells_none (MakingReaches (g.S.Store.counted c.rows_moved.new.store) c.args.planned.changes (g.S.Store.is_sound c.args.store.now → IsNumberedOut (get (g.S.Store.shows c.args.store.now).working c.args.name.now))) c.in-Err-rows_moved.refusal c.in-Err-rows_moved.ensures.limits

pub returns-in-Err-settle_new-clause-limits : goal.returns-in-Err-settle_new-clause-limits
returns-in-Err-settle_new-clause-limits g c = tells_none (MakingReaches (g.S.Store.counted c.settle_new.new.store) c.args.planned.changes (g.S.Store.is_sound c.args.store.now → IsNumberedOut (get (g.S.Store.shows c.args.store.now).working c.args.name.now))) c.in-Err-settle_new.refusal c.in-Err-settle_new.ensures.limits

pub returns-in-Err-clause-limits : goal.returns-in-Err-clause-limits
returns-in-Err-clause-limits g c = tells_none (MakingReaches (g.S.Store.counted c.rows_to_look_up.new.store) c.args.planned.changes (g.S.Store.is_sound c.args.store.now → IsNumberedOut (get (g.S.Store.shows c.args.store.now).working c.args.name.now))) c.in-Err.refusal c.in-Err.ensures.limits

pub returns-in-Err-begin-clause-limits : goal.returns-in-Err-begin-clause-limits
returns-in-Err-begin-clause-limits g c = tells_none (MakingReaches (g.S.Store.counted c.begin.new.store) c.args.planned.changes (g.S.Store.is_sound c.args.store.now → IsNumberedOut (get (g.S.Store.shows c.args.store.now).working c.args.name.now))) c.in-Err-begin.refusal c.in-Err-begin.ensures.limits

pub returns-in-Err-make_changes-clause-limits : goal.returns-in-Err-make_changes-clause-limits
returns-in-Err-make_changes-clause-limits g c =
    let old = g.S.Store.shows c.args.store.now in
    let mid = g.S.Store.shows c.begin.new.store in
    let marks : mid ≡ marked_now old = c.in_default.ensures.shows ∙ ap marked_now (c.rows_moved.ensures.shows ∙ c.rows_to_look_up.ensures.shows) in
    reached_before (g.S.Store.counted c.make_changes.new.store) c.args.planned.changes c.args.planned.changes
    (g.S.Store.is_sound c.begin.new.store → IsNumberedOut (get mid.working c.args.name.now)) (g.S.Store.is_sound c.args.store.now → IsNumberedOut (get old.working c.args.name.now)) (λ none. none)
    (λ out sound. subst (λ (s : Stored). IsNumberedOut (get s.working c.args.name.now)) marks (out ((g.met.S.Store.goes_on_goes _ _ _ c.begin.ensures.goes).sound ((g.met.S.Store.goes_on_goes _ _ _ c.rows_moved.ensures.goes).sound ((g.met.S.Store.goes_on_goes _ _ _ c.rows_to_look_up.ensures.goes).sound sound)))))
    c.in-Err-make_changes.refusal c.in-Err-make_changes.ensures.limits

pub returns-clause-limits : goal.returns-clause-limits
returns-clause-limits g c = tells_none (MakingReaches (g.S.Store.counted c.settle_moved.new.store) c.args.planned.changes (g.S.Store.is_sound c.args.store.now → IsNumberedOut (get (g.S.Store.shows c.args.store.now).working c.args.name.now))) c.in-Err-settle_moved.refusal c.in-Err-settle_moved.ensures.limits

pub returns-in-Err-clause-goes : goal.returns-in-Err-clause-goes
returns-in-Err-clause-goes g c = g.met.S.Store.goes_on_trans _ _ _ Going.reads Going.changes c.rows_to_look_up.ensures.goes (g.met.S.Store.goes_on_refl _ Going.changes)

pub returns-in-Err-rows_moved-clause-goes : goal.returns-in-Err-rows_moved-clause-goes
returns-in-Err-rows_moved-clause-goes g c = g.met.S.Store.goes_on_trans _ _ _ Going.keeps Going.changes (g.met.S.Store.goes_on_trans _ _ _ Going.reads Going.keeps c.rows_to_look_up.ensures.goes c.rows_moved.ensures.goes) (g.met.S.Store.goes_on_refl _ Going.changes)

pub returns-in-Err-begin-clause-goes : goal.returns-in-Err-begin-clause-goes
returns-in-Err-begin-clause-goes g c = g.met.S.Store.goes_on_trans _ _ _ Going.keeps Going.changes (g.met.S.Store.goes_on_trans _ _ _ Going.keeps Going.keeps (g.met.S.Store.goes_on_trans _ _ _ Going.reads Going.keeps c.rows_to_look_up.ensures.goes c.rows_moved.ensures.goes) c.begin.ensures.goes) (g.met.S.Store.goes_on_refl _ Going.changes)

pub returns-in-Err-make_changes-clause-goes : goal.returns-in-Err-make_changes-clause-goes
returns-in-Err-make_changes-clause-goes g c = g.met.S.Store.goes_on_trans _ _ _ Going.keeps Going.changes (g.met.S.Store.goes_on_trans _ _ _ Going.keeps Going.keeps (g.met.S.Store.goes_on_trans _ _ _ Going.reads Going.keeps c.rows_to_look_up.ensures.goes c.rows_moved.ensures.goes) c.begin.ensures.goes) c.make_changes.ensures.goes

pub returns-in-Err-settle_new-clause-goes : goal.returns-in-Err-settle_new-clause-goes
returns-in-Err-settle_new-clause-goes g c = g.met.S.Store.goes_on_trans _ _ _ Going.changes Going.keeps (g.met.S.Store.goes_on_trans _ _ _ Going.keeps Going.changes (g.met.S.Store.goes_on_trans _ _ _ Going.keeps Going.keeps (g.met.S.Store.goes_on_trans _ _ _ Going.reads Going.keeps c.rows_to_look_up.ensures.goes c.rows_moved.ensures.goes) c.begin.ensures.goes) c.make_changes.ensures.goes) c.settle_new.ensures.goes

pub returns-in-Ok-settle_moved-clause-goes : goal.returns-in-Ok-settle_moved-clause-goes
returns-in-Ok-settle_moved-clause-goes g c = g.met.S.Store.goes_on_trans _ _ _ Going.changes Going.keeps (g.met.S.Store.goes_on_trans _ _ _ Going.changes Going.keeps (g.met.S.Store.goes_on_trans _ _ _ Going.keeps Going.changes (g.met.S.Store.goes_on_trans _ _ _ Going.keeps Going.keeps (g.met.S.Store.goes_on_trans _ _ _ Going.reads Going.keeps c.rows_to_look_up.ensures.goes c.rows_moved.ensures.goes) c.begin.ensures.goes) c.make_changes.ensures.goes) c.settle_new.ensures.goes) c.settle_moved.ensures.goes

pub returns-clause-goes : goal.returns-clause-goes
returns-clause-goes g c = g.met.S.Store.goes_on_trans _ _ _ Going.changes Going.keeps (g.met.S.Store.goes_on_trans _ _ _ Going.changes Going.keeps (g.met.S.Store.goes_on_trans _ _ _ Going.keeps Going.changes (g.met.S.Store.goes_on_trans _ _ _ Going.keeps Going.keeps (g.met.S.Store.goes_on_trans _ _ _ Going.reads Going.keeps c.rows_to_look_up.ensures.goes c.rows_moved.ensures.goes) c.begin.ensures.goes) c.make_changes.ensures.goes) c.settle_new.ensures.goes) c.settle_moved.ensures.goes
