use Rattle.std.proofs.Common.{◌≡◌, ◌∙◌, refl, sym, ap, subst, List, [], Option, Some, None}
use Rattle.std.specs.Prelude.{IfSome, IfNone}
use Rattle.sqlval.specs.Value.{Row}
use Rattle.denote_laws.specs.Difference.{Differs}
use Rattle.session_definitions.specs.Refusals.{IsReserved}
use Rattle.store.specs.Contents.{StoredTable, database_of, appended}
use Rattle.store.specs.Stored.{Stored, working_on, undone}
use Rattle.constraints.specs.Changed.{RefusesChange}
use Rattle.constraints.specs.Matched.{AllHold, BreaksAny, CameAll}
use Rattle.constraints.specs.Settled.{AreAmong, Decided, Holds}
use Rattle.constraints.proofs.Matched.{breaks-any}
use Rattle.table_changes.specs.Given.{HasMore, into}
use Rattle.table_changes.proofs.Replied.{no_refusal}
use Rattle.table_changes.proofs.Inserted.{marked_same, undone_same, withheld, inserted, broken, decided_made, more_there, differ, are_among, came_all}
use Rattle.std.specs.FinMap.{get}
use Rattle.store.specs.Errors.{StoringReaches}
use Rattle.transactions.specs.Refused.{TellsReached}
use Rattle.transactions.proofs.Tests.{tells_reached}
use Rattle.constraints.proofs.Limits.{tells_none}
use Rattle.store.specs.Going.{Going}
use Rattle.table_changes.proofs.inserting.insert_rows.Goals as goal

none_before : {P Q : Type 0} (copies : Option (List Row)) → (P → Q) → IfNone copies P → IfNone copies Q
none_before None f h = f h
none_before (Some copies) f h = tt

some_among : (copies : Option (List Row)) (P : List Row → Type 0) (rows : List Row) → P rows → IfSome copies (λ all. all ≡ rows) → IfSome copies P
some_among None P rows h same = tt
some_among (Some copies) P rows h same = subst P (sym same) h

pub returns-in-Err-known_to_hold-clause-refused : goal.returns-in-Err-known_to_hold-clause-refused
returns-in-Err-known_to_hold-clause-refused g c = λ reading columns source sound decided good given.
    let old = g.S.Store.shows c.args.store.now in
    let mid = g.S.Store.shows c.begin.new.store in
    let marks = c.in_default.ensures.shows in
    let name = c.args.table.now in
    let made = working_on mid (appended mid.working name c.args.rows) in
    broken reading old mid (into c.args.table.now columns source) c.args.rows marks given made c.in-Err-known_to_hold.refusal refl
    (breaks-any reading (database_of made.working) name c.in-Err-known_to_hold.refusal
    (c.in-Err-known_to_hold.ensures.refused reading (database_of made.working) ((g.met.S.Store.goes_on_goes _ _ _ c.begin.ensures.goes).sound sound)
    (subst (λ (s : Stored). Decided (g.C.Checks.decides c.args.checks.now reading) (database_of s.working) name) (sym marks) decided)
    (subst (λ (s : Stored). Holds reading (database_of s.working) name) (sym marks) (λ table is. (good name table is).alone.unviolated))
    (subst (λ (rows : List Row). HasMore (database_of mid.working) name rows (database_of made.working)) (sym c.as_slice.ensures)
    (more_there reading old mid (into c.args.table.now columns source) c.args.rows marks given made refl))))

pub returns-in-Err-known_to_hold-clause-same : goal.returns-in-Err-known_to_hold-clause-same
returns-in-Err-known_to_hold-clause-same g c = marked_same (g.S.Store.shows c.args.store.now) (g.S.Store.shows c.begin.new.store) (g.S.Store.shows c.known_to_hold.new.store)
    c.in_default.ensures.shows c.known_to_hold.ensures.shows

pub returns-in-Err-rows_to_match-clause-refused : goal.returns-in-Err-rows_to_match-clause-refused
returns-in-Err-rows_to_match-clause-refused g c = λ reading columns source sound decided good given.
    RefusesChange.withheld (c.in-Err-rows_to_match.ensures.refused
    ((g.met.S.Store.goes_on_goes _ _ _ c.known_to_hold.ensures.goes).sound ((g.met.S.Store.goes_on_goes _ _ _ c.begin.ensures.goes).sound sound)))

pub returns-in-Err-rows_to_match-clause-same : goal.returns-in-Err-rows_to_match-clause-same
returns-in-Err-rows_to_match-clause-same g c = marked_same (g.S.Store.shows c.args.store.now) (g.S.Store.shows c.begin.new.store) (g.S.Store.shows c.rows_to_match.new.store)
    c.in_default.ensures.shows (c.rows_to_match.ensures.shows ∙ c.known_to_hold.ensures.shows)

pub returns-in-Err-append-clause-refused : goal.returns-in-Err-append-clause-refused
returns-in-Err-append-clause-refused g c = λ reading columns source sound decided good given.
    let held = (g.met.S.Store.goes_on_goes _ _ _ c.known_to_hold.ensures.goes).sound ((g.met.S.Store.goes_on_goes _ _ _ c.begin.ensures.goes).sound sound) in
    let looked = (g.met.S.Store.goes_on_goes _ _ _ c.rows_to_match.ensures.goes).sound held in
    let marks = c.rows_to_match.ensures.shows ∙ c.known_to_hold.ensures.shows ∙ c.in_default.ensures.shows in
    RefusesChange.withheld (subst IsReserved (sym c.refusal_of.ensures)
    (withheld reading (g.S.Store.shows c.args.store.now) (g.S.Store.shows c.rows_to_match.new.store) (into c.args.table.now columns source) c.args.rows marks given
    (g.S.Store.is_sound c.rows_to_match.new.store) (g.S.Store.refused c.rows_to_match.new.store) (g.S.Store.refused c.append.new.self) (g.S.Store.counted c.append.new.self)
    c.in-Err-append.error c.in-Err-append.ensures.refused looked))

pub returns-in-Err-settle_unless-clause-refused : goal.returns-in-Err-settle_unless-clause-refused
returns-in-Err-settle_unless-clause-refused g c = λ reading columns source sound decided good given.
    let old = g.S.Store.shows c.args.store.now in
    let looked = g.S.Store.shows c.rows_to_match.new.store in
    let made = g.S.Store.shows c.append.new.self in
    let marks = c.rows_to_match.ensures.shows ∙ c.known_to_hold.ensures.shows ∙ c.in_default.ensures.shows in
    let held = (g.met.S.Store.goes_on_goes _ _ _ c.known_to_hold.ensures.goes).sound ((g.met.S.Store.goes_on_goes _ _ _ c.begin.ensures.goes).sound sound) in
    let is_sound = (g.met.S.Store.goes_on_goes _ _ _ c.rows_to_match.ensures.goes).sound held in
    let stored = c.in_default-append.ensures.shows is_sound in
    broken reading old looked (into c.args.table.now columns source) c.args.rows marks given made c.in-Err-settle_unless.refusal stored
    (breaks-any reading (database_of made.working) c.args.table.now c.in-Err-settle_unless.refusal
    (c.in-Err-settle_unless.ensures.refused reading ((g.met.S.Store.goes_on_goes _ _ _ c.append.ensures.goes).sound is_sound)
    (decided_made reading old looked (into c.args.table.now columns source) c.args.rows marks given (g.C.Checks.decides c.args.checks.now reading) made stored decided)))

pub returns-in-Ok-settle_came-clause-changes : goal.returns-in-Ok-settle_came-clause-changes
returns-in-Ok-settle_came-clause-changes g c = λ reading columns source sound decided good given.
    let old = g.S.Store.shows c.args.store.now in
    let mid = g.S.Store.shows c.begin.new.store in
    let looked = g.S.Store.shows c.rows_to_match.new.store in
    let made = g.S.Store.shows c.append.new.self in
    let name = c.args.table.now in
    let first = c.in_default.ensures.shows in
    let still = c.rows_to_match.ensures.shows ∙ c.known_to_hold.ensures.shows in
    let marks = still ∙ first in
    let begun = (g.met.S.Store.goes_on_goes _ _ _ c.begin.ensures.goes).sound sound in
    let held = (g.met.S.Store.goes_on_goes _ _ _ c.known_to_hold.ensures.goes).sound begun in
    let ready = (g.met.S.Store.goes_on_goes _ _ _ c.rows_to_match.ensures.goes).sound held in
    let stored = c.in_default-append.ensures.shows ready in
    let is_sound = (g.met.S.Store.goes_on_goes _ _ _ c.append.ensures.goes).sound ready in
    let kept = c.in_default-settle_unless.ensures.kept in
    let own : Holds reading (database_of made.working) name =
    c.in_default-settle_unless.ensures.holds reading is_sound
    (decided_made reading old looked (into c.args.table.now columns source) c.args.rows marks given (g.C.Checks.decides c.args.checks.now reading) made stored decided)
    (λ known. c.in-Ok.ensures.known reading (database_of made.working) begun
    (subst (λ (s : Stored). Decided (g.C.Checks.decides c.args.checks.now reading) (database_of s.working) name) (sym first) decided)
    (subst (λ (s : Stored). Holds reading (database_of s.working) name) (sym first) (λ table is. (good name table is).alone.unviolated))
    (subst (λ (rows : List Row). HasMore (database_of mid.working) name rows (database_of made.working)) (sym c.as_slice.ensures)
    (subst (λ (s : Stored). HasMore (database_of s.working) name c.args.rows (database_of made.working)) still
    (more_there reading old looked (into c.args.table.now columns source) c.args.rows marks given made stored)))
    known) in
    let all = c.in-Ok-settle_came.ensures.holds reading (database_of old.working) c.args.rows ((g.met.S.Store.goes_on_goes _ _ _ c.settle_unless.ensures.goes).sound is_sound) good
    (subst (λ (s : Stored). Differs (database_of old.working) (database_of s.working) name c.args.rows []) (sym kept)
    (differ reading old looked (into c.args.table.now columns source) c.args.rows marks given made stored))
    (subst (λ (s : Stored). CameAll (database_of s.working) name c.args.rows c.in-Ok-rows_to_match.came) (sym kept)
    (came_all reading old looked (into c.args.table.now columns source) c.args.rows marks given made c.in-Ok-rows_to_match.came stored (subst (λ (rows : List Row). IfSome c.in-Ok-rows_to_match.came (λ all. all ≡ rows)) c.as_slice-2.ensures c.in-Ok-rows_to_match.ensures.some)
    (none_before c.in-Ok-rows_to_match.came (λ none t is. none t held (subst (λ (s : Stored). get (database_of s.working) name ≡ Some t) (sym (c.known_to_hold.ensures.shows ∙ first)) is)) c.in-Ok-rows_to_match.ensures.none)))
    (subst (λ (s : Stored). Holds reading (database_of s.working) name) (sym kept) own) in
    inserted reading old looked (into c.args.table.now columns source) c.args.rows marks given made (g.S.Store.shows c.settle_came.new.store) _ _ stored
    (c.in-Ok-settle_came.ensures.kept ∙ kept)
    (subst (λ (s : Stored). AllHold reading (database_of s.working)) kept all)
    c.len-count.ensures c.reply_for.ensures

pub returns-clause-refused : goal.returns-clause-refused
returns-clause-refused g c = λ reading columns source sound decided good given.
    let old = g.S.Store.shows c.args.store.now in
    let looked = g.S.Store.shows c.rows_to_match.new.store in
    let made = g.S.Store.shows c.append.new.self in
    let name = c.args.table.now in
    let marks = c.rows_to_match.ensures.shows ∙ c.known_to_hold.ensures.shows ∙ c.in_default.ensures.shows in
    let held = (g.met.S.Store.goes_on_goes _ _ _ c.known_to_hold.ensures.goes).sound ((g.met.S.Store.goes_on_goes _ _ _ c.begin.ensures.goes).sound sound) in
    let ready = (g.met.S.Store.goes_on_goes _ _ _ c.rows_to_match.ensures.goes).sound held in
    let stored = c.in_default-append.ensures.shows ready in
    let is_sound = (g.met.S.Store.goes_on_goes _ _ _ c.append.ensures.goes).sound ready in
    let kept = c.in_default-settle_unless.ensures.kept in
    broken reading old looked (into c.args.table.now columns source) c.args.rows marks given made c.in-Err-settle_came.refusal stored
    (subst (λ (s : Stored). BreaksAny reading (database_of s.working) c.in-Err-settle_came.refusal) kept
    (c.in-Err-settle_came.ensures.refused reading ((g.met.S.Store.goes_on_goes _ _ _ c.settle_unless.ensures.goes).sound is_sound)
    (subst (λ (s : Stored). IfSome c.in-Ok-rows_to_match.came (AreAmong (database_of s.working) name)) (sym kept)
    (some_among c.in-Ok-rows_to_match.came (AreAmong (database_of made.working) name) c.args.rows
    (are_among reading old looked (into c.args.table.now columns source) c.args.rows marks given made stored) (subst (λ (rows : List Row). IfSome c.in-Ok-rows_to_match.came (λ all. all ≡ rows)) c.as_slice-2.ensures c.in-Ok-rows_to_match.ensures.some)))))

pub returns-in-Ok-settle_came-clause-accepted : goal.returns-in-Ok-settle_came-clause-accepted
returns-in-Ok-settle_came-clause-accepted g c = no_refusal c.len-count.result c.reply_for.result c.reply_for.ensures

pub returns-in-Err-clause-limits : goal.returns-in-Err-clause-limits
returns-in-Err-clause-limits g c = tells_none (StoringReaches (g.S.Store.counted c.begin.new.store) (get (g.S.Store.shows c.args.store.now).working c.args.table.now) c.args.rows) c.in-Err.refusal c.in-Err.ensures.limits

pub returns-in-Err-known_to_hold-clause-limits : goal.returns-in-Err-known_to_hold-clause-limits
returns-in-Err-known_to_hold-clause-limits g c = tells_none (StoringReaches (g.S.Store.counted c.known_to_hold.new.store) (get (g.S.Store.shows c.args.store.now).working c.args.table.now) c.args.rows) c.in-Err-known_to_hold.refusal c.in-Err-known_to_hold.ensures.limits

pub returns-in-Err-append-clause-limits : goal.returns-in-Err-append-clause-limits
returns-in-Err-append-clause-limits g c =
    let old = g.S.Store.shows c.args.store.now in
    let looked = g.S.Store.shows c.rows_to_match.new.store in
    let name = c.args.table.now in
    let counted = g.S.Store.counted c.append.new.self in
    let same : get looked.working name ≡ get old.working name =
    ap (λ (s : Stored). get s.working name) (c.rows_to_match.ensures.shows ∙ c.known_to_hold.ensures.shows ∙ c.in_default.ensures.shows) in
    subst (λ (table : Option StoredTable). TellsReached (StoringReaches counted table c.args.rows) c.refusal_of.result) same
    (tells_reached _ _ _ (StoringReaches counted (get looked.working name) c.args.rows) c.in-Err-append.error _ c.refusal_of.ensures c.in-Err-append.ensures.refused)

pub returns-in-Err-rows_to_match-clause-limits : goal.returns-in-Err-rows_to_match-clause-limits
returns-in-Err-rows_to_match-clause-limits g c = tells_none (StoringReaches (g.S.Store.counted c.rows_to_match.new.store) (get (g.S.Store.shows c.args.store.now).working c.args.table.now) c.args.rows) c.in-Err-rows_to_match.refusal c.in-Err-rows_to_match.ensures.limits

pub returns-in-Err-settle_unless-clause-limits : goal.returns-in-Err-settle_unless-clause-limits
returns-in-Err-settle_unless-clause-limits g c = tells_none (StoringReaches (g.S.Store.counted c.settle_unless.new.store) (get (g.S.Store.shows c.args.store.now).working c.args.table.now) c.args.rows) c.in-Err-settle_unless.refusal c.in-Err-settle_unless.ensures.limits

pub returns-clause-limits : goal.returns-clause-limits
returns-clause-limits g c = tells_none (StoringReaches (g.S.Store.counted c.settle_came.new.store) (get (g.S.Store.shows c.args.store.now).working c.args.table.now) c.args.rows) c.in-Err-settle_came.refusal c.in-Err-settle_came.ensures.limits

pub returns-in-Err-clause-goes : goal.returns-in-Err-clause-goes
returns-in-Err-clause-goes g c = g.met.S.Store.goes_on_trans _ _ _ Going.keeps Going.changes c.begin.ensures.goes (g.met.S.Store.goes_on_refl _ Going.changes)

pub returns-in-Err-known_to_hold-clause-goes : goal.returns-in-Err-known_to_hold-clause-goes
returns-in-Err-known_to_hold-clause-goes g c = g.met.S.Store.goes_on_trans _ _ _ Going.keeps Going.changes (g.met.S.Store.goes_on_trans _ _ _ Going.keeps Going.keeps c.begin.ensures.goes c.known_to_hold.ensures.goes) (g.met.S.Store.goes_on_refl _ Going.changes)

pub returns-in-Err-rows_to_match-clause-goes : goal.returns-in-Err-rows_to_match-clause-goes
returns-in-Err-rows_to_match-clause-goes g c = g.met.S.Store.goes_on_trans _ _ _ Going.keeps Going.changes (g.met.S.Store.goes_on_trans _ _ _ Going.keeps Going.keeps (g.met.S.Store.goes_on_trans _ _ _ Going.keeps Going.keeps c.begin.ensures.goes c.known_to_hold.ensures.goes) c.rows_to_match.ensures.goes) (g.met.S.Store.goes_on_refl _ Going.changes)

pub returns-in-Err-append-clause-goes : goal.returns-in-Err-append-clause-goes
returns-in-Err-append-clause-goes g c = g.met.S.Store.goes_on_trans _ _ _ Going.keeps Going.changes (g.met.S.Store.goes_on_trans _ _ _ Going.keeps Going.keeps (g.met.S.Store.goes_on_trans _ _ _ Going.keeps Going.keeps c.begin.ensures.goes c.known_to_hold.ensures.goes) c.rows_to_match.ensures.goes) c.append.ensures.goes

pub returns-in-Err-settle_unless-clause-goes : goal.returns-in-Err-settle_unless-clause-goes
returns-in-Err-settle_unless-clause-goes g c = g.met.S.Store.goes_on_trans _ _ _ Going.changes Going.keeps (g.met.S.Store.goes_on_trans _ _ _ Going.keeps Going.changes (g.met.S.Store.goes_on_trans _ _ _ Going.keeps Going.keeps (g.met.S.Store.goes_on_trans _ _ _ Going.keeps Going.keeps c.begin.ensures.goes c.known_to_hold.ensures.goes) c.rows_to_match.ensures.goes) c.append.ensures.goes) c.settle_unless.ensures.goes

pub returns-in-Ok-settle_came-clause-goes : goal.returns-in-Ok-settle_came-clause-goes
returns-in-Ok-settle_came-clause-goes g c = g.met.S.Store.goes_on_trans _ _ _ Going.changes Going.keeps (g.met.S.Store.goes_on_trans _ _ _ Going.changes Going.keeps (g.met.S.Store.goes_on_trans _ _ _ Going.keeps Going.changes (g.met.S.Store.goes_on_trans _ _ _ Going.keeps Going.keeps (g.met.S.Store.goes_on_trans _ _ _ Going.keeps Going.keeps c.begin.ensures.goes c.known_to_hold.ensures.goes) c.rows_to_match.ensures.goes) c.append.ensures.goes) c.settle_unless.ensures.goes) c.settle_came.ensures.goes

pub returns-clause-goes : goal.returns-clause-goes
returns-clause-goes g c = g.met.S.Store.goes_on_trans _ _ _ Going.changes Going.keeps (g.met.S.Store.goes_on_trans _ _ _ Going.changes Going.keeps (g.met.S.Store.goes_on_trans _ _ _ Going.keeps Going.changes (g.met.S.Store.goes_on_trans _ _ _ Going.keeps Going.keeps (g.met.S.Store.goes_on_trans _ _ _ Going.keeps Going.keeps c.begin.ensures.goes c.known_to_hold.ensures.goes) c.rows_to_match.ensures.goes) c.append.ensures.goes) c.settle_unless.ensures.goes) c.settle_came.ensures.goes

pub returns-in-Err-settle_unless-clause-same : goal.returns-in-Err-settle_unless-clause-same
returns-in-Err-settle_unless-clause-same g c =
    undone_same (g.S.Store.shows c.args.store.now) (g.S.Store.shows c.begin.new.store) (g.S.Store.shows c.rows_to_match.new.store) (g.S.Store.shows c.append.new.self) (g.S.Store.shows c.settle_unless.new.store)
    c.in_default.ensures.shows (c.rows_to_match.ensures.shows ∙ c.known_to_hold.ensures.shows) c.in_default-append.ensures.alone c.in-Err-settle_unless.ensures.undone

pub returns-clause-same : goal.returns-clause-same
returns-clause-same g c =
    undone_same (g.S.Store.shows c.args.store.now) (g.S.Store.shows c.begin.new.store) (g.S.Store.shows c.rows_to_match.new.store) (g.S.Store.shows c.append.new.self) (g.S.Store.shows c.settle_came.new.store)
    c.in_default.ensures.shows (c.rows_to_match.ensures.shows ∙ c.known_to_hold.ensures.shows) c.in_default-append.ensures.alone
    (c.in-Err-settle_came.ensures.undone ∙ ap undone c.in_default-settle_unless.ensures.kept)
