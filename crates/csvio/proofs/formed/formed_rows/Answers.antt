use Rattle.std.proofs.Common.{◌≡◌, List, ℕ, [], ◌∷◌, map, length, sym, ap, subst, rules}
use Rattle.std.specs.Prelude.{IfOk, IfErr}
use Rattle.std.proofs.lemmas.Result.{IfOk-weaker, IfErr-weaker}
use Rattle.std.proofs.lemmas.Bool.{not-false, not-true}
use Rattle.std.proofs.lemmas.List.{nil_from_length}
use Rattle.csv.specs.Records.{fields_of}
use Rattle.csvio.specs.Forms.{AreFormed, RefusesForm}
use Rattle.csvio.proofs.FormedRows.{refuses_named, refuses_placed}
use Rattle.csvio.proofs.formed.formed_rows.Goals as goal

pub returns-in_default-clause-rows : goal.returns-in_default-clause-rows
returns-in_default-clause-rows c =
    let none : map fields_of c.args.records.now ≡ [] = ap (map fields_of) (nil_from_length c.args.records.now c.in_default.ensures.cases) in rw (none, c.new.ensures) AreFormed.none

pub returns-then-not-form-clause-rows : goal.returns-then-not-form-clause-rows
returns-then-not-form-clause-rows c =
    let fields = fields_of c.in-Some.first.now in
    let others = map fields_of c.in-Some.others.now in
    let records : fields ∷ others ≡ map fields_of c.args.records.now = ap (map fields_of) (sym c.in-Some.ensures.cases.0) in
    let width : c.len.result ≡ length fields = search rules in
    subst (λ (all : List (List (List ℕ))). IfOk c.placed_rows.result (AreFormed c.args.form c.args.columns.now all)) records
    (IfOk-weaker c.placed_rows.result _ _ (λ rows are. AreFormed.placed fields others rows (not-true c.args.form.header c.if-not-form.true) (rw (width, sym records) at are)) c.placed_rows.ensures.rows)

pub returns-then-not-form-clause-refused : goal.returns-then-not-form-clause-refused
returns-then-not-form-clause-refused c =
    let fields = fields_of c.in-Some.first.now in
    let others = map fields_of c.in-Some.others.now in
    let records : fields ∷ others ≡ map fields_of c.args.records.now = ap (map fields_of) (sym c.in-Some.ensures.cases.0) in
    let width : c.len.result ≡ length fields = search rules in
    subst (λ (all : List (List (List ℕ))). IfErr c.placed_rows.result (RefusesForm c.args.form c.args.columns.now all)) records
    (IfErr-weaker c.placed_rows.result _ _ (λ refusal refuses. refuses_placed c.args.form c.args.columns.now fields others (not-true c.args.form.header c.if-not-form.true) refusal (rw (width, sym records) at refuses))
    c.placed_rows.ensures.refused)

pub returns-in-Ok-clause-rows : goal.returns-in-Ok-clause-rows
returns-in-Ok-clause-rows c =
    let fields = fields_of c.in-Some.first.now in
    let others = map fields_of c.in-Some.others.now in
    let records : fields ∷ others ≡ map fields_of c.args.records.now = ap (map fields_of) (sym c.in-Some.ensures.cases.0) in
    subst (λ (all : List (List (List ℕ))). IfOk c.named_rows.result (AreFormed c.args.form c.args.columns.now all)) records
    (IfOk-weaker c.named_rows.result _ _
    (λ rows are. AreFormed.named fields others c.in-Ok.names rows (not-false c.args.form.header c.if-not-form.false) c.in-Ok.ensures.names.0 c.in-Ok.ensures.names.1 (rw c.as_slice.ensures at are)) c.named_rows.ensures.rows)

pub returns-in-Ok-clause-refused : goal.returns-in-Ok-clause-refused
returns-in-Ok-clause-refused c =
    let fields = fields_of c.in-Some.first.now in
    let others = map fields_of c.in-Some.others.now in
    let records : fields ∷ others ≡ map fields_of c.args.records.now = ap (map fields_of) (sym c.in-Some.ensures.cases.0) in
    subst (λ (all : List (List (List ℕ))). IfErr c.named_rows.result (RefusesForm c.args.form c.args.columns.now all)) records
    (IfErr-weaker c.named_rows.result _ _
    (λ refusal refuses.
    refuses_named c.args.form c.args.columns.now fields others (not-false c.args.form.header c.if-not-form.false) c.in-Ok.names c.in-Ok.ensures.only refusal (rw c.as_slice.ensures at refuses)) c.named_rows.ensures.refused)

pub returns-in-Err-clause-refused : goal.returns-in-Err-clause-refused
returns-in-Err-clause-refused c =
    RefusesForm.header (fields_of c.in-Some.first.now) (map fields_of c.in-Some.others.now) (ap (map fields_of) c.in-Some.ensures.cases.0) (not-false c.args.form.header c.if-not-form.false) c.in-Err.ensures.refused
