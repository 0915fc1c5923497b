-- Foreign keys that are put behind others: of one constraint after another, of one table after
-- another.
use Rattle.std.proofs.Common.{◌≡◌, refl, ap, sym, ◌∙◌, subst, ℕ, ◌+◌, ◌<◌, ◌≤◌, true, false, if◌then◌else◌, List, [], ◌∷◌, ◌++◌, map, length, drop, get_or, Option, Some, None, Ok, Err, IfOk, append_assoc}
use Rattle.std.specs.Prelude.{flat_map, Contains, IfSome, Result}
use Rattle.std.specs.List.{cons_option}
use Rattle.std.proofs.lemmas.List.{at_drop_more, at_drop_all, append-nil, map-append}
use Rattle.sqlval.specs.declared.schema.Constraint.{Constraint}
use Rattle.sqlval.specs.declared.schema.Reference.{Reference}
use Rattle.sqlval.specs.declared.schema.Rule.{Rule}
use Rattle.sqlval.specs.declared.schema.Rule.TheVariants.{ForeignKey}
use Rattle.sqlval.specs.declared.schema.Schema.{Schema}
use Rattle.sqlval.specs.declared.schema.Table.{Table}
use Rattle.denote.specs.Database.{Name}
use Rattle.foreign_keys.specs.declared.asked.Asked.{Asked}
use Rattle.foreign_keys.specs.declared.ways.Way.{Way}
use Rattle.foreign_keys.specs.Asked.{Question, question_of, is_at_end, question_at, questions_of, LeadsIn, HasWays}
use Rattle.foreign_keys.specs.Pairs.{IsWay}
use Rattle.foreign_keys.proofs.Following.{some-still}
use Rattle.foreign_keys.proofs.Leading.{asking}

-- the foreign keys of some tables
abbrev pub questions_over : Name → List Table → List Question
questions_over name tables = flat_map (λ (table : Table). questions_of name table.name table.constraints) tables

one-more : (name table : Name) (cs : List Constraint) (k : ℕ) (c : Constraint) → k < length cs → c ≡ get_or cs k c
    → questions_of name table (drop k cs) ≡ cons_option (question_at name table c.name c.rule) (questions_of name table (drop (k + 1) cs))
one-more name table cs k c below is =
    at_drop_more (questions_of name table) cs k c below ∙ ap (λ (x : Constraint). questions_of name table (x ∷ drop (k + 1) cs)) (sym is)

pub question-next : (old before after : List Question) (name table : Name) (cs : List Constraint) (k : ℕ) (c : Constraint) → k < length cs → c ≡ get_or cs k c
    → ((rest : List Question) → after ++ rest ≡ before ++ cons_option (question_at name table c.name c.rule) rest)
    → before ++ questions_of name table (drop k cs) ≡ old ++ questions_of name table cs → after ++ questions_of name table (drop (k + 1) cs) ≡ old ++ questions_of name table cs
question-next old before after name table cs k c below is put so_far =
    put (questions_of name table (drop (k + 1) cs)) ∙ ap (λ qs. before ++ qs) (sym (one-more name table cs k c below is)) ∙ so_far

pub questions-end : (old after : List Question) (name table : Name) (cs : List Constraint) (k : ℕ) → length cs ≤ k
    → after ++ questions_of name table (drop k cs) ≡ old ++ questions_of name table cs → after ≡ old ++ questions_of name table cs
questions-end old after name table cs k past so_far =
    sym (append-nil after) ∙ ap (λ qs. after ++ qs) (sym (at_drop_all (questions_of name table) cs k past)) ∙ so_far

pub tables-next : (before after : List Question) (name : Name) (tables : List Table) (k : ℕ) (t : Table) → k < length tables → t ≡ get_or tables k t
    → after ≡ before ++ questions_of name t.name t.constraints → before ++ questions_over name (drop k tables) ≡ questions_over name tables
    → after ++ questions_over name (drop (k + 1) tables) ≡ questions_over name tables
tables-next before after name tables k t below is put so_far =
    let rest : List Question = questions_over name (drop (k + 1) tables) in
    let one : questions_over name (drop k tables) ≡ questions_of name t.name t.constraints ++ rest =
    at_drop_more (questions_over name) tables k t below ∙ ap (λ (x : Table). questions_over name (x ∷ drop (k + 1) tables)) (sym is) in
    ap (λ qs. qs ++ rest) put ∙ append_assoc before (questions_of name t.name t.constraints) rest ∙ ap (λ qs. before ++ qs) (sym one) ∙ so_far

pub tables-end : (after : List Question) (name : Name) (tables : List Table) (k : ℕ) → length tables ≤ k
    → after ++ questions_over name (drop k tables) ≡ questions_over name tables → after ≡ questions_over name tables
tables-end after name tables k past so_far =
    sym (append-nil after) ∙ ap (λ qs. after ++ qs) (sym (at_drop_all (questions_over name) tables k past)) ∙ so_far

-- an index of a table of the schema
pub leads-in : {E : Type 0} (schema : Schema) (name : Name) (table : Table) (from to : List ℕ) (r : Result (Option Way) E) → Contains schema.tables table → table.name ≡ name
    → IfOk r (λ found. IfSome found (IsWay table.indexes from to)) → IfOk r (λ found. IfSome found (LeadsIn schema name from to))
leads-in schema name table from to (Err e) inside named h = tt
leads-in schema name table from to (Ok None) inside named h = tt
leads-in schema name table from to (Ok (Some way)) inside named h = (table, inside, named, h)

-- ---- one foreign key

pub question-none : (name table constraint : Name) (rule : Rule) (reference : Reference) → rule ≡ ForeignKey reference → is_at_end name table reference ≡ false → (qs rest : List Question)
    → qs ++ rest ≡ qs ++ cons_option (question_at name table constraint rule) rest
question-none name table constraint rule reference is away qs rest =
    let none : question_at name table constraint rule ≡ None = ap (question_at name table constraint) is ∙ ap (λ b. if b then Some (asking constraint table reference) else None) away in
    ap (λ o. qs ++ cons_option o rest) (sym none)

pub question-put : (before after : List Asked) (one : Asked) (name table constraint : Name) (rule : Rule) (reference : Reference) → rule ≡ ForeignKey reference
    → is_at_end name table reference ≡ true → question_of one ≡ asking constraint table reference → after ≡ before ++ one ∷ [] → (rest : List Question)
    → map question_of after ++ rest ≡ map question_of before ++ cons_option (question_at name table constraint rule) rest
question-put before after one name table constraint rule reference is ends asks put rest =
    let some : question_at name table constraint rule ≡ Some (asking constraint table reference) =
    ap (question_at name table constraint) is ∙ ap (λ b. if b then Some (asking constraint table reference) else None) ends in
    ap (λ (xs : List Asked). map question_of xs ++ rest) put
    ∙ ap (λ qs. qs ++ rest) (map-append question_of before (one ∷ []))
    ∙ append_assoc (map question_of before) (question_of one ∷ []) rest
    ∙ ap (λ (q : Question). map question_of before ++ (q ∷ rest)) asks
    ∙ ap (λ o. map question_of before ++ cons_option o rest) (sym some)

-- its indexes are those of its tables
pub has-ways : (schema : Schema) (table : Table) (reference copied : Reference) (constraint name : Name) (matches again referencing : Option Way) → copied ≡ reference → name ≡ table.name
    → Contains schema.tables table → IfSome matches (LeadsIn schema reference.table reference.columns reference.referenced)
    → IfSome again (LeadsIn schema reference.table reference.referenced reference.referenced) → IfSome referencing (IsWay table.indexes reference.referenced reference.columns)
    → HasWays schema (record { constraint = constraint; table = name; reference = copied; matches = matches; again = again; referencing = referencing })
has-ways schema table reference copied constraint name matches again referencing same named inside h k l =
    subst (λ (x : Reference). HasWays schema (record { constraint = constraint; table = name; reference = x; matches = matches; again = again; referencing = referencing })) (sym same)
    (subst (λ (n : Name). HasWays schema (record { constraint = constraint; table = n; reference = reference; matches = matches; again = again; referencing = referencing })) (sym named)
    (record {
      matches = h;
      again = k;
      referencing = some-still (IsWay table.indexes reference.referenced reference.columns) (LeadsIn schema table.name reference.referenced reference.columns) referencing
          (λ way one. (table, inside, refl, one)) l;
    }))
