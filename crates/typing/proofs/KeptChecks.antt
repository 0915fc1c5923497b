-- What a CREATE TABLE keeps of its CHECKs.
use Rattle.std.proofs.Common.{◌≡◌, ℕ, ◌+◌, Bool, true, false, List, [], ◌∷◌, ◌++◌, map, Ok, Err, Some, refl, sym as flip, ap, ◌∙◌, subst}
use Rattle.std.specs.Prelude.{flat_map, if◌then◌else◌, ◌&&◌, nat_le, not, is_none, length, None}
use Rattle.std.specs.List.{All, zip}
use Rattle.std.proofs.lemmas.Grind.{flat_map-append}
use Rattle.std.proofs.lemmas.List.{map-append}
use Rattle.std.proofs.lemmas.List.Elements.{All-nil, All-cons, All-append}
use Rattle.sqlval.specs.declared.schema.Column.{Column}
use Rattle.sqlval.specs.declared.schema.Rule.{Rule}
use Rattle.sqlval.specs.declared.schema.Rule.TheVariants as rule
use Rattle.sqlval.specs.declared.storing.ColumnType.{ColumnType}
use Rattle.sqlval.specs.declared.storing.ColumnType.TheVariants.{Integer, Varchar}
use Rattle.sqlval.specs.declared.value.ValueType.TheVariants as type
use Rattle.refusals.specs.declared.limit.Limit.TheVariants as limit
use Rattle.refusals.specs.declared.reason.Reason.TheVariants.{DataType}
use Rattle.lexer.specs.Printing.{HasKinds}
use Rattle.ast.specs.declared.statement.ColumnConstraint.{ColumnConstraint}
use Rattle.ast.specs.declared.statement.ColumnDefinition.{ColumnDefinition}
use Rattle.ast.specs.declared.statement.ColumnRule.{ColumnRule}
use Rattle.ast.specs.declared.statement.ColumnRule.TheVariants as column_rule
use Rattle.ast.specs.declared.statement.CreateTable.{CreateTable as Tree}
use Rattle.ast.specs.declared.statement.Statement.TheVariants as statement
use Rattle.ast.specs.declared.statement.TableElement.{TableElement}
use Rattle.ast.specs.declared.statement.TableElement.TheVariants as element
use Rattle.ast.specs.declared.statement.TableRule.{TableRule}
use Rattle.ast.specs.declared.statement.TableRule.TheVariants as table_rule
use Rattle.ast.specs.declared.statement.TypeName.{TypeName}
use Rattle.ast.specs.declared.statement.TypeName.TheVariants as written
use Rattle.ast.specs.declared.tree.Condition.{Condition}
use Rattle.ast.specs.Grammar.{IsText}
use Rattle.ast.specs.Notation.{Tokens}
use Rattle.typing.specs.declared.scope.Frame.{Frame}
use Rattle.typing.specs.declared.statement.CreateTable.{CreateTable}
use Rattle.typing.specs.declared.typed.Condition.{Condition as Typed}
use Rattle.typing.specs.Check.{check_found, check_rule}
use Rattle.typing.specs.Constraint.{Declared, Referencing, column_rule_at, table_rule_of, declared_from, names_from, named, constraints_found, are_allowed, key_places}
use Rattle.typing.specs.CreateTable.{column_found, columns_found, own_table, create_found, defined_frame, defined_offer, definitions, type_found, written_type}
use Rattle.typing.specs.Finding.{Finding, ◌>>=◌, also, before, each, invalid}
use Rattle.typing.specs.Kept.{AreChecksKept, IsKept, checks_of, column_checks, element_checks, kept_texts, table_checks, text_in}
use Rattle.typing.specs.Known.{Known, KnownTable}
use Rattle.typing.specs.declared.known.Meant.{Meant}
use Rattle.typing.specs.References.{meant_by, reference_found, referenced_table, matched}
use Rattle.ast.specs.declared.statement.References.{References}
use Rattle.typing.specs.Printed.{printed}
use Rattle.typing.specs.Table.{at_most, distinct_found, frame_of, is_new, offer_of, type_in}
use Rattle.typing.proofs.ChecksStand.{Stands, table_checks_stand}
use Rattle.typing.proofs.KeptTexts.{stands}

-- ---- what is found where nothing is wrong

same_ok : {A : Type 0} (x y : A) → ◌≡◌ {A = Finding A} (Ok x) (Ok y) → x ≡ y
same_ok x y e = cc

ok_also : {A B : Type 0} (a : Finding A) (b : Finding B) (p : A × B) → also a b ≡ Ok p → (a ≡ Ok p.0) × (b ≡ Ok p.1)
ok_also (Ok x) (Ok y) p e = let same = same_ok (x, y) p e in (ap (λ q. Ok q.0) same, ap (λ q. Ok q.1) same)
ok_also (Ok x) (Err reasons) p e = absurd (cc e)
ok_also (Err reasons) b p e = absurd (cc e)

ok_then : {A B : Type 0} (a : Finding A) (f : A → Finding B) (z : B) → (a >>= f) ≡ Ok z → (y : A) × (a ≡ Ok y) × (f y ≡ Ok z)
ok_then (Ok x) f z e = (x, refl, e)
ok_then (Err reasons) f z e = absurd (cc e)

-- a first part and others that are found
record First {A : Type 0} (a : Finding A) (others : Finding (List A)) (zs : List A) : Type 0 where
  first : A
  rest : List A
  first_is : a ≡ Ok first
  rest_is : others ≡ Ok rest
  all : first ∷ rest ≡ zs

ok_before : {A : Type 0} (a : Finding A) (others : Finding (List A)) (zs : List A) → before a others ≡ Ok zs → First a others zs
ok_before (Ok x) (Ok xs) zs e = record { first = x; rest = xs; first_is = refl; rest_is = refl; all = same_ok (x ∷ xs) zs e }
ok_before (Ok x) (Err reasons) zs e = absurd (cc e)
ok_before (Err reasons) others zs e = absurd (cc e)

record Halves {A : Type 0} (xs ys : List (Finding A)) (zs : List A) : Type 0 where
  left : List A
  right : List A
  left_is : each xs ≡ Ok left
  right_is : each ys ≡ Ok right
  all : left ++ right ≡ zs

ok_append : {A : Type 0} (xs ys : List (Finding A)) (zs : List A) → each (xs ++ ys) ≡ Ok zs → Halves xs ys zs
ok_append [] ys zs e = record { left = []; right = zs; left_is = refl; right_is = e; all = refl }
ok_append (x ∷ xs) ys zs e =
    let f = ok_before x (each (xs ++ ys)) zs e in
    let h = ok_append xs ys f.rest f.rest_is in
    record {
      left = f.first ∷ h.left;
      right = h.right;
      left_is = ap (λ k. before k (each xs)) f.first_is ∙ ap (λ k. before (Ok f.first) k) h.left_is;
      right_is = h.right_is;
      all = ap (λ k. f.first ∷ k) h.all ∙ f.all;
    }

-- ---- rules and their CHECKs

record IsFound (frame : Frame) (x : Condition) : Type 0 where
  condition : Typed
  found : check_found frame x ≡ Ok condition

-- The rules keep the texts of these CHECKs, which are found to be conditions.
record Keep (frame : Frame) (xs : List Condition) (rules : List Rule) : Type 0 where
  texts : flat_map text_in rules ≡ map printed xs
  found : All (IsFound frame) xs

no_checks : (frame : Frame) → Keep frame [] []
no_checks frame = record { texts = refl; found = All-nil (IsFound frame) }

keep_both : (frame : Frame) (xs ys : List Condition) (rules others : List Rule) → Keep frame xs rules → Keep frame ys others → Keep frame (xs ++ ys) (rules ++ others)
keep_both frame xs ys rules others a b = record {
  texts = flat_map-append text_in rules others ∙ rw (a.texts, b.texts) (flip (map-append printed xs ys));
  found = All-append (IsFound frame) xs ys a.found b.found;
}

no_check : (frame : Frame) (r r' : Rule) → text_in r ≡ [] → ◌≡◌ {A = Finding Rule} (Ok r) (Ok r') → Keep frame [] (r' ∷ [])
no_check frame r r' e same =
    subst (λ k. Keep frame [] (k ∷ [])) (same_ok r r' same) (record { texts = ap (λ k. k ++ []) e; found = All-nil (IsFound frame) })

check_kept : (frame : Frame) (x : Condition) (r : Rule) → check_rule frame x ≡ Ok r → Keep frame (x ∷ []) (r ∷ [])
check_kept frame x r e =
    let fits : Finding (Unit {0}) = at_most 800 limit.Check (length (printed x)) in
    let t = ok_then (also fits (check_found frame x)) (λ p. Ok (rule.Check (printed x))) r e in
    let parts = ok_also fits (check_found frame x) t.0 t.1 in
    subst (λ k. Keep frame (x ∷ []) (k ∷ [])) (same_ok (rule.Check (printed x)) r t.2)
    (record { texts = refl; found = All-cons (IsFound frame) x [] (record { condition = t.0.1; found = parts.1 }) (All-nil (IsFound frame)) })

-- foreign keys keep no text
abbrev KeepsNoText : Referencing → Type 0
KeepsNoText referencing = (places : Finding (List ℕ)) (x : References) (r : Rule) → referencing places x ≡ Ok r → text_in r ≡ []

no_text : (frame : Frame) (r : Rule) → text_in r ≡ [] → Keep frame [] (r ∷ [])
no_text frame r e = record { texts = ap (λ k. k ++ []) e; found = All-nil (IsFound frame) }

module _ (referencing : Referencing) (textless : KeepsNoText referencing) where
  column_rule_kept : (frame : Frame) (place : ℕ) (c : ColumnConstraint) (x : ColumnRule) (r : Rule) → (column_rule_at frame referencing place c.name x).rule ≡ Ok r → Keep frame (column_checks x) (r ∷ [])
  column_rule_kept frame place c column_rule.NotNull r e = no_check frame (rule.NotNull place) r refl e
  column_rule_kept frame place c column_rule.PrimaryKey r e = no_check frame (rule.PrimaryKey (place ∷ [])) r refl e
  column_rule_kept frame place c column_rule.Unique r e = no_check frame (rule.Unique (place ∷ [])) r refl e
  column_rule_kept frame place c (column_rule.Check x) r e = check_kept frame x r e
  column_rule_kept frame place c (column_rule.References x) r e = no_text frame r (textless (Ok (place ∷ [])) x r e)

  column_rules_kept : (frame : Frame) (place : ℕ) (cs : List ColumnConstraint) (rules : List Rule)
      → each (map (λ d. d.rule) (map (λ c. column_rule_at frame referencing place c.name c.rule) cs)) ≡ Ok rules → Keep frame (flat_map (λ c. column_checks c.rule) cs) rules
  column_rules_kept frame place [] rules e = subst (Keep frame []) (same_ok [] rules e) (no_checks frame)
  column_rules_kept frame place (c ∷ cs) rules e =
      let f = ok_before (column_rule_at frame referencing place c.name c.rule).rule (each (map (λ d. d.rule) (map (λ c. column_rule_at frame referencing place c.name c.rule) cs))) rules e in
      subst (Keep frame (column_checks c.rule ++ flat_map (λ c. column_checks c.rule) cs)) f.all
      (keep_both frame (column_checks c.rule) (flat_map (λ c. column_checks c.rule) cs) (f.first ∷ []) f.rest
      (column_rule_kept frame place c c.rule f.first f.first_is) (column_rules_kept frame place cs f.rest f.rest_is))

  table_rule_kept : (frame : Frame) (columns : List ColumnDefinition) (name : _) (x : TableRule) (r : Rule) → (table_rule_of frame referencing columns name x).rule ≡ Ok r → Keep frame (table_checks x) (r ∷ [])
  table_rule_kept frame columns name (table_rule.PrimaryKey names) r e =
      let t = ok_then (key_places columns names) (λ places. Ok (rule.PrimaryKey places)) r e in no_check frame (rule.PrimaryKey t.0) r refl t.2
  table_rule_kept frame columns name (table_rule.Unique names) r e =
      let t = ok_then (key_places columns names) (λ places. Ok (rule.Unique places)) r e in no_check frame (rule.Unique t.0) r refl t.2
  table_rule_kept frame columns name (table_rule.Check x) r e = check_kept frame x r e
  table_rule_kept frame columns name (table_rule.ForeignKey x) r e = no_text frame r (textless (key_places columns x.columns) x.references r e)

  rules_kept : (frame : Frame) (columns : List ColumnDefinition) (place : ℕ) (elements : List TableElement) (rules : List Rule)
      → each (map (λ d. d.rule) (declared_from frame referencing columns place elements)) ≡ Ok rules → Keep frame (checks_of elements) rules
  rules_kept frame columns place [] rules e = subst (Keep frame []) (same_ok [] rules e) (no_checks frame)
  rules_kept frame columns place (element.Column x ∷ elements) rules e =
      let own : List Declared = map (λ c. column_rule_at frame referencing place c.name c.rule) x.constraints in
      let others : List Declared = declared_from frame referencing columns (place + 1) elements in
      let h = ok_append (map (λ d. d.rule) own) (map (λ d. d.rule) others) rules (ap each (flip (map-append (λ d. d.rule) own others)) ∙ e) in
      subst (Keep frame (element_checks (element.Column x) ++ checks_of elements)) h.all
      (keep_both frame (element_checks (element.Column x)) (checks_of elements) h.left h.right
      (column_rules_kept frame place x.constraints h.left h.left_is) (rules_kept frame columns (place + 1) elements h.right h.right_is))
  rules_kept frame columns place (element.Constraint x ∷ elements) rules e =
      let f = ok_before (table_rule_of frame referencing columns x.name x.rule).rule (each (map (λ d. d.rule) (declared_from frame referencing columns place elements))) rules e in
      subst (Keep frame (table_checks x.rule ++ checks_of elements)) f.all
      (keep_both frame (table_checks x.rule) (checks_of elements) (f.first ∷ []) f.rest
      (table_rule_kept frame columns x.name x.rule f.first f.first_is) (rules_kept frame columns place elements f.rest f.rest_is))

-- a foreign key that is found has no text
references_textless : (known : Known) (name : List ℕ) (own : Finding KnownTable) → KeepsNoText (reference_found known name own)
references_textless known name own places x r e =
    let meant : Finding Meant = meant_by (referenced_table known name own x.table) x.columns in
    let t = ok_then (also (also own places) meant) (λ p. matched ((p.0).0).columns (p.0).1 (p.1).table (p.1).columns >>= (λ u.
    Ok (rule.ForeignKey (record { columns = (p.0).1; table = x.table; referenced = (p.1).columns })))) r e in
    let u = ok_then (matched ((t.0.0).0).columns (t.0.0).1 (t.0.1).table (t.0.1).columns)
    (λ u. Ok (rule.ForeignKey (record { columns = (t.0.0).1; table = x.table; referenced = (t.0.1).columns }))) r t.2 in
    ap text_in (flip (same_ok (rule.ForeignKey (record { columns = (t.0.0).1; table = x.table; referenced = (t.0.1).columns })) r u.2))

-- ---- the table

-- names take no text away
texts_named : (number : ℕ) (declared : List Declared) (rules : List Rule) → each (map (λ d. d.rule) declared) ≡ Ok rules
    → kept_texts (map named (zip (names_from number declared) rules)) ≡ flat_map text_in rules
texts_named number [] rules e = subst (λ k. kept_texts (map named (zip [] k)) ≡ flat_map text_in k) (same_ok [] rules e) refl
texts_named number (d ∷ declared) rules e =
    let f = ok_before d.rule (each (map (λ d. d.rule) declared)) rules e in
    subst (λ k. kept_texts (map named (zip (names_from number (d ∷ declared)) k)) ≡ flat_map text_in k) f.all
    (ap (λ k. text_in f.first ++ k) (texts_named (number + 1) declared f.rest f.rest_is))

varchar_type : (b : Bool) (n : ℕ) (t : ColumnType) → ◌≡◌ {A = Finding ColumnType} (if b then Ok (Varchar n) else invalid DataType) (Ok t) → type.Text ≡ type_in t
varchar_type true n t e = ap type_in (same_ok (Varchar n) t e)
varchar_type false n t e = absurd (cc e)

same_type : (x : TypeName) (t : ColumnType) → type_found x ≡ Ok t → written_type x ≡ type_in t
same_type written.Integer t e = ap type_in (same_ok Integer t e)
same_type written.Int t e = ap type_in (same_ok Integer t e)
same_type (written.Varchar n) t e = varchar_type (nat_le 1 n && nat_le n 255) n t e
same_type (written.CharacterVarying n) t e = varchar_type (nat_le 1 n && nat_le n 255) n t e

same_offer : (table : List ℕ) (x : ColumnDefinition) (column : Column) → column_found x ≡ Ok column → defined_offer table x ≡ offer_of table column
same_offer table x column e =
    let t = ok_then (type_found x.type_name) (λ column_type. Ok (record { name = x.column; column_type = column_type })) column e in
    let offered : defined_offer table x ≡ offer_of table (record { name = x.column; column_type = t.0 }) =
    λ i. record { table = table; name = Some x.column; value_type = same_type x.type_name t.0 t.1 i } in
    offered ∙ ap (offer_of table) (same_ok (record { name = x.column; column_type = t.0 }) column t.2)

same_offers : (table : List ℕ) (xs : List ColumnDefinition) (columns : List Column) → each (map column_found xs) ≡ Ok columns → map (defined_offer table) xs ≡ map (offer_of table) columns
same_offers table [] columns e = ap (map (offer_of table)) (same_ok [] columns e)
same_offers table (x ∷ xs) columns e =
    let f = ok_before (column_found x) (each (map column_found xs)) columns e in
    rw (same_offer table x f.first f.first_is, same_offers table xs f.rest f.rest_is) (ap (map (offer_of table)) f.all)

same_frame : (table : List ℕ) (xs : List ColumnDefinition) (columns : List Column) → columns_found xs ≡ Ok columns → defined_frame table xs ≡ frame_of table columns
same_frame table xs columns e =
    let allowed : Finding (Unit {0} × Unit {0}) = also (at_most 32 limit.Columns (length xs)) (distinct_found (map (λ definition. definition.column) xs)) in
    let t = ok_then (also allowed (each (map column_found xs))) (λ p. Ok p.1) columns e in
    let parts = ok_also allowed (each (map column_found xs)) t.0 t.1 in
    let offers : map (defined_offer table) xs ≡ map (offer_of table) columns = same_offers table xs t.0.1 parts.1 ∙ ap (map (offer_of table)) (same_ok t.0.1 columns t.2) in
    ap (λ k. record { tables = table ∷ []; columns = k; key = None }) offers

-- the CHECKs of a table that is made: their texts are kept, and each is found
record Made (tree : Tree) (table : CreateTable) : Type 0 where
  texts : kept_texts table.constraints ≡ map printed (checks_of tree.elements)
  found : All (IsFound (frame_of table.name table.columns)) (checks_of tree.elements)

made : (known : Known) (tree : Tree) (table : CreateTable) → create_found known tree ≡ Ok table → Made tree table
made known tree table e =
    let columns : List ColumnDefinition = definitions tree.elements in
    let frame : Frame = defined_frame tree.table columns in
    let referencing : Referencing = reference_found known tree.table (own_table columns tree.elements) in
    let declared : List Declared = declared_from frame referencing columns 0 tree.elements in
    let free : Finding (Unit {0}) = is_new (not (is_none (known.table tree.table))) in
    let t = ok_then (also free (also (columns_found columns) (constraints_found declared)))
    (λ p. Ok (record { name = tree.table; columns = p.1.0; constraints = p.1.1 })) table e in
    let parts = ok_also free (also (columns_found columns) (constraints_found declared)) t.0 t.1 in
    let inner = ok_also (columns_found columns) (constraints_found declared) t.0.1 parts.1 in
    let found : Finding (List Rule) = each (map (λ d. d.rule) declared) in
    let c = ok_then (also (are_allowed declared) found) (λ p. Ok (map named (zip (names_from 1 declared) p.1))) t.0.1.1 inner.1 in
    let rules = ok_also (are_allowed declared) found c.0 c.1 in
    let keep = rules_kept referencing (references_textless known tree.table (own_table columns tree.elements)) frame columns 0 tree.elements c.0.1 rules.1 in
    let made_of : CreateTable = record { name = tree.table; columns = t.0.1.0; constraints = t.0.1.1 } in
    subst (Made tree) (same_ok made_of table t.2) (record {
      texts = subst (λ k. kept_texts k ≡ map printed (checks_of tree.elements)) (same_ok (map named (zip (names_from 1 declared) c.0.1)) t.0.1.1 c.2) (texts_named 1 declared c.0.1 rules.1 ∙ keep.texts);
      found = subst (λ k. All (IsFound k) (checks_of tree.elements)) (same_frame tree.table columns t.0.1.0 inner.0) keep.found;
    })

pub checks_kept : (known : Known) (tree : Tree) (table : CreateTable) (text : List ℕ) (kinds : Tokens) → HasKinds text kinds → IsText (Some 64) kinds (statement.CreateTable tree)
    → create_found known tree ≡ Ok table → AreChecksKept tree table
checks_kept known tree table text kinds spelled parsed e =
    let m = made known tree table e in
    let there = table_checks_stand (Some 64) parsed.depth kinds tree parsed.rest parsed.statement in
    record { texts = m.texts; each = λ k d h. kept _ (m.found k d h) (there k d h) }
  where
    kept : (x : Condition) → IsFound (frame_of table.name table.columns) x → Stands (Some 64) kinds x → IsKept table x
    kept x f s = record {
      condition = f.condition;
      found = f.found;
      reads = stands table.name table.columns x text f.condition (record {
        before = s.before;
        from = s.from;
        rest = s.rest;
        depth = s.depth;
        spelled = subst (HasKinds text) s.split spelled;
        condition = s.condition;
      }) f.found;
    }
