-- Q13 and Q14: what each makes of a node may stand for it.
use Rattle.algebra.specs.Raising.{expression_may_raise}
use Rattle.algebra.specs.TreeOutcome.{tree_value}
use Rattle.algebra.specs.declared.tree.Condition.{Condition, Condition-F, roll-Condition, out-Condition, roll-out-Condition}
use Rattle.algebra.specs.declared.tree.Expression.{Expression}
use Rattle.algebra.specs.declared.tree.StoredTable.{StoredTable}
use Rattle.algebra.specs.declared.tree.Tree.{Tree, Tree-F, roll-Tree, out-Tree}
use Rattle.closed_trees.specs.Outside.{Depths, depths_in_tree}
use Rattle.denote.specs.Evaluation.{Env, joined}
use Rattle.denote.specs.Group.{members}
use Rattle.denote.specs.Meaning.{Tables}
use Rattle.denote.specs.Select.{values_of}
use Rattle.operator_laws.specs.Same.{Every}
use Rattle.rewrite_laws.proofs.ClosedTrees.{closed-alike}
use Rattle.rewrite_laws.proofs.Conditions.{Denials, off, quiet-is, plain-quiet, none-there}
use Rattle.rewrite_laws.proofs.Found.{some-is, given-found, then-found, scan-rolled, filter-rolled, project-rolled, node-found, filter-found}
use Rattle.rewrite_laws.proofs.LookupTrees.{QuietItems}
use Rattle.rewrite_laws.proofs.MovedPlain.{moved-tame}
use Rattle.rewrite_laws.proofs.Sides.{Quiet}
use Rattle.rewrite_laws.proofs.SubqueryTrees.{q13, q13-not, SeesNoRow, q14, q14-not}
use Rattle.rules.specs.Columns.{names_only, moved, in_half, to_half}
use Rattle.rules.specs.Conjuncts.{quiet}
use Rattle.rules.specs.Nodes.{Node}
use Rattle.rules.specs.Same.{AreAmong, Keeps}
use Rattle.rules.specs.Stored.{StoredTables, stored_in_condition}
use Rattle.rules.specs.SubqueryRules.{half, quiet_item, half_by, half_of_table, half_of_items, half_of_query, half_under, half_at, exists_to_half, is_closed, member_under, member_at, in_to_member}
use Rattle.rules.specs.Width.{width_of_tree}
use Rattle.same_laws.proofs.Moved.{and_true}
use Rattle.sqlval.specs.Value.{Row}
use Rattle.sqlval.specs.declared.value.Value.{Value}
use Rattle.std.proofs.Common.{◌≡◌, refl, subst, ℕ, Bool, List, [], ◌∷◌, map, Ok, true, false, ◌&&◌, Some}
use Rattle.std.specs.List.{list_all}
use Rattle.std.specs.Prelude.{Contains}
use Rattle.algebra.specs.declared.tree.Condition.TheVariants as c
use Rattle.algebra.specs.declared.tree.Tree.TheVariants as t

all-value : (tables : Tables) (items : List Expression) (env : Env)
    → Every (λ item. (x : Value) × (tree_value tables item env ≡ Ok x)) items
    → (row : Row) × (values_of (map (tree_value tables) items) env ≡ Ok row)
all-value tables [] env h = ([], refl)
all-value tables (item ∷ items) env h =
    let rest = all-value tables items env h.1 in
    (h.0.0 ∷ rest.0, λ i. joined (h.0.1 i) (rest.1 i))

closed : (depths : Depths) → is_closed depths ≡ true → depths ≡ []
closed [] e = refl
closed (depth ∷ depths) e = absurd (cc (e))

exists-rolled : (query : Tree) → c.Exists query ≡ roll-Condition (Condition-F.Exists query)
unfolding roll-Condition denote.Hole.Carrier.roll
exists-rolled query = refl

not-rolled : (operand : Condition) → c.Not operand ≡ roll-Condition (Condition-F.Not operand)
unfolding roll-Condition denote.Hole.Carrier.roll
not-rolled operand = refl

in-rolled : (operand : Expression) (query : Tree)
    → c.InQuery operand query ≡ roll-Condition (Condition-F.InQuery operand query)
unfolding roll-Condition denote.Hole.Carrier.roll
in-rolled operand query = refl

-- ---- Q14

sees-no-row : (members : Tree) → is_closed (depths_in_tree members) ≡ true → SeesNoRow members
sees-no-row members e tables row env = closed-alike tables members (closed (depths_in_tree members) e) (row ∷ env) env

pub in_to_member-keeps : (old new : Tree) → in_to_member old ≡ Some new → Keeps new old
in_to_member-keeps old new e = filter-found (Keeps new) new (λ condition rows. member_at rows (out-Condition condition))
    old e
    (λ condition rows f. subst (λ (z : Condition). Keeps new (t.Filter z rows)) (roll-out-Condition condition)
    (at rows (out-Condition condition) f))
  where
    under : (rows : Tree) (d : Node Condition-F) → member_under rows d ≡ Some new
        → Keeps new (t.Filter (c.Not (roll-Condition d)) rows)
    under rows (Condition-F.InQuery operand members) f =
        let h = given-found (is_closed (depths_in_tree members)) (Some (t.Member operand true members rows)) new f in
        subst (λ (z : Condition). Keeps new (t.Filter (c.Not z) rows)) (in-rolled operand members)
        (subst (λ (z : Tree). Keeps z (t.Filter (c.Not (c.InQuery operand members)) rows)) (some-is h.1)
        (q14-not operand members rows (sees-no-row members h.0)))
    under rows _ f = absurd (cc (f))

    at : (rows : Tree) (d : Node Condition-F) → member_at rows d ≡ Some new
        → Keeps new (t.Filter (roll-Condition d) rows)
    at rows (Condition-F.InQuery operand members) f =
        let h = given-found (is_closed (depths_in_tree members)) (Some (t.Member operand false members rows)) new f in
        subst (λ (z : Condition). Keeps new (t.Filter z rows)) (in-rolled operand members)
        (subst (λ (z : Tree). Keeps z (t.Filter (c.InQuery operand members) rows)) (some-is h.1)
        (q14 operand members rows (sees-no-row members h.0)))
    at rows (Condition-F.Not operand) f = subst (λ (z : Condition). Keeps new (t.Filter z rows)) (not-rolled operand)
        (subst (λ (z : Condition). Keeps new (t.Filter (c.Not z) rows)) (roll-out-Condition operand)
        (under rows (out-Condition operand) f))
    at rows _ f = absurd (cc (f))

-- ---- Q13

module _ (denied : Denials) where
  quiet-items : (items : List Expression) → list_all quiet_item items ≡ true → QuietItems items
  quiet-items items e tables env = all-value tables items env (each items e)
    where
      each : (items : List Expression) → list_all quiet_item items ≡ true
          → Every (λ item. (x : Value) × (tree_value tables item env ≡ Ok x)) items
      each [] k = tt
      each (item ∷ items) k =
          let h = and_true (quiet_item item) (list_all quiet_item items) k in
          (denied.expression tables item (off (expression_may_raise item) h.0) env, each items h.1)

  -- the filter that asks for a match, or for none
  abbrev pub asked : Bool → Tree → Condition
  asked true query = c.Exists query
  asked false query = c.Not (c.Exists query)

  pub half-made : (wanted : Bool) (items : List Expression) (condition : Condition) (table : StoredTable) (left : Tree)
      (w : ℕ) → width_of_tree left ≡ Some w
      → quiet condition ≡ true → list_all quiet_item items ≡ true → names_only (in_half w) condition ≡ true
      → Keeps (half wanted (moved (to_half w) condition) left (t.Scan table))
      (t.Filter (asked wanted (t.Project items (t.Filter condition (t.Scan table)))) left)
  half-made wanted items condition table left w wide calm quiet-all names = by-kind wanted
    where
      still : Quiet (moved (to_half w) condition)
      still = quiet-is denied (moved (to_half w) condition)
          (plain-quiet denied (moved (to_half w) condition) (moved-tame (in_half w) (to_half w) condition names).0)

      known-on : AreAmong (stored_in_condition (moved (to_half w) condition)) (stored_in_condition condition)
      known-on read there = absurd
          (none-there read (subst (λ (z : StoredTables). Contains z read)
          (moved-tame (in_half w) (to_half w) condition names).1 there))

      by-kind : (wanted : Bool) → Keeps (half wanted (moved (to_half w) condition) left (t.Scan table))
          (t.Filter (asked wanted (t.Project items (t.Filter condition (t.Scan table)))) left)
      by-kind true = q13 condition (moved (to_half w) condition) items table left w wide
          (quiet-is denied condition calm) still (quiet-items items quiet-all) names refl known-on
      by-kind false = q13-not condition (moved (to_half w) condition) items table left w wide
          (quiet-is denied condition calm) still (quiet-items items quiet-all) names refl known-on

  half-keeps-by : (wanted : Bool) (items : List Expression) (condition : Condition) (table : StoredTable)
      (left new : Tree) (w : ℕ) → width_of_tree left ≡ Some w
      → half_by wanted items condition table left w ≡ Some new
      → Keeps new (t.Filter (asked wanted (t.Project items (t.Filter condition (t.Scan table)))) left)
  half-keeps-by wanted items condition table left new w wide e =
      let h = given-found (quiet condition && (list_all quiet_item items && names_only (in_half w) condition))
      (Some (half wanted (moved (to_half w) condition) left (t.Scan table))) new e in
      let p = and_true (quiet condition) (list_all quiet_item items && names_only (in_half w) condition) h.0 in
      let q = and_true (list_all quiet_item items) (names_only (in_half w) condition) p.1 in
      subst (λ (z : Tree). Keeps z (t.Filter (asked wanted (t.Project items (t.Filter condition (t.Scan table)))) left))
      (some-is h.1)
      (half-made wanted items condition table left w wide p.0 q.0 q.1)

  module _ (wanted : Bool) (left new : Tree) where
    abbrev KeepsQuery : Tree → Type 0
    KeepsQuery query = Keeps new (t.Filter (asked wanted query) left)

    table-half : (items : List Expression) (condition : Condition) (d : Node Tree-F)
        → half_of_table wanted items condition left d ≡ Some new
        → KeepsQuery (t.Project items (t.Filter condition (roll-Tree d)))
    table-half items condition (Tree-F.Scan table) e =
        let w = then-found (half_by wanted items condition table left) (width_of_tree left) new e in
        subst (λ (z : Tree). KeepsQuery (t.Project items (t.Filter condition z))) (scan-rolled table)
        (half-keeps-by wanted items condition table left new w.0 w.1 w.2)
    table-half items condition _ e = absurd (cc (e))

    items-half : (items : List Expression) (d : Node Tree-F) → half_of_items wanted left items d ≡ Some new
        → KeepsQuery (t.Project items (roll-Tree d))
    items-half items (Tree-F.Filter condition rows) e = subst (λ (z : Tree). KeepsQuery (t.Project items z))
        (filter-rolled condition rows)
        (node-found (λ rows. KeepsQuery (t.Project items (t.Filter condition rows))) new
        (half_of_table wanted items condition left) rows e (table-half items condition))
    items-half items _ e = absurd (cc (e))

    query-half : (d : Node Tree-F) → half_of_query wanted left d ≡ Some new → KeepsQuery (roll-Tree d)
    query-half (Tree-F.Project items rows) e = subst KeepsQuery (project-rolled items rows)
        (node-found (λ rows. KeepsQuery (t.Project items rows)) new (half_of_items wanted left items) rows e
        (items-half items))
    query-half _ e = absurd (cc (e))

    pub half-found : (query : Tree) → half_of_query wanted left (out-Tree query) ≡ Some new → KeepsQuery query
    half-found query e = node-found KeepsQuery new (half_of_query wanted left) query e query-half

  pub exists_to_half-keeps : (old new : Tree) → exists_to_half old ≡ Some new → Keeps new old
  exists_to_half-keeps old new e =
      filter-found (Keeps new) new (λ condition rows. half_at rows (out-Condition condition)) old e
      (λ condition rows f. subst (λ (z : Condition). Keeps new (t.Filter z rows)) (roll-out-Condition condition)
      (at rows (out-Condition condition) f))
    where
      under : (rows : Tree) (d : Node Condition-F) → half_under rows d ≡ Some new
          → Keeps new (t.Filter (c.Not (roll-Condition d)) rows)
      under rows (Condition-F.Exists query) f = subst (λ (z : Condition). Keeps new (t.Filter (c.Not z) rows))
          (exists-rolled query) (half-found false rows new query f)
      under rows _ f = absurd (cc (f))

      at : (rows : Tree) (d : Node Condition-F) → half_at rows d ≡ Some new
          → Keeps new (t.Filter (roll-Condition d) rows)
      at rows (Condition-F.Exists query) f = subst (λ (z : Condition). Keeps new (t.Filter z rows))
          (exists-rolled query) (half-found true rows new query f)
      at rows (Condition-F.Not operand) f = subst (λ (z : Condition). Keeps new (t.Filter z rows)) (not-rolled operand)
          (subst (λ (z : Condition). Keeps new (t.Filter (c.Not z) rows)) (roll-out-Condition operand)
          (under rows (out-Condition operand) f))
      at rows _ f = absurd (cc (f))
