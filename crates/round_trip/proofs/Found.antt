-- Each part of a tree is found in the tokens of the tree, for each way in which the grammar joins
-- its rules.
use Rattle.std.proofs.Common.{◌≡◌, ℕ, false, List, [], ◌∷◌, ◌++◌, map, Option, Some, None, refl, sym as flip, subst}
use Rattle.std.specs.Prelude.{flat_map}
use Rattle.std.specs.List.{All}
use Rattle.std.proofs.lemmas.List.Elements.{All-nil, All-cons, All-append}
use Rattle.std.proofs.lemmas.List.Concat.{flat_map_single}
use Rattle.lexer.specs.declared.kinds.Kind.{Kind}
use Rattle.lexer.specs.declared.kinds.Symbol.TheVariants as s
use Rattle.ast.specs.Expressions.{Chain, IsCondition, IsConjunction, IsExpression, IsFactor, IsNegation, IsPredicate, IsPrimary, IsTerm, IsTest}
use Rattle.ast.specs.Grammar.{nested_at}
use Rattle.ast.specs.Notation.{Tokens, Rule, ◌⨾◌, ◌⊳◌, ◌⊲◌, Parenthesized, Maybe, Many, Listed, MaybeListed}
use Rattle.ast.specs.Queries.{IsAddend, IsJoin, IsOperand, IsQuery, IsSelect, IsSelectItem, IsTableReference, IsTableSource}
use Rattle.ast.specs.Statements.{IsStatement}
use Rattle.ast.specs.Words.{COMMA}
use Rattle.parse_terminals.specs.Readers.{is_symbol}
use Rattle.parser.proofs.Passes.{Passes, Passing, here, past, around, onward, one, same}
use Rattle.ast.specs.Parts.{Node, statement, query, addend, operand, select, select_item, table_reference, join, table_source, condition, conjunction, negation, test, predicate, expression, term, factor, primary, written}
use Rattle.round_trip.proofs.Leads.{Leads, at_once, into, behind, led_on}

-- the node's rule, where parentheses stand in it less than so deep
abbrev pub Stands : Option ℕ → ℕ → Node → Tokens → Tokens → Type 0
Stands limit depth (statement x) ts rest = IsStatement (nested_at limit depth) ts x rest
Stands limit depth (query x) ts rest = IsQuery limit (nested_at limit depth) ts x rest
Stands limit depth (addend x) ts rest = IsAddend limit (nested_at limit depth) ts x rest
Stands limit depth (operand x) ts rest = IsOperand limit (nested_at limit depth) ts x rest
Stands limit depth (select x) ts rest = IsSelect limit (nested_at limit depth) ts x rest
Stands limit depth (select_item x) ts rest = IsSelectItem limit (nested_at limit depth) ts x rest
Stands limit depth (table_reference x) ts rest = IsTableReference limit (nested_at limit depth) ts x rest
Stands limit depth (join x) ts rest = IsJoin limit (nested_at limit depth) ts x rest
Stands limit depth (table_source x) ts rest = IsTableSource limit (nested_at limit depth) ts x rest
Stands limit depth (condition x) ts rest = IsCondition limit (nested_at limit depth) ts x rest
Stands limit depth (conjunction x) ts rest = IsConjunction limit (nested_at limit depth) ts x rest
Stands limit depth (negation x) ts rest = IsNegation limit (nested_at limit depth) ts x rest
Stands limit depth (test x) ts rest = IsTest limit (nested_at limit depth) ts x rest
Stands limit depth (predicate x) ts rest = IsPredicate limit (nested_at limit depth) ts x rest
Stands limit depth (expression x) ts rest = IsExpression limit (nested_at limit depth) ts x rest
Stands limit depth (term x) ts rest = IsTerm limit (nested_at limit depth) ts x rest
Stands limit depth (factor x) ts rest = IsFactor limit (nested_at limit depth) ts x rest
Stands limit depth (primary x) ts rest = IsPrimary limit (nested_at limit depth) ts x rest

-- The node stands at a place to which these tokens lead.
pub record Found (limit : Option ℕ) (ts : Tokens) (node : Node) : Type 0 where
  pub depth : ℕ
  pub from : Tokens
  pub rest : Tokens
  pub leads : Leads ts from
  pub stands : Stands limit depth node from rest

pub found_behind : {limit : Option ℕ} {ts mid : Tokens} {node : Node} → Leads ts mid → Found limit mid node → Found limit ts node
found_behind l f = record { depth = f.depth; from = f.from; rest = f.rest; leads = led_on l f.leads; stands = f.stands }

-- The tokens before the rest have matched parentheses, and in them each of the nodes is found.
pub record Holding (limit : Option ℕ) (ts : Tokens) (nodes : List Node) (rest : Tokens) : Type 0 where
  pub passes : Passes ts rest
  pub found : All (Found limit ts) nodes

-- What is in R holds these nodes.
pub record Holds {A : Type 0} (limit : Option ℕ) (R : Rule A) (nodes : A → List Node) : Type 0 where
  pub at : (ts : Tokens) (x : A) (rest : Tokens) → R ts x rest → Holding limit ts (nodes x) rest

no_nodes : {A : Type 0} (xs : List A) → flat_map {X = A} {A = Node} (λ _. []) xs ≡ []
no_nodes [] = refl
no_nodes (x ∷ xs) = no_nodes xs

module _ {limit : Option ℕ} where
  all_behind : {ts mid : Tokens} (nodes : List Node) → Leads ts mid → All (Found limit mid) nodes → All (Found limit ts) nodes
  all_behind nodes l all = λ k d h. found_behind l (all k d h)

  -- tokens that hold no node
  pub no_node : {ts rest : Tokens} → Passes ts rest → Holding limit ts [] rest
  no_node {ts} p = record { passes = p; found = All-nil (Found limit ts) }

  pub nothing : {A : Type 0} {R : Rule A} → Passing R → Holds limit R (λ _. [])
  nothing p = record { at = λ ts x rest h. no_node (p ts x rest h) }

  -- what is a node
  pub a_node : {A : Type 0} {R : Rule A} {nodes : A → List Node} (depth : ℕ) (node : A → Node)
      → ((ts : Tokens) (x : A) (rest : Tokens) → R ts x rest → Stands limit depth (node x) ts rest) → Holds limit R nodes → Holds limit R (λ x. node x ∷ [])
  a_node depth node stands l = record {
    at = λ ts x rest h. record {
      passes = (l.at ts x rest h).passes;
      found = All-cons (Found limit ts) (node x) [] (record { depth = depth; from = ts; rest = rest; leads = at_once; stands = stands ts x rest h }) (All-nil (Found limit ts));
    };
  }

  -- one after another
  pub join_holding : {ts mid rest : Tokens} {xs ys : List Node} → Holding limit ts xs mid → Holding limit mid ys rest → Holding limit ts (xs ++ ys) rest
  join_holding {ts} {xs} {ys} a b = record {
    passes = onward a.passes b.passes;
    found = All-append (Found limit ts) xs ys a.found (all_behind ys (behind a.passes at_once) b.found);
  }

  -- A ⨾ B
  pub both : {A B : Type 0} {R : Rule A} {R' : Rule B} {nodes : A → List Node} {nodes' : B → List Node} → Holds limit R nodes → Holds limit R' nodes'
      → Holds limit (R ⨾ R') (λ x. nodes x.0 ++ nodes' x.1)
  both l m = record { at = λ ts x rest h. join_holding (l.at ts x.0 h.0 h.1) (m.at h.0 x.1 rest h.2) }

  -- t ⊳ A
  pub after : {A : Type 0} {R : Rule A} {nodes : A → List Node} (t : Kind) → is_symbol s.LeftParenthesis t ≡ false → is_symbol s.RightParenthesis t ≡ false
      → Holds limit R nodes → Holds limit (t ⊳ R) nodes
  after t o c l = record { at = λ ts x rest h. join_holding (no_node (one o c h.1)) (l.at h.0 x rest h.2) }

  -- A ⊲ t
  pub before : {A : Type 0} {R : Rule A} {nodes : A → List Node} (t : Kind) → is_symbol s.LeftParenthesis t ≡ false → is_symbol s.RightParenthesis t ≡ false
      → Holds limit R nodes → Holds limit (R ⊲ t) nodes
  before t o c l = record {
    at = λ ts x rest h.
        let a = l.at ts x (t ∷ rest) h in
        record { passes = onward a.passes (past o c here); found = a.found };
  }

  -- ( A )
  pub parenthesized : {A : Type 0} {R : Rule A} {nodes : A → List Node} → Holds limit R nodes → Holds limit (Parenthesized R) nodes
  parenthesized {nodes} l = record {
    at = λ ts x rest h.
        let a = l.at h.0 x _ h.2 in
        subst (λ ts. Holding limit ts (nodes x) rest) (flip h.1) (record { passes = around a.passes here; found = all_behind (nodes x) (into at_once) a.found });
  }

  -- with another tree
  pub of : {A B : Type 0} {R : Rule A} {nodes : A → List Node} (R' : Rule B) (g : B → A) → ((ts : Tokens) (y : B) (rest : Tokens) → R' ts y rest → R ts (g y) rest)
      → Holds limit R nodes → Holds limit R' (λ y. nodes (g y))
  of R' g f l = record { at = λ ts y rest h. l.at ts (g y) rest (f ts y rest h) }

  -- [A], where A is one node
  pub maybe : {A : Type 0} {R : Rule A} {node : A → Node} → Holds limit R (λ x. node x ∷ []) → Holds limit (Maybe R) (written node)
  maybe {A} {R} {node} l = record { at = at }
    where
      at : (ts : Tokens) (x : Option A) (rest : Tokens) → Maybe R ts x rest → Holding limit ts (written node x) rest
      at ts None rest h = no_node (same h)
      at ts (Some x) rest h = l.at ts x rest h

  -- [A], where A is a list without a node
  pub maybe_listed : {A : Type 0} {R : Rule (List A)} → Holds limit R (λ _. []) → Holds limit (MaybeListed R) (λ _. [])
  maybe_listed {A} {R} l = record { at = at }
    where
      at : (ts : Tokens) (x : List A) (rest : Tokens) → MaybeListed R ts x rest → Holding limit ts [] rest
      at ts [] rest h = no_node (same h)
      at ts (x ∷ xs) rest h = l.at ts (x ∷ xs) rest h

  -- {A}
  pub many : {A : Type 0} {R : Rule A} {nodes : A → List Node} → Holds limit R nodes → Holds limit (Many R) (flat_map nodes)
  many {A} {R} {nodes} l = record { at = at }
    where
      at : (ts : Tokens) (xs : List A) (rest : Tokens) → Many R ts xs rest → Holding limit ts (flat_map nodes xs) rest
      at ts [] rest h = no_node (same h)
      at ts (x ∷ xs) rest h = join_holding (l.at ts x h.0 h.1) (at h.0 xs rest h.2)

  -- {A}, where A is one node
  pub each : {A : Type 0} {R : Rule A} {node : A → Node} → Holds limit R (λ x. node x ∷ []) → Holds limit (Many R) (map node)
  each {node} l = record { at = λ ts xs rest h. subst (λ nodes. Holding limit ts nodes rest) (flat_map_single node xs) ((many l).at ts xs rest h) }

  -- A {, A}
  pub listed : {A : Type 0} {R : Rule A} {nodes : A → List Node} → Holds limit R nodes → Holds limit (Listed R) (flat_map nodes)
  listed {A} {R} {nodes} l = record { at = at }
    where
      at : (ts : Tokens) (xs : List A) (rest : Tokens) → Listed R ts xs rest → Holding limit ts (flat_map nodes xs) rest
      at ts [] rest h = absurd h
      at ts (x ∷ xs) rest h = join_holding (l.at ts x h.0 h.1) ((many (after COMMA refl refl l)).at h.0 xs rest h.2)

  pub each_listed : {A : Type 0} {R : Rule A} {node : A → Node} → Holds limit R (λ x. node x ∷ []) → Holds limit (Listed R) (map node)
  each_listed {node} l = record { at = λ ts xs rest h. subst (λ nodes. Holding limit ts nodes rest) (flat_map_single node xs) ((listed l).at ts xs rest h) }

  -- A {, A}, where A holds no node
  pub nothing_listed : {A : Type 0} {R : Rule A} → Holds limit R (λ _. []) → Holds limit (Listed R) (λ _. [])
  nothing_listed l = record { at = λ ts xs rest h. subst (λ nodes. Holding limit ts nodes rest) (no_nodes xs) ((listed l).at ts xs rest h) }

  -- A {B}, where each B is one node
  pub chain : {A B : Type 0} {R : Rule A} {R' : Rule B} {node : A → Node} {node' : B → Node} → Holds limit R (λ x. node x ∷ []) → Holds limit R' (λ x. node' x ∷ [])
      → Holds limit (Chain limit R R') (λ x. node x.0 ∷ map node' x.1)
  chain l m = record { at = λ ts x rest h. (both l (each m)).at ts x rest h.0 }
