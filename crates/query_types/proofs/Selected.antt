-- What is found of set operators and SELECTs, from what is found of their parts.
use Rattle.std.proofs.Common.{◌≡◌, refl, ap, ◌∙◌, ℕ, Bool, List, [], ◌∷◌, map, Option, None, Ok, Err, inl, inr}
use Rattle.refusals.specs.declared.refusal.Refusal.{Refusal}
use Rattle.ast.specs.declared.operator.SetOperator.{SetOperator}
use Rattle.ast.specs.declared.tree.Addend.{Addend, out-Addend}
use Rattle.ast.specs.declared.tree.Operand.{Operand}
use Rattle.ast.specs.declared.tree.Query.{Query as Tree, out-Query}
use Rattle.ast.specs.declared.tree.Select.{Select, out-Select}
use Rattle.typing.specs.declared.typed.Query.{Query}
use Rattle.typing.specs.declared.typed.Query.TheVariants as query
use Rattle.typing.specs.declared.typed.SetOperation.{SetOperation}
use Rattle.typing.specs.declared.typed.Source.{Source}
use Rattle.typing.specs.declared.scope.Frame.{Frame}
use Rattle.typing.specs.declared.scope.Offer.{Offer}
use Rattle.typing.specs.declared.scope.Settled.{Settled}
use Rattle.typing.specs.declared.scope.TypedFrom.{TypedFrom}
use Rattle.typing.specs.declared.scope.TypedQuery.{TypedQuery}
use Rattle.typing.specs.Finding.{Finding, ◌>>=◌, also, each}
use Rattle.typing.specs.Finds.{Finds}
use Rattle.typing.specs.From.{frame_over, from_found}
use Rattle.typing.specs.Known.{Known}
use Rattle.typing.specs.Part.{Plain, Shown, if_written, past}
use Rattle.typing.specs.Scope.{Scope}
use Rattle.typing.specs.Select.{Clauses, functions_found, is_grouped, key_found, select_list, settled_over, tables_found, typed_select, width}
use Rattle.typing.specs.SetOperator.{combinable, intersection, operation, set_chain}
use Rattle.typing.specs.Typing.{addend_found, operand_found, query_found, select_found}
use Rattle.typing.proofs.Nodes as node
use Rattle.type_rules.proofs.Covers.{also-either, then-only}
use Rattle.type_rules.proofs.FindsLemmas.{Finds-then_err, Finds-also_first, Finds-also_second}
use Rattle.type_rules.specs.Parts.{combined_of}
use Rattle.type_rules.specs.Selects.{settled}
use Rattle.query_types.specs.Selects.{addend_after, clauses_of, from_in, groups_of, operand_after, select_from, keyed, select_over, settled_in, with_key}

-- ---- set operators

chain-refused : (r : Refusal) (first : Finding TypedQuery) (others : List (SetOperation × Finding TypedQuery)) → Finds {A = TypedQuery} (Err r) first → Finds {A = TypedQuery} (Err r) (set_chain first others)
chain-refused r first [] h = h
chain-refused r first (o ∷ others) h =
    Finds-then_err r (also first (each (map (combinable first) (o ∷ others)))) _ (Finds-also_first r first (each (map (combinable first) (o ∷ others))) h)

over-first : (first : TypedQuery) (others : Finding (List (SetOperation × Query))) →
    (also (Ok first) others >>= (λ p. Ok (record { query = query.Combined (p.0).query p.1; columns = (p.0).columns }))) ≡ combined_of first others
over-first first (Ok others) = refl
over-first first (Err reasons) = refl

addends : (k : Known) (first : TypedQuery) (outer : Scope) (others : List (SetOperator × Addend)) →
    map (combinable (Ok first)) (map {B = SetOperation × Finding TypedQuery} (λ o. (operation o.0, o.1 outer)) (map {B = SetOperator × (Scope → Finding TypedQuery)} (λ o. (o.0, addend_found k o.1)) others)) ≡ map (addend_after k first outer) others
addends k first outer [] = refl
addends k first outer (o ∷ others) = ap (λ rest. addend_after k first outer o ∷ rest) (addends k first outer others)

operands : (k : Known) (first : TypedQuery) (outer : Scope) (others : List (Bool × Operand)) →
    map (combinable (Ok first)) (map {B = SetOperation × Finding TypedQuery} (λ o. (intersection o.0, o.1 outer)) (map {B = Bool × (Scope → Finding TypedQuery)} (λ o. (o.0, operand_found k o.1)) others)) ≡ map (operand_after k first outer) others
operands k first outer [] = refl
operands k first outer (o ∷ others) = ap (λ rest. operand_after k first outer o ∷ rest) (operands k first outer others)

addend-chain : (k : Known) (first : TypedQuery) (outer : Scope) (others : List (SetOperator × Addend)) → (others ≡ [] → ⊥) →
    set_chain (Ok first) (map {B = SetOperation × Finding TypedQuery} (λ o. (operation o.0, o.1 outer)) (map {B = SetOperator × (Scope → Finding TypedQuery)} (λ o. (o.0, addend_found k o.1)) others)) ≡ combined_of first (each (map (addend_after k first outer) others))
addend-chain k first outer [] n = absurd (n refl)
addend-chain k first outer (o ∷ others) n = over-first first _ ∙ ap (λ found. combined_of first (each found)) (addends k first outer (o ∷ others))

operand-chain : (k : Known) (first : TypedQuery) (outer : Scope) (others : List (Bool × Operand)) → (others ≡ [] → ⊥) →
    set_chain (Ok first) (map {B = SetOperation × Finding TypedQuery} (λ o. (intersection o.0, o.1 outer)) (map {B = Bool × (Scope → Finding TypedQuery)} (λ o. (o.0, operand_found k o.1)) others)) ≡ combined_of first (each (map (operand_after k first outer) others))
operand-chain k first outer [] n = absurd (n refl)
operand-chain k first outer (o ∷ others) n = over-first first _ ∙ ap (λ found. combined_of first (each found)) (operands k first outer (o ∷ others))

module _ (k : Known) (outer : Scope) where
  pub query-alone : (tree : Tree) → (out-Query tree).others ≡ [] → query_found k tree outer ≡ addend_found k (out-Query tree).first outer
  query-alone tree e = node.query_at k tree outer ∙ rw e refl

  pub query-chain : (tree : Tree) (first : TypedQuery) → ((out-Query tree).others ≡ [] → ⊥) → addend_found k (out-Query tree).first outer ≡ Ok first →
      query_found k tree outer ≡ combined_of first (each (map (addend_after k first outer) (out-Query tree).others))
  query-chain tree first n e = node.query_at k tree outer ∙ rw e (addend-chain k first outer (out-Query tree).others n)

  pub query-refused : (r : Refusal) (tree : Tree) → Finds {A = TypedQuery} (Err r) (addend_found k (out-Query tree).first outer) → Finds {A = TypedQuery} (Err r) (query_found k tree outer)
  query-refused r tree h = rw (node.query_at k tree outer) (chain-refused r (addend_found k (out-Query tree).first outer) _ h)

  pub addend-alone : (tree : Addend) → (out-Addend tree).others ≡ [] → addend_found k tree outer ≡ operand_found k (out-Addend tree).first outer
  addend-alone tree e = node.addend_at k tree outer ∙ rw e refl

  pub addend-chained : (tree : Addend) (first : TypedQuery) → ((out-Addend tree).others ≡ [] → ⊥) → operand_found k (out-Addend tree).first outer ≡ Ok first →
      addend_found k tree outer ≡ combined_of first (each (map (operand_after k first outer) (out-Addend tree).others))
  addend-chained tree first n e = node.addend_at k tree outer ∙ rw e (operand-chain k first outer (out-Addend tree).others n)

  pub addend-refused : (r : Refusal) (tree : Addend) → Finds {A = TypedQuery} (Err r) (operand_found k (out-Addend tree).first outer) → Finds {A = TypedQuery} (Err r) (addend_found k tree outer)
  addend-refused r tree h = rw (node.addend_at k tree outer) (chain-refused r (operand_found k (out-Addend tree).first outer) _ h)

-- ---- SELECT

abbrev part_of : List (List ℕ) → Finding (List Offer) → Finding Source → Finding TypedFrom
part_of names columns source = also columns source >>= (λ p. Ok (record { frame = frame_over names p.0; source = p.1 }))

abbrev whole : Clauses → (List Offer → Finding Settled) → Finding (List Offer) → Finding Source → Finding TypedQuery
whole select settle columns source =
    also (tables_found select.from.names) (also source (columns >>= settle)) >>= (λ p. Ok (typed_select select (p.1).0 (p.1).1))

module _ (k : Known) (tree : Select) where
  over-tables : (source : Source) (tables : Finding (Unit {0} × Unit {0})) (found : Finding Settled) →
      (also tables (also (Ok source) found) >>= (λ p. Ok (typed_select (clauses_of k tree) (p.1).0 (p.1).1)))
      ≡ select_from (out-Select tree).quantifier (out-Select tree).groups source (also tables found)
  over-tables source (Ok tables) (Ok found) = refl
  over-tables source (Ok tables) (Err reasons) = refl
  over-tables source (Err others) (Ok found) = refl
  over-tables source (Err others) (Err reasons) = refl

  select-of : (settle : Frame → Finding Settled) (columns : Finding (List Offer)) (source : Finding Source) (from : TypedFrom) → part_of (clauses_of k tree).from.names columns source ≡ Ok from →
      whole (clauses_of k tree) (λ offers. settle (frame_over (clauses_of k tree).from.names offers)) columns source ≡ select_over (out-Select tree).quantifier (out-Select tree).groups from (settle from.frame)
  select-of settle (Ok columns) (Ok source) from e =
      let same : record { frame = frame_over (clauses_of k tree).from.names columns; source = source } ≡ from = cc e in
      over-tables source (tables_found (clauses_of k tree).from.names) (settle (frame_over (clauses_of k tree).from.names columns))
      ∙ ap (λ f. select_over (out-Select tree).quantifier (out-Select tree).groups f (settle f.frame)) same
  select-of settle (Ok columns) (Err reasons) from e = absurd (cc e)
  select-of settle (Err reasons) source from e = absurd (cc e)

  pub select-found : (outer : Scope) (from : TypedFrom) → from_found (from_in k (out-Select tree).from) outer ≡ Ok from →
      select_found k tree outer ≡ select_over (out-Select tree).quantifier (out-Select tree).groups from (settled_in (clauses_of k tree) (with_key None from.frame outer))
  select-found outer from e =
      node.select_at k tree outer
      ∙ select-of (λ frame. settled_in (clauses_of k tree) (with_key None frame outer)) ((clauses_of k tree).from.columns outer) ((clauses_of k tree).from.source outer) from e

  from-refused : (r : Refusal) (settle : List Offer → Finding Settled) (columns : Finding (List Offer)) (source : Finding Source) → Finds {A = TypedFrom} (Err r) (part_of (clauses_of k tree).from.names columns source) →
      Finds {A = TypedQuery} (Err r) (whole (clauses_of k tree) settle columns source)
  from-refused r settle columns source h =
      let parts : Finds {A = Source × Settled} (Err r) (also source (columns >>= settle)) =
      elim (also-either r columns source (then-only r (also columns source) _ h)) [
        | inl g ↦ Finds-also_second r source (columns >>= settle) (Finds-then_err r columns settle g)
        | inr g ↦ Finds-also_first r source (columns >>= settle) g
      ] in
      Finds-then_err r (also (tables_found (clauses_of k tree).from.names) (also source (columns >>= settle))) _ (Finds-also_second r (tables_found (clauses_of k tree).from.names) (also source (columns >>= settle)) parts)

  pub select-refused : (outer : Scope) (r : Refusal) → Finds {A = TypedFrom} (Err r) (from_found (from_in k (out-Select tree).from) outer) → Finds {A = TypedQuery} (Err r) (select_found k tree outer)
  select-refused outer r h =
      rw (node.select_at k tree outer)
      (from-refused r (settled_over (clauses_of k tree) outer) ((clauses_of k tree).from.columns outer) ((clauses_of k tree).from.source outer) h)

-- ---- the clauses of a SELECT

module _ (select : Clauses) (rows : Scope) where
  pub key-refused : (r : Refusal) → Finds {A = Option (List ℕ)} (Err r) (key_found (is_grouped select) select.groups rows) → Finds {A = Settled} (Err r) (settled_in select rows)
  key-refused r h =
      Finds-then_err r _ _ (Finds-also_second r ((if_written select.filter).found (record { scope = rows; clause = Plain })) _
      (Finds-also_second r (functions_found select rows) _ (Finds-then_err r _ _ h)))

  pub settled-parts : (key : Option (List ℕ)) → key_found (is_grouped select) select.groups rows ≡ Ok key →
      settled_in select rows ≡ settled (also ((if_written select.filter).found (record { scope = rows; clause = Plain }))
      (also (functions_found select rows)
      (groups_of key (also ((select_list select.items).found (record { scope = keyed key rows; clause = Shown (width key) }))
      ((if_written select.having).found (past (select_list select.items) (record { scope = keyed key rows; clause = Shown (width key) })))))))
  settled-parts key e = rw e refl
