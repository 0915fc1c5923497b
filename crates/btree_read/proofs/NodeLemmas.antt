-- What lies at a page and what its reader sees.
use Rattle.std.proofs.Common.{◌≡◌, ℕ, ◌≤◌, List, [], ◌∷◌, length, refl, sym, ap, ◌∙◌, subst, Option, Some, None, IsSome, Result, Ok, Err, IfErr, IfOk, IsErrAnd, rules, arith}
use Rattle.page_space.specs.Space.{PageMap, ReadRefused}
use Rattle.page_space.specs.declared.error.SpaceError.{SpaceError}
use Rattle.page_space.specs.declared.error.SpaceError.TheVariants.{Memory, Disk, Damaged, Pages, Private}
use Rattle.sqlrecord.specs.declared.kind.PageKind.{PageKind}
use Rattle.sqlrecord.specs.declared.kind.PageKind.TheVariants.{Leaf, Inner}
use Rattle.sqlrecord.specs.Page.{link_of, cells_of, IsSound}
use Rattle.sqlrecord.specs.Build.{Fits}
use Rattle.sqlrecord.proofs.FitLemmas.{sound_fit}
use Rattle.btree_read.specs.Nodes.{Node, HasNode, IsStocked, node_of}

-- a page has one kind
same_kind : (page : List ℕ) (a b : PageKind) → IsSound page a → IsSound page b → a ≡ b
same_kind page Leaf Leaf h g = refl
same_kind page Inner Inner h g = refl
same_kind page Leaf Inner h g = absurd (omega (arith, h.head.is_kind, g.head.is_kind))
same_kind page Inner Leaf h g = absurd (omega (arith, h.head.is_kind, g.head.is_kind))

some_same : (o : Option (List ℕ)) (a b : List ℕ) → o ≡ Some a → o ≡ Some b → a ≡ b
some_same o a b e f = cc

-- a page has one node
pub one_node : (pages : PageMap) (page : ℕ) (a b : Node) → HasNode pages page a → HasNode pages page b → a ≡ b
one_node pages page a b h g =
    let e : h.bytes ≡ g.bytes = some_same (pages page) h.bytes g.bytes h.there g.there in
    let k : h.kind ≡ g.kind = same_kind g.bytes h.kind g.kind (subst (λ bs. IsSound bs h.kind) e h.sound) g.sound in
    sym h.shows ∙ ap (λ bs. node_of h.kind (link_of bs) (cells_of bs)) e ∙ ap (λ k. node_of k (link_of g.bytes) (cells_of g.bytes)) k ∙ g.shows

pub fits_of : (bytes : List ℕ) (kind : PageKind) (cells : List (List ℕ)) → IsSound bytes kind → cells ≡ cells_of bytes → Fits cells
fits_of bytes kind cells h e = subst Fits (sym e) (sound_fit bytes kind h)

no_cells : (kind : PageKind) (link : ℕ) (cells : List (List ℕ)) → length cells ≡ 0 → IsStocked (node_of kind link cells) → ⊥
no_cells Leaf link [] e h = h.0 refl
no_cells Inner link [] e h = h.0 refl
no_cells kind link (c ∷ cells) e h = absurd (omega arith)

-- a page that is read as one without cells has no node
pub empty_node : (pages : PageMap) (page : ℕ) (bytes : List ℕ) (cells : List (List ℕ)) (node : Node) → ((b : List ℕ) → pages page ≡ Some b → bytes ≡ b)
    → cells ≡ cells_of bytes → length cells ≡ 0 → HasNode pages page node → ⊥
empty_node pages page bytes cells node f e z h =
    no_cells h.kind (link_of h.bytes) (cells_of h.bytes) (ap (λ bs. length (cells_of bs)) (sym (f h.bytes h.there)) ∙ ap length (sym e) ∙ z) (subst IsStocked (sym h.shows) h.stocked)

-- a page with a node is in use
pub node_is_used : (pages : PageMap) (page : ℕ) (node : Node) → HasNode pages page node → IsSome (pages page)
node_is_used pages page node h = rw h.there refl

pub not_fresh : (pages : PageMap) (n : ℕ) → IsSome (pages n) → pages n ≡ None → ⊥
not_fresh pages n h e = by (pages n) h e
  where
    by : (o : Option (List ℕ)) → IsSome o → o ≡ None → ⊥
    by None h e = search (rules, h)
    by (Some x) h e = cc

pub node_kept : (old new : PageMap) (n : ℕ) (node : Node) → new n ≡ old n → HasNode old n node → HasNode new n node
node_kept old new n node e h = record { bytes = h.bytes; kind = h.kind; there = e ∙ h.there; sound = h.sound; shows = h.shows; stocked = h.stocked }

-- ---- refusals

pub read_refused : (H G : Type 0) (a b c : ℕ) (f : SpaceError) → a ≤ b → (H → G) → ReadRefused H b c f → ReadRefused G a c f
read_refused H G a b c Memory h g w = tt
read_refused H G a b c Disk h g w = record { no_less = omega (arith, w.no_less); more = omega (arith, w.more) }
read_refused H G a b c Damaged h g w = g w
read_refused H G a b c Pages h g w = w
read_refused H G a b c Private h g w = w

pub read_refused_on : {A : Type 0} (result : Result A SpaceError) (H G : Type 0) (a b c : ℕ) → a ≤ b → (H → G)
    → IfErr result (ReadRefused H b c) → IfErr result (ReadRefused G a c)
read_refused_on (Ok x) H G a b c h g w = tt
read_refused_on (Err f) H G a b c h g w = read_refused H G a b c f h g w

pub harm_weaker : (H G : Type 0) (a c : ℕ) (f : SpaceError) → (H → G) → ReadRefused H a c f → ReadRefused G a c f
harm_weaker H G a c f g w = read_refused H G a a c f (omega arith) g w

-- ---- what the exit of a `?` hands on

pub never_ok : {A E : Type 0} (result : Result A E) (Q : E → Type 0) (P : A → Type 0) → IsErrAnd result Q → IfOk result P
never_ok (Ok x) Q P h = absurd h
never_ok (Err e) Q P h = tt

pub err_passed : {A E : Type 0} (result : Result A E) (e : E) (P : E → Type 0) → IsErrAnd result (λ f. f ≡ e) → P e → IfErr result P
err_passed (Ok x) e P h w = absurd h
err_passed (Err f) e P h w = subst P (sym h) w

pub memory_passed : {A : Type 0} (result : Result A SpaceError) (H : Type 0) (a b : ℕ) → IsErrAnd result (λ f. f ≡ Memory) → IfErr result (ReadRefused H a b)
memory_passed result H a b h = err_passed result Memory (ReadRefused H a b) h tt
