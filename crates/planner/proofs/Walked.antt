-- Steps of a part are steps of the whole, and steps that were walked can be replayed.
use Rattle.std.proofs.Common.{◌≡◌, refl, ap, sym, ◌∙◌, subst, ℕ, Bool, true, false, not, List, [], ◌∷◌, ◌++◌, map, reverse, Option, Some, None}
use Rattle.std.proofs.lemmas.Bool.{false≢true}
use Rattle.std.proofs.lemmas.List.{reverse-append}
use Rattle.std.specs.Prelude.{◌||◌, ◌&&◌, option_and_then, slice_get}
use Rattle.std.specs.Option.{option_map}
use Rattle.algebra.specs.declared.tree.Condition.{Condition}
use Rattle.algebra.specs.declared.tree.Tree.{Tree, Tree-F, out-Tree}
use Rattle.rewrite_laws.proofs.Found.{some-is, given-found, then-found}
use Rattle.rules.specs.Applied.{applied, here, replayed}
use Rattle.rules.specs.Conjuncts.{conjuncts, quiet}
use Rattle.rules.specs.FilterRules.{filter_below_product, filter_left_of_left_join, left_at, sides_filtered}
use Rattle.rules.specs.Nodes.{Node, given, at_filter, at_product}
use Rattle.rules.specs.Paths.{applied_at, in_node}
use Rattle.rules.specs.Quiet.{conditions_quiet}
use Rattle.rules.specs.Width.{width_of_tree}
use Rattle.rules.specs.declared.rule.Rule.{Rule}
use Rattle.rules.specs.declared.rule.Rule.TheVariants as by
use Rattle.rules.specs.declared.rule.Step.{Step}
use Rattle.rule_steps.specs.Attempted.{attempt}
use Rattle.planner.specs.Led.{IsCalm, Led, LedAt, LedBoth, in_part, path_of, step_at, turned, walked, with_step}
use Rattle.planner.specs.declared.nodes.Part.{Part}
use Rattle.planner.specs.declared.nodes.Sides.{Sides}
use Rattle.planner.specs.declared.outline.Outline.{Outline}

-- ---- the test before each step

or-true : (a : Bool) → (a || true) ≡ true
or-true true = refl
or-true false = refl

pub passes : (calm : Bool) (tree : Tree) → IsCalm calm tree → (not calm || conditions_quiet tree) ≡ true
passes true tree h = h refl
passes false tree h = refl

pub told-calm : (calm : Bool) (tree : Tree) → (not calm || conditions_quiet tree) ≡ true → IsCalm calm tree
told-calm true tree e = λ _. e
told-calm false tree e = λ f. absurd (false≢true f)

-- where a walk ends at a calm tree, it begins at one
pub begins-calm : (calm : Bool) (steps : List Step) (old new : Tree) → walked calm steps old ≡ Some new → IsCalm calm new
    → IsCalm calm old
begins-calm calm [] old new e h = subst (IsCalm calm) (sym (some-is e)) h
begins-calm calm (step ∷ steps) old new e h = told-calm calm old
    (given-found (not calm || conditions_quiet old) (option_and_then (walked calm steps)
    (applied_at (here calm step.rule) (reverse step.path.places) old)) new e).0

-- ---- one walk behind another

pub walks-on : (calm : Bool) (steps more : List Step) (old middle : Tree) → walked calm steps old ≡ Some middle
    → walked calm (steps ++ more) old ≡ walked calm more middle
walks-on calm [] more old middle e = ap (walked calm more) (some-is e)
walks-on calm (step ∷ steps) more old middle e = at (given-found (not calm || conditions_quiet old)
    (option_and_then (walked calm steps) (applied_at (here calm step.rule) (reverse step.path.places) old)) middle e)
    (λ next f. walks-on calm steps more next middle f)
  where
    inside : (found : Option Tree) → option_and_then (walked calm steps) found ≡ Some middle
        → ((next : Tree) → walked calm steps next ≡ Some middle → walked calm (steps ++ more) next ≡ walked calm more middle)
        → option_and_then (walked calm (steps ++ more)) found ≡ walked calm more middle
    inside None f later = absurd (cc (f))
    inside (Some next) f later = later next f

    at : ((not calm || conditions_quiet old) ≡ true)
        × (option_and_then (walked calm steps) (applied_at (here calm step.rule) (reverse step.path.places) old) ≡ Some middle)
        → ((next : Tree) → walked calm steps next ≡ Some middle → walked calm (steps ++ more) next ≡ walked calm more middle)
        → walked calm (step ∷ (steps ++ more)) old ≡ walked calm more middle
    at h later = ap (λ (b : Bool). given b (option_and_then (walked calm (steps ++ more))
        (applied_at (here calm step.rule) (reverse step.path.places) old))) h.0
        ∙ inside (applied_at (here calm step.rule) (reverse step.path.places) old) h.1 later

-- ---- a part of a whole

-- a tree as a part of another at a place
pub record IsPart (made : Tree → Tree) (place : ℕ) : Type 0 where
  pub path : (rule : Tree → Option Tree) (path : List ℕ) (part : Tree)
      → applied_at rule (place ∷ path) (made part) ≡ option_map made (applied_at rule path part)
  pub down : (part : Tree) → conditions_quiet (made part) ≡ true → conditions_quiet part ≡ true
  pub up : (old new : Tree) → conditions_quiet (made old) ≡ true → conditions_quiet new ≡ true
      → conditions_quiet (made new) ≡ true

pub part-calm : (calm : Bool) (made : Tree → Tree) (place : ℕ) → IsPart made place → (old : Tree) → IsCalm calm (made old)
    → IsCalm calm old
part-calm calm made place is old h = λ e. is.down old (h e)

pub whole-calm : (calm : Bool) (made : Tree → Tree) (place : ℕ) → IsPart made place → (old new : Tree)
    → IsCalm calm (made old) → IsCalm calm new → IsCalm calm (made new)
whole-calm calm made place is old new h k = λ e. is.up old new (h e) (k e)

pub walks-inside : (calm : Bool) (made : Tree → Tree) (place : ℕ) → IsPart made place → (steps : List Step) (old new : Tree)
    → IsCalm calm (made old) → IsCalm calm new → walked calm steps old ≡ Some new
    → walked calm (map (in_part place) steps) (made old) ≡ Some (made new)
walks-inside calm made place is [] old new h k e = ap (λ (z : Tree). Some (made z)) (some-is e)
walks-inside calm made place is (step ∷ steps) old new h k e =
    ap (λ (b : Bool). given b (option_and_then (walked calm (map (in_part place) steps))
    (applied_at (here calm step.rule) (reverse (step.path.places ++ place ∷ [])) (made old)))) (passes calm (made old) h)
    ∙ ap (λ (path : List ℕ). option_and_then (walked calm (map (in_part place) steps))
    (applied_at (here calm step.rule) path (made old))) (reverse-append step.path.places (place ∷ []))
    ∙ ap (option_and_then (walked calm (map (in_part place) steps)))
    (is.path (here calm step.rule) (reverse step.path.places) old)
    ∙ next (applied_at (here calm step.rule) (reverse step.path.places) old)
    (given-found (not calm || conditions_quiet old) (option_and_then (walked calm steps)
    (applied_at (here calm step.rule) (reverse step.path.places) old)) new e).1
    (λ middle f. walks-inside calm made place is steps middle new
    (whole-calm calm made place is old middle h (begins-calm calm steps middle new f k)) k f)
  where
    next : (found : Option Tree) → option_and_then (walked calm steps) found ≡ Some new
        → ((middle : Tree) → walked calm steps middle ≡ Some new
        → walked calm (map (in_part place) steps) (made middle) ≡ Some (made new))
        → option_and_then (walked calm (map (in_part place) steps)) (option_map made found) ≡ Some (made new)
    next None f later = absurd (cc (f))
    next (Some middle) f later = later middle f

-- ---- what a node is led to by the steps of its parts

pub one-led : (calm : Bool) (made : Tree → Tree) → IsPart made 0 → (old : Tree) (part : Part) → IsCalm calm (made old)
    → LedAt 0 calm old part → Led calm (made old) (record { steps = part.steps; tree = made part.tree })
one-led calm made is old part h led = record {
  steps = ap (λ (steps : List Step). walked calm steps (made old)) led.are
      ∙ walks-inside calm made 0 is led.own old part.tree h led.quiet led.leads;
  quiet = whole-calm calm made 0 is old part.tree h led.quiet;
}

pub both-led : (calm : Bool) (made : Tree → Tree → Tree) → ((right : Tree) → IsPart (λ left. made left right) 0)
    → ((left : Tree) → IsPart (made left) 1) → (left right : Tree) (both : Sides) → IsCalm calm (made left right)
    → LedBoth calm left right both
    → Led calm (made left right) (record { steps = both.steps; tree = made both.left both.right })
both-led calm made first second left right both h led =
    let middle = whole-calm calm (λ (z : Tree). made z right) 0 (first right) left both.left h led.left_quiet in
    record {
      steps = ap (λ (steps : List Step). walked calm steps (made left right)) led.are
          ∙ walks-on calm (map (in_part 0) led.first) (map (in_part 1) led.second) (made left right) (made both.left right)
          (walks-inside calm (λ (z : Tree). made z right) 0 (first right) led.first left both.left h led.left_quiet led.left)
          ∙ walks-inside calm (made both.left) 1 (second both.left) led.second right both.right middle led.right_quiet led.right;
      quiet = whole-calm calm (made both.left) 1 (second both.left) right both.right middle led.right_quiet;
    }

-- ---- a step more

-- a path of one place at most is the same the other way round
turned-path : (child : Option ℕ) → reverse (path_of child) ≡ path_of child
turned-path None = refl
turned-path (Some place) = refl

pub led-more : (calm : Bool) (old : Tree) (steps : List Step) (tree : Tree) (rule : Rule) (child : Option ℕ)
    → ((new : Tree) → applied_at (here calm rule) (path_of child) tree ≡ Some new → IsCalm calm tree → IsCalm calm new)
    → Led calm old (record { steps = steps; tree = tree })
    → Led calm old (with_step steps rule child (attempt (applied_at (here calm rule) (path_of child) tree) tree))
led-more calm old steps tree rule child keeps led = at (applied_at (here calm rule) (path_of child) tree) refl
  where
    stepped : (new : Tree) → applied_at (here calm rule) (path_of child) tree ≡ Some new
        → walked calm (step_at rule child ∷ []) tree ≡ Some new
    stepped new e = ap (λ (b : Bool). given b (option_and_then (walked calm [])
        (applied_at (here calm rule) (reverse (path_of child)) tree))) (passes calm tree led.quiet)
        ∙ ap (λ (path : List ℕ). option_and_then (walked calm []) (applied_at (here calm rule) path tree)) (turned-path child)
        ∙ ap (option_and_then (walked calm [])) e

    at : (found : Option Tree) → applied_at (here calm rule) (path_of child) tree ≡ found
        → Led calm old (with_step steps rule child (attempt found tree))
    at None e = led
    at (Some new) e = record {
      steps = walks-on calm steps (step_at rule child ∷ []) old tree led.steps ∙ stepped new e;
      quiet = keeps new e led.quiet;
    }

-- over no calm tree nothing is asked
pub never-calm : (tree : Tree) → IsCalm false tree
never-calm tree = λ e. absurd (false≢true e)

pub led-on : (calm : Bool) (steps : List Step) (old middle : Tree) (outline : Outline) → walked calm steps old ≡ Some middle
    → Led calm middle outline → Led calm old (record { steps = steps ++ outline.steps; tree = outline.tree })
led-on calm steps old middle outline e led = record {
  steps = walks-on calm steps outline.steps old middle e ∙ led.steps;
  quiet = led.quiet;
}

-- ---- replayed

below-grows : (tree new : Tree) → filter_below_product false tree ≡ Some new → filter_below_product true tree ≡ Some new
below-grows tree new e = absurd (at (out-Tree tree) e)
  where
    sides : (condition : Condition) (d : Node Tree-F) → at_product (λ left right. given (false && quiet condition)
        (option_and_then (sides_filtered (conjuncts condition) left right) (width_of_tree left))) d ≡ Some new → ⊥
    sides condition (Tree-F.Product left right) f = cc (f)
    sides condition _ f = cc (f)

    at : (d : Node Tree-F) → at_filter (λ condition rows. at_product (λ left right. given (false && quiet condition)
        (option_and_then (sides_filtered (conjuncts condition) left right) (width_of_tree left))) (out-Tree rows)) d ≡ Some new → ⊥
    at (Tree-F.Filter condition rows) f = sides condition (out-Tree rows) f
    at _ f = cc (f)

left-grows : (tree new : Tree) → filter_left_of_left_join false tree ≡ Some new → filter_left_of_left_join true tree ≡ Some new
left-grows tree new e = absurd (at (out-Tree tree) e)
  where
    join : (condition : Condition) (d : Node Tree-F) → left_at false condition d ≡ Some new → ⊥
    join condition (Tree-F.Left on left right width) f = cc (f)
    join condition _ f = cc (f)

    at : (d : Node Tree-F) → at_filter (λ condition rows. left_at false condition (out-Tree rows)) d ≡ Some new → ⊥
    at (Tree-F.Filter condition rows) f = join condition (out-Tree rows) f
    at _ f = cc (f)

-- what is made where a condition may raise is made where none may
grows : (rule : Rule) (tree new : Tree) → here false rule tree ≡ Some new → here true rule tree ≡ Some new
grows by.FilterBelowProduct = below-grows
grows by.FilterLeftOfLeftJoin = left-grows
grows by.SplitFilter = λ tree new e. e
grows by.OnIntoRightSide = λ tree new e. e
grows by.ProductToInner = λ tree new e. e
grows by.RegroupInner = λ tree new e. e
grows by.LeftToInner = λ tree new e. e
grows by.FilterToSeek = λ tree new e. e
grows by.FilterToRange = λ tree new e. e
grows by.InnerToHashJoin = λ tree new e. e
grows by.InnerToIndexLoop = λ tree new e. e
grows by.DropDistinct = λ tree new e. e
grows by.ExistsToHalf = λ tree new e. e
grows by.InToMember = λ tree new e. e
grows by.SortToRange = λ tree new e. e
grows by.PreFilter = λ tree new e. e

pub applied-grows : (rule more : Tree → Option Tree) → ((tree new : Tree) → rule tree ≡ Some new → more tree ≡ Some new)
    → (path : List ℕ) (tree new : Tree) → applied_at rule path tree ≡ Some new → applied_at more path tree ≡ Some new
applied-grows rule more h [] tree new e = h tree new e
applied-grows rule more h (place ∷ path) tree new e = at (slice_get (in_node tree).trees place) e
    (λ part made g. applied-grows rule more h path part made g)
  where
    inside : (part : Tree) (found : Option Tree) → applied_at rule path part ≡ found
        → option_map ((in_node tree).changed place) found ≡ Some new
        → ((made : Tree) → applied_at rule path part ≡ Some made → applied_at more path part ≡ Some made)
        → option_map ((in_node tree).changed place) (applied_at more path part) ≡ Some new
    inside part None g f later = absurd (cc (f))
    inside part (Some made) g f later = ap (option_map ((in_node tree).changed place)) (later made g) ∙ f

    at : (got : Option Tree) → option_and_then (λ part. option_map ((in_node tree).changed place) (applied_at rule path part)) got
        ≡ Some new
        → ((part made : Tree) → applied_at rule path part ≡ Some made → applied_at more path part ≡ Some made)
        → option_and_then (λ part. option_map ((in_node tree).changed place) (applied_at more path part)) got ≡ Some new
    at None f later = absurd (cc (f))
    at (Some part) f later = inside part (applied_at rule path part) refl f (later part)

-- a step that was walked is one of the whole
step-applied : (calm : Bool) (rule : Rule) (path : List ℕ) (tree new : Tree) → (not calm || conditions_quiet tree) ≡ true
    → applied_at (here calm rule) path tree ≡ Some new → applied rule path tree ≡ Some new
step-applied true rule path tree new h e = ap (λ (calm : Bool). applied_at (here calm rule) path tree) h ∙ e
step-applied false rule path tree new h e =
    applied-grows (here false rule) (here (conditions_quiet tree) rule) (at (conditions_quiet tree)) path tree new e
  where
    at : (calm : Bool) (tree new : Tree) → here false rule tree ≡ Some new → here calm rule tree ≡ Some new
    at true tree new f = grows rule tree new f
    at false tree new f = f

pub replays : (calm : Bool) (steps : List Step) (old new : Tree) → walked calm steps old ≡ Some new
    → replayed (map turned steps) old ≡ Some new
replays calm [] old new e = e
replays calm (step ∷ steps) old new e =
    let g = given-found (not calm || conditions_quiet old) (option_and_then (walked calm steps)
    (applied_at (here calm step.rule) (reverse step.path.places) old)) new e in
    let m = then-found (walked calm steps) (applied_at (here calm step.rule) (reverse step.path.places) old) new g.1 in
    ap (option_and_then (replayed (map turned steps))) (step-applied calm step.rule (reverse step.path.places) old m.0 g.0 m.1)
    ∙ replays calm steps m.0 new m.2

pub replayed-on : (steps more : List Step) (old middle : Tree) → replayed steps old ≡ Some middle
    → replayed (steps ++ more) old ≡ replayed more middle
replayed-on [] more old middle e = ap (replayed more) (some-is e)
replayed-on (step ∷ steps) more old middle e = at (applied step.rule step.path.places old) e
    (λ next f. replayed-on steps more next middle f)
  where
    at : (found : Option Tree) → option_and_then (replayed steps) found ≡ Some middle
        → ((next : Tree) → replayed steps next ≡ Some middle → replayed (steps ++ more) next ≡ replayed more middle)
        → option_and_then (replayed (steps ++ more)) found ≡ replayed more middle
    at None f later = absurd (cc (f))
    at (Some next) f later = later next f
