use Rattle.std.proofs.Common.{◌≡◌, refl, List, [], ◌∷◌, ap, ◌∙◌, rules}
use Rattle.typing.specs.declared.typed.OrderKey.{OrderKey}
use Rattle.algebra.specs.declared.tree.Tree.{Tree}
use Rattle.algebra.specs.declared.tree.Tree.TheVariants as t
use Rattle.algebra.specs.Translated.{sorted_tree}
use Rattle.translation.proofs.nodes.sorted.Goals as goal

unsorted : (ks keys : List OrderKey) (x tree : Tree) → keys ≡ ks → tree ≡ x → keys ≡ [] → tree ≡ sorted_tree ks x
unsorted [] keys x tree e f none = f
unsorted (k ∷ ks) keys x tree e f none = absurd (cc)

with_keys : (ks keys : List OrderKey) (x tree : Tree) → keys ≡ ks → tree ≡ x → (keys ≡ [] → ⊥) → t.Sort keys tree ≡ sorted_tree ks x
with_keys [] keys x tree e f some = absurd (some e)
with_keys (k ∷ ks) keys x tree e f some = ap (λ (z : List OrderKey). t.Sort z tree) e ∙ ap (λ (z : Tree). t.Sort (k ∷ ks) z) f

pub returns-then-is_empty : goal.returns-then-is_empty
returns-then-is_empty c = λ ks x h g. unsorted ks _ x _ (c.in_ok-keys.ensures.first ks h) (c.in_ok-keys.ensures.second x g) (search rules)

pub returns : goal.returns
returns c = λ ks x h g. with_keys ks _ x _ (c.in_ok-keys.ensures.first ks h) (c.in_ok-tree.ensures _ refl ∙ c.in_ok-keys.ensures.second x g) (search rules)
