-- What stands inside tokens nests no deeper than they do.
use Rattle.std.proofs.Common.{◌≡◌, ℕ, true, ◌∷◌}
use Rattle.ast.specs.Nesting.{IsNestedWithin}
use Rattle.ast.specs.Notation.{Tokens}
use Rattle.ast.specs.Words.{LEFT_PARENTHESIS}
use Rattle.parser.specs.Shallow.{is_shallow}
use Rattle.parser.proofs.Nested.{nested_shallow, shallow_nested}
use Rattle.parser.proofs.Passes.{Passes, here, past, around, shallow_after, shallow_inside}

-- From ts one comes to a later place by passing tokens in which parentheses are matched, and by
-- going into parentheses.
pub data Leads : Tokens → Tokens → Type 0 where
  at_once : {ts : Tokens} → Leads ts ts
  into : {ts from : Tokens} → Leads ts from → Leads (LEFT_PARENTHESIS ∷ ts) from
  behind : {ts mid from : Tokens} → Passes ts mid → Leads mid from → Leads ts from

pub led_on : {a b c : Tokens} → Leads a b → Leads b c → Leads a c
led_on at_once m = m
led_on (into l) m = into (led_on l m)
led_on (behind p l) m = behind p (led_on l m)

shallow_from : {ts from : Tokens} → Leads ts from → (d : ℕ) → is_shallow ts d ≡ true → is_shallow from d ≡ true
shallow_from at_once d h = h
shallow_from (into {ts = ts} l) d h = shallow_from l d (shallow_inside ts d h)
shallow_from (behind p l) d h = shallow_from l d (shallow_after p d h)

pub nested_from : (ts from : Tokens) (d : ℕ) → Leads ts from → IsNestedWithin d ts → IsNestedWithin d from
nested_from ts from d l nested = shallow_nested from d (shallow_from l d (nested_shallow ts d nested))
