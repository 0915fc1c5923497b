-- CHECK (ISO/IEC 9075:1992, 11.9): what its condition stands for, and what its stored text does.
use Rattle.std.specs.Prelude.{◌≡◌, ℕ, List, [], ◌∷◌, length, Some, Ok}
use Rattle.sqlval.specs.declared.schema.Column.{Column}
use Rattle.sqlval.specs.declared.schema.Rule.{Rule}
use Rattle.sqlval.specs.declared.schema.Rule.TheVariants as rule
use Rattle.refusals.specs.declared.limit.Limit.TheVariants as limit
use Rattle.lexer.specs.Printing.{HasKinds}
use Rattle.ast.specs.declared.tree.Condition.{Condition as Tree}
use Rattle.ast.specs.Notation.{Tokens}
use Rattle.ast.specs.Grammar.{IsConditionText}
use Rattle.typing.specs.declared.typed.Condition.{Condition}
use Rattle.typing.specs.declared.scope.Frame.{Frame}
use Rattle.typing.specs.Known.{nothing_known}
use Rattle.typing.specs.Finding.{Finding, ◌>>=◌, also}
use Rattle.typing.specs.Part.{Checked}
use Rattle.typing.specs.Table.{at_most, frame_of}
use Rattle.typing.specs.Typing.{condition_part}
use Rattle.typing.specs.Printed.{printed}

-- a CHECK sees its own table alone
abbrev pub check_found : Frame → Tree → Finding Condition
check_found frame tree = (condition_part nothing_known tree).found (record { scope = frame ∷ []; clause = Checked })

-- it is held as its printed text, of at most 800 bytes: our own choice
abbrev pub check_rule : Frame → Tree → Finding Rule
check_rule frame tree = also (at_most 800 limit.Check (length (printed tree))) (check_found frame tree) >>= (λ p. Ok (rule.Check (printed tree)))

-- The text of a CHECK stands for this condition, in the table of this name with these columns: it
-- has these tokens, they are a condition with this tree, chains having at most 64 operands, and
-- that is found to be the condition.
pub record ReadsCheck (name : List ℕ) (columns : List Column) (text : List ℕ) (condition : Condition) : Type 0 where
  pub kinds : Tokens
  pub tree : Tree
  pub spelled : HasKinds text kinds
  pub parsed : IsConditionText (Some 64) kinds tree
  pub found : check_found (frame_of name columns) tree ≡ Ok condition

-- every text that stands for a condition is read as that one
abbrev pub IsCheckReading : (List ℕ → List Column → List ℕ → Condition) → Type 0
IsCheckReading reading =
    (name : List ℕ) (columns : List Column) (text : List ℕ) (condition : Condition)
    → ReadsCheck name columns text condition → reading name columns text ≡ condition
