-- How the grammar is written. A rule says of a list of tokens that it begins with a part of the
-- language, of a part's tree that these tokens have it, and of a second list that it is what is
-- left after them.
use Rattle.std.specs.Prelude.{◌≡◌, Bool, true, false, List, [], ◌∷◌, Option, Some, None}
use Rattle.lexer.specs.declared.kinds.Kind.{Kind}
use Rattle.ast.specs.Words.{LEFT_PARENTHESIS, RIGHT_PARENTHESIS, COMMA}

-- what the tokens of a text are, without their places
abbrev pub Tokens : Type 0
Tokens = List Kind

abbrev pub Rule : Type 0 → Type 1
Rule A = Tokens → A → Tokens → Type 0

infixr 5 ◌⨾◌
infixr 6 ◌⊳◌
infixl 7 ◌⊲◌
-- A ⨾ B: an A and then a B
abbrev pub ◌⨾◌ : {A B : Type 0} → Rule A → Rule B → Rule (A × B)
(A ⨾ B) ts x rest = (middle : Tokens) × A ts x.0 middle × B middle x.1 rest

-- t ⊳ A: the token t and then an A
abbrev pub ◌⊳◌ : {A : Type 0} → Kind → Rule A → Rule A
(t ⊳ A) ts x rest = (after : Tokens) × (ts ≡ t ∷ after) × A after x rest

-- A ⊲ t: an A and then the token t
abbrev pub ◌⊲◌ : {A : Type 0} → Rule A → Kind → Rule A
(A ⊲ t) ts x rest = A ts x (t ∷ rest)

-- ( A )
abbrev pub Parenthesized : {A : Type 0} → Rule A → Rule A
Parenthesized A = LEFT_PARENTHESIS ⊳ A ⊲ RIGHT_PARENTHESIS

-- [A]
abbrev pub Maybe : {A : Type 0} → Rule A → Rule (Option A)
Maybe A ts None rest = ts ≡ rest
Maybe A ts (Some x) rest = A ts x rest

-- [t], a token that may be left out: whether it is written
abbrev pub Written : Kind → Rule Bool
Written t ts true rest = ts ≡ t ∷ rest
Written t ts false rest = ts ≡ rest

-- {A}, any number of times
abbrev pub Many : {A : Type 0} → Rule A → Rule (List A)
Many A ts [] rest = ts ≡ rest
Many A ts (x ∷ xs) rest = (middle : Tokens) × A ts x middle × Many A middle xs rest

-- A {, A}
abbrev pub Listed : {A : Type 0} → Rule A → Rule (List A)
Listed A ts [] rest = ⊥
Listed A ts (x ∷ xs) rest = (A ⨾ Many (COMMA ⊳ A)) ts (x, xs) rest

-- [A], where A is a list that is never empty: the empty list where nothing is written
abbrev pub MaybeListed : {A : Type 0} → Rule (List A) → Rule (List A)
MaybeListed A ts [] rest = ts ≡ rest
MaybeListed A ts (x ∷ xs) rest = A ts (x ∷ xs) rest
