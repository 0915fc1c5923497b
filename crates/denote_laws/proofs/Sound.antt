-- Steps of the meaning make no failure without a fault of parts that have none.
use Rattle.std.proofs.Common.{pos, int_div, length, Bool, List, [], ◌∷◌, map, Ok}
use Rattle.sqlval.specs.declared.value.Value.{Value}
use Rattle.sqlval.specs.declared.truth.Truth.{Truth}
use Rattle.sqlval.specs.declared.truth.Truth.TheVariants.{False, Unknown, True}
use Rattle.sqlval.specs.declared.comparison.CompOp.{CompOp}
use Rattle.sqlval.specs.declared.comparison.CompOp.TheVariants.{GreaterOrEqual, LessOrEqual}
use Rattle.sqlval.specs.Truth.{truth_and, truth_or}
use Rattle.sqlval.specs.Comparison.{comparison}
use Rattle.sqlval.specs.Concatenation.{concatenation as concatenation_of}
use Rattle.sqlval.specs.Value.{Row}
use Rattle.typing.specs.declared.typed.Arithmetic.{Arithmetic}
use Rattle.typing.specs.declared.typed.SetFunctionType.{SetFunctionType}
use Rattle.typing.specs.declared.typed.SetFunctionType.TheVariants.{Count, Sum, Avg, Min, Max}
use Rattle.denote.specs.declared.fault.Fault.{Fault}
use Rattle.denote.specs.Evaluation.{Env, Evaluation, ◌>>=◌, given, adding, together}
use Rattle.denote.specs.Expression.{ExpressionMeaning, calculated, chained, concatenation, scalar}
use Rattle.denote.specs.Condition.{ConditionMeaning, both, either, conjunction, disjunction, compared, between}
use Rattle.denote.specs.Outcome.{Outcome, whole}
use Rattle.denote.specs.Group.{total, aggregated, taken, beyond_count, set_function}
use Rattle.denote_laws.specs.Law.{IsSound, AreSound}
use Rattle.denote_laws.proofs.Soundness.{next-sound, unless-sound, together-sound, calculated-sound, concatenation-sound, in_range-sound}
use Rattle.operator_laws.specs.Same.{Every}
use Rattle.denote_laws.specs.Sound.{IsSoundMeaning}

-- ---- lists of parts

pub Every-mapped : {Z B A : Type 0} (P : A → Type 0) (f : B → A) (g : Z → B) (zs : List Z) → ((z : Z) → P (f (g z))) → Every P (map f (map g zs))
Every-mapped P f g [] h = tt
Every-mapped P f g (z ∷ zs) h = (h z, Every-mapped P f g zs h)

pub AreSound-maps : {Z B : Type 0} (f : Z → Evaluation B) (zs : List Z) → ((z : Z) → IsSound (f z)) → AreSound (map f zs)
AreSound-maps f [] h = tt
AreSound-maps f (z ∷ zs) h = (h z, AreSound-maps f zs h)

pub adding-sound : {A : Type 0} (faults : List Fault) (x : Evaluation A) → IsSound x → IsSound (adding faults x)
adding-sound [] x h = h
adding-sound (fault ∷ faults) x h = tt

-- ---- expressions

abbrev pub IsSoundOperand : Arithmetic × ExpressionMeaning → Type 0
IsSoundOperand operand = IsSoundMeaning operand.1

pub chained-sound : (x : Evaluation Value) (others : List (Arithmetic × ExpressionMeaning)) (env : Env) → IsSound x → Every IsSoundOperand others
    → IsSound (chained x others env)
chained-sound x [] env h k = h
chained-sound x (other ∷ others) env h k =
    chained-sound (x >>= (λ left. other.1 env >>= (λ right. calculated other.0 left right))) others env
    (next-sound x (λ left. other.1 env >>= (λ right. calculated other.0 left right)) h
    (λ left. next-sound (other.1 env) (λ right. calculated other.0 left right) (k.0 env) (λ right. calculated-sound other.0 left right)))
    k.1

pub concatenated-sound : (x : Evaluation Value) (others : List ExpressionMeaning) (env : Env) → IsSound x → Every IsSoundMeaning others
    → IsSound (concatenation x others env)
concatenated-sound x [] env h k = h
concatenated-sound x (other ∷ others) env h k =
    concatenated-sound (x >>= (λ left. other env >>= (λ right. given (concatenation_of left right)))) others env
    (next-sound x (λ left. other env >>= (λ right. given (concatenation_of left right))) h
    (λ left. next-sound (other env) (λ right. given (concatenation_of left right)) (k.0 env) (λ right. concatenation-sound left right)))
    k.1

pub scalar-sound : (o : Outcome) → IsSound (scalar o)
unfolding scalar
scalar-sound o = unless-sound _ _

pub whole-sound : (o : Outcome) → IsSound (whole o)
unfolding whole
whole-sound o = unless-sound o.faults o.rows

-- a step to a value
pub then-sound : {A B : Type 0} (x : Evaluation A) (f : A → B) → IsSound x → IsSound (x >>= (λ a. Ok (f a)))
then-sound x f h = next-sound x (λ a. Ok (f a)) h (λ a. tt)

-- ---- conditions

both-sound : (x : Truth) (others : Evaluation Truth) → IsSound others → IsSound (both x others)
both-sound False others h = tt
both-sound Unknown others h = then-sound others (truth_and Unknown) h
both-sound True others h = h

either-sound : (x : Truth) (others : Evaluation Truth) → IsSound others → IsSound (either x others)
either-sound False others h = h
either-sound Unknown others h = then-sound others (truth_or Unknown) h
either-sound True others h = tt

pub conjunction-sound : (operands : List ConditionMeaning) → Every IsSoundMeaning operands → IsSoundMeaning (conjunction operands)
conjunction-sound [] h env = tt
conjunction-sound (operand ∷ others) h env = next-sound (operand env) (λ x. both x (conjunction others env)) (h.0 env)
    (λ x. both-sound x (conjunction others env) (conjunction-sound others h.1 env))

pub disjunction-sound : (operands : List ConditionMeaning) → Every IsSoundMeaning operands → IsSoundMeaning (disjunction operands)
disjunction-sound [] h env = tt
disjunction-sound (operand ∷ others) h env = next-sound (operand env) (λ x. either x (disjunction others env)) (h.0 env)
    (λ x. either-sound x (disjunction others env) (disjunction-sound others h.1 env))

pub compared-sound : (op : CompOp) (a b : ExpressionMeaning) → IsSoundMeaning a → IsSoundMeaning b → IsSoundMeaning (compared op a b)
compared-sound op a b h k env = next-sound (a env) (λ x. b env >>= (λ y. Ok (comparison op x y))) (h env) (λ x. then-sound (b env) (comparison op x) (k env))

pub between-sound : (x low high : ExpressionMeaning) → IsSoundMeaning x → IsSoundMeaning low → IsSoundMeaning high → IsSoundMeaning (between x low high)
between-sound x low high h k l = conjunction-sound (compared GreaterOrEqual x low ∷ compared LessOrEqual x high ∷ [])
    (compared-sound GreaterOrEqual x low h k, (compared-sound LessOrEqual x high h l, tt))

-- ---- set functions

aggregated-sound : (function : SetFunctionType) (xs : List Value) → IsSound (given (aggregated function xs))
aggregated-sound Count xs = in_range-sound (pos (length xs))
aggregated-sound Sum [] = tt
aggregated-sound Sum (x ∷ xs) = in_range-sound (total (x ∷ xs))
aggregated-sound Avg [] = tt
aggregated-sound Avg (x ∷ xs) = in_range-sound (int_div (total (x ∷ xs)) (pos (length (x ∷ xs))))
aggregated-sound Min [] = tt
aggregated-sound Min (x ∷ xs) = tt
aggregated-sound Max [] = tt
aggregated-sound Max (x ∷ xs) = tt

pub set_function-sound : (function : SetFunctionType) (is_distinct : Bool) (argument : ExpressionMeaning) (env : Env) (rows : List Row)
    → IsSoundMeaning argument → IsSound (set_function function is_distinct argument env rows)
set_function-sound function is_distinct argument env rows h =
    adding-sound (beyond_count rows) (together (map (λ row. argument (row ∷ env)) rows) >>= (λ xs. given (aggregated function (taken is_distinct xs))))
    (next-sound (together (map (λ row. argument (row ∷ env)) rows)) (λ xs. given (aggregated function (taken is_distinct xs)))
    (together-sound (map (λ row. argument (row ∷ env)) rows) (AreSound-maps (λ row. argument (row ∷ env)) rows (λ row. h (row ∷ env))))
    (λ xs. aggregated-sound function (taken is_distinct xs)))
