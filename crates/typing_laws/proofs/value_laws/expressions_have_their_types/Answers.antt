use Rattle.std.proofs.lemmas.List.Elements.{All-contains}
use Rattle.typing_laws.specs.Types.{HasTypes}
use Rattle.typing_laws.proofs.ValueTrees.{function-typed, value-typed}
use Rattle.typing_laws.proofs.value_laws.expressions_have_their_types.Goals as goal

pub returns-clause-expressions : goal.returns-clause-expressions
returns-clause-expressions c known tables rows env expression type holds sees h = value-typed known tables holds h env sees

pub returns-clause-functions : goal.returns-clause-functions
returns-clause-functions c known tables from rows env group function type holds sees are h =
    function-typed known tables holds h env group (λ row there. (All-contains (HasTypes from) group row are there, sees))
