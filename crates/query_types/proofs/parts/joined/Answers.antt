use Rattle.std.proofs.Common.{map}
use Rattle.query_types.specs.Parts.{function_in}
use Rattle.query_types.proofs.FunctionLists.{each-append, found-joined}
use Rattle.query_types.proofs.parts.joined.Goals as goal

pub returns : goal.returns
returns c = λ scope fs gs h k.
    found-joined c.appended.result scope fs gs
    (rw (each-append (map (function_in scope) fs) (map (function_in scope) gs)) (c.appended.ensures _ (c.both.ensures _ _ h k)))
