-- What a CHECK sees.
use Rattle.std.specs.Prelude.{None}
use Rattle.ast.specs.declared.tree.Condition.{Condition as Tree}
use Rattle.typing.specs.declared.scope.Frame.{Frame}
use Rattle.typing.specs.declared.typed.Condition.{Condition}
use Rattle.typing.specs.Finding.{Finding}
use Rattle.typing.specs.Known.{Known}
use Rattle.typing.specs.Part.{Checked}
use Rattle.typing.specs.Scope.{Scope}
use Rattle.typing.specs.Typing.{condition_part}

-- all columns may be named
abbrev pub without_key : Frame → Frame
without_key frame = record frame { key = None }

abbrev pub condition_in : Known → Scope → Tree → Finding Condition
condition_in known scope tree = (condition_part known tree).found (record { scope = scope; clause = Checked })
