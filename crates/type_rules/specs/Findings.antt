-- What follows from two parts that are found.
use Rattle.std.specs.Prelude.{Ok}
use Rattle.typing.specs.Finding.{Finding, ◌>>=◌}

abbrev pub second_of : {A B : Type 0} → Finding (A × B) → Finding B
second_of found = found >>= (λ p. Ok p.1)
