-- Which commits are pinned, and how often.
use Rattle.std.specs.Prelude.{ℕ, ◌+◌, ◌==◌, List, sum_by, if◌then◌else◌}
use Rattle.pool.specs.declared.pins.Pin.{Pin}

-- how often this pins the commit c
abbrev pub times : ℕ → Pin → ℕ
times c pin = if pin.number == c then pin.more + 1 else 0

-- how often the commit c is pinned
abbrev pub pins_at : List Pin → ℕ → ℕ
pins_at pins c = sum_by (times c) pins
