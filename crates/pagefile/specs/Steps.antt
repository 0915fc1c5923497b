-- Steps of what a crash may leave, by pages: what a layer above composes its writes by.
use Rattle.disk.specs.Crashes.{Bytes, Follows}

-- what follows by a step follows by each weaker one
pub follows_by : (by than : Bytes → Bytes → Type 0) (old new : Bytes → Type 0) → ((d c : Bytes) → by d c → than d c)
    → Follows by old new → Follows than old new
follows_by by than old new to follows c left =
    let from = follows c left in (from.0, from.1, to from.0 c from.2)
