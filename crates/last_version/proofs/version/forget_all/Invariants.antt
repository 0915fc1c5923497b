use Rattle.std.proofs.Common.{◌≡◌, ◌≢◌, ◌<◌, ℕ, List, Contains}
use Rattle.journal.specs.Lists.{number_in}
use Rattle.page_cache.specs.Cached.{frames_in, room_of}
use Rattle.last_version.proofs.version.forget_all.Given as goal

abbrev pub invariant-loop-number : goal.invariant-loop-number
invariant-loop-number l = record {
  gone : (n : ℕ) (page : List ℕ) → Contains (frames_in l.cache) (n, page) → ((k : ℕ) → k < l.number-index → number_in l.images k ≢ n) × Contains (frames_in l.fn.cache) (n, page);
  room : room_of l.cache ≡ room_of l.fn.cache;
}
