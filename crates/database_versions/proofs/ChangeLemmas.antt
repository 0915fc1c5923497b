-- What changes of a version leave.
use Rattle.std.proofs.Common.{◌≡◌, ◌∙◌, ℕ, Result, Ok, Err, OnOk, IfErr, IsSome, sym, ap, subst, ◌⊎◌}
use Rattle.store.specs.Contents.{Contents}
use Rattle.page_space.specs.Space.{ChangeRefused}
use Rattle.page_space.specs.declared.error.SpaceError.{SpaceError}
use Rattle.pool.specs.Pages.{PageMap, over}
use Rattle.overlay.specs.InUse.{in_use}
use Rattle.overlay.specs.Layers.{size_of}
use Rattle.overlay.specs.Whole.{IsWhole, IsFull, IsWholeOver, HasRoot, AtLimit}
use Rattle.database_trees.specs.Changed.{DatabaseWritten, DatabaseOwned}
use Rattle.database_versions.specs.Changed.{IsNow}
use Rattle.database_versions.specs.Databases.{IsOwned}
use Rattle.database_versions.proofs.HeldLemmas.{TheyStay, TheyAreRead, TheyRise, becomes, written_any, becomes_owned, root_there}
use Rattle.database_versions.proofs.RefusalLemmas.{change_weaker}

-- after page 0 was to name the root
pub put_after : {E : Type 0} → TheyStay → TheyAreRead → TheyRise → (result : Result (Unit {0}) E) (version next_version written next : PageMap) (root : ℕ) (contents : Contents) → next_version ≡ version
    → OnOk result (HasRoot (over next next_version 0) root) → ((n : ℕ) → in_use next_version next n ≡ in_use version written n) → OnOk result (IsWholeOver version written → IsWholeOver next_version next)
    → IsWholeOver version written → DatabaseWritten (in_use version written) contents root → OnOk result (IsNow version next contents)
put_after stay read rise (Ok done) version next_version written next root contents same has others whole was put =
    becomes stay read rise version written next root contents (λ n. ap (λ (v : PageMap). in_use v next n) (sym same) ∙ others n) (subst (λ (v : PageMap). HasRoot (over next v 0) root) same has)
    (subst (λ (v : PageMap). IsWholeOver v next) same (whole was)) put
put_after stay read rise (Err e) version next_version written next root contents same has others whole was put = has

pub put_owned_after : {E : Type 0} → TheyStay → TheyAreRead → TheyRise → (result : Result (Unit {0}) E) (version next_version written next : PageMap) (root : ℕ) (contents : Contents) → next_version ≡ version
    → OnOk result (HasRoot (over next next_version 0) root) → ((n : ℕ) → in_use next_version next n ≡ in_use version written n) → OnOk result (IsWholeOver version written → IsWholeOver next_version next)
    → IsFull version → IsWholeOver version written → DatabaseOwned (in_use version written) contents root → OnOk result (IsOwned version next)
put_owned_after {E} stay read rise (Ok done) version next_version written next root contents same has others whole start was put =
    becomes_owned version written next root contents (λ n. ap (λ (v : PageMap). in_use v next n) (sym same) ∙ others n) (subst (λ (v : PageMap). HasRoot (over next v 0) root) same has)
    (subst (λ (v : PageMap). IsWholeOver v next) same (whole was))
    (put_after {E = E} stay read rise (Ok done) version next_version written next root contents same has others whole was (written_any (in_use version written) contents root put)) start put
put_owned_after stay read rise (Err e) version next_version written next root contents same has others whole start was put = has

pub root_put_refused : (result : Result (Unit {0}) SpaceError) (version next_version written next : PageMap) (root : ℕ) (k n : ℕ) → next_version ≡ version
    → IfErr result (ChangeRefused (AtLimit (over next next_version 0) (size_of next)) (IsWhole (over written version) → (root ≡ 0) ⊎ IsSome (in_use version written root) → ⊥) k n)
    → IfErr result (ChangeRefused (AtLimit (over next version 0) (size_of next)) ((contents : Contents) → IsWholeOver version written → DatabaseWritten (in_use version written) contents root → ⊥) k n)
root_put_refused (Ok done) version next_version written next root k n same h = h
root_put_refused (Err f) version next_version written next root k n same h =
    change_weaker (AtLimit (over next next_version 0) (size_of next)) (AtLimit (over next version 0) (size_of next)) (IsWhole (over written version) → (root ≡ 0) ⊎ IsSome (in_use version written root) → ⊥)
    ((contents : Contents) → IsWholeOver version written → DatabaseWritten (in_use version written) contents root → ⊥) k n f
    (λ g at. subst (λ (v : PageMap). AtLimit (over next v 0) (size_of next) g) same at)
    (λ never contents whole put. never whole.whole (root_there (in_use version written) root put.tables put.holds)) h
