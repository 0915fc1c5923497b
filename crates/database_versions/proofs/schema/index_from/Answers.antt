use Rattle.std.proofs.Common.{ℕ, IfOk, IfErr, OnOk, ap, sym, subst}
use Rattle.store.specs.Contents.{indexed}
use Rattle.pool.specs.Pages.{PageMap, over}
use Rattle.pool.specs.Versions.{versions_of, refused_of}
use Rattle.overlay.specs.declared.write_set.WriteSet.{WriteSet}
use Rattle.overlay.specs.WriteSet.{private_of}
use Rattle.overlay.specs.InUse.{in_use}
use Rattle.overlay.specs.Layers.{size_of}
use Rattle.overlay.specs.Whole.{IsWholeOver, AtLimit}
use Rattle.database_trees.specs.Held.{contents_of}
use Rattle.database_trees.specs.Changed.{DatabaseWritten, DatabaseOwned, HoldsNoDatabaseIn, SpaceRefused}
use Rattle.database_versions.proofs.StepLemmas.{same_pages}
use Rattle.database_versions.proofs.schema.index_from.Goals as goal

pub returns-clause-indexed : goal.returns-clause-indexed
returns-clause-indexed g c = λ tables h good.
    let follows = c.create_index.ensures.follows in
    let now = c.changes-1.given.1 (sym follows.3) in
    subst (λ (w : PageMap). IfOk c.create_index.result (DatabaseWritten (in_use ((versions_of c.args.pool.now).pages c.args.at) w) (indexed (contents_of tables) c.args.name.now c.args.index))) (sym (ap (λ (k : WriteSet). private_of k) now))
    (subst (λ (v : PageMap). IfOk c.create_index.result (DatabaseWritten (in_use v (private_of c.create_index.new.space.changes.now)) (indexed (contents_of tables) c.args.name.now c.args.index))) (same_pages _ _ _ _ follows.0.versions follows.4) (c.create_index.ensures.indexed tables h good))

pub returns-clause-owned : goal.returns-clause-owned
returns-clause-owned g c = λ tables h good.
    let follows = c.create_index.ensures.follows in
    let now = c.changes-1.given.1 (sym follows.3) in
    subst (λ (w : PageMap). IfOk c.create_index.result (DatabaseOwned (in_use ((versions_of c.args.pool.now).pages c.args.at) w) (indexed (contents_of tables) c.args.name.now c.args.index))) (sym (ap (λ (k : WriteSet). private_of k) now))
    (subst (λ (v : PageMap). IfOk c.create_index.result (DatabaseOwned (in_use v (private_of c.create_index.new.space.changes.now)) (indexed (contents_of tables) c.args.name.now c.args.index))) (same_pages _ _ _ _ follows.0.versions follows.4) (c.create_index.ensures.owned tables h good))

pub returns-clause-whole : goal.returns-clause-whole
returns-clause-whole g c =
    let follows = c.create_index.ensures.follows in
    let now = c.changes-1.given.1 (sym follows.3) in
    subst (λ (w : PageMap). OnOk c.create_index.result (IsWholeOver ((versions_of c.args.pool.now).pages c.args.at) (private_of c.args.changes.now) → IsWholeOver ((versions_of c.args.pool.now).pages c.args.at) w)) (sym (ap (λ (k : WriteSet). private_of k) now))
    (subst (λ (v : PageMap). OnOk c.create_index.result (IsWholeOver ((versions_of c.args.pool.now).pages c.args.at) (private_of c.args.changes.now) → IsWholeOver v (private_of c.create_index.new.space.changes.now))) (same_pages _ _ _ _ follows.0.versions follows.4) c.create_index.ensures.whole)

pub returns-clause-refusal : goal.returns-clause-refusal
returns-clause-refusal g c =
    let follows = c.create_index.ensures.follows in
    let now = c.changes-1.given.1 (sym follows.3) in
    let pool = c.pool-1.given.1 (sym follows.2) in
    subst (λ (n : ℕ). IfErr c.create_index.result (SpaceRefused (AtLimit (over (private_of c.changes-1.given.0) ((versions_of c.args.pool.now).pages c.args.at) 0) (size_of (private_of c.changes-1.given.0))) (HoldsNoDatabaseIn (in_use ((versions_of c.args.pool.now).pages c.args.at) (private_of c.args.changes.now)) c.args.root (IsWholeOver ((versions_of c.args.pool.now).pages c.args.at) (private_of c.args.changes.now))) (refused_of c.args.pool.now) n)) (sym (ap (λ p. refused_of p) pool))
    (subst (λ (w : PageMap). IfErr c.create_index.result (SpaceRefused (AtLimit (over w ((versions_of c.args.pool.now).pages c.args.at) 0) (size_of w)) (HoldsNoDatabaseIn (in_use ((versions_of c.args.pool.now).pages c.args.at) (private_of c.args.changes.now)) c.args.root (IsWholeOver ((versions_of c.args.pool.now).pages c.args.at) (private_of c.args.changes.now))) (refused_of c.args.pool.now) (refused_of c.create_index.new.space.pool.now))) (sym (ap (λ (k : WriteSet). private_of k) now))
    (subst (λ (v : PageMap). IfErr c.create_index.result (SpaceRefused (AtLimit (over (private_of c.create_index.new.space.changes.now) v 0) (size_of (private_of c.create_index.new.space.changes.now))) (HoldsNoDatabaseIn (in_use ((versions_of c.args.pool.now).pages c.args.at) (private_of c.args.changes.now)) c.args.root (IsWholeOver ((versions_of c.args.pool.now).pages c.args.at) (private_of c.args.changes.now))) (refused_of c.args.pool.now) (refused_of c.create_index.new.space.pool.now))) (same_pages _ _ _ _ follows.0.versions follows.4) c.create_index.ensures.refusal))
