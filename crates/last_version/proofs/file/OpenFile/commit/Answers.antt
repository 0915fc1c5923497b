use Rattle.std.proofs.Common.{◌≡◌, ◌∙◌, ℕ, List, length, ap, refl, inl, arith}
use Rattle.std.specs.Prelude.{IsTrue}
use Rattle.disk.specs.Keeping.{joined}
use Rattle.journal.specs.Versions.{Version, IsAmong, IsCommittable, committed}
use Rattle.journal.proofs.States.{on_ok}
use Rattle.last_version.specs.Standing.{StandsAs, left_in, waits_in}
use Rattle.last_version.proofs.StandingLemmas.{broken_stands, on_err}
use Rattle.last_version.proofs.file.OpenFile.commit.Goals as goal

pub returns-in-Err-clause-left : goal.returns-in-Err-clause-left
returns-in-Err-clause-left g c = λ honest v s may.
    let now = c.finish.ensures.stands honest v s in
    broken_stands g.D.Disk.is_honest g.D.Disk.is_durable _ c.finish.new.self.set c.finish.new.self.written c.finish.new.self.count
    (g.D.Disk.bytes c.finish.new.self.disk) (g.D.Disk.may_leave c.finish.new.self.disk) v refl now.many now.pages

pub returns-in-Err-clause-any_moment : goal.returns-in-Err-clause-any_moment
returns-in-Err-clause-any_moment g c = λ durable honest v s may.
    c.finish.ensures.keeps durable honest v (committed v c.args.images c.args.count) v (inl refl) s

pub returns-in-Ok-clause-any_moment : goal.returns-in-Ok-clause-any_moment
returns-in-Ok-clause-any_moment g c = λ durable honest v s may.
    let new = committed v c.args.images c.args.count in
    let first = c.finish.ensures.keeps durable honest v new v (inl refl) s in
    let last = c.write.ensures.any_moment durable honest v (c.finish.ensures.stands honest v s) may in (
      last.0,
      joined g.D.Disk.moment g.D.Disk.left_since c.args.self.now.disk c.finish.new.self.disk c.write.new.self.disk (IsAmong v new) first.1 last.1,
    )

pub returns-in-Ok-clause-committed : goal.returns-in-Ok-clause-committed
returns-in-Ok-clause-committed g c =
    on_ok c.write.result
    (λ (done : IsTrue g.D.Disk.is_honest → (v : Version) → StandsAs c.finish.new.self v → IsCommittable v c.args.images c.args.count
    → StandsAs c.write.new.self (committed v c.args.images c.args.count)). λ honest v s may. done honest v (c.finish.ensures.stands honest v s) may)
    c.write.ensures.committed

pub returns-in-Ok-clause-left : goal.returns-in-Ok-clause-left
returns-in-Ok-clause-left g c =
    on_err c.write.result
    (λ (left : IsTrue g.D.Disk.is_honest → (v : Version) → StandsAs c.finish.new.self v → IsCommittable v c.args.images c.args.count → StandsAs c.write.new.self v). λ honest v s may.
    left honest v (c.finish.ensures.stands honest v s) may)
    c.write.ensures.left

pub returns-in-Ok-clause-fewer : goal.returns-in-Ok-clause-fewer
returns-in-Ok-clause-fewer g c =
    on_err c.write.result
    (λ (same : left_in c.write.new.self ≡ left_in c.finish.new.self). λ n.
    let now = ap (λ (l : List (ℕ × List ℕ)). waits_in l n) same in let less = c.finish.ensures.fewer n in omega (arith, now, less))
    c.write.ensures.same

pub returns-in-Ok-clause-no_more : goal.returns-in-Ok-clause-no_more
returns-in-Ok-clause-no_more g c =
    on_err c.write.result
    (λ (same : left_in c.write.new.self ≡ left_in c.finish.new.self).
    let now = ap (λ (l : List (ℕ × List ℕ)). length l) same in let less = c.finish.ensures.no_more in omega (arith, now, less))
    c.write.ensures.same

pub returns-in-Ok-clause-small : goal.returns-in-Ok-clause-small
returns-in-Ok-clause-small g c = λ few. c.write.ensures.small (let less = c.finish.ensures.few in omega (arith, less, few))

pub returns-in-Err-clause-small : goal.returns-in-Err-clause-small
returns-in-Err-clause-small g c = λ few. let less = c.finish.ensures.few in omega (arith, less, few)

pub returns-in-Ok-clause-same_pages : goal.returns-in-Ok-clause-same_pages
returns-in-Ok-clause-same_pages g c = on_err c.write.result (λ (same : c.write.new.self.count ≡ c.finish.new.self.count). same ∙ c.finish.ensures.pages) c.write.ensures.same_pages

pub write-requires-clause-gate : goal.write-requires-clause-gate
write-requires-clause-gate g c = c.in-Ok.ensures.shut
