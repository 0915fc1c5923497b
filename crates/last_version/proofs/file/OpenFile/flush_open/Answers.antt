use Rattle.std.proofs.Common.{◌≡◌, ◌∙◌, ◌-◌, ℕ, List, [], length, drop, ap, arith}
use Rattle.std.proofs.lemmas.List.{length-drop}
use Rattle.disk.specs.Keeping.{joined}
use Rattle.journal.specs.Versions.{IsAmong}
use Rattle.journal.proofs.States.{ok_any, on_ok}
use Rattle.last_version.specs.declared.gate.Gate.TheVariants.{Shut}
use Rattle.last_version.specs.Standing.{left_in, waits_in}
use Rattle.last_version.proofs.ShownLemmas.{fewer_wait}
use Rattle.last_version.proofs.StandingLemmas.{all_left, left_put}
use Rattle.last_version.proofs.file.OpenFile.flush_open.Goals as goal

pub returns-clause-stands : goal.returns-clause-stands
returns-clause-stands g c = λ honest v s. c.shut_behind.ensures.stands honest v (c.put.ensures.stands honest v s)

pub returns-clause-keeps : goal.returns-clause-keeps
returns-clause-keeps g c = λ durable honest x y v one s.
    let first = c.put.ensures.keeps durable honest x y v one s in
    let last = c.shut_behind.ensures.keeps durable honest x y v one (c.put.ensures.stands honest v s) in (
      last.0,
      joined g.D.Disk.moment g.D.Disk.left_since c.args.self.now.disk c.put.new.self.disk c.shut_behind.new.self.disk (IsAmong x y) first.1 last.1,
    )

pub returns-clause-put : goal.returns-clause-put
returns-clause-put g c =
    ok_any c.shut_behind.result
    (ap (λ (l : List (ℕ × List ℕ)). length l) c.shut_behind.ensures.left
    ∙ left_put c.args.self.now.set c.put.new.self.set c.args.self.now.written c.put.new.self.written c.args.most c.put.ensures.set c.in_ok-put.ensures.put)

pub returns-clause-shut : goal.returns-clause-shut
returns-clause-shut g c =
    on_ok c.shut_behind.result
    (λ (shut : left_in c.put.new.self ≡ [] → c.shut_behind.new.self.gate ≡ Shut). λ few.
    shut (all_left c.put.new.self.set c.put.new.self.written
    (let is = left_put c.args.self.now.set c.put.new.self.set c.args.self.now.written c.put.new.self.written c.args.most c.put.ensures.set c.in_ok-put.ensures.put in
    let long = length-drop c.put.new.self.written c.put.new.self.set in omega (arith, is, long, few))))
    c.shut_behind.ensures.shut

pub returns-clause-fewer : goal.returns-clause-fewer
returns-clause-fewer g c = λ n.
    let same = ap (λ (l : List (ℕ × List ℕ)). waits_in l n) c.shut_behind.ensures.left in
    let set = ap (λ (l : List (ℕ × List ℕ)). waits_in (drop c.put.new.self.written l) n) c.put.ensures.set in
    let less = fewer_wait c.args.self.now.set c.args.self.now.written c.put.new.self.written n
    (let put = c.in_ok-put.ensures.put in let order = c.args.self.now.order in omega (arith, put, order)) in omega (arith, same, set, less)

pub returns-clause-no_more : goal.returns-clause-no_more
returns-clause-no_more g c =
    let same = ap (λ (l : List (ℕ × List ℕ)). length l) c.shut_behind.ensures.left in
    let is = left_put c.args.self.now.set c.put.new.self.set c.args.self.now.written c.put.new.self.written c.args.most c.put.ensures.set c.in_ok-put.ensures.put in omega (arith, same, is)

pub returns-clause-few : goal.returns-clause-few
returns-clause-few g c = let less = c.shut_behind.ensures.few in let same = ap (λ (l : List (ℕ × List ℕ)). length l) c.put.ensures.set in omega (arith, less, same)
