use Rattle.std.proofs.Common.{◌∙◌, List, ℕ, sym, ap, subst, arith}
use Rattle.disk.specs.Keeping.{joined, weaker}
use Rattle.journal.specs.Parts.{place}
use Rattle.journal.specs.Steps.{LiesWithin}
use Rattle.journal.specs.Versions.{IsOpen, InPlaces, IsAmong, HasPage, laid}
use Rattle.journal.proofs.States.{among_open, in_places, lies_within, ok_any, put_gate, others_gate}
use Rattle.journal.proofs.places.put_back.Goals as goal

pub returns-in_err-put_all-clause-keeps : goal.returns-in_err-put_all-clause-keeps
returns-in_err-put_all-clause-keeps g c durable honest x y v one is all =
    let kept = c.put_all.ensures.keeps durable v (λ n has. subst (HasPage n) (sym is) has) all in (
      λ d left. among_open x y v one d (kept.0 d left),
      weaker g.D.Disk.moment g.D.Disk.left_since c.args.disk.now c.put_all.new.disk (IsOpen v) (IsAmong x y) (among_open x y v one) kept.1,
    )

pub returns-clause-shut : goal.returns-clause-shut
returns-clause-shut g c durable honest v is all =
    let before : IsOpen v (g.D.Disk.bytes c.args.disk.now) = all _ (g.met.D.Disk.read_is_left c.args.disk.now durable) in
    let within : LiesWithin c.args.images.now (g.D.Disk.bytes c.args.disk.now) =
    λ n has. lies_within v _ before.ready n (before.ready.within n (subst (HasPage n) (sym is) has)) in
    let put = c.in_ok-put_all.ensures.placed honest within in
    let kept = c.put_all.ensures.keeps durable v (λ n has. subst (HasPage n) (sym is) has) all in
    let after : IsOpen v (g.D.Disk.bytes c.put_all.new.disk) = kept.0 _ (g.met.D.Disk.read_is_left c.put_all.new.disk durable) in
    let there : InPlaces v (g.D.Disk.bytes c.put_all.new.disk) =
    in_places v _ _ before.ready after.ready
    (λ n less. put.places n (lies_within v _ before.ready n less) ∙ ap (λ (set : List (ℕ × List ℕ)). laid set (place (g.D.Disk.bytes c.args.disk.now)) n) (sym is)) in
    c.shut_behind.ensures.shut durable honest v kept.0 there

pub returns-clause-keeps : goal.returns-clause-keeps
returns-clause-keeps g c durable honest x y v one is all =
    let before : IsOpen v (g.D.Disk.bytes c.args.disk.now) = all _ (g.met.D.Disk.read_is_left c.args.disk.now durable) in
    let within : LiesWithin c.args.images.now (g.D.Disk.bytes c.args.disk.now) =
    λ n has. lies_within v _ before.ready n (before.ready.within n (subst (HasPage n) (sym is) has)) in
    let put = c.in_ok-put_all.ensures.placed honest within in
    let kept = c.put_all.ensures.keeps durable v (λ n has. subst (HasPage n) (sym is) has) all in
    let after : IsOpen v (g.D.Disk.bytes c.put_all.new.disk) = kept.0 _ (g.met.D.Disk.read_is_left c.put_all.new.disk durable) in
    let there : InPlaces v (g.D.Disk.bytes c.put_all.new.disk) =
    in_places v _ _ before.ready after.ready
    (λ n less. put.places n (lies_within v _ before.ready n less) ∙ ap (λ (set : List (ℕ × List ℕ)). laid set (place (g.D.Disk.bytes c.args.disk.now)) n) (sym is)) in
    let last = c.shut_behind.ensures.keeps durable honest x y v one kept.0 there in (
      last.0,
      joined g.D.Disk.moment g.D.Disk.left_since c.args.disk.now c.put_all.new.disk c.shut_behind.new.disk (IsAmong x y)
          (weaker g.D.Disk.moment g.D.Disk.left_since c.args.disk.now c.put_all.new.disk (IsOpen v) (IsAmong x y) (among_open x y v one) kept.1) last.1,
    )

pub returns-clause-placed : goal.returns-clause-placed
returns-clause-placed g c =
    ok_any c.shut_behind.result
    (λ honest some within.
    let put = c.in_ok-put_all.ensures.placed honest within in
    put_gate c.args.images.now (g.D.Disk.bytes c.args.disk.now) _ _ put (c.shut_behind.ensures.changes honest (omega (arith, some, put.size))))

pub returns-in_err-put_all-clause-others : goal.returns-in_err-put_all-clause-others
returns-in_err-put_all-clause-others g c honest some within = c.put_all.ensures.others honest within

pub returns-clause-others : goal.returns-clause-others
returns-clause-others g c honest some within =
    let kept = c.put_all.ensures.others honest within in
    others_gate c.args.images.now (g.D.Disk.bytes c.args.disk.now) _ _ kept (c.shut_behind.ensures.changes honest (omega (arith, some, kept.size)))
