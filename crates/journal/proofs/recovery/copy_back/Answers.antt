use Rattle.std.proofs.Common.{◌≡◌, ◌∙◌, [], ◌∷◌, arith}
use Rattle.std.specs.Prelude.{IsTrue}
use Rattle.disk.specs.Keeping.{joined, weaker}
use Rattle.pagefile.specs.Parts.{gate_part}
use Rattle.journal.specs.Versions.{IsOpen, IsShut, IsAmong, InPlaces}
use Rattle.journal.proofs.States.{among_open, in_places, places_gate, on_ok}
use Rattle.journal.proofs.recovery.copy_back.Goals as goal

pub returns-clause-shut : goal.returns-clause-shut
returns-clause-shut g c honest v names ready =
    let after = c.copy_images.ensures.ready honest v names ready in
    let put : InPlaces v (g.D.Disk.bytes c.copy_images.new.disk) = in_places v _ _ ready after (c.in_ok-copy_images.ensures.placed honest v names ready) in
    on_ok c.shut_behind.result
    (λ (w : IsTrue g.D.Disk.is_honest → gate_part (g.D.Disk.bytes c.shut_behind.new.disk) ≡ 0 ∷ []). shut (w honest) (places_gate v _ _ put (c.shut_behind.ensures.changes honest put.size.some)))
    c.shut_behind.ensures.written
  where
    shut : gate_part (g.D.Disk.bytes c.shut_behind.new.disk) ≡ 0 ∷ [] → InPlaces v (g.D.Disk.bytes c.shut_behind.new.disk) → IsShut v (g.D.Disk.bytes c.shut_behind.new.disk)
    shut gate places = record { gate = gate; places = places }

pub returns-clause-only : goal.returns-clause-only
returns-clause-only g c durable honest = c.shut_behind.ensures.only durable honest

pub returns-in_err-copy_images-clause-keeps : goal.returns-in_err-copy_images-clause-keeps
returns-in_err-copy_images-clause-keeps g c durable honest x y v one names all =
    let kept = c.copy_images.ensures.keeps durable v names all in (
      λ d left. among_open x y v one d (kept.0 d left),
      weaker g.D.Disk.moment g.D.Disk.left_since c.args.disk.now c.copy_images.new.disk (IsOpen v) (IsAmong x y) (among_open x y v one) kept.1,
    )

pub returns-clause-keeps : goal.returns-clause-keeps
returns-clause-keeps g c durable honest x y v one names all =
    let before : IsOpen v (g.D.Disk.bytes c.args.disk.now) = all _ (g.met.D.Disk.read_is_left c.args.disk.now durable) in
    let kept = c.copy_images.ensures.keeps durable v names all in
    let after : IsOpen v (g.D.Disk.bytes c.copy_images.new.disk) = kept.0 _ (g.met.D.Disk.read_is_left c.copy_images.new.disk durable) in
    let put : InPlaces v (g.D.Disk.bytes c.copy_images.new.disk) =
    in_places v _ _ before.ready after.ready (c.in_ok-copy_images.ensures.placed honest v names before.ready) in
    let last = c.shut_behind.ensures.keeps durable honest x y v one kept.0 put in (
      last.0,
      joined g.D.Disk.moment g.D.Disk.left_since c.args.disk.now c.copy_images.new.disk c.shut_behind.new.disk (IsAmong x y)
          (weaker g.D.Disk.moment g.D.Disk.left_since c.args.disk.now c.copy_images.new.disk (IsOpen v) (IsAmong x y) (among_open x y v one) kept.1) last.1,
    )

pub returns-clause-closed : goal.returns-clause-closed
returns-clause-closed g c = c.shut_behind.ensures.written

pub returns-in_err-copy_images-clause-size : goal.returns-in_err-copy_images-clause-size
returns-in_err-copy_images-clause-size g c honest list long = c.copy_images.ensures.size honest list long

pub returns-clause-size : goal.returns-clause-size
returns-clause-size g c honest list long =
    let first = c.copy_images.ensures.size honest list long in
    (c.shut_behind.ensures.changes honest (omega (arith, first, long))).size ∙ first
