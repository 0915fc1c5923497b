use Rattle.std.proofs.Common.{◌≡◌, ◌∙◌, ap, inl, sym}
use Rattle.disk.specs.Keeping.{started}
use Rattle.journal.specs.declared.found.Format.TheVariants.{One, Two}
use Rattle.journal.specs.Headers.{magic_of}
use Rattle.journal.proofs.States.{among_shut}
use Rattle.journaled_file.specs.Renewed.{IsOpening, first_pages, renewed}
use Rattle.journaled_file.proofs.Renewing.{rest_second, own_rest}
use Rattle.journaled_file.proofs.opening.as_second.Goals as goal

pub returns-in-Two-clause-rest : goal.returns-in-Two-clause-rest
returns-in-Two-clause-rest g c = λ honest v begins r.
    rest_second g.D.Disk.is_honest g.D.Disk.is_durable v c.args.found.header.page_count (g.D.Disk.bytes c.args.disk.now) (g.D.Disk.may_leave c.args.disk.now)
    (begins ∙ ap magic_of c.in-Two.is) r

pub returns-in-Two-clause-any_moment : goal.returns-in-Two-clause-any_moment
returns-in-Two-clause-any_moment g c durable honest x y v one counted fewer all r = (
  λ d left. inl (among_shut x y v one d (all d left)),
  started g.D.Disk.moment g.D.Disk.left_since c.args.disk.now (IsOpening x y)
      (λ d left. inl (among_shut x y v one d (all d (g.met.D.Disk.only_now c.args.disk.now d durable left)))),
)

pub returns-in-Ok-clause-rest : goal.returns-in-Ok-clause-rest
returns-in-Ok-clause-rest g c = λ honest v begins r. c.in-Ok.ensures.renewed honest v r

pub returns-in-Ok-clause-any_moment : goal.returns-in-Ok-clause-any_moment
returns-in-Ok-clause-any_moment g c durable honest x y v one counted fewer all r = c.renew.ensures.any_moment durable honest x y v one counted fewer r

pub returns-in-Err-clause-any_moment : goal.returns-in-Err-clause-any_moment
returns-in-Err-clause-any_moment g c durable honest x y v one counted fewer all r = c.renew.ensures.any_moment durable honest x y v one counted fewer r

pub returns-in-Two-clause-own : goal.returns-in-Two-clause-own
returns-in-Two-clause-own g c = λ honest v r.
    own_rest g.D.Disk.is_honest g.D.Disk.is_durable c.args.found.header.page_count (g.D.Disk.bytes c.args.disk.now) (g.D.Disk.may_leave c.args.disk.now)
    (first_pages v c.args.found.header.page_count) r

pub returns-in-Ok-clause-own : goal.returns-in-Ok-clause-own
returns-in-Ok-clause-own g c = λ honest v r.
    own_rest g.D.Disk.is_honest g.D.Disk.is_durable c.args.found.header.page_count (g.D.Disk.bytes c.renew.new.disk) (g.D.Disk.may_leave c.renew.new.disk)
    (renewed v c.args.found.header.page_count) (c.in-Ok.ensures.renewed honest v r)

pub returns-in-Ok-clause-still : goal.returns-in-Ok-clause-still
returns-in-Ok-clause-still g c honest two = let bad : One ≡ Two = sym c.in-One.is ∙ two in absurd (cc)

pub returns-in-Err-clause-still : goal.returns-in-Err-clause-still
returns-in-Err-clause-still g c honest two = let bad : One ≡ Two = sym c.in-One.is ∙ two in absurd (cc)
