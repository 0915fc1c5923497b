use Rattle.std.proofs.Common.{◌≡◌, ◌≢◌, ◌∙◌, ◌%◌, List, ℕ, sym, ap, subst, arith, take}
use Rattle.std.specs.Prelude.{IsTrue, ◌⊎◌}
use Rattle.journal.specs.declared.found.Gate.TheVariants.{Open}
use Rattle.journal.specs.Lists.{listed}
use Rattle.journal.proofs.Finding.{found_file, no_found, no_header, first_place, header_of_places, header_of_image, not_first}
use Rattle.journal.proofs.examine.find_open.Goals as goal

pub returns-then-has_first_page-clause-file : goal.returns-then-has_first_page-clause-file
returns-then-has_first_page-clause-file g c =
    let file = g.D.Disk.bytes c.args.disk.now in
    let first = c.has_first_page.ensures.0 c.if-has_first_page.true in
    found_file (IsTrue g.D.Disk.is_honest) c.find.result file c.read_block.new.into c.args.len (Open c.args.start c.args.size)
    (λ h. omega (arith, c.requires.some, c.requires.len h)) (λ h. ap (λ (k : ℕ). k % 4096) (sym (c.requires.len h)) ∙ c.requires.even)
    (λ h. (c.requires.gate h, c.requires.start h, c.requires.journal h))
    (λ h.
    ap (λ (l : List ℕ). take 20 l) (c.in_ok-read_block.ensures.value h)
    ∙ sym (header_of_image file c.args.start c.args.size first.0 (ap (λ (l : List ℕ). listed l 0) (sym (c.requires.list h)) ∙ first.1)))
    (λ h. c.requires.len h) c.find.ensures.gate c.find.ensures.header

pub returns-then-has_first_page-clause-damaged : goal.returns-then-has_first_page-clause-damaged
returns-then-has_first_page-clause-damaged g c =
    let file = g.D.Disk.bytes c.args.disk.now in
    let first = c.has_first_page.ensures.0 c.if-has_first_page.true in
    no_found (IsTrue g.D.Disk.is_honest) c.find.result file c.read_block.new.into c.args.len
    (λ h none.
    no_header file c.args.start c.args.size c.args.len c.read_block.new.into (c.requires.gate h) (c.requires.start h) (omega (arith, c.ranges.start.fits)) (c.requires.journal h)
    (c.requires.len h)
    (ap (λ (l : List ℕ). take 20 l) (c.in_ok-read_block.ensures.value h)
    ∙ sym (header_of_image file c.args.start c.args.size first.0 (ap (λ (l : List ℕ). listed l 0) (sym (c.requires.list h)) ∙ first.1)))
    none)
    c.find.ensures.none

pub returns-clause-file : goal.returns-clause-file
returns-clause-file g c =
    let file = g.D.Disk.bytes c.args.disk.now in
    found_file (IsTrue g.D.Disk.is_honest) c.find-2.result file c.args.page.now c.args.len (Open c.args.start c.args.size)
    (λ h. omega (arith, c.requires.some, c.requires.len h)) (λ h. ap (λ (k : ℕ). k % 4096) (sym (c.requires.len h)) ∙ c.requires.even)
    (λ h. (c.requires.gate h, c.requires.start h, c.requires.journal h))
    (λ h.
    ap (λ (l : List ℕ). take 20 l) (c.requires.page h) ∙ first_place file
    ∙ sym (header_of_places file c.args.start c.args.size
    (subst (λ (l : List ℕ). (c.args.size ≡ 0) ⊎ (listed l 0 ≢ 0)) (c.requires.list h)
    (not_first c.has_first_page.result c.args.size c.args.list.now c.has_first_page.ensures c.if-has_first_page.false))))
    (λ h. c.requires.len h) c.find-2.ensures.gate c.find-2.ensures.header

pub returns-clause-damaged : goal.returns-clause-damaged
returns-clause-damaged g c =
    let file = g.D.Disk.bytes c.args.disk.now in
    no_found (IsTrue g.D.Disk.is_honest) c.find-2.result file c.args.page.now c.args.len
    (λ h none.
    no_header file c.args.start c.args.size c.args.len c.args.page.now (c.requires.gate h) (c.requires.start h) (omega (arith, c.ranges.start.fits)) (c.requires.journal h)
    (c.requires.len h)
    (ap (λ (l : List ℕ). take 20 l) (c.requires.page h) ∙ first_place file
    ∙ sym (header_of_places file c.args.start c.args.size
    (subst (λ (l : List ℕ). (c.args.size ≡ 0) ⊎ (listed l 0 ≢ 0)) (c.requires.list h)
    (not_first c.has_first_page.result c.args.size c.args.list.now c.has_first_page.ensures c.if-has_first_page.false))))
    none)
    c.find-2.ensures.none
