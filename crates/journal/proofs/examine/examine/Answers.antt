use Rattle.std.proofs.Common.{◌≡◌, ◌∙◌, ◌%◌, [], ◌∷◌, List, ℕ, refl, sym, ap, arith, take}
use Rattle.std.specs.Prelude.{IsTrue}
use Rattle.disk.specs.Crashes.{Bytes}
use Rattle.pagefile.specs.Parts.{gate_part}
use Rattle.journal.specs.Parts.{block}
use Rattle.journal.proofs.Finding.{file_same, no_file_same, found_file, no_found, no_closed, list_of_gate, gate_read, first_place}
use Rattle.journal.proofs.examine.examine.Goals as goal

pub examine_open-requires-clause-gate : goal.examine_open-requires-clause-gate
examine_open-requires-clause-gate g c honest =
    let old = g.D.Disk.bytes c.args.disk.now in
    let same = c.file_length.ensures.reads.same honest in
    let page : c.read_block.new.into ≡ block old 0 = c.in_ok-read_block.ensures.value honest ∙ ap (λ (b : Bytes). block b 0) same in
    let value = c.in_ok-len.ensures.value honest in
    let at : gate_part old ≡ 1 ∷ [] = gate_read old c.read_block.new.into 1 page (omega (arith, value, c.if-len.false)) (sym c.if-gate-eq1.true) in
    ap gate_part (c.read_block.ensures.reads.same honest ∙ same) ∙ at

pub returns-then-gate-eq1-clause-file : goal.returns-then-gate-eq1-clause-file
returns-then-gate-eq1-clause-file g c =
    file_same (IsTrue g.D.Disk.is_honest) c.examine_open.result (g.D.Disk.bytes c.read_block.new.disk) (g.D.Disk.bytes c.args.disk.now)
    (λ h. c.read_block.ensures.reads.same h ∙ c.file_length.ensures.reads.same h) c.examine_open.ensures.file

pub returns-then-gate-eq1-clause-damaged : goal.returns-then-gate-eq1-clause-damaged
returns-then-gate-eq1-clause-damaged g c =
    no_file_same (IsTrue g.D.Disk.is_honest) c.examine_open.result (g.D.Disk.bytes c.read_block.new.disk) (g.D.Disk.bytes c.args.disk.now)
    (λ h. c.read_block.ensures.reads.same h ∙ c.file_length.ensures.reads.same h) c.examine_open.ensures.damaged

pub returns-clause-file : goal.returns-clause-file
returns-clause-file g c =
    let old = g.D.Disk.bytes c.args.disk.now in
    found_file (IsTrue g.D.Disk.is_honest) c.find.result old c.read_block.new.into c.in_ok-len.len c.closed_gate.result
    (λ h. let value = c.in_ok-len.ensures.value h in omega (arith, value, c.if-len.false))
    (λ h. ap (λ (k : ℕ). k % 4096) (sym (c.in_ok-len.ensures.value h)) ∙ c.if-len-ne0.false)
    (λ h.
    let value = c.in_ok-len.ensures.value h in
    let page : c.read_block.new.into ≡ block old 0 = c.in_ok-read_block.ensures.value h ∙ ap (λ (b : Bytes). block b 0) (c.file_length.ensures.reads.same h) in
    c.closed_gate.ensures.gate old c.if-gate-eq1.false (gate_read old c.read_block.new.into _ page (omega (arith, value, c.if-len.false)) refl))
    (λ h.
    let page : c.read_block.new.into ≡ block old 0 = c.in_ok-read_block.ensures.value h ∙ ap (λ (b : Bytes). block b 0) (c.file_length.ensures.reads.same h) in
    ap (λ (l : List ℕ). take 20 l) page ∙ first_place old ∙ sym (c.closed_gate.ensures.header old))
    (λ h. c.in_ok-len.ensures.value h) c.find.ensures.gate c.find.ensures.header

pub returns-clause-list : goal.returns-clause-list
returns-clause-list g c =
    list_of_gate (IsTrue g.D.Disk.is_honest) c.find.result (g.D.Disk.bytes c.args.disk.now) c.args.list.now c.closed_gate.result
    (λ h. c.closed_gate.ensures.list (g.D.Disk.bytes c.args.disk.now) c.args.list.now) c.find.ensures.gate

pub returns-clause-damaged : goal.returns-clause-damaged
returns-clause-damaged g c =
    let old = g.D.Disk.bytes c.args.disk.now in
    no_found (IsTrue g.D.Disk.is_honest) c.find.result old c.read_block.new.into c.in_ok-len.len
    (λ h none.
    let value = c.in_ok-len.ensures.value h in
    let page : c.read_block.new.into ≡ block old 0 = c.in_ok-read_block.ensures.value h ∙ ap (λ (b : Bytes). block b 0) (c.file_length.ensures.reads.same h) in
    no_closed old c.read_block.new.into c.in_ok-len.len _ page value (gate_read old c.read_block.new.into _ page (omega (arith, value, c.if-len.false)) refl) c.if-gate-eq1.false none)
    c.find.ensures.none
