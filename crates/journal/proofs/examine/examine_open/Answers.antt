use Rattle.std.proofs.Common.{◌≡◌, ◌∙◌, length, ap, sym, subst}
use Rattle.std.specs.Prelude.{IsTrue}
use Rattle.byteorder.specs.Endian.{big_number}
use Rattle.disk.specs.Crashes.{Bytes}
use Rattle.pagefile.specs.Parts.{gate_part, start_part}
use Rattle.journal.specs.declared.found.Found.{Found}
use Rattle.journal.specs.declared.found.Gate.TheVariants.{Open}
use Rattle.journal.specs.Headers.{IsJournal, IsSmall}
use Rattle.journal.specs.Parts.{block}
use Rattle.journal.proofs.Finding.{file_same, no_file_same, no_journal, start_read, list_of_gate, if_ok}
use Rattle.journal.proofs.examine.examine_open.Goals as goal

pub find_open-requires-clause-len : goal.find_open-requires-clause-len
find_open-requires-clause-len g c honest = c.requires.len honest ∙ ap (λ (b : Bytes). length b) (sym (c.read_list.ensures.reads.same honest))

pub find_open-requires-clause-page : goal.find_open-requires-clause-page
find_open-requires-clause-page g c honest = c.requires.page honest ∙ ap (λ (b : Bytes). block b 0) (sym (c.read_list.ensures.reads.same honest))

pub find_open-requires-clause-gate : goal.find_open-requires-clause-gate
find_open-requires-clause-gate g c honest = ap gate_part (c.read_list.ensures.reads.same honest) ∙ c.requires.gate honest

pub find_open-requires-clause-start : goal.find_open-requires-clause-start
find_open-requires-clause-start g c honest =
    c.read_number-start.ensures ∙ start_read (g.D.Disk.bytes c.args.disk.now) c.args.page.now (c.requires.page honest)
    ∙ ap (λ (b : Bytes). big_number 4 (start_part b)) (sym (c.read_list.ensures.reads.same honest))

pub find_open-requires-clause-journal : goal.find_open-requires-clause-journal
find_open-requires-clause-journal g c honest =
    subst (λ (b : Bytes). IsJournal b c.read_number-start.result c.in-Ok.size) (sym (c.read_list.ensures.reads.same honest)) (c.in-Ok.ensures.journal honest)

pub find_open-requires-clause-list : goal.find_open-requires-clause-list
find_open-requires-clause-list g c honest =
    c.in-Ok.ensures.list honest ∙ ap (λ (b : Bytes). block b c.read_number-start.result) (sym (c.read_list.ensures.reads.same honest))

pub returns-in-Ok-clause-file : goal.returns-in-Ok-clause-file
returns-in-Ok-clause-file g c =
    file_same (IsTrue g.D.Disk.is_honest) c.find_open.result (g.D.Disk.bytes c.read_list.new.disk) (g.D.Disk.bytes c.args.disk.now) c.read_list.ensures.reads.same c.find_open.ensures.file

pub returns-in-Ok-clause-damaged : goal.returns-in-Ok-clause-damaged
returns-in-Ok-clause-damaged g c =
    no_file_same (IsTrue g.D.Disk.is_honest) c.find_open.result (g.D.Disk.bytes c.read_list.new.disk) (g.D.Disk.bytes c.args.disk.now) c.read_list.ensures.reads.same
    c.find_open.ensures.damaged

pub returns-in-Ok-clause-list : goal.returns-in-Ok-clause-list
returns-in-Ok-clause-list g c =
    list_of_gate (IsTrue g.D.Disk.is_honest) c.find_open.result (g.D.Disk.bytes c.args.disk.now) c.read_list.new.list (Open c.read_number-start.result c.in-Ok.size)
    (λ h. c.in-Ok.ensures.list h) c.find_open.ensures.gate

pub returns-in-Ok-clause-small : goal.returns-in-Ok-clause-small
returns-in-Ok-clause-small g c =
    if_ok (λ (f : Found). f.gate ≡ Open c.read_number-start.result c.in-Ok.size) (λ (f : Found). IsSmall f.gate) c.find_open.result
    (λ f is. subst IsSmall (sym is) c.in-Ok.ensures.few) c.find_open.ensures.gate

pub returns-in-Err-clause-damaged : goal.returns-in-Err-clause-damaged
returns-in-Err-clause-damaged g c is honest =
    no_journal (g.D.Disk.bytes c.args.disk.now) c.read_number-start.result (c.requires.gate honest)
    (c.read_number-start.ensures ∙ start_read (g.D.Disk.bytes c.args.disk.now) c.args.page.now (c.requires.page honest)) (c.in-Err.ensures.damaged is honest)
