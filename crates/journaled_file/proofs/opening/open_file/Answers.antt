use Rattle.std.proofs.Common.{◌≡◌, ◌∙◌, ◌⊎◌, ◌<◌, ℕ, length, take, refl, sym, subst, inl, inr, arith}
use Rattle.std.specs.Prelude.{IsTrue}
use Rattle.disk.specs.Crashes.{Always, Bytes}
use Rattle.disk.specs.Keeping.{joined, weaker}
use Rattle.pagefile.specs.declared.header.FileHeader.{FileHeader}
use Rattle.pagefile.specs.Header.{IsInBounds}
use Rattle.journal.specs.Headers.{IsGood, IsNoFile, magic_of}
use Rattle.journal.specs.Parts.{place, HasLength}
use Rattle.journal.specs.Versions.{Version, IsAmong, IsShut, StandsFor}
use Rattle.journal.proofs.Finding.{if_err, if_ok, stands_header}
use Rattle.journal.proofs.States.{on_disk}
use Rattle.journaled_file.specs.declared.opening.OpenRefusal.{OpenRefusal}
use Rattle.journaled_file.specs.declared.opening.OpenRefusal.TheVariants.{Damaged}
use Rattle.journaled_file.specs.Renewed.{IsHeaderIn, Opens, IsOpening, IsOpeningAlone, first_pages, renewed, renewed_pages}
use Rattle.journaled_file.specs.Shown.{IsAtRest, placed}
use Rattle.journaled_file.proofs.Renewing.{alone_counts, alone_or_before, alone_stands, among_or_before, both_ok, counts_as, few, format_two, found_at_rest, found_rest, good_one, tells_as, told_damage}
use Rattle.journaled_file.proofs.opening.open_file.Goals as goal

pub returns-in-Ok-clause-header : goal.returns-in-Ok-clause-header
returns-in-Ok-clause-header g c =
    if_ok (λ (h : FileHeader). h ≡ c.in-Ok.found.header) (λ (h : FileHeader). IsTrue g.D.Disk.is_honest → IsHeaderIn (g.D.Disk.bytes c.args.disk.now) h)
    c.as_second.result (λ h is honest. (c.in-Ok.found, c.in-Ok.ensures.file honest, is)) c.as_second.ensures.header

pub returns-in-Ok-clause-pages : goal.returns-in-Ok-clause-pages
returns-in-Ok-clause-pages g c =
    both_ok c.as_second.result (λ (h : FileHeader). h ≡ c.in-Ok.found.header)
    (λ (h : FileHeader). IsTrue g.D.Disk.is_honest → (v : Version) → take 8 (v.pages 0) ≡ magic_of c.in-Ok.found.format
    → IsAtRest g.D.Disk.is_honest g.D.Disk.is_durable c.in-Ok.found.header.page_count (g.D.Disk.bytes c.recover.new.disk) (g.D.Disk.may_leave c.recover.new.disk)
    (first_pages v c.in-Ok.found.header.page_count)
    → IsAtRest g.D.Disk.is_honest g.D.Disk.is_durable c.in-Ok.found.header.page_count (g.D.Disk.bytes c.as_second.new.disk) (g.D.Disk.may_leave c.as_second.new.disk)
    (renewed v c.in-Ok.found.header.page_count))
    (λ (h : FileHeader). IsTrue g.D.Disk.is_honest → (v : Version) → IsGood v → StandsFor v (g.D.Disk.bytes c.args.disk.now)
    → (n : ℕ) → n < h.page_count → place (g.D.Disk.bytes c.as_second.new.disk) n ≡ renewed_pages v.pages n)
    (λ h is rest honest v good stands n less.
    let header = stands_header v (g.D.Disk.bytes c.args.disk.now) c.in-Ok.found stands (c.in-Ok.ensures.file honest) in
    let fewer = few v (length (g.D.Disk.bytes c.args.disk.now)) c.in-Ok.found.format c.in-Ok.found.header good header in
    let now = found_at_rest g.D.Disk.is_honest g.D.Disk.is_durable v c.in-Ok.found.header.page_count (g.D.Disk.bytes c.recover.new.disk)
    (g.D.Disk.may_leave c.recover.new.disk) header.bounds.some fewer (c.in-Ok.ensures.shut honest v stands) c.in-Ok.ensures.only in
    (rest honest v header.begins now).pages honest n (subst (λ (k : FileHeader). n < k.page_count) is less))
    c.as_second.ensures.header c.as_second.ensures.rest

pub returns-in-Ok-clause-opened : goal.returns-in-Ok-clause-opened
returns-in-Ok-clause-opened g c =
    both_ok c.as_second.result (λ (h : FileHeader). h ≡ c.in-Ok.found.header)
    (λ (h : FileHeader). IsTrue g.D.Disk.is_honest → (v : Version) → take 8 (v.pages 0) ≡ magic_of c.in-Ok.found.format
    → IsAtRest g.D.Disk.is_honest g.D.Disk.is_durable c.in-Ok.found.header.page_count (g.D.Disk.bytes c.recover.new.disk) (g.D.Disk.may_leave c.recover.new.disk)
    (first_pages v c.in-Ok.found.header.page_count)
    → IsAtRest g.D.Disk.is_honest g.D.Disk.is_durable c.in-Ok.found.header.page_count (g.D.Disk.bytes c.as_second.new.disk) (g.D.Disk.may_leave c.as_second.new.disk)
    (renewed v c.in-Ok.found.header.page_count))
    (λ (h : FileHeader). IsTrue g.D.Disk.is_durable → IsTrue g.D.Disk.is_honest → (x y : Version) → IsGood x → IsGood y
    → IsAmong x y (g.D.Disk.bytes c.args.disk.now)
    → Opens x y h (g.D.Disk.bytes c.args.disk.now) (g.D.Disk.may_leave c.as_second.new.disk))
    (λ h is rest durable honest x y first second among.
    let found = c.in-Ok.ensures.found durable honest x y among in
    let good = good_one x y found.version found.one first second in
    let fewer = few found.version (length (g.D.Disk.bytes c.args.disk.now)) c.in-Ok.found.format c.in-Ok.found.header good found.header in
    let now = found_at_rest g.D.Disk.is_honest g.D.Disk.is_durable found.version c.in-Ok.found.header.page_count (g.D.Disk.bytes c.recover.new.disk)
    (g.D.Disk.may_leave c.recover.new.disk) found.header.bounds.some fewer (c.in-Ok.ensures.shut honest found.version found.stood) c.in-Ok.ensures.only in
    record {
      version = found.version;
      one = found.one;
      stood = found.stood;
      rest = subst (λ (k : FileHeader). Always (g.D.Disk.may_leave c.as_second.new.disk) (IsShut (renewed found.version k.page_count))) (sym is)
          ((rest honest found.version found.header.begins now).shut durable honest);
    })
    c.as_second.ensures.header c.as_second.ensures.rest

pub returns-in-Ok-clause-any_moment : goal.returns-in-Ok-clause-any_moment
returns-in-Ok-clause-any_moment g c durable honest x y first second among =
    let P = λ (b : Bytes). g.D.Disk.may_leave c.args.disk.now b ⊎ IsOpening x y b in
    let found = c.in-Ok.ensures.found durable honest x y among in
    let good = good_one x y found.version found.one first second in
    let fewer = few found.version (length (g.D.Disk.bytes c.args.disk.now)) c.in-Ok.found.format c.in-Ok.found.header good found.header in
    let now = found_at_rest g.D.Disk.is_honest g.D.Disk.is_durable found.version c.in-Ok.found.header.page_count (g.D.Disk.bytes c.recover.new.disk)
    (g.D.Disk.may_leave c.recover.new.disk) found.header.bounds.some fewer (c.in-Ok.ensures.shut honest found.version found.stood) c.in-Ok.ensures.only in
    let before = c.recover.ensures.any_moment durable honest x y among in
    let after = c.as_second.ensures.any_moment durable honest x y found.version found.one found.header.page_count fewer found.shut now in
    joined g.D.Disk.moment g.D.Disk.left_since c.args.disk.now c.recover.new.disk c.as_second.new.disk P
    (weaker g.D.Disk.moment g.D.Disk.left_since c.args.disk.now c.recover.new.disk (λ (b : Bytes). g.D.Disk.may_leave c.args.disk.now b ⊎ IsAmong x y b) P
    (λ b left. among_or_before (g.D.Disk.may_leave c.args.disk.now b) x y b left) before)
    (weaker g.D.Disk.moment g.D.Disk.left_since c.recover.new.disk c.as_second.new.disk (IsOpening x y) P (λ b o. inr o) after.1)

pub returns-in-Ok-clause-alone : goal.returns-in-Ok-clause-alone
returns-in-Ok-clause-alone g c durable honest size =
    let old = g.D.Disk.bytes c.args.disk.now in
    let P = λ (b : Bytes). g.D.Disk.may_leave c.args.disk.now b ⊎ IsOpeningAlone b in
    let count = c.in-Ok.found.header.page_count in
    let stands = alone_stands old c.in-Ok.found (c.in-Ok.ensures.file honest) size in
    let counted = alone_counts old c.in-Ok.found (c.in-Ok.ensures.file honest) size in
    let v = placed count old in
    let shut : IsShut v (g.D.Disk.bytes c.recover.new.disk) = c.in-Ok.ensures.shut honest v stands in
    let all : Always (g.D.Disk.may_leave c.recover.new.disk) (IsShut v) =
    on_disk (IsShut v) (g.D.Disk.bytes c.recover.new.disk) (g.D.Disk.bytes c.recover.new.disk) (g.D.Disk.may_leave c.recover.new.disk) refl
    (c.in-Ok.ensures.only durable honest) shut in
    let now = found_at_rest g.D.Disk.is_honest g.D.Disk.is_durable v count (g.D.Disk.bytes c.recover.new.disk) (g.D.Disk.may_leave c.recover.new.disk)
    (c.in-Ok.ensures.file honest).header.bounds.some (omega arith) shut c.in-Ok.ensures.only in
    let before = c.recover.ensures.alone durable honest size in
    let after = c.as_second.ensures.any_moment durable honest v v v (inl refl) counted (omega arith) all now in
    joined g.D.Disk.moment g.D.Disk.left_since c.args.disk.now c.recover.new.disk c.as_second.new.disk P
    (weaker g.D.Disk.moment g.D.Disk.left_since c.args.disk.now c.recover.new.disk (λ (b : Bytes). g.D.Disk.may_leave c.args.disk.now b ⊎ HasLength 4096 b) P
    (λ b left. alone_or_before (g.D.Disk.may_leave c.args.disk.now b) b left) before)
    (weaker g.D.Disk.moment g.D.Disk.left_since c.recover.new.disk c.as_second.new.disk (IsOpening v v) P
    (λ b o. inr (inr (record { file = old; found = c.in-Ok.found; opens = c.in-Ok.ensures.file honest; short = size; state = o }))) after.1)

pub returns-in-Err-clause-alone : goal.returns-in-Err-clause-alone
returns-in-Err-clause-alone g c durable honest size =
    weaker g.D.Disk.moment g.D.Disk.left_since c.args.disk.now c.recover.new.disk (λ (b : Bytes). g.D.Disk.may_leave c.args.disk.now b ⊎ HasLength 4096 b)
    (λ (b : Bytes). g.D.Disk.may_leave c.args.disk.now b ⊎ IsOpeningAlone b)
    (λ b left. alone_or_before (g.D.Disk.may_leave c.args.disk.now b) b left) (c.recover.ensures.alone durable honest size)

pub returns-in-Ok-clause-damaged : goal.returns-in-Ok-clause-damaged
returns-in-Ok-clause-damaged g c =
    if_err (λ (e : OpenRefusal). e ≡ Damaged → ⊥) (λ (e : OpenRefusal). e ≡ Damaged → IsTrue g.D.Disk.is_honest → IsNoFile (g.D.Disk.bytes c.args.disk.now))
    c.as_second.result (λ e never is honest. absurd (never is)) c.as_second.ensures.never

pub returns-in-Ok-clause-left : goal.returns-in-Ok-clause-left
returns-in-Ok-clause-left g c =
    if_err (λ (e : OpenRefusal). e ≡ Damaged → ⊥)
    (λ (e : OpenRefusal). e ≡ Damaged → IsTrue g.D.Disk.is_honest → g.D.Disk.bytes c.as_second.new.disk ≡ g.D.Disk.bytes c.args.disk.now) c.as_second.result
    (λ e never is honest. absurd (never is)) c.as_second.ensures.never

pub returns-in-Ok-clause-whole : goal.returns-in-Ok-clause-whole
returns-in-Ok-clause-whole g c =
    if_err (λ (e : OpenRefusal). e ≡ Damaged → ⊥)
    (λ (e : OpenRefusal). IsTrue g.D.Disk.is_honest → (x y : Version) → IsGood x → IsGood y
    → IsAmong x y (g.D.Disk.bytes c.args.disk.now) → e ≡ Damaged → ⊥) c.as_second.result
    (λ e never honest x y first second among is. never is) c.as_second.ensures.never

pub returns-in-Err-clause-any_moment : goal.returns-in-Err-clause-any_moment
returns-in-Err-clause-any_moment g c durable honest x y first second among =
    weaker g.D.Disk.moment g.D.Disk.left_since c.args.disk.now c.recover.new.disk (λ (b : Bytes). g.D.Disk.may_leave c.args.disk.now b ⊎ IsAmong x y b)
    (λ (b : Bytes). g.D.Disk.may_leave c.args.disk.now b ⊎ IsOpening x y b)
    (λ b left. among_or_before (g.D.Disk.may_leave c.args.disk.now b) x y b left) (c.recover.ensures.any_moment durable honest x y among)

pub returns-in-Err-clause-damaged : goal.returns-in-Err-clause-damaged
returns-in-Err-clause-damaged g c = λ is honest. c.in-Err.ensures.damaged (told_damage c.in-Err.cause (sym c.refusal_of.ensures ∙ is)) honest

pub returns-in-Err-clause-left : goal.returns-in-Err-clause-left
returns-in-Err-clause-left g c = λ is honest. c.in-Err.ensures.left (told_damage c.in-Err.cause (sym c.refusal_of.ensures ∙ is)) honest

pub returns-in-Err-clause-whole : goal.returns-in-Err-clause-whole
returns-in-Err-clause-whole g c = λ honest x y first second among is. c.in-Err.ensures.whole honest x y first second among (told_damage c.in-Err.cause (sym c.refusal_of.ensures ∙ is))

pub returns-in-Err-clause-count : goal.returns-in-Err-clause-count
returns-in-Err-clause-count g c = rw c.refusal_of.ensures (counts_as c.in-Err.cause _ _ c.in-Err.ensures.count)

pub returns-in-Err-clause-cause : goal.returns-in-Err-clause-cause
returns-in-Err-clause-cause g c = rw c.refusal_of.ensures (tells_as _ c.in-Err.cause c.in-Err.ensures.cause)

pub returns-in-Ok-clause-unwritten : goal.returns-in-Ok-clause-unwritten
returns-in-Ok-clause-unwritten g c =
    if_err (λ (e : OpenRefusal). e ≡ Damaged → ⊥)
    (λ (e : OpenRefusal). e ≡ Damaged → g.D.Disk.writes c.as_second.new.disk ≡ g.D.Disk.writes c.args.disk.now) c.as_second.result
    (λ e never is. absurd (never is)) c.as_second.ensures.never

pub returns-in-Err-clause-unwritten : goal.returns-in-Err-clause-unwritten
returns-in-Err-clause-unwritten g c = λ is. c.in-Err.ensures.unwritten (told_damage c.in-Err.cause (sym c.refusal_of.ensures ∙ is))

pub returns-in-Ok-clause-rest : goal.returns-in-Ok-clause-rest
returns-in-Ok-clause-rest g c =
    both_ok c.as_second.result (λ (h : FileHeader). h ≡ c.in-Ok.found.header)
    (λ (h : FileHeader). IsTrue g.D.Disk.is_honest → (v : Version)
    → IsAtRest g.D.Disk.is_honest g.D.Disk.is_durable c.in-Ok.found.header.page_count (g.D.Disk.bytes c.recover.new.disk) (g.D.Disk.may_leave c.recover.new.disk)
    (first_pages v c.in-Ok.found.header.page_count)
    → IsAtRest g.D.Disk.is_honest g.D.Disk.is_durable c.in-Ok.found.header.page_count (g.D.Disk.bytes c.as_second.new.disk) (g.D.Disk.may_leave c.as_second.new.disk)
    (placed c.in-Ok.found.header.page_count (g.D.Disk.bytes c.as_second.new.disk)))
    (λ (h : FileHeader). IsTrue g.D.Disk.is_honest
    → IsAtRest g.D.Disk.is_honest g.D.Disk.is_durable h.page_count (g.D.Disk.bytes c.as_second.new.disk) (g.D.Disk.may_leave c.as_second.new.disk)
    (placed h.page_count (g.D.Disk.bytes c.as_second.new.disk)))
    (λ h is own honest.
    let now = found_rest g.D.Disk.is_honest g.D.Disk.is_durable (g.D.Disk.bytes c.args.disk.now) (g.D.Disk.bytes c.recover.new.disk) (g.D.Disk.may_leave c.recover.new.disk)
    c.in-Ok.found (c.in-Ok.ensures.file honest) (c.in-Ok.ensures.closed honest) (c.in-Ok.ensures.size honest) c.in-Ok.ensures.only in
    subst (λ (k : FileHeader). IsAtRest g.D.Disk.is_honest g.D.Disk.is_durable k.page_count (g.D.Disk.bytes c.as_second.new.disk) (g.D.Disk.may_leave c.as_second.new.disk)
    (placed k.page_count (g.D.Disk.bytes c.as_second.new.disk))) (sym is)
    (own honest (placed c.in-Ok.found.header.page_count (g.D.Disk.bytes c.recover.new.disk)) now))
    c.as_second.ensures.header c.as_second.ensures.own

pub returns-in-Ok-clause-still : goal.returns-in-Ok-clause-still
returns-in-Ok-clause-still g c honest shut begins =
    c.as_second.ensures.still honest (format_two (g.D.Disk.bytes c.args.disk.now) c.in-Ok.found (c.in-Ok.ensures.file honest) shut begins)
    ∙ c.recover.ensures.still honest shut

pub returns-in-Err-clause-still : goal.returns-in-Err-clause-still
returns-in-Err-clause-still g c honest shut begins = c.recover.ensures.still honest shut

pub returns-in-Ok-clause-bounds : goal.returns-in-Ok-clause-bounds
returns-in-Ok-clause-bounds g c =
    if_ok (λ (h : FileHeader). h ≡ c.in-Ok.found.header) IsInBounds c.as_second.result (λ h is. subst IsInBounds (sym is) c.in-Ok.ensures.bounds)
    c.as_second.ensures.header
