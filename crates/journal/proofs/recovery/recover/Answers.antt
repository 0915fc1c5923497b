use Rattle.std.proofs.Common.{◌≡◌, ◌∙◌, ◌⊎◌, [], ◌∷◌, ◌≤◌, length, refl, sym, subst, ap, get_or, inl, inr}
use Rattle.std.specs.Prelude.{IsTrue}
use Rattle.disk.specs.Crashes.{Always, Bytes, Only}
use Rattle.disk.specs.Keeping.{calm, joined, weaker}
use Rattle.pagefile.specs.declared.error.OpenError.{OpenError}
use Rattle.pagefile.specs.declared.error.OpenError.TheVariants.{Damaged}
use Rattle.pagefile.specs.Header.{IsInBounds}
use Rattle.pagefile.specs.Parts.{gate_part}
use Rattle.journal.specs.declared.found.Found.{Found}
use Rattle.journal.specs.Headers.{IsFile, IsNoFile, IsGate, HasList, IsGood, Finds, IsFinished}
use Rattle.journal.specs.Parts.{HasLength}
use Rattle.journal.specs.Versions.{Version, IsShut, IsAmong, StandsFor}
use Rattle.journal.proofs.Finding.{gate_is, good_is_file, if_ok, if_err, stands_header}
use Rattle.journal.proofs.Looking.{read_before}
use Rattle.journal.proofs.States.{among_some, among_stands, on_disk}
use Rattle.journal.proofs.recovery.recover.Goals as goal

pub finish-requires-clause-gate : goal.finish-requires-clause-gate
finish-requires-clause-gate g c honest =
    subst (λ (b : Bytes). IsGate b c.in-Ok.found.gate) (sym (c.examine.ensures.reads.same honest)) (c.in-Ok.ensures.file honest).gate

pub finish-requires-clause-list : goal.finish-requires-clause-list
finish-requires-clause-list g c honest =
    subst (λ (b : Bytes). HasList b c.examine.new.list c.in-Ok.found.gate) (sym (c.examine.ensures.reads.same honest)) (c.in-Ok.ensures.list honest)

pub returns-in-Ok-clause-file : goal.returns-in-Ok-clause-file
returns-in-Ok-clause-file g c =
    let old = g.D.Disk.bytes c.args.disk.now in
    if_ok
    (λ (told : Found). IsFinished c.in-Ok.found told g.D.Disk.is_honest g.D.Disk.is_durable (g.D.Disk.bytes c.examine.new.disk) (g.D.Disk.bytes c.finish.new.disk)
    (g.D.Disk.may_leave c.examine.new.disk) (g.D.Disk.may_leave c.finish.new.disk))
    (λ (told : Found). IsTrue g.D.Disk.is_honest → IsFile (g.D.Disk.bytes c.args.disk.now) told) c.finish.result
    (λ told d honest.
    subst (IsFile old) (sym d.same) (subst (λ (b : Bytes). IsFile b c.in-Ok.found) (c.sync.ensures.same honest) (c.in-Ok.ensures.file honest)))
    c.finish.ensures.done

pub returns-in-Ok-clause-shut : goal.returns-in-Ok-clause-shut
returns-in-Ok-clause-shut g c =
    if_ok
    (λ (told : Found). IsFinished c.in-Ok.found told g.D.Disk.is_honest g.D.Disk.is_durable (g.D.Disk.bytes c.examine.new.disk) (g.D.Disk.bytes c.finish.new.disk)
    (g.D.Disk.may_leave c.examine.new.disk) (g.D.Disk.may_leave c.finish.new.disk))
    (λ (told : Found). IsTrue g.D.Disk.is_honest → (v : Version) → StandsFor v (g.D.Disk.bytes c.args.disk.now) → IsShut v (g.D.Disk.bytes c.finish.new.disk)) c.finish.result
    (λ told d honest v stands. d.shut honest v (subst (StandsFor v) (sym (c.examine.ensures.reads.same honest ∙ c.sync.ensures.same honest)) stands))
    c.finish.ensures.done

pub returns-in-Ok-clause-found : goal.returns-in-Ok-clause-found
returns-in-Ok-clause-found g c =
    if_ok
    (λ (told : Found). IsFinished c.in-Ok.found told g.D.Disk.is_honest g.D.Disk.is_durable (g.D.Disk.bytes c.examine.new.disk) (g.D.Disk.bytes c.finish.new.disk)
    (g.D.Disk.may_leave c.examine.new.disk) (g.D.Disk.may_leave c.finish.new.disk))
    (λ (told : Found). IsTrue g.D.Disk.is_durable → IsTrue g.D.Disk.is_honest → (x y : Version) → IsAmong x y (g.D.Disk.bytes c.args.disk.now)
    → Finds x y told (g.D.Disk.bytes c.args.disk.now) (g.D.Disk.may_leave c.finish.new.disk)) c.finish.result
    found c.finish.ensures.done
  where
    found : (told : Found) → IsFinished c.in-Ok.found told g.D.Disk.is_honest g.D.Disk.is_durable (g.D.Disk.bytes c.examine.new.disk) (g.D.Disk.bytes c.finish.new.disk)
        (g.D.Disk.may_leave c.examine.new.disk) (g.D.Disk.may_leave c.finish.new.disk) → IsTrue g.D.Disk.is_durable → IsTrue g.D.Disk.is_honest → (x y : Version)
        → IsAmong x y (g.D.Disk.bytes c.args.disk.now) → Finds x y told (g.D.Disk.bytes c.args.disk.now) (g.D.Disk.may_leave c.finish.new.disk)
    found told d durable honest x y now =
        let old = g.D.Disk.bytes c.args.disk.now in
        let stands = among_stands x y old (get_or old 24 0) (gate_is old (among_some x y old now)) now in
        let same : g.D.Disk.bytes c.examine.new.disk ≡ old = c.examine.ensures.reads.same honest ∙ c.sync.ensures.same honest in
        let file : IsFile old told =
        subst (IsFile old) (sym d.same) (subst (λ (b : Bytes). IsFile b c.in-Ok.found) (c.sync.ensures.same honest) (c.in-Ok.ensures.file honest)) in
        let only : Only (g.D.Disk.bytes c.examine.new.disk) (g.D.Disk.may_leave c.examine.new.disk) =
        λ o left. c.in_ok-sync.ensures.durable durable o (c.examine.ensures.reads.crash durable o left) ∙ sym same in
        record {
          version = stands.0;
          one = stands.1;
          stood = stands.2;
          header = stands_header stands.0 old told stands.2 file;
          shut = on_disk (IsShut stands.0) (g.D.Disk.bytes c.finish.new.disk) (g.D.Disk.bytes c.finish.new.disk) (g.D.Disk.may_leave c.finish.new.disk) refl
              (d.only durable honest only) (d.shut honest stands.0 (subst (StandsFor stands.0) (sym same) stands.2));
        }

pub returns-in-Ok-clause-only : goal.returns-in-Ok-clause-only
returns-in-Ok-clause-only g c =
    if_ok
    (λ (told : Found). IsFinished c.in-Ok.found told g.D.Disk.is_honest g.D.Disk.is_durable (g.D.Disk.bytes c.examine.new.disk) (g.D.Disk.bytes c.finish.new.disk)
    (g.D.Disk.may_leave c.examine.new.disk) (g.D.Disk.may_leave c.finish.new.disk))
    (λ (told : Found). IsTrue g.D.Disk.is_durable → IsTrue g.D.Disk.is_honest → Only (g.D.Disk.bytes c.finish.new.disk) (g.D.Disk.may_leave c.finish.new.disk)) c.finish.result
    (λ told d durable honest.
    let same : g.D.Disk.bytes c.examine.new.disk ≡ g.D.Disk.bytes c.args.disk.now = c.examine.ensures.reads.same honest ∙ c.sync.ensures.same honest in
    let only : Only (g.D.Disk.bytes c.examine.new.disk) (g.D.Disk.may_leave c.examine.new.disk) =
    λ o left. c.in_ok-sync.ensures.durable durable o (c.examine.ensures.reads.crash durable o left) ∙ sym same in
    d.only durable honest only)
    c.finish.ensures.done

pub returns-in_err-sync-clause-any_moment : goal.returns-in_err-sync-clause-any_moment
returns-in_err-sync-clause-any_moment g c durable honest x y among =
    let waits =
    calm g.D.Disk.moment g.D.Disk.left_since g.D.Disk.may_leave (λ d b left. g.met.D.Disk.only_now d b durable left)
    c.args.disk.now c.sync.new.self (g.D.Disk.may_leave c.args.disk.now) (c.sync.ensures.crash durable) (c.sync.ensures.time durable) (λ b left. left) in
    weaker g.D.Disk.moment g.D.Disk.left_since c.args.disk.now c.sync.new.self (g.D.Disk.may_leave c.args.disk.now)
    (λ (b : Bytes). g.D.Disk.may_leave c.args.disk.now b ⊎ IsAmong x y b) (λ b left. inl left) waits.1

pub returns-in-Ok-clause-any_moment : goal.returns-in-Ok-clause-any_moment
returns-in-Ok-clause-any_moment g c durable honest x y among =
    let P = λ (b : Bytes). g.D.Disk.may_leave c.args.disk.now b ⊎ IsAmong x y b in
    let same : g.D.Disk.bytes c.examine.new.disk ≡ g.D.Disk.bytes c.args.disk.now = c.examine.ensures.reads.same honest ∙ c.sync.ensures.same honest in
    let only : Only (g.D.Disk.bytes c.examine.new.disk) (g.D.Disk.may_leave c.examine.new.disk) =
    λ d left. c.in_ok-sync.ensures.durable durable d (c.examine.ensures.reads.crash durable d left) ∙ sym same in
    let all : Always (g.D.Disk.may_leave c.examine.new.disk) (IsAmong x y) =
    on_disk (IsAmong x y) (g.D.Disk.bytes c.args.disk.now) (g.D.Disk.bytes c.examine.new.disk) (g.D.Disk.may_leave c.examine.new.disk) same only among in
    joined g.D.Disk.moment g.D.Disk.left_since c.args.disk.now c.examine.new.disk c.finish.new.disk P
    (read_before g.D.Disk.is_honest g.D.Disk.is_durable g.D.Disk.bytes g.D.Disk.synced g.D.Disk.writes g.D.Disk.settled g.D.Disk.moment g.D.Disk.left_since
    g.D.Disk.may_leave c.args.disk.now c.sync.new.self c.examine.new.disk (IsAmong x y) (λ d b left. g.met.D.Disk.only_now d b durable left) durable
    (c.sync.ensures.crash durable) (c.sync.ensures.time durable) c.examine.ensures.reads)
    (weaker g.D.Disk.moment g.D.Disk.left_since c.examine.new.disk c.finish.new.disk (IsAmong x y) P (λ b a. inr a)
    (c.finish.ensures.keeps durable honest only x y all).1)

pub returns-in-Err-clause-any_moment : goal.returns-in-Err-clause-any_moment
returns-in-Err-clause-any_moment g c durable honest x y among =
    read_before g.D.Disk.is_honest g.D.Disk.is_durable g.D.Disk.bytes g.D.Disk.synced g.D.Disk.writes g.D.Disk.settled g.D.Disk.moment g.D.Disk.left_since
    g.D.Disk.may_leave c.args.disk.now c.sync.new.self c.examine.new.disk (IsAmong x y) (λ d b left. g.met.D.Disk.only_now d b durable left) durable
    (c.sync.ensures.crash durable) (c.sync.ensures.time durable) c.examine.ensures.reads

-- ---- a file of page 0 alone

pub returns-in_err-sync-clause-alone : goal.returns-in_err-sync-clause-alone
returns-in_err-sync-clause-alone g c durable honest size =
    let waits =
    calm g.D.Disk.moment g.D.Disk.left_since g.D.Disk.may_leave (λ d b left. g.met.D.Disk.only_now d b durable left)
    c.args.disk.now c.sync.new.self (g.D.Disk.may_leave c.args.disk.now) (c.sync.ensures.crash durable) (c.sync.ensures.time durable) (λ b left. left) in
    weaker g.D.Disk.moment g.D.Disk.left_since c.args.disk.now c.sync.new.self (g.D.Disk.may_leave c.args.disk.now)
    (λ (b : Bytes). g.D.Disk.may_leave c.args.disk.now b ⊎ HasLength 4096 b) (λ b left. inl left) waits.1

pub returns-in-Ok-clause-alone : goal.returns-in-Ok-clause-alone
returns-in-Ok-clause-alone g c durable honest size =
    let P = λ (b : Bytes). g.D.Disk.may_leave c.args.disk.now b ⊎ HasLength 4096 b in
    let same : g.D.Disk.bytes c.examine.new.disk ≡ g.D.Disk.bytes c.args.disk.now = c.examine.ensures.reads.same honest ∙ c.sync.ensures.same honest in
    let only : Only (g.D.Disk.bytes c.examine.new.disk) (g.D.Disk.may_leave c.examine.new.disk) =
    λ d left. c.in_ok-sync.ensures.durable durable d (c.examine.ensures.reads.crash durable d left) ∙ sym same in
    let all : Always (g.D.Disk.may_leave c.examine.new.disk) (HasLength 4096) =
    on_disk (HasLength 4096) (g.D.Disk.bytes c.args.disk.now) (g.D.Disk.bytes c.examine.new.disk) (g.D.Disk.may_leave c.examine.new.disk) same only size in
    joined g.D.Disk.moment g.D.Disk.left_since c.args.disk.now c.examine.new.disk c.finish.new.disk P
    (read_before g.D.Disk.is_honest g.D.Disk.is_durable g.D.Disk.bytes g.D.Disk.synced g.D.Disk.writes g.D.Disk.settled g.D.Disk.moment g.D.Disk.left_since
    g.D.Disk.may_leave c.args.disk.now c.sync.new.self c.examine.new.disk (HasLength 4096) (λ d b left. g.met.D.Disk.only_now d b durable left) durable
    (c.sync.ensures.crash durable) (c.sync.ensures.time durable) c.examine.ensures.reads)
    (weaker g.D.Disk.moment g.D.Disk.left_since c.examine.new.disk c.finish.new.disk (HasLength 4096) P (λ b a. inr a)
    (c.finish.ensures.alone durable honest (ap (λ (b : Bytes). length b) same ∙ size) all).1)

pub returns-in-Err-clause-alone : goal.returns-in-Err-clause-alone
returns-in-Err-clause-alone g c durable honest size =
    read_before g.D.Disk.is_honest g.D.Disk.is_durable g.D.Disk.bytes g.D.Disk.synced g.D.Disk.writes g.D.Disk.settled g.D.Disk.moment g.D.Disk.left_since
    g.D.Disk.may_leave c.args.disk.now c.sync.new.self c.examine.new.disk (HasLength 4096) (λ d b left. g.met.D.Disk.only_now d b durable left) durable
    (c.sync.ensures.crash durable) (c.sync.ensures.time durable) c.examine.ensures.reads

pub returns-in-Err-clause-damaged : goal.returns-in-Err-clause-damaged
returns-in-Err-clause-damaged g c is honest = subst IsNoFile (c.sync.ensures.same honest) (c.in-Err.ensures.damaged is honest)

pub returns-in-Err-clause-whole : goal.returns-in-Err-clause-whole
returns-in-Err-clause-whole g c honest x y one two among is =
    let file = good_is_file x y (g.D.Disk.bytes c.args.disk.now) among one two in
    subst IsNoFile (c.sync.ensures.same honest) (c.in-Err.ensures.damaged is honest) file.0 file.1

-- where it was found, it is not damaged

pub returns-in-Ok-clause-damaged : goal.returns-in-Ok-clause-damaged
returns-in-Ok-clause-damaged g c =
    if_err (λ (e : OpenError). e ≡ Damaged → ⊥) (λ (e : OpenError). e ≡ Damaged → IsTrue g.D.Disk.is_honest → IsNoFile (g.D.Disk.bytes c.args.disk.now)) c.finish.result
    (λ e never is honest. absurd (never is)) c.finish.ensures.never

pub returns-in-Ok-clause-left : goal.returns-in-Ok-clause-left
returns-in-Ok-clause-left g c =
    if_err (λ (e : OpenError). e ≡ Damaged → ⊥)
    (λ (e : OpenError). e ≡ Damaged → IsTrue g.D.Disk.is_honest → g.D.Disk.bytes c.finish.new.disk ≡ g.D.Disk.bytes c.args.disk.now) c.finish.result
    (λ e never is honest. absurd (never is)) c.finish.ensures.never

pub returns-in-Ok-clause-unwritten : goal.returns-in-Ok-clause-unwritten
returns-in-Ok-clause-unwritten g c =
    if_err (λ (e : OpenError). e ≡ Damaged → ⊥)
    (λ (e : OpenError). e ≡ Damaged → g.D.Disk.writes c.finish.new.disk ≡ g.D.Disk.writes c.args.disk.now) c.finish.result
    (λ e never is. absurd (never is)) c.finish.ensures.never

pub returns-in-Ok-clause-whole : goal.returns-in-Ok-clause-whole
returns-in-Ok-clause-whole g c =
    if_err (λ (e : OpenError). e ≡ Damaged → ⊥)
    (λ (e : OpenError). IsTrue g.D.Disk.is_honest → (x y : Version) → IsGood x → IsGood y
    → IsAmong x y (g.D.Disk.bytes c.args.disk.now) → e ≡ Damaged → ⊥) c.finish.result
    (λ e never honest x y one two among is. never is) c.finish.ensures.never

pub returns-in-Ok-clause-closed : goal.returns-in-Ok-clause-closed
returns-in-Ok-clause-closed g c =
    if_ok
    (λ (told : Found). IsFinished c.in-Ok.found told g.D.Disk.is_honest g.D.Disk.is_durable (g.D.Disk.bytes c.examine.new.disk) (g.D.Disk.bytes c.finish.new.disk)
    (g.D.Disk.may_leave c.examine.new.disk) (g.D.Disk.may_leave c.finish.new.disk))
    (λ (told : Found). IsTrue g.D.Disk.is_honest → gate_part (g.D.Disk.bytes c.finish.new.disk) ≡ 0 ∷ []) c.finish.result
    (λ told d honest. d.closed honest) c.finish.ensures.done

pub returns-in-Ok-clause-size : goal.returns-in-Ok-clause-size
returns-in-Ok-clause-size g c =
    if_ok
    (λ (told : Found). IsFinished c.in-Ok.found told g.D.Disk.is_honest g.D.Disk.is_durable (g.D.Disk.bytes c.examine.new.disk) (g.D.Disk.bytes c.finish.new.disk)
    (g.D.Disk.may_leave c.examine.new.disk) (g.D.Disk.may_leave c.finish.new.disk))
    (λ (told : Found). IsTrue g.D.Disk.is_honest → length (g.D.Disk.bytes c.finish.new.disk) ≡ length (g.D.Disk.bytes c.args.disk.now)) c.finish.result
    (λ told d honest.
    let same : g.D.Disk.bytes c.examine.new.disk ≡ g.D.Disk.bytes c.sync.new.self = c.examine.ensures.reads.same honest in
    let some : 4096 ≤ length (g.D.Disk.bytes c.examine.new.disk) = subst (λ (b : Bytes). 4096 ≤ length b) (sym same) (c.in-Ok.ensures.file honest).some in
    d.size honest some ∙ ap (λ (b : Bytes). length b) (same ∙ c.sync.ensures.same honest)) c.finish.ensures.done

pub returns-in_err-sync-clause-still : goal.returns-in_err-sync-clause-still
returns-in_err-sync-clause-still g c honest shut = c.sync.ensures.same honest

pub returns-in-Ok-clause-still : goal.returns-in-Ok-clause-still
returns-in-Ok-clause-still g c honest shut =
    let same : g.D.Disk.bytes c.examine.new.disk ≡ g.D.Disk.bytes c.args.disk.now = c.examine.ensures.reads.same honest ∙ c.sync.ensures.same honest in
    c.finish.ensures.still honest (ap (λ (b : Bytes). gate_part b) same ∙ shut) ∙ same

pub returns-in-Err-clause-still : goal.returns-in-Err-clause-still
returns-in-Err-clause-still g c honest shut = c.examine.ensures.reads.same honest ∙ c.sync.ensures.same honest

pub returns-in-Ok-clause-bounds : goal.returns-in-Ok-clause-bounds
returns-in-Ok-clause-bounds g c =
    if_ok
    (λ (told : Found). IsFinished c.in-Ok.found told g.D.Disk.is_honest g.D.Disk.is_durable (g.D.Disk.bytes c.examine.new.disk) (g.D.Disk.bytes c.finish.new.disk)
    (g.D.Disk.may_leave c.examine.new.disk) (g.D.Disk.may_leave c.finish.new.disk))
    (λ (told : Found). IsInBounds told.header) c.finish.result
    (λ told d. subst (λ (f : Found). IsInBounds f.header) (sym d.same) c.in-Ok.ensures.bounds) c.finish.ensures.done
