use Rattle.std.proofs.Common.{◌≡◌, ◌∙◌, ◌+◌, [], ◌∷◌, ◌++◌, ℕ, List, drop, length, refl, ap, inl, inr, arith}
use Rattle.std.specs.Prelude.{slice_range}
use Rattle.disk.specs.Crashes.{Bytes}
use Rattle.disk.specs.Keeping.{calm, joined, weaker}
use Rattle.journal.specs.Headers.{magic_2}
use Rattle.journal.specs.Parts.{block}
use Rattle.journal.specs.Versions.{Version, IsAmong, IsShut, IsCommittable, committed}
use Rattle.journal.proofs.States.{among_shut, on_ok}
use Rattle.journaled_file.specs.Renewed.{first_pages, IsOpening}
use Rattle.journaled_file.specs.Shown.{IsAtRest}
use Rattle.journaled_file.proofs.Renewing.{committable, rest_renewed, renewing}
use Rattle.journaled_file.proofs.Showing.{rest_read}
use Rattle.journaled_file.proofs.opening.renew.Goals as goal

pub returns-in-Ok-clause-renewed : goal.returns-in-Ok-clause-renewed
returns-in-Ok-clause-renewed g c =
    on_ok c.commit_first.result
    (λ (rest : (was : ℕ) (v : Version)
    → IsAtRest g.D.Disk.is_honest g.D.Disk.is_durable was (g.D.Disk.bytes c.read_at.new.self) (g.D.Disk.may_leave c.read_at.new.self) v
    → IsCommittable v ((0, c.put_magic.new.page) ∷ []) c.args.count
    → IsAtRest g.D.Disk.is_honest g.D.Disk.is_durable c.args.count (g.D.Disk.bytes c.commit_first.new.disk) (g.D.Disk.may_leave c.commit_first.new.disk)
    (committed v ((0, c.put_magic.new.page) ∷ []) c.args.count)). λ honest v r.
    let old = g.D.Disk.bytes c.args.disk.now in
    let end : 0 + length c.read_at.new.into ≡ 4096 = omega arith in
    let read : c.read_at.new.into ≡ block old 0 = (c.in-Ok.ensures.value honest).same ∙ ap (λ (k : ℕ). slice_range old 0 k) end in
    let page = c.put_magic.ensures ∙ ap (λ (p : List ℕ). magic_2 ++ drop 8 p) read in
    let now =
    rest_read g.D.Disk.is_honest g.D.Disk.is_durable c.args.count old (g.D.Disk.bytes c.read_at.new.self) (g.D.Disk.may_leave c.args.disk.now)
    (g.D.Disk.may_leave c.read_at.new.self) (first_pages v c.args.count) r c.read_at.ensures.same c.read_at.ensures.crash in
    rest_renewed g.D.Disk.is_honest g.D.Disk.is_durable v c.args.count c.put_magic.new.page old (g.D.Disk.bytes c.commit_first.new.disk)
    (g.D.Disk.may_leave c.commit_first.new.disk) page (r.pages honest 0 (omega (arith, r.some)))
    (rest c.args.count (first_pages v c.args.count) now (committable v c.args.count c.put_magic.new.page r.some)))
    c.commit_first.ensures.rest

pub returns-in-Ok-clause-any_moment : goal.returns-in-Ok-clause-any_moment
returns-in-Ok-clause-any_moment g c durable honest x y v one counted fewer r =
    let old = g.D.Disk.bytes c.args.disk.now in
    let first = first_pages v c.args.count in
    let there = r.pages honest 0 (omega (arith, r.some)) in
    let end : 0 + length c.read_at.new.into ≡ 4096 = omega arith in
    let read : c.read_at.new.into ≡ block old 0 = (c.in-Ok.ensures.value honest).same ∙ ap (λ (k : ℕ). slice_range old 0 k) end in
    let page = c.put_magic.ensures ∙ ap (λ (p : List ℕ). magic_2 ++ drop 8 p) read in
    let now =
    rest_read g.D.Disk.is_honest g.D.Disk.is_durable c.args.count old (g.D.Disk.bytes c.read_at.new.self) (g.D.Disk.may_leave c.args.disk.now)
    (g.D.Disk.may_leave c.read_at.new.self) first r c.read_at.ensures.same c.read_at.ensures.crash in
    let new = committed first ((0, c.put_magic.new.page) ∷ []) c.args.count in
    let to = λ (b : Bytes) (a : IsAmong first new b). renewing x y v c.args.count c.put_magic.new.page old one counted fewer page there b a in
    let before =
    calm g.D.Disk.moment g.D.Disk.left_since g.D.Disk.may_leave (λ d b left. g.met.D.Disk.only_now d b durable left)
    c.args.disk.now c.read_at.new.self (IsShut first) (c.read_at.ensures.crash durable) (c.read_at.ensures.time durable) (r.shut durable honest) in
    let kept = c.commit_first.ensures.keeps durable honest c.args.count first now (committable v c.args.count c.put_magic.new.page r.some) in (
      λ b left. inr (to b (kept.0 b left)),
      joined g.D.Disk.moment g.D.Disk.left_since c.args.disk.now c.read_at.new.self c.commit_first.new.disk (IsOpening x y)
          (weaker g.D.Disk.moment g.D.Disk.left_since c.args.disk.now c.read_at.new.self (IsShut first) (IsOpening x y)
          (λ b s. inr (to b (among_shut first new first (inl refl) b s))) before.1)
          (weaker g.D.Disk.moment g.D.Disk.left_since c.read_at.new.self c.commit_first.new.disk (IsAmong first new) (IsOpening x y) (λ b a. inr (to b a)) kept.1),
    )

pub returns-in-Err-clause-any_moment : goal.returns-in-Err-clause-any_moment
returns-in-Err-clause-any_moment g c durable honest x y v one counted fewer r =
    let old = g.D.Disk.bytes c.args.disk.now in
    let first = first_pages v c.args.count in
    let page = magic_2 ++ drop 8 (block old 0) in
    let new = committed first ((0, page) ∷ []) c.args.count in
    let there = r.pages honest 0 (omega (arith, r.some)) in
    let to = λ (b : Bytes) (s : IsShut first b). renewing x y v c.args.count page old one counted fewer refl there b (among_shut first new first (inl refl) b s) in
    let before =
    calm g.D.Disk.moment g.D.Disk.left_since g.D.Disk.may_leave (λ d b left. g.met.D.Disk.only_now d b durable left)
    c.args.disk.now c.read_at.new.self (IsShut first) (c.read_at.ensures.crash durable) (c.read_at.ensures.time durable) (r.shut durable honest) in (
      λ b left. inr (to b (before.0 b left)),
      weaker g.D.Disk.moment g.D.Disk.left_since c.args.disk.now c.read_at.new.self (IsShut first) (IsOpening x y) (λ b s. inr (to b s)) before.1,
    )
