use Rattle.std.proofs.Common.{◌≡◌, ◌∙◌, ℕ, ◌≤◌, List, Option, refl, sym, ap, subst, inl, inr, arith}
use Rattle.disk.specs.Crashes.{Always, LeavesOnly}
use Rattle.disk.specs.Keeping.{joined}
use Rattle.journal.specs.Versions.{Version, IsAmong, IsCommittable, committed}
use Rattle.journal.proofs.Looking.{reads_keep}
use Rattle.last_version.specs.declared.version.LastVersion.{LastVersion}
use Rattle.last_version.specs.Lasts.{device_under, version_under, shown_by, refused_of}
use Rattle.last_version.proofs.HoldLemmas.{shown_same}
use Rattle.last_version.proofs.LastLemmas.{is_safe}
use Rattle.pool.specs.Follows.{IsCovered}
use Rattle.pool.specs.Images.{pinned_in}
use Rattle.pool.specs.Pages.{pick, pages_in}
use Rattle.pool.specs.Refused.{IsRefused}
use Rattle.pool.proofs.ReadyLemmas.{all_back}
use Rattle.pool.proofs.RefusalLemmas.{risen_later, broken_tells}
use Rattle.pool.proofs.commits.commit_over.Goals as goal

pub commit_images-requires-clause-whole : goal.commit_images-requires-clause-whole
commit_images-requires-clause-whole g c = c.make_ready.ensures.holds.broken ∙ c.requires.whole

pub commit_images-requires-clause-covered : goal.commit_images-requires-clause-covered
commit_images-requires-clause-covered g c = subst (λ (k : ℕ). IsCovered k c.args.images c.args.count) (sym c.make_ready.ensures.holds.count) c.requires.covered

pub returns-in-Ok-commit_images-clause-newest : goal.returns-in-Ok-commit_images-clause-newest
returns-in-Ok-commit_images-clause-newest g c = λ honest n.
    c.in-Ok-commit_images.ensures.shown honest n
    ∙ ap (λ (p : ℕ → Option (List ℕ)). pick (pages_in c.args.images n) (p n)) (shown_same c.args.file.now c.make_ready.new.file (c.make_ready.ensures.version honest))

pub returns-in-Ok-commit_images-clause-fewer : goal.returns-in-Ok-commit_images-clause-fewer
returns-in-Ok-commit_images-clause-fewer g c = λ n none. let less = c.commit_images.ensures.fewer n none in let same = c.make_ready.ensures.holds.waits n in omega (arith, less, same)

pub returns-in-Ok-commit_images-clause-any_moment : goal.returns-in-Ok-commit_images-clause-any_moment
returns-in-Ok-commit_images-clause-any_moment g c = λ durable honest may.
    let v = version_under c.args.file.now in
    let w = committed v c.args.images c.args.count in
    let safe = is_safe c.args.file.now honest c.requires.whole v w (inl refl) durable in
    let first = reads_keep g.D.Disk.is_honest g.D.Disk.is_durable g.D.Disk.bytes g.D.Disk.synced g.D.Disk.writes g.D.Disk.settled g.D.Disk.moment g.D.Disk.left_since g.D.Disk.may_leave
    (device_under c.args.file.now) (device_under c.make_ready.new.file) c.make_ready.ensures.reads durable (IsAmong v w) safe in
    let last = subst (λ (u : Version). IsCommittable u c.args.images c.args.count
    → Always (g.D.Disk.may_leave (device_under c.commit_images.new.file)) (IsAmong u (committed u c.args.images c.args.count))
    × LeavesOnly g.D.Disk.moment g.D.Disk.left_since (device_under c.make_ready.new.file) (device_under c.commit_images.new.file) (IsAmong u (committed u c.args.images c.args.count)))
    (c.make_ready.ensures.version honest) (c.commit_images.ensures.any_moment durable honest) may in (
      last.0,
      joined g.D.Disk.moment g.D.Disk.left_since (device_under c.args.file.now) (device_under c.make_ready.new.file) (device_under c.commit_images.new.file) (IsAmong v w) first.1 last.1,
    )

pub returns-in-Ok-commit_images-clause-idle : goal.returns-in-Ok-commit_images-clause-idle
returns-in-Ok-commit_images-clause-idle g c = λ none.
    ap (λ (f : LastVersion g.row.D.Denot g.D.Disk). g.D.Disk.writes (device_under f)) (c.commit_images.ensures.idle none) ∙ c.make_ready.ensures.reads.no_write

pub returns-in-Ok-commit_images-clause-rising : goal.returns-in-Ok-commit_images-clause-rising
returns-in-Ok-commit_images-clause-rising g c = let first = c.make_ready.ensures.rising in let same = c.in-Ok-commit_images.ensures.count in omega (arith, first, same)

pub returns-in-Ok-commit_images-clause-room : goal.returns-in-Ok-commit_images-clause-room
returns-in-Ok-commit_images-clause-room g c = c.commit_images.ensures.room ∙ c.make_ready.ensures.holds.room

pub returns-in-Err-commit_images-clause-same : goal.returns-in-Err-commit_images-clause-same
returns-in-Err-commit_images-clause-same g c = λ honest n.
    c.in-Err-commit_images.ensures.same honest n ∙ ap (λ (p : ℕ → Option (List ℕ)). p n) (shown_same c.args.file.now c.make_ready.new.file (c.make_ready.ensures.version honest))

pub returns-in-Err-commit_images-clause-left : goal.returns-in-Err-commit_images-clause-left
returns-in-Err-commit_images-clause-left g c =
    all_back c.args.numbers.now c.args.last (pinned_in c.args.pins.now) c.make_ready.new.touched c.args.slots.now c.make_ready.new.slots c.take_back.new.slots c.requires.old c.in-Ok.ensures.images c.take_back.ensures.same c.take_back.ensures.taken

pub returns-in-Err-commit_images-clause-fewer : goal.returns-in-Err-commit_images-clause-fewer
returns-in-Err-commit_images-clause-fewer g c = λ n none. let less = c.commit_images.ensures.fewer n none in let same = c.make_ready.ensures.holds.waits n in omega (arith, less, same)

pub returns-in-Err-commit_images-clause-any_moment : goal.returns-in-Err-commit_images-clause-any_moment
returns-in-Err-commit_images-clause-any_moment g c = λ durable honest may.
    let v = version_under c.args.file.now in
    let w = committed v c.args.images c.args.count in
    let safe = is_safe c.args.file.now honest c.requires.whole v w (inl refl) durable in
    let first = reads_keep g.D.Disk.is_honest g.D.Disk.is_durable g.D.Disk.bytes g.D.Disk.synced g.D.Disk.writes g.D.Disk.settled g.D.Disk.moment g.D.Disk.left_since g.D.Disk.may_leave
    (device_under c.args.file.now) (device_under c.make_ready.new.file) c.make_ready.ensures.reads durable (IsAmong v w) safe in
    let last = subst (λ (u : Version). IsCommittable u c.args.images c.args.count
    → Always (g.D.Disk.may_leave (device_under c.commit_images.new.file)) (IsAmong u (committed u c.args.images c.args.count))
    × LeavesOnly g.D.Disk.moment g.D.Disk.left_since (device_under c.make_ready.new.file) (device_under c.commit_images.new.file) (IsAmong u (committed u c.args.images c.args.count)))
    (c.make_ready.ensures.version honest) (c.commit_images.ensures.any_moment durable honest) may in (
      last.0,
      joined g.D.Disk.moment g.D.Disk.left_since (device_under c.args.file.now) (device_under c.make_ready.new.file) (device_under c.commit_images.new.file) (IsAmong v w) first.1 last.1,
    )

pub returns-in-Err-commit_images-clause-idle : goal.returns-in-Err-commit_images-clause-idle
returns-in-Err-commit_images-clause-idle g c = λ none.
    ap (λ (f : LastVersion g.row.D.Denot g.D.Disk). g.D.Disk.writes (device_under f)) (c.commit_images.ensures.idle none) ∙ c.make_ready.ensures.reads.no_write

pub returns-in-Err-commit_images-clause-refusal : goal.returns-in-Err-commit_images-clause-refusal
returns-in-Err-commit_images-clause-refusal g c =
    risen_later (refused_of c.args.file.now) (refused_of c.make_ready.new.file) (refused_of c.commit_images.new.file) c.make_ready.ensures.rising c.in-Err-commit_images.ensures.count

pub returns-in-Err-commit_images-clause-cause : goal.returns-in-Err-commit_images-clause-cause
returns-in-Err-commit_images-clause-cause g c = inl c.in-Err-commit_images.ensures.cause

pub returns-in-Err-commit_images-clause-rising : goal.returns-in-Err-commit_images-clause-rising
returns-in-Err-commit_images-clause-rising g c = let first = c.make_ready.ensures.rising in let more = c.in-Err-commit_images.ensures.count.no_less in omega (arith, first, more)

pub returns-in-Err-commit_images-clause-room : goal.returns-in-Err-commit_images-clause-room
returns-in-Err-commit_images-clause-room g c = c.commit_images.ensures.room ∙ c.make_ready.ensures.holds.room

pub break_for-requires : goal.break_for-requires
break_for-requires g c = c.make_ready.ensures.holds.broken ∙ c.requires.whole

pub returns-in-Err-clause-same : goal.returns-in-Err-clause-same
returns-in-Err-clause-same g c = λ honest n.
    ap (λ (p : ℕ → Option (List ℕ)). p n)
    (shown_same c.make_ready.new.file c.break_for.new.file (c.break_for.ensures.version honest) ∙ shown_same c.args.file.now c.make_ready.new.file (c.make_ready.ensures.version honest))

pub returns-in-Err-clause-fewer : goal.returns-in-Err-clause-fewer
returns-in-Err-clause-fewer g c = λ n none. let now = c.break_for.ensures.waits n in let same = c.make_ready.ensures.holds.waits n in omega (arith, now, same)

pub returns-in-Err-clause-any_moment : goal.returns-in-Err-clause-any_moment
returns-in-Err-clause-any_moment g c = λ durable honest may.
    let v = version_under c.args.file.now in
    let w = committed v c.args.images c.args.count in
    let safe = is_safe c.args.file.now honest c.requires.whole v w (inl refl) durable in
    let first = reads_keep g.D.Disk.is_honest g.D.Disk.is_durable g.D.Disk.bytes g.D.Disk.synced g.D.Disk.writes g.D.Disk.settled g.D.Disk.moment g.D.Disk.left_since g.D.Disk.may_leave
    (device_under c.args.file.now) (device_under c.make_ready.new.file) c.make_ready.ensures.reads durable (IsAmong v w) safe in
    subst (λ (d : g.row.D.Denot). Always (g.D.Disk.may_leave d) (IsAmong v w) × LeavesOnly g.D.Disk.moment g.D.Disk.left_since (device_under c.args.file.now) d (IsAmong v w))
    (sym c.break_for.ensures.device) first

pub returns-in-Err-clause-idle : goal.returns-in-Err-clause-idle
returns-in-Err-clause-idle g c = λ none. ap g.D.Disk.writes c.break_for.ensures.device ∙ c.make_ready.ensures.reads.no_write

pub returns-in-Err-clause-refusal : goal.returns-in-Err-clause-refusal
returns-in-Err-clause-refusal g c =
    subst (λ (n : ℕ). IsRefused ⊥ ⊥ (refused_of c.args.file.now) n c.in-Err.error) (sym c.break_for.ensures.refused) c.in-Err.ensures.refusal

pub returns-in-Err-clause-cause : goal.returns-in-Err-clause-cause
returns-in-Err-clause-cause g c = broken_tells _ _ c.in-Err.error c.break_for.ensures.breaks

pub returns-in-Err-clause-rising : goal.returns-in-Err-clause-rising
returns-in-Err-clause-rising g c = let first = c.make_ready.ensures.rising in let same = c.break_for.ensures.refused in omega (arith, first, same)

pub returns-in-Err-clause-room : goal.returns-in-Err-clause-room
returns-in-Err-clause-room g c = c.break_for.ensures.room ∙ c.make_ready.ensures.holds.room
