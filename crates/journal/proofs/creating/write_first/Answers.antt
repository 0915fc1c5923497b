use Rattle.std.proofs.Common.{◌≡◌, ◌∙◌, ◌≤◌, ℕ, [], ap, length, inr, List, refl, arith}
use Rattle.std.specs.Prelude.{Ok}
use Rattle.std.proofs.lemmas.Result.{err_from_is_err_and}
use Rattle.pagefile.proofs.PageLemmas.{made_new, partly_resized, partly_torn}
use Rattle.disk.specs.Keeping.{calm, then}
use Rattle.pagefile.specs.Whole.{IsPartlyMade}
use Rattle.journal.proofs.Making.{length_header_2, partly_cut, partly_within, resized_to}
use Rattle.journal.proofs.Steps.{length_set, range_written}
use Rattle.journal.proofs.States.{only_read, ok_any, err_any}
use Rattle.journal.proofs.creating.write_first.Goals as goal

pub returns-clause-made : goal.returns-clause-made
returns-clause-made g c =
    let size : length c.first_page.result ≡ 4096 =
    ap (λ (b : List ℕ). length b) c.first_page.ensures.bytes ∙ length_header_2 (record { page_count = 1; first_free = 0; catalog_root = 0 }) in
    ok_any c.sync.result
    (λ honest.
    c.sync.ensures.same honest
    ∙ made_new {E = ℕ} (Ok tt) (g.D.Disk.bytes c.args.disk.now) (g.D.Disk.bytes c.set_len.new.self) (g.D.Disk.bytes c.write_at.new.self) c.first_page.result size
    c.in_ok-set_len.ensures.resized c.in_ok-write_at.ensures.written honest
    ∙ c.first_page.ensures.bytes)

pub returns-clause-only : goal.returns-clause-only
returns-clause-only g c durable honest =
    only_read c.sync.result (g.D.Disk.bytes c.write_at.new.self) (g.D.Disk.bytes c.sync.new.self) (g.D.Disk.may_leave c.sync.new.self) (c.sync.ensures.same honest)
    (c.sync.ensures.durable durable)

pub returns-in_err-set_len-clause-left : goal.returns-in_err-set_len-clause-left
returns-in_err-set_len-clause-left g c =
    let p = err_from_is_err_and c.from_residual.result c.from_residual.ensures.1 in
    rw p.1 (λ honest. partly_resized _ _ (c.in_err-set_len.ensures.either honest))

pub returns-in_err-write_at-clause-left : goal.returns-in_err-write_at-clause-left
returns-in_err-write_at-clause-left g c =
    let size : length c.first_page.result ≡ 4096 =
    ap (λ (b : List ℕ). length b) c.first_page.ensures.bytes ∙ length_header_2 (record { page_count = 1; first_free = 0; catalog_root = 0 }) in
    let p = err_from_is_err_and c.from_residual-in_err-write_at.result c.from_residual-in_err-write_at.ensures.1 in
    rw p.1
    (λ honest.
    partly_torn (g.D.Disk.bytes c.args.disk.now) (g.D.Disk.bytes c.set_len.new.self) (g.D.Disk.bytes c.write_at.new.self) c.first_page.result size
    (c.in_ok-set_len.ensures.resized honest) (c.in_err-write_at.ensures.torn honest))

pub returns-clause-left : goal.returns-clause-left
returns-clause-left g c =
    let size : length c.first_page.result ≡ 4096 =
    ap (λ (b : List ℕ). length b) c.first_page.ensures.bytes ∙ length_header_2 (record { page_count = 1; first_free = 0; catalog_root = 0 }) in
    err_any c.sync.result
    (λ honest.
    inr (ap (λ (b : List ℕ). length b)
    (c.sync.ensures.same honest
    ∙ made_new {E = ℕ} (Ok tt) (g.D.Disk.bytes c.args.disk.now) (g.D.Disk.bytes c.set_len.new.self) (g.D.Disk.bytes c.write_at.new.self) c.first_page.result size
    c.in_ok-set_len.ensures.resized c.in_ok-write_at.ensures.written honest) ∙ size))

-- what a crash leaves of the length, and then of the page

pub returns-in_err-set_len-clause-keeps : goal.returns-in_err-set_len-clause-keeps
returns-in_err-set_len-clause-keeps g c durable honest =
    length_set g.D.Disk.moment g.D.Disk.left_since g.D.Disk.may_leave g.D.Disk.bytes (λ d b left. g.met.D.Disk.only_now d b durable left)
    c.args.disk.now c.set_len.new.self (IsPartlyMade []) 4096 4096 refl (c.set_len.ensures.crash durable) (c.set_len.ensures.time durable) partly_cut

pub returns-in_err-write_at-clause-keeps : goal.returns-in_err-write_at-clause-keeps
returns-in_err-write_at-clause-keeps g c durable honest =
    let size : length c.first_page.result ≡ 4096 =
    ap (λ (b : List ℕ). length b) c.first_page.ensures.bytes ∙ length_header_2 (record { page_count = 1; first_free = 0; catalog_root = 0 }) in
    let long : 4096 ≤ length (g.D.Disk.bytes c.set_len.new.self) = resized_to (g.D.Disk.bytes c.args.disk.now) _ (c.in_ok-set_len.ensures.resized honest) in
    then g.D.Disk.moment g.D.Disk.left_since g.D.Disk.may_leave c.args.disk.now c.set_len.new.self c.write_at.new.self (IsPartlyMade [])
    (length_set g.D.Disk.moment g.D.Disk.left_since g.D.Disk.may_leave g.D.Disk.bytes (λ d b left. g.met.D.Disk.only_now d b durable left)
    c.args.disk.now c.set_len.new.self (IsPartlyMade []) 4096 4096 refl (c.set_len.ensures.crash durable) (c.set_len.ensures.time durable) partly_cut)
    (range_written g.D.Disk.moment g.D.Disk.left_since g.D.Disk.may_leave g.D.Disk.bytes (λ d b left. g.met.D.Disk.only_now d b durable left)
    c.set_len.new.self c.write_at.new.self (IsPartlyMade []) 0 4096 0 (length c.first_page.result) refl size (c.write_at.ensures.crash durable)
    (c.write_at.ensures.time durable) (omega (arith, long)) partly_within)

pub returns-clause-keeps : goal.returns-clause-keeps
returns-clause-keeps g c durable honest =
    let size : length c.first_page.result ≡ 4096 =
    ap (λ (b : List ℕ). length b) c.first_page.ensures.bytes ∙ length_header_2 (record { page_count = 1; first_free = 0; catalog_root = 0 }) in
    let long : 4096 ≤ length (g.D.Disk.bytes c.set_len.new.self) = resized_to (g.D.Disk.bytes c.args.disk.now) _ (c.in_ok-set_len.ensures.resized honest) in
    then g.D.Disk.moment g.D.Disk.left_since g.D.Disk.may_leave c.args.disk.now c.write_at.new.self c.sync.new.self (IsPartlyMade [])
    (then g.D.Disk.moment g.D.Disk.left_since g.D.Disk.may_leave c.args.disk.now c.set_len.new.self c.write_at.new.self (IsPartlyMade [])
    (length_set g.D.Disk.moment g.D.Disk.left_since g.D.Disk.may_leave g.D.Disk.bytes (λ d b left. g.met.D.Disk.only_now d b durable left)
    c.args.disk.now c.set_len.new.self (IsPartlyMade []) 4096 4096 refl (c.set_len.ensures.crash durable) (c.set_len.ensures.time durable) partly_cut)
    (range_written g.D.Disk.moment g.D.Disk.left_since g.D.Disk.may_leave g.D.Disk.bytes (λ d b left. g.met.D.Disk.only_now d b durable left)
    c.set_len.new.self c.write_at.new.self (IsPartlyMade []) 0 4096 0 (length c.first_page.result) refl size (c.write_at.ensures.crash durable)
    (c.write_at.ensures.time durable) (omega (arith, long)) partly_within))
    (calm g.D.Disk.moment g.D.Disk.left_since g.D.Disk.may_leave (λ d b left. g.met.D.Disk.only_now d b durable left)
    c.write_at.new.self c.sync.new.self (IsPartlyMade []) (c.sync.ensures.crash durable) (c.sync.ensures.time durable))
