use Rattle.std.proofs.Common.{◌≡◌, ◌∙◌, sym, ap, true, false}
use Rattle.session_definitions.specs.Asked.{Asked}
use Rattle.session_definitions.specs.World.{is_live}
use Rattle.sessions.specs.OfCore.{slots_of, world_of}
use Rattle.scripts.proofs.Keeping.{good_seen, kept_step}
use Rattle.scripts.specs.Settled.{store_of}
use Rattle.csvio.proofs.Counted.{counted_behind}
use Rattle.csvio.specs.Loading.{PutsIn, commit_text}
use Rattle.std.proofs.Math.Nat.{le_trans}
use Rattle.csvio.proofs.loading.put_in.Goals as goal

pub returns-then-is_refused-clause-puts_in : goal.returns-then-is_refused-clause-puts_in
returns-then-is_refused-clause-puts_in g c = λ rules are kept live.
    let core = c.args.core.now in
    let good = good_seen rules.check (g.S.Store.shows core.store) core.writer (slots_of core) c.args.session.number kept.sound.order live kept.good in
    PutsIn.refused (c.insert_rows-inserted.ensures.step rules are kept.sound live good) (sym c.is_refused.ensures ∙ c.if-is_refused.true)

pub returns-then-is_refused-clause-kept : goal.returns-then-is_refused-clause-kept
returns-then-is_refused-clause-kept g c = λ rules are kept.
    kept_step g.S.Store.is_sound g.S.Store.shows rules (λ start end moments. c.databases_stay_good.ensures.run rules start end moments are) c.args.core.now c.insert_rows-inserted.new.self c.args.session
    (Asked.Insert c.args.table.now c.args.rows) c.insert_rows-inserted.result (c.insert_rows-inserted.ensures.step rules are) (c.insert_rows-inserted.ensures.sound rules are) (λ dead. (c.insert_rows-inserted.ensures.ended dead).1) kept

pub returns-clause-puts_in : goal.returns-clause-puts_in
returns-clause-puts_in g c = λ rules are kept live.
    let shows = g.S.Store.shows in
    let core = c.args.core.now in
    let mid = c.insert_rows-inserted.new.self in
    let n = c.args.session.number in
    let good = good_seen rules.check (shows core.store) core.writer (slots_of core) n kept.sound.order live kept.good in
    let kept_mid = kept_step g.S.Store.is_sound shows rules (λ start end moments. c.databases_stay_good.ensures.run rules start end moments are) core mid c.args.session
    (Asked.Insert c.args.table.now c.args.rows) c.insert_rows-inserted.result (c.insert_rows-inserted.ensures.step rules are) (c.insert_rows-inserted.ensures.sound rules are) (λ dead. (c.insert_rows-inserted.ensures.ended dead).1) kept in
    let live_mid : is_live (world_of shows mid) n ≡ true = c.insert_rows-inserted.ensures.live n ∙ live in
    let good_mid = good_seen rules.check (shows mid.store) mid.writer (slots_of mid) n kept_mid.sound.order live_mid kept_mid.good in
    PutsIn.accepted (world_of shows mid) c.insert_rows-inserted.result c.step-committed.result (c.insert_rows-inserted.ensures.step rules are kept.sound live good) (sym c.is_refused.ensures ∙ c.if-is_refused.false)
    (c.step-committed.ensures.step rules are kept_mid.sound live_mid good_mid) c.first_refusal.ensures

pub returns-clause-kept : goal.returns-clause-kept
returns-clause-kept g c = λ rules are kept.
    let kept_mid = kept_step g.S.Store.is_sound g.S.Store.shows rules (λ start end moments. c.databases_stay_good.ensures.run rules start end moments are) c.args.core.now c.insert_rows-inserted.new.self c.args.session
    (Asked.Insert c.args.table.now c.args.rows) c.insert_rows-inserted.result (c.insert_rows-inserted.ensures.step rules are) (c.insert_rows-inserted.ensures.sound rules are) (λ dead. (c.insert_rows-inserted.ensures.ended dead).1) kept in
    kept_step g.S.Store.is_sound g.S.Store.shows rules (λ start end moments. c.databases_stay_good.ensures.run rules start end moments are) c.insert_rows-inserted.new.self c.step-committed.new.self c.args.session
    (Asked.Text commit_text) c.step-committed.result (c.step-committed.ensures.step rules are) (c.step-committed.ensures.sound rules are) (λ dead. (c.step-committed.ensures.ended dead).1) kept_mid

pub returns-clause-live : goal.returns-clause-live
returns-clause-live g c = λ s. c.step-committed.ensures.live s ∙ c.insert_rows-inserted.ensures.live s

pub returns-clause-device : goal.returns-clause-device
returns-clause-device g c =
    let refused = g.S.Store.refused in
    rw c.first_refusal.ensures
    (counted_behind c.insert_rows-inserted.result c.step-committed.result (refused (store_of c.args.core.now)) (refused (store_of c.insert_rows-inserted.new.self)) (refused (store_of c.step-committed.new.self))
    c.insert_rows-inserted.ensures.counts (sym c.is_refused.ensures ∙ c.if-is_refused.false) c.step-committed.ensures.device)

pub returns-then-is_refused-clause-device : goal.returns-then-is_refused-clause-device
returns-then-is_refused-clause-device g c = c.insert_rows-inserted.ensures.device

pub returns-then-is_refused-clause-live : goal.returns-then-is_refused-clause-live
returns-then-is_refused-clause-live g c = c.insert_rows-inserted.ensures.live

pub returns-then-is_refused-clause-counts : goal.returns-then-is_refused-clause-counts
returns-then-is_refused-clause-counts g c = c.insert_rows-inserted.ensures.counts

pub returns-clause-counts : goal.returns-clause-counts
returns-clause-counts g c = le_trans c.insert_rows-inserted.ensures.counts c.step-committed.ensures.counts
