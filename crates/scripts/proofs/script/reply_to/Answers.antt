use Rattle.std.proofs.Common.{rules, ◌≡◌, ◌∙◌, sym, subst, Some, None, refl, le_refl}
use Rattle.script_pieces.specs.declared.request.Request.TheVariants as found
use Rattle.script_pieces.specs.Cutter.{asked, call_text}
use Rattle.session_definitions.specs.World.{World}
use Rattle.sessions.specs.OfCore.{world_of}
use Rattle.scripts.specs.Settled.{HoldAll}
use Rattle.scripts.specs.ToldLimits.{Ever, UpTo}
use Rattle.scripts.specs.declared.script.Sessions.{Sessions}
use Rattle.scripts.proofs.Carried.{performs_calls, performs_chosen_call, prints_call, prints_flush}
use Rattle.scripts.proofs.Limits.{flush_told, request_told}
use Rattle.scripts.proofs.script.reply_to.Goals as goal

pub returns-in-Calls-None-clause-prints : goal.returns-in-Calls-None-clause-prints
returns-in-Calls-None-clause-prints g c =
    let is : c.args.request ≡ found.Calls None = search rules in
    prints_call c.args.request None (call_text c.args.cutter.now) c.call.result is

pub returns-in-Calls-Some-clause-prints : goal.returns-in-Calls-Some-clause-prints
returns-in-Calls-Some-clause-prints g c =
    let is : c.args.request ≡ found.Calls (Some c.in-Calls-Some.session) = search rules in
    prints_call c.args.request (Some c.in-Calls-Some.session) (call_text c.args.cutter.now) c.call-in-Calls-Some.result is

pub returns-in-Flushes-clause-prints : goal.returns-in-Flushes-clause-prints
returns-in-Flushes-clause-prints g c =
    let is : c.args.request ≡ found.Flushes = search rules in
    prints_flush c.args.request (call_text c.args.cutter.now) c.flush_all.result is c.flush_all.ensures.replies

pub returns-in-Calls-None-clause-performs : goal.returns-in-Calls-None-clause-performs
returns-in-Calls-None-clause-performs g c = λ r piece are h ready asks.
    let is : c.args.request ≡ found.Calls None = search rules in
    performs_calls r piece (world_of g.S.Store.shows c.args.core.now) (world_of g.S.Store.shows c.call.new.core) c.args.sessions.now c.args.sessions.now c.call.new.self
    c.args.request _ c.text.result.now c.call.result is c.text.ensures (c.call.ensures.plays r are h ready)

pub returns-in-Calls-Some-clause-performs : goal.returns-in-Calls-Some-clause-performs
returns-in-Calls-Some-clause-performs g c = λ r piece are h ready asks.
    let is : c.args.request ≡ found.Calls (Some c.in-Calls-Some.session) = search rules in
    performs_chosen_call r piece (world_of g.S.Store.shows c.args.core.now) (world_of g.S.Store.shows c.call-in-Calls-Some.new.core) c.args.sessions.now c.choose-in-Calls-Some.new.self c.call-in-Calls-Some.new.self
    c.args.request c.in-Calls-Some.session _ c.text-in-Calls-Some.result.now c.call-in-Calls-Some.result is asks c.choose-in-Calls-Some.ensures c.text-in-Calls-Some.ensures ready
    (λ ready_then. c.call-in-Calls-Some.ensures.plays r are h ready_then)

pub returns-in-Chooses-clause-held : goal.returns-in-Chooses-clause-held
returns-in-Chooses-clause-held g c = λ held. subst (λ (s : Sessions). HoldAll s.standing (world_of g.S.Store.shows c.args.core.now)) (sym c.choose.ensures) held

pub returns-in-Calls-Some-clause-held : goal.returns-in-Calls-Some-clause-held
returns-in-Calls-Some-clause-held g c = λ held.
    c.call-in-Calls-Some.ensures.held (subst (λ (s : Sessions). HoldAll s.standing (world_of g.S.Store.shows c.args.core.now)) (sym c.choose-in-Calls-Some.ensures) held)

pub returns-in-Flushes-clause-held : goal.returns-in-Flushes-clause-held
returns-in-Flushes-clause-held g c = λ held. subst (λ (w : World). HoldAll c.args.sessions.now.standing w) (sym c.flush_all.ensures.same) held

pub returns-in-Flushes-clause-kept : goal.returns-in-Flushes-clause-kept
returns-in-Flushes-clause-kept g c = λ r are h. c.flush_all.ensures.kept r h

pub returns-in-Calls-None-clause-flushes : goal.returns-in-Calls-None-clause-flushes
returns-in-Calls-None-clause-flushes g c = λ e.
    let is : c.args.request ≡ found.Calls None = search rules in
    let bad : found.Calls None ≡ found.Flushes = sym is ∙ e in absurd (cc)

pub returns-in-Calls-Some-clause-flushes : goal.returns-in-Calls-Some-clause-flushes
returns-in-Calls-Some-clause-flushes g c = λ e.
    let is : c.args.request ≡ found.Calls (Some c.in-Calls-Some.session) = search rules in
    let bad : found.Calls (Some c.in-Calls-Some.session) ≡ found.Flushes = sym is ∙ e in absurd (cc)

pub returns-in-Wrong-clause-flushes : goal.returns-in-Wrong-clause-flushes
returns-in-Wrong-clause-flushes g c = λ e.
    let is : c.args.request ≡ found.Wrong = search rules in
    let bad : found.Wrong ≡ found.Flushes = sym is ∙ e in absurd (cc)

pub returns-in-Flushes-clause-flushes : goal.returns-in-Flushes-clause-flushes
returns-in-Flushes-clause-flushes g c = λ e. c.flush_all.ensures.flushed

pub returns-in-Calls-None-clause-limits : goal.returns-in-Calls-None-clause-limits
returns-in-Calls-None-clause-limits g c =
    let is : c.args.request ≡ found.Calls None = search rules in
    request_told Ever c.args.request None _ c.text.result.now c.call.result is c.text.ensures c.call.ensures.limits

pub returns-in-Calls-Some-clause-limits : goal.returns-in-Calls-Some-clause-limits
returns-in-Calls-Some-clause-limits g c =
    let is : c.args.request ≡ found.Calls (Some c.in-Calls-Some.session) = search rules in
    request_told Ever c.args.request (Some c.in-Calls-Some.session) _ c.text-in-Calls-Some.result.now c.call-in-Calls-Some.result is c.text-in-Calls-Some.ensures c.call-in-Calls-Some.ensures.limits

pub returns-in-Flushes-clause-limits : goal.returns-in-Flushes-clause-limits
returns-in-Flushes-clause-limits g c = flush_told Ever (asked c.args.request (call_text c.args.cutter.now)) c.flush_all.result c.flush_all.ensures.replies

pub returns-in-Calls-None-clause-within : goal.returns-in-Calls-None-clause-within
returns-in-Calls-None-clause-within g c = λ r are h.
    let is : c.args.request ≡ found.Calls None = search rules in
    request_told (UpTo (world_of g.S.Store.shows c.call.new.core).commits) c.args.request None _ c.text.result.now c.call.result is c.text.ensures (c.call.ensures.within r are h)

pub returns-in-Calls-Some-clause-within : goal.returns-in-Calls-Some-clause-within
returns-in-Calls-Some-clause-within g c = λ r are h.
    let is : c.args.request ≡ found.Calls (Some c.in-Calls-Some.session) = search rules in
    request_told (UpTo (world_of g.S.Store.shows c.call-in-Calls-Some.new.core).commits) c.args.request (Some c.in-Calls-Some.session) _ c.text-in-Calls-Some.result.now c.call-in-Calls-Some.result is
    c.text-in-Calls-Some.ensures (c.call-in-Calls-Some.ensures.within r are h)

pub returns-in-Flushes-clause-within : goal.returns-in-Flushes-clause-within
returns-in-Flushes-clause-within g c = λ r are h.
    flush_told (UpTo (world_of g.S.Store.shows c.flush_all.new.core).commits) (asked c.args.request (call_text c.args.cutter.now)) c.flush_all.result c.flush_all.ensures.replies

pub returns-in-Nothing-clause-refused : goal.returns-in-Nothing-clause-refused
returns-in-Nothing-clause-refused g c = refl

pub returns-in-Nothing-clause-kept : goal.returns-in-Nothing-clause-kept
returns-in-Nothing-clause-kept g c = λ rules are kept. kept

pub returns-in-Nothing-clause-held : goal.returns-in-Nothing-clause-held
returns-in-Nothing-clause-held g c = λ held. held

pub returns-in-Nothing-clause-counts : goal.returns-in-Nothing-clause-counts
returns-in-Nothing-clause-counts g c = le_refl _

pub returns-in-Wrong-clause-refused : goal.returns-in-Wrong-clause-refused
returns-in-Wrong-clause-refused g c = refl

pub returns-in-Wrong-clause-kept : goal.returns-in-Wrong-clause-kept
returns-in-Wrong-clause-kept g c = λ rules are kept. kept

pub returns-in-Wrong-clause-held : goal.returns-in-Wrong-clause-held
returns-in-Wrong-clause-held g c = λ held. held

pub returns-in-Wrong-clause-counts : goal.returns-in-Wrong-clause-counts
returns-in-Wrong-clause-counts g c = le_refl _

pub returns-in-Chooses-clause-kept : goal.returns-in-Chooses-clause-kept
returns-in-Chooses-clause-kept g c = λ rules are kept. kept

pub returns-in-Chooses-clause-counts : goal.returns-in-Chooses-clause-counts
returns-in-Chooses-clause-counts g c = le_refl _

pub returns-in-Calls-None-clause-refused : goal.returns-in-Calls-None-clause-refused
returns-in-Calls-None-clause-refused g c = c.call.ensures.refused

pub returns-in-Calls-None-clause-device : goal.returns-in-Calls-None-clause-device
returns-in-Calls-None-clause-device g c = c.call.ensures.device

pub returns-in-Calls-None-clause-kept : goal.returns-in-Calls-None-clause-kept
returns-in-Calls-None-clause-kept g c = c.call.ensures.kept

pub returns-in-Calls-None-clause-held : goal.returns-in-Calls-None-clause-held
returns-in-Calls-None-clause-held g c = c.call.ensures.held

pub returns-in-Calls-None-clause-counts : goal.returns-in-Calls-None-clause-counts
returns-in-Calls-None-clause-counts g c = c.call.ensures.counts

pub returns-in-Calls-Some-clause-device : goal.returns-in-Calls-Some-clause-device
returns-in-Calls-Some-clause-device g c = c.call-in-Calls-Some.ensures.device

pub returns-in-Calls-Some-clause-kept : goal.returns-in-Calls-Some-clause-kept
returns-in-Calls-Some-clause-kept g c = c.call-in-Calls-Some.ensures.kept

pub returns-in-Calls-Some-clause-counts : goal.returns-in-Calls-Some-clause-counts
returns-in-Calls-Some-clause-counts g c = c.call-in-Calls-Some.ensures.counts

pub returns-in-Flushes-clause-device : goal.returns-in-Flushes-clause-device
returns-in-Flushes-clause-device g c = c.flush_all.ensures.device

pub returns-in-Flushes-clause-counts : goal.returns-in-Flushes-clause-counts
returns-in-Flushes-clause-counts g c = c.flush_all.ensures.counts

pub returns-in-Flushes-clause-refused : goal.returns-in-Flushes-clause-refused
returns-in-Flushes-clause-refused g c = refl
