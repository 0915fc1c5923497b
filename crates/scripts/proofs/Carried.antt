-- What was carried out, one piece after another, and what was written of it.
use Rattle.std.proofs.Common.{◌≡◌, refl, ap, sym, subst, ◌∙◌, ℕ, ◌<◌, ◌≤◌, ◌+◌, ◌-◌, ◌||◌, Bool, true, false, List, [], ◌∷◌, ◌++◌, append_assoc, append-nil, take, take-append-drop, drop, replicate, get_or, length, Option, Some, None, Ok, Err, inl, inr, arith}
use Rattle.std.specs.Prelude.{Result, MatchResult}
use Rattle.std.specs.Option.{ForSome, option_map}
use Rattle.std.specs.FinMap.{get, insert}
use Rattle.std.specs.Io.KnownBytes.{Consumes, IsAtEnd, Keeps}
use Rattle.std.proofs.KnownBytes.{Appends-trans, Appends-nil, Appends-kept, Consumes-nil, Consumes-trans, Consumes-kept}
use Rattle.std.proofs.Math.Bool.{or-false}
use Rattle.std.proofs.lemmas.Bool.{true≢false}
use Rattle.std.proofs.lemmas.List.{drop_more, take_more, same_from_push}
use Rattle.std.proofs.lemmas.List.Recursion.{or_push}
use Rattle.lexer.specs.Token.{Bytes}
use Rattle.refusals.specs.declared.refusal.Refusal.{Refusal}
use Rattle.replies.specs.declared.reply.Reply.{Reply}
use Rattle.replies.specs.declared.reply.Reply.TheVariants as says
use Rattle.replies.specs.Printed.{printed_reply}
use Rattle.replies.specs.Refused.{is_refusal}
use Rattle.replies.specs.Writes.{Writes}
use Rattle.script_pieces.specs.declared.cutter.Cutter.{Cutter}
use Rattle.script_pieces.specs.declared.request.Request as found
use Rattle.script_pieces.specs.declared.request.Request.TheVariants as found_variants
use Rattle.script_pieces.specs.PieceMeaning.{Request, Asks, here}
use Rattle.script_pieces.specs.Pieces.{AreEnded}
use Rattle.script_pieces.specs.Cutter.{HasRead, GoesOn, EndsAt, asked}
use Rattle.script_pieces.proofs.OneRequest.{one_request}
use Rattle.session_definitions.specs.Rules.{Rules}
use Rattle.session_definitions.specs.Run.{MakesSession}
use Rattle.session_definitions.specs.Script.{Scene, Plays, Performs, ArePlayed, RepliesToFlush, first_scene, choosing, has_refusal, is_refused, printed_replies}
use Rattle.session_definitions.specs.Step.{Step}
use Rattle.session_definitions.specs.World.{World, is_live}
use Rattle.session_laws.proofs.Live.{made_live}
use Rattle.transactions.specs.Refused.{Counts, IfRefused, TellsReached}
use Rattle.sessions.specs.declared.core_of.SessionId.{SessionId}
use Rattle.sessions.specs.OfCore.{number_of}
use Rattle.scripts.specs.declared.script.Sessions.{Sessions}
use Rattle.scripts.specs.Settled.{Places}
use Rattle.scripts.specs.ToldLimits.{Ever, RequestReaches, UpTo}
use Rattle.scripts.specs.Played.{ArePiecesSoFar, AreWrittenButLast}
use Rattle.scripts.specs.Shown.{Prints, IsReplied, AreReplied}
use Rattle.scripts.specs.Playing.{Start, scene_of, numbers_of, standing_from, AreLive, IsReady, FindsSession, IsCarriedOut, HasPlayed, IsPlaying, HasStopped, HasPrinted, HasBroken, HasFinished, HasEnded, IsReading, FindsNone}
use Rattle.scripts.proofs.Standing.{none_standing, none_numbered, get_standing, set_standing, live_alike, live_made, live_at}
use Rattle.scripts.proofs.Limits.{limits_later, limits_more, piece_told}
use Rattle.scripts.proofs.Commits.{performs_grows}
use Rattle.scripts.proofs.Counting.{told_first, told_more, told_on, told_risen}
use Rattle.scripts.proofs.Pieces.{cut_nothing, cut_on, cut_at, cut_ended, cut_later, cut_last, cut_none}

-- ---- a call

chosen_at : (w : World) (sessions : Sessions) → get (scene_of w sessions).standing (scene_of w sessions).chosen ≡ option_map number_of (get_or sessions.standing sessions.chosen None)
chosen_at w sessions =
    let e : sessions.chosen + 1 ≡ 1 + sessions.chosen = omega arith in
    ap (get (standing_from 1 sessions.standing)) e ∙ get_standing sessions.standing 1 sessions.chosen

module _ (rules : Rules) (old mid new : World) (before after : Sessions) (session : SessionId) where
  pub plays_found : (text : Bytes) (reply : Reply) → FindsSession old before session mid after → Step rules mid (number_of session) text reply new
      → Plays rules (scene_of old before) text reply (scene_of new after)
  plays_found text reply (FindsSession.stood is same_world same) step =
      subst (λ (sessions : Sessions). Plays rules (scene_of old before) text reply (scene_of new sessions)) (sym same)
      (Plays.stands_already (number_of session) new (chosen_at old before ∙ ap (option_map number_of) is)
      (subst (λ (w : World). Step rules w (number_of session) text reply new) same_world step) refl)
  plays_found text reply (FindsSession.made within empty makes same) step =
      subst (λ (sessions : Sessions). Plays rules (scene_of old before) text reply (scene_of new sessions)) (sym same)
      (Plays.made_now (number_of session) mid new (chosen_at old before ∙ ap (option_map number_of) empty) makes step
      (λ i. record {
        world = new;
        chosen = before.chosen + 1;
        standing = (let e : 1 + before.chosen ≡ before.chosen + 1 = omega arith in
            set_standing before.standing 1 before.chosen session within empty ∙ ap (λ n. insert (standing_from 1 before.standing) n (number_of session)) e) i;
      }))

  pub ready_found : FindsSession old before session mid after → IsReady old before → IsReady mid after
  ready_found (FindsSession.stood is same_world same) ready =
      subst (λ (w : World). IsReady w after) (sym same_world) (subst (λ (sessions : Sessions). IsReady old sessions) (sym same) ready)
  ready_found (FindsSession.made within empty makes same) ready =
      subst (λ (sessions : Sessions). IsReady mid sessions) (sym same)
      (record { live = live_made old mid before.standing before.chosen session empty makes ready.live; within = ready.within })

  pub live_found : FindsSession old before session mid after → IsReady old before → is_live mid (number_of session) ≡ true
  live_found (FindsSession.stood is same_world same) ready =
      subst (λ (w : World). is_live w (number_of session) ≡ true) (sym same_world) (live_at old before.standing before.chosen session is ready.live)
  live_found (FindsSession.made within empty makes same) ready = made_live old mid (number_of session) makes

-- the session was not made
pub plays_not_made : (rules : Rules) (old new : World) (before after : Sessions) (refusal : Refusal) (text : Bytes) → get_or before.standing before.chosen None ≡ None
    → MakesSession old (Err refusal) new → after ≡ before → Plays rules (scene_of old before) text (says.Refused refusal) (scene_of new after)
plays_not_made rules old new before after refusal text empty makes same =
    subst (λ (sessions : Sessions). Plays rules (scene_of old before) text (says.Refused refusal) (scene_of new sessions)) (sym same)
    (Plays.not_made refusal new (chosen_at old before ∙ ap (option_map number_of) empty) makes refl refl)

pub ready_not_made : (old new : World) (before after : Sessions) (refusal : Refusal) → FindsNone old before refusal new after → IsReady old before → IsReady new after
ready_not_made old new before after refusal none ready =
    subst (λ (w : World). IsReady w after) (sym none.refused.1) (subst (λ (sessions : Sessions). IsReady old sessions) (sym none.same) ready)

pub ready_alike : (old new : World) (sessions : Sessions) → ((k : ℕ) → is_live new k ≡ is_live old k) → IsReady old sessions → IsReady new sessions
ready_alike old new sessions same ready = record { live = live_alike old new (numbers_of sessions.standing) same ready.live; within = ready.within }

-- ---- a choice

pub chosen_scene : (w : World) (before after : Sessions) (k : ℕ) → 1 ≤ k → after ≡ record before { chosen = k - 1 } → scene_of w after ≡ choosing (scene_of w before) k
chosen_scene w before after k least is =
    ap (scene_of w) is ∙ (λ i. record { world = w; chosen = (let e : (k - 1) + 1 ≡ k = omega (arith, least) in e) i; standing = standing_from 1 before.standing })

pub chosen_ready : (w : World) (before after : Sessions) (k : ℕ) → 1 ≤ k → k ≤ 64 → after ≡ record before { chosen = k - 1 } → IsReady w before → IsReady w after
chosen_ready w before after k least most is ready =
    subst (λ (sessions : Sessions). IsReady w sessions) (sym is) (record { live = ready.live; within = omega (arith, least, most) })

-- ---- what a piece asks for

module _ (rules : Rules) (piece : List ℕ) (old new : World) (before mid after : Sessions) where
  pub performs_chooses : (k : ℕ) → Asks piece (Request.Chooses k) → after ≡ record before { chosen = k - 1 } → IsReady old before
      → Performs rules (scene_of old before) (Request.Chooses k) None (scene_of old after) × IsReady old after
  performs_chooses k asks is ready =
      ((refl, chosen_scene old before after k asks.asks.1.least is), chosen_ready old before after k asks.asks.1.least asks.asks.1.greatest is ready)

  pub performs_calls : (request : found.Request) (text call : List ℕ) (reply : Reply) → request ≡ found_variants.Calls None → call ≡ text
      → Plays rules (scene_of old before) call reply (scene_of new after) × IsReady new after
      → Performs rules (scene_of old before) (asked request text) (Some reply) (scene_of new after) × IsReady new after
  performs_calls request text call reply is same plays =
      subst (λ (q : found.Request). Performs rules (scene_of old before) (asked q text) (Some reply) (scene_of new after) × IsReady new after) (sym is)
      ((reply, subst (λ (t : List ℕ). Plays rules (scene_of old before) t reply (scene_of new after)) same plays.0, refl), plays.1)

  pub performs_chosen_call : (request : found.Request) (k : ℕ) (text call : List ℕ) (reply : Reply) → request ≡ found_variants.Calls (Some k) → Asks piece (asked request text)
      → mid ≡ record before { chosen = k - 1 } → call ≡ text → IsReady old before
      → (IsReady old mid → Plays rules (scene_of old mid) call reply (scene_of new after) × IsReady new after)
      → Performs rules (scene_of old before) (asked request text) (Some reply) (scene_of new after) × IsReady new after
  performs_chosen_call request k text call reply is asks chosen same ready calls =
      let asked_so = subst (λ (q : found.Request). Asks piece (asked q text)) is asks in
      let least = asked_so.asks.1.least in
      let plays = calls (chosen_ready old before mid k least asked_so.asks.1.greatest chosen ready) in
      subst (λ (q : found.Request). Performs rules (scene_of old before) (asked q text) (Some reply) (scene_of new after) × IsReady new after) (sym is) (
        (
          reply,
          subst (λ (scene : Scene). Plays rules scene text reply (scene_of new after)) (chosen_scene old before mid k least chosen)
              (subst (λ (t : List ℕ). Plays rules (scene_of old mid) t reply (scene_of new after)) same plays.0),
          refl,
        ),
        plays.1,
      )

  pub performs_flushes : (reply : Reply) → RepliesToFlush reply → new ≡ old → IsReady old before
      → Performs rules (scene_of old before) Request.Flushes (Some reply) (scene_of new before) × IsReady new before
  performs_flushes reply replies same ready =
      ((reply, replies, refl, ap (λ (w : World). scene_of w before) same), subst (λ (w : World). IsReady w before) (sym same) ready)

-- what is printed for it

pub prints_call : (request : found.Request) (chosen : Option ℕ) (text : List ℕ) (reply : Reply) → request ≡ found_variants.Calls chosen → Prints (asked request text) (Some reply)
prints_call request chosen text reply is = subst (λ (q : found.Request). Prints (asked q text) (Some reply)) (sym is) (by chosen)
  where
    by : (chosen : Option ℕ) → Prints (asked (found_variants.Calls chosen) text) (Some reply)
    by None = refl
    by (Some session) = refl

pub prints_flush : (request : found.Request) (text : List ℕ) (reply : Reply) → request ≡ found_variants.Flushes → RepliesToFlush reply → Prints (asked request text) (Some reply)
prints_flush request text reply is replies = subst (λ (q : found.Request). Prints (asked q text) (Some reply)) (sym is) (reply, replies, refl)

-- ---- printing

pub writes_nothing : (known : Option (List ℕ)) (is_done : Bool) → Writes known known is_done []
writes_nothing known is_done = record { front = []; rest = []; whole = refl; taken = Appends-nil known; complete = λ _. refl }

pub writes_reply : (held holds : Option (List ℕ)) (is_done : Bool) (reply : Reply) → Writes held holds is_done (printed_reply reply) → Writes held holds is_done (printed_replies (Some reply ∷ []))
writes_reply held holds is_done reply writes = subst (Writes held holds is_done) (sym (append-nil (printed_reply reply))) writes

module _ (known : Option Rules) (piece : List ℕ) (request : Request) (old new : World) (before mid after : Sessions) (held holds : Option (List ℕ)) (m n : ℕ) (is_done : Bool) where
  -- a piece without a reply
  pub carried_silently : Asks piece request → Prints request None
      → ForSome known (λ rules. IsReady old before → Performs rules (scene_of old before) request None (scene_of new after) × IsReady new after) → after.refused ≡ before.refused → m ≤ n
      → IsCarriedOut known piece old before new after held held m n is_done
  carried_silently asks prints performs same counts = record {
    request = request;
    asks = asks;
    reply = None;
    prints = prints;
    performs = performs;
    answer = same ∙ sym (or-false before.refused);
    written = writes_nothing held is_done;
    device = λ is. absurd (true≢false (sym is));
    counts = counts;
    limits = tt;
    within = λ rules is. tt;
  }

  performed : (rules : Rules) (reply : Reply) → after ≡ record mid { refused = mid.refused || is_refusal reply }
      → Performs rules (scene_of old before) request (Some reply) (scene_of new mid) × IsReady new mid
      → Performs rules (scene_of old before) request (Some reply) (scene_of new after) × IsReady new after
  performed rules reply noted performs = (
    subst (λ (sessions : Sessions). Performs rules (scene_of old before) request (Some reply) (scene_of new sessions)) (sym noted) performs.0,
    subst (λ (sessions : Sessions). IsReady new sessions) (sym noted) (record { live = performs.1.live; within = performs.1.within }),
  )

  pub carried_printing : (reply : Reply) → Asks piece request → Prints request (Some reply)
      → ForSome known (λ rules. IsReady old before → Performs rules (scene_of old before) request (Some reply) (scene_of new mid) × IsReady new mid) → mid.refused ≡ before.refused
      → after ≡ record mid { refused = mid.refused || is_refusal reply } → Writes held holds is_done (printed_reply reply)
      → Counts reply m n → m ≤ n → IfRefused reply (TellsReached (RequestReaches Ever request)) → ForSome known (λ _. IfRefused reply (TellsReached (RequestReaches (UpTo new.commits) request)))
      → IsCarriedOut known piece old before new after held holds m n is_done
  carried_printing reply asks prints performs same noted writes device counts limits within = record {
    request = request;
    asks = asks;
    reply = Some reply;
    prints = prints;
    performs = λ rules is ready. performed rules reply noted (performs rules is ready);
    answer = ap (λ (sessions : Sessions). sessions.refused) noted ∙ ap (λ b. b || is_refusal reply) same;
    written = writes_reply held holds is_done reply writes;
    device = told_risen reply m n device;
    counts = counts;
    limits = piece_told Ever piece request reply asks limits;
    within = λ rules is. piece_told (UpTo new.commits) piece request reply asks (within rules is);
  }

-- ---- one more piece

played_more : (rules : Rules) (first mid new : Scene) (pieces : List (List ℕ)) (replies : List (Option Reply)) (piece : List ℕ) (request : Request) (reply : Option Reply)
    → ArePlayed rules first pieces replies mid → Asks piece request → Performs rules mid request reply new
    → ArePlayed rules first (pieces ++ piece ∷ []) (replies ++ reply ∷ []) new
played_more rules first mid new [] replies piece request reply (none, same) asks performs =
    (request, reply, new, [], asks, subst (λ (scene : Scene). Performs rules scene request reply new) same performs, (refl, refl), ap (λ l. l ++ reply ∷ []) none)
played_more rules first mid new (p ∷ pieces) replies piece request reply (q, r, scene, others, asked_first, performed, more, is) asks performs =
    (q, r, scene, others ++ reply ∷ [], asked_first, performed, played_more rules scene mid new pieces others piece request reply more asks performs, ap (λ l. l ++ reply ∷ []) is)

printed_more : (replies : List (Option Reply)) (reply : Option Reply) → printed_replies (replies ++ reply ∷ []) ≡ printed_replies replies ++ printed_replies (reply ∷ [])
printed_more [] reply = refl
printed_more (None ∷ replies) reply = printed_more replies reply
printed_more (Some r ∷ replies) reply =
    ap (λ l. printed_reply r ++ l) (printed_more replies reply) ∙ sym (append_assoc (printed_reply r) (printed_replies replies) (printed_replies (reply ∷ [])))

refusal_more : (replies : List (Option Reply)) (reply : Option Reply) → has_refusal (replies ++ reply ∷ []) ≡ (has_refusal replies || is_refused reply)
refusal_more = or_push has_refusal is_refused refl (λ x xs. refl)

replied_more : (pieces : List (List ℕ)) (replies : List (Option Reply)) (piece : List ℕ) (reply : Option Reply) → AreReplied pieces replies → IsReplied piece reply
    → AreReplied (pieces ++ piece ∷ []) (replies ++ reply ∷ [])
replied_more [] [] piece reply h one = (one, tt)
replied_more (p ∷ pieces) (r ∷ replies) piece reply h one = (h.0, replied_more pieces replies piece reply h.1 one)
replied_more [] (r ∷ replies) piece reply h one = absurd h
replied_more (p ∷ pieces) [] piece reply h one = absurd h

text_more : (printed written front rest text : List ℕ) → printed ≡ written ++ [] → text ≡ front ++ rest → printed ++ text ≡ (written ++ front) ++ rest
text_more printed written front rest text e f =
    ap (λ l. l ++ text) (e ∙ append-nil written) ∙ ap (λ l. written ++ l) f ∙ sym (append_assoc written front rest)

-- one reply more, of which some was written
pub written_but_next : (replies : List (Option Reply)) (reply : Option Reply) (written more : List ℕ) → printed_replies replies ≡ written ++ [] → AreWrittenButLast (replies ++ reply ∷ []) (written ++ more)
written_but_next replies reply written more text = λ front last is.
    let same : replies ≡ front = (same_from_push replies front reply last is).0 in
    (more, ap (λ l. l ++ more) (sym (append-nil written) ∙ sym text ∙ ap printed_replies same))

-- some bytes more were written
pub written_on : (replies : List (Option Reply)) (written more : List ℕ) → AreWrittenButLast replies written → AreWrittenButLast replies (written ++ more)
written_on replies written more h = λ front last is.
    let part = h front last is in
    (part.0 ++ more, ap (λ l. l ++ more) part.1 ∙ append_assoc (printed_replies front) part.0 more)

pub none_written : AreWrittenButLast [] []
none_written [] last is = absurd (cc)
none_written (r ∷ front) last is = absurd (cc)

grown : (rules : Rules) (old new : World) (before after : Sessions) (request : Request) (reply : Option Reply) → Performs rules (scene_of old before) request reply (scene_of new after)
    → old.commits ≤ new.commits
grown rules old new before after request reply performs = performs_grows rules (scene_of old before) request reply (scene_of new after) performs

module _ (start : Start) where
  pub played_next : (pieces : List (List ℕ)) (piece : List ℕ) (old new : World) (before after : Sessions) (had has : Option (List ℕ)) (m n : ℕ) (is_done : Bool)
      → HasPlayed start pieces [] old before had m
      → (c : IsCarriedOut start.known piece old before new after had has m n is_done)
      → HasPlayed start (pieces ++ piece ∷ []) c.written.rest new after has n
  played_next pieces piece old new before after had has m n is_done h c = record {
    replies = h.replies ++ c.reply ∷ [];
    replied = replied_more pieces h.replies piece c.reply h.replied (c.request, c.asks, c.prints);
    carried_out = λ rules is. played_more rules (first_scene start.world) (scene_of old before) (scene_of new after) pieces h.replies piece c.request c.reply (h.carried_out rules is) c.asks
        (c.performs rules is (h.ready rules is)).0;
    ready = λ rules is. (c.performs rules is (h.ready rules is)).1;
    answer = c.answer ∙ ap (λ b. b || is_refused c.reply) h.answer ∙ sym (refusal_more h.replies c.reply);
    written = h.written ++ c.written.front;
    text = printed_more h.replies c.reply ∙ text_more (printed_replies h.replies) h.written c.written.front c.written.rest (printed_replies (c.reply ∷ [])) h.text c.written.whole;
    taken = Appends-trans start.held had has h.written c.written.front h.taken c.written.taken;
    at_last = written_but_next h.replies c.reply h.written c.written.front h.text;
    device = told_more h.replies c.reply start.refused m n h.device c.device c.counts;
    limits = limits_more Ever pieces h.replies piece c.reply h.limits c.limits;
    within = λ rules is. limits_more (UpTo new.commits) pieces h.replies piece c.reply
        (limits_later old.commits new.commits (grown rules old new before after c.request c.reply (c.performs rules is (h.ready rules is)).0) pieces h.replies (h.within rules is)) (c.within rules is);
  }

  pub all_written : (pieces : List (List ℕ)) (rest : List ℕ) (w : World) (sessions : Sessions) (has : Option (List ℕ)) (n : ℕ) → rest ≡ []
      → HasPlayed start pieces rest w sessions has n → HasPlayed start pieces [] w sessions has n
  all_written pieces rest w sessions has n none h = subst (λ l. HasPlayed start pieces l w sessions has n) none h

  pub played_kept : (pieces : List (List ℕ)) (rest : List ℕ) (w : World) (sessions : Sessions) (had has : Option (List ℕ)) (n : ℕ) → Keeps had has
      → HasPlayed start pieces rest w sessions had n → HasPlayed start pieces rest w sessions has n
  played_kept pieces rest w sessions had has n keeps h = record {
    replies = h.replies;
    replied = h.replied;
    carried_out = h.carried_out;
    ready = h.ready;
    answer = h.answer;
    written = h.written;
    text = h.text;
    taken = Appends-kept start.held had has h.written h.taken keeps;
    at_last = h.at_last;
    device = h.device;
    limits = h.limits;
    within = h.within;
  }

  -- ---- bytes

  pub begins : (cutter : Cutter) (sessions : Sessions) → HasRead [] cutter → scene_of start.world sessions ≡ first_scene start.world → IsReady start.world sessions → sessions.refused ≡ false
      → IsPlaying start [] start.world cutter sessions start.held start.refused
  begins cutter sessions read first ready answer = record {
    pieces = [];
    cut = cut_nothing cutter read;
    played = record {
      replies = [];
      replied = tt;
      carried_out = λ rules is. (refl, first);
      ready = λ rules is. ready;
      answer = answer;
      written = [];
      text = refl;
      taken = Appends-nil start.held;
      at_last = none_written;
      device = told_first start.refused;
      limits = tt;
      within = λ rules is. tt;
    };
  }

  pub goes_on : (input : List ℕ) (w : World) (old new : Cutter) (sessions : Sessions) (holds : Option (List ℕ)) (n b : ℕ)
      → IsPlaying start input w old sessions holds n → GoesOn old b new → IsPlaying start (input ++ b ∷ []) w new sessions holds n
  goes_on input w old new sessions holds n b p goes = record { pieces = p.pieces; cut = cut_on input p.pieces old new b p.cut goes; played = p.played }

  pub ends_piece : (input : List ℕ) (old new : World) (cutter ended cleared : Cutter) (before after : Sessions) (had has : Option (List ℕ)) (m n b : ℕ) (request : found.Request)
      (p : IsPlaying start input old cutter before had m) → EndsAt cutter b request ended → HasRead [] cleared
      → IsCarriedOut start.known (p.cut.bytes ++ b ∷ []) old before new after had has m n true
      → IsPlaying start (input ++ b ∷ []) new cleared after has n
  ends_piece input old new cutter ended cleared before after had has m n b request p ends read c = record {
    pieces = p.pieces ++ (p.cut.bytes ++ b ∷ []) ∷ [];
    cut = cut_at input p.pieces cutter ended cleared b request p.cut ends read;
    played = all_written (p.pieces ++ (p.cut.bytes ++ b ∷ []) ∷ []) c.written.rest new after has n (c.written.complete refl)
        (played_next p.pieces (p.cut.bytes ++ b ∷ []) old new before after had has m n true p.played c);
  }

  pub stops_at : (input : List ℕ) (old new : World) (cutter ended : Cutter) (before after : Sessions) (had has : Option (List ℕ)) (m n b : ℕ) (request : found.Request) (more : List ℕ)
      (p : IsPlaying start input old cutter before had m) → EndsAt cutter b request ended
      → IsCarriedOut start.known (p.cut.bytes ++ b ∷ []) old before new after had has m n false
      → HasStopped start (AreEnded (input ++ b ∷ more)) new after has n
  stops_at input old new cutter ended before after had has m n b request more p ends c =
      let later = cut_later input p.pieces cutter ended b request more p.cut ends in
      record {
        done = p.pieces ++ (p.cut.bytes ++ b ∷ []) ∷ [];
        later = later.later;
        cut = later.are;
        unwritten = c.written.rest;
        played = played_next p.pieces (p.cut.bytes ++ b ∷ []) old new before after had has m n false p.played c;
      }

  -- ---- the last piece

  nothing_first : (front rest : List ℕ) → [] ≡ front ++ rest → (front ≡ []) × (rest ≡ [])
  nothing_first [] rest e = (refl, sym e)
  nothing_first (b ∷ front) rest e = absurd (cc e)

  asks_nothing : Asks [] Request.Nothing
  asks_nothing = record { body = []; begins = record { skipped = here []; firm = tt }; asks = record { rest = []; skipped = here []; finish = inl refl } }

  -- nothing stands behind the last semicolon
  prints_nothing : (request : Request) (reply : Option Reply) → request ≡ Request.Nothing → Prints request reply → reply ≡ None
  prints_nothing request reply is prints = subst (λ (q : Request). Prints q reply) is prints

  performs_nothing : (rules : Rules) (old new : Scene) (request : Request) (reply : Option Reply) → request ≡ Request.Nothing → Performs rules old request reply new → new ≡ old
  performs_nothing rules old new request reply is performs = (subst (λ (q : Request). Performs rules old q reply new) is performs).1

  played_nothing : (pieces : List (List ℕ)) (piece : List ℕ) (old new : World) (before after : Sessions) (had has : Option (List ℕ)) (m n : ℕ) (is_done : Bool) → piece ≡ []
      → HasPlayed start pieces [] old before had m
      → IsCarriedOut start.known piece old before new after had has m n is_done
      → HasPlayed start pieces [] new after has n
  played_nothing pieces piece old new before after had has m n is_done none h c =
      let is : c.request ≡ Request.Nothing = one_request [] c.request Request.Nothing (subst (λ l. Asks l c.request) none c.asks) asks_nothing in
      let silent : c.reply ≡ None = prints_nothing c.request c.reply is c.prints in
      let empty : [] ≡ c.written.front ++ c.written.rest = ap (λ (r : Option Reply). printed_replies (r ∷ [])) (sym silent) ∙ c.written.whole in
      let parts = nothing_first c.written.front c.written.rest empty in
      record {
        replies = h.replies;
        replied = h.replied;
        carried_out = λ rules at. subst (λ (scene : Scene). ArePlayed rules (first_scene start.world) pieces h.replies scene)
            (sym (performs_nothing rules (scene_of old before) (scene_of new after) c.request c.reply is (c.performs rules at (h.ready rules at)).0)) (h.carried_out rules at);
        ready = λ rules at. (c.performs rules at (h.ready rules at)).1;
        answer = c.answer ∙ ap (λ (r : Option Reply). before.refused || is_refused r) silent ∙ or-false before.refused ∙ h.answer;
        written = h.written ++ c.written.front;
        text = h.text ∙ ap (λ l. (h.written ++ l)) (sym parts.0) ∙ sym (append-nil (h.written ++ c.written.front));
        taken = Appends-trans start.held had has h.written c.written.front h.taken c.written.taken;
        at_last = written_on h.replies h.written c.written.front h.at_last;
        device = told_on h.replies start.refused m n h.device c.counts;
        limits = h.limits;
        within = λ rules at. limits_later old.commits new.commits (grown rules old new before after c.request c.reply (c.performs rules at (h.ready rules at)).0) pieces h.replies (h.within rules at);
      }

  pub finishes : (input : List ℕ) (old new : World) (cutter : Cutter) (before after : Sessions) (had has : Option (List ℕ)) (m n : ℕ) (is_done : Bool)
      (p : IsPlaying start input old cutter before had m)
      → IsCarriedOut start.known p.cut.bytes old before new after had has m n is_done
      → HasFinished start input is_done new after has n
  finishes input old new cutter before after had has m n is_done p c = by p.cut.bytes refl
    where
      by : (bytes : List ℕ) → p.cut.bytes ≡ bytes → HasFinished start input is_done new after has n
      by [] is = record {
        pieces = p.pieces;
        cut = cut_none input p.pieces cutter p.cut is;
        unwritten = [];
        complete = λ _. refl;
        played = played_nothing p.pieces p.cut.bytes old new before after had has m n is_done is p.played c;
      }
      by (b ∷ bytes) is = record {
        pieces = p.pieces ++ p.cut.bytes ∷ [];
        cut = cut_last input p.pieces cutter p.cut (λ none. let wrong : b ∷ bytes ≡ [] = sym is ∙ none in cc wrong);
        unwritten = c.written.rest;
        complete = c.written.complete;
        played = played_next p.pieces p.cut.bytes old new before after had has m n is_done p.played c;
      }

  pub finished_kept : (input : List ℕ) (w : World) (sessions : Sessions) (had has : Option (List ℕ)) (n : ℕ) (is_done : Bool) → Keeps had has
      → HasFinished start input true w sessions had n → HasFinished start input is_done w sessions has n
  finished_kept input w sessions had has n is_done keeps h = record {
    pieces = h.pieces;
    cut = h.cut;
    unwritten = [];
    complete = λ _. refl;
    played = played_kept h.pieces [] w sessions had has n keeps (all_written h.pieces h.unwritten w sessions had n (h.complete refl) h.played);
  }

  pub playing_kept : (input : List ℕ) (w : World) (cutter : Cutter) (sessions : Sessions) (had has : Option (List ℕ)) (n : ℕ) → Keeps had has
      → IsPlaying start input w cutter sessions had n → IsPlaying start input w cutter sessions has n
  playing_kept input w cutter sessions had has n keeps p = record { pieces = p.pieces; cut = p.cut; played = played_kept p.pieces [] w sessions had has n keeps p.played }

  -- the writer refused to pass on what it had taken
  pub playing_stopped : (input : List ℕ) (w : World) (cutter : Cutter) (sessions : Sessions) (had has : Option (List ℕ)) (n : ℕ) → Keeps had has
      → IsPlaying start input w cutter sessions had n → HasStopped start (AreEnded input) w sessions has n
  playing_stopped input w cutter sessions had has n keeps p = record {
    done = p.pieces;
    later = [];
    cut = subst (AreEnded input) (sym (append-nil p.pieces)) (cut_ended input p.pieces cutter p.cut);
    unwritten = [];
    played = played_kept p.pieces [] w sessions had has n keeps p.played;
  }

  pub passed_on : {A E : Type 0} (r : Result A E) (input : List ℕ) (w : World) (cutter : Cutter) (sessions : Sessions) (had has : Option (List ℕ)) (n : ℕ) → Keeps had has
      → IsPlaying start input w cutter sessions had n
      → MatchResult r (λ _. IsPlaying start input w cutter sessions has n) (λ _. HasStopped start (AreEnded input) w sessions has n)
  passed_on (Ok x) input w cutter sessions had has n keeps p = playing_kept input w cutter sessions had has n keeps p
  passed_on (Err e) input w cutter sessions had has n keeps p = playing_stopped input w cutter sessions had has n keeps p

-- ---- bytes, one after another

pub one_more : (input bytes : List ℕ) (i : ℕ) → i < length bytes → (input ++ take i bytes) ++ get_or bytes i 0 ∷ [] ≡ input ++ take (i + 1) bytes
one_more input bytes i within = append_assoc input (take i bytes) (get_or bytes i 0 ∷ []) ∙ ap (λ l. input ++ l) (sym (take_more bytes i 0 within))

pub the_rest : (input bytes : List ℕ) (i : ℕ) → i < length bytes → (input ++ take i bytes) ++ get_or bytes i 0 ∷ drop (i + 1) bytes ≡ input ++ bytes
the_rest input bytes i within =
    append_assoc input (take i bytes) (get_or bytes i 0 ∷ drop (i + 1) bytes)
    ∙ ap (λ l. input ++ (take i bytes ++ l)) (sym (drop_more bytes i 0 within)) ∙ ap (λ l. input ++ l) (take-append-drop i bytes)

-- ---- turns

module _ (start : Start) where
  -- the reader refused
  pub turn_unread : (old left has : Option (List ℕ)) (w : World) (cutter : Cutter) (sessions : Sessions) (n : ℕ) → Keeps old left
      → IsReading start old w cutter sessions has n → HasPrinted start AreEnded left w sessions has n
  turn_unread old left has w cutter sessions n keeps h = record {
    input = h.input;
    read = Consumes-kept start.given old left h.input h.read keeps;
    pieces = h.playing.pieces;
    cut = cut_ended h.input h.playing.pieces cutter h.playing.cut;
    played = h.playing.played;
  }

  -- the loop ended before the input did
  pub reading_ended : (left has : Option (List ℕ)) (w : World) (cutter : Cutter) (sessions : Sessions) (n : ℕ)
      → IsReading start left w cutter sessions has n → HasPrinted start AreEnded left w sessions has n
  reading_ended left has w cutter sessions n h = record {
    input = h.input;
    read = h.read;
    pieces = h.playing.pieces;
    cut = cut_ended h.input h.playing.pieces cutter h.playing.cut;
    played = h.playing.played;
  }

  -- some bytes were read, and their pieces carried out
  pub turn_on : (old left has : Option (List ℕ)) (input bytes : List ℕ) (w : World) (cutter : Cutter) (sessions : Sessions) (n : ℕ) → Consumes start.given old input → Consumes old left bytes
      → IsPlaying start (input ++ bytes) w cutter sessions has n → IsReading start left w cutter sessions has n
  turn_on old left has input bytes w cutter sessions n before read p = record { input = input ++ bytes; read = Consumes-trans start.given old left input bytes before read; playing = p }

  pub turn_broken : (old left has : Option (List ℕ)) (input bytes : List ℕ) (w : World) (sessions : Sessions) (n : ℕ) → Consumes start.given old input → Consumes old left bytes
      → HasStopped start (AreEnded (input ++ bytes)) w sessions has n → HasBroken start left w sessions has n
  turn_broken old left has input bytes w sessions n before read h = record {
    input = input ++ bytes;
    read = Consumes-trans start.given old left input bytes before read;
    stopped = record { done = h.done; later = h.later; cut = inl h.cut; unwritten = h.unwritten; played = h.played };
  }

  consumed_all : (old left : Option (List ℕ)) (input bytes : List ℕ) → bytes ≡ [] → Consumes start.given old input → Consumes old left bytes → Consumes start.given left input
  consumed_all old left input bytes none before read =
      subst (Consumes start.given left) (ap (λ l. input ++ l) none ∙ append-nil input) (Consumes-trans start.given old left input bytes before read)

  -- the input was at its end
  pub turn_ended : (old left has : Option (List ℕ)) (input bytes : List ℕ) (w : World) (sessions : Sessions) (n : ℕ) → bytes ≡ [] → Consumes start.given old input → Consumes old left bytes → IsAtEnd left
      → HasFinished start input true w sessions has n → HasEnded start left w sessions has n
  turn_ended old left has input bytes w sessions n none before read all h = record {
    all = all;
    printed = record {
      input = input;
      read = consumed_all old left input bytes none before read;
      pieces = h.pieces;
      cut = h.cut;
      played = all_written start h.pieces h.unwritten w sessions has n (h.complete refl) h.played;
    };
  }

  pub turn_stopped : (old left has : Option (List ℕ)) (input bytes : List ℕ) (w : World) (sessions : Sessions) (n : ℕ) → bytes ≡ [] → Consumes start.given old input → Consumes old left bytes → IsAtEnd left
      → HasFinished start input false w sessions has n → HasBroken start left w sessions has n
  turn_stopped old left has input bytes w sessions n none before read all h = record {
    input = input;
    read = consumed_all old left input bytes none before read;
    stopped = record {
      done = h.pieces;
      later = [];
      cut = subst (ArePiecesSoFar left input) (sym (append-nil h.pieces)) (inr (all, h.cut));
      unwritten = h.unwritten;
      played = h.played;
    };
  }

-- ---- the beginning

first_sessions : (start : World) (n : ℕ) → AreLive start (numbers_of (replicate n None))
first_sessions start n = subst (λ ss. AreLive start ss) (sym (none_numbered n)) tt

pub ready_at_first : (start : World) (n : ℕ) (sessions : Sessions) → sessions.standing ≡ replicate n None → sessions.chosen ≡ 0 → IsReady start sessions
ready_at_first start n sessions standing chosen = record {
  live = subst (λ (places : Places). AreLive start (numbers_of places)) (sym standing) (first_sessions start n);
  within = let e = chosen in omega (arith, e);
}

pub first_scene_is : (start : World) (n : ℕ) (sessions : Sessions) → sessions.standing ≡ replicate n None → sessions.chosen ≡ 0 → scene_of start sessions ≡ first_scene start
first_scene_is start n sessions standing chosen =
    λ i. record { world = start; chosen = (ap (λ k. k + 1) chosen) i; standing = (ap (standing_from 1) standing ∙ none_standing n 1) i }

pub begins_reading : (start : Start) (n : ℕ) (cutter : Cutter) (sessions : Sessions) → HasRead [] cutter
    → sessions.standing ≡ replicate n None → sessions.chosen ≡ 0 → sessions.refused ≡ false → IsReading start start.given start.world cutter sessions start.held start.refused
begins_reading start n cutter sessions read standing chosen refused = record {
  input = [];
  read = Consumes-nil start.given;
  playing = begins start cutter sessions read (first_scene_is start.world n sessions standing chosen) (ready_at_first start.world n sessions standing chosen) refused;
}
