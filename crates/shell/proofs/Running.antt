-- A script is carried out, and how it ended is said.
use Rattle.std.proofs.Common.{◌≡◌, ◌≤◌, ◌+◌, ◌-◌, ◌^◌, ℕ, Bool, true, false, List, Option, Result, Ok, Err, inl, inr, refl, sym, subst, arith}
use Rattle.std.specs.Prelude.{IfOk, IfErr, MatchResult, min}
use Rattle.denote.specs.Database.{Database, CheckReading}
use Rattle.replies.specs.declared.reply.Reply.{Reply}
use Rattle.session_definitions.specs.Rules.{Rules}
use Rattle.session_definitions.specs.Script.{Scene, ArePlayed}
use Rattle.session_definitions.specs.World.{World, opened}
use Rattle.session_laws.specs.Sound.{IsGoodWorld}
use Rattle.session_laws.specs.Damage.{has_damage}
use Rattle.store.specs.Errors.{HasRisen}
use Rattle.store.specs.Stored.{Stored}
use Rattle.sessions.specs.declared.core_of.Core.{Core}
use Rattle.sessions.specs.OfCore.{IsSound, world_of}
use Rattle.scripts.specs.declared.script.ScriptFault.{ScriptFault}
use Rattle.scripts.specs.declared.script.ScriptFault.TheVariants.{Memory, Reader, Writer}
use Rattle.scripts.specs.Played.{Streams, between, EndsEarly, RunsInPart, RunsWhole, replies_before}
use Rattle.scripts.specs.Settled.{HasNoSession, IsSettled}
use Rattle.scripts.specs.Device.{TellDevice, disk_count}
use Rattle.scripts.specs.Shown.{ShowsEarly, ShowsPieces, ShowsSome, ShowsWhole}
use Rattle.shell.specs.Status.{status_of}
use Rattle.endings.specs.Status.{IsStatus}
use Rattle.shell.specs.Runs.{CarriesOut, CarriesOutOver, Left, Runs, Says, ScriptEnds}

module _ (rules : Rules) (undamaged : (old new : Scene) (pieces : List (List ℕ)) (replies : List (Option Reply)) → ArePlayed rules old pieces replies new → has_damage replies ≡ false) where
  undamaged_before : (streams : Streams) (old : World) (fault : ScriptFault) (new : World) (early : EndsEarly rules streams old fault new)
      → has_damage (replies_before rules streams old fault new early) ≡ false
  undamaged_before streams old Memory new early = refl
  undamaged_before streams old (Reader error) new early = undamaged _ _ _ _ early.played.carried_out
  undamaged_before streams old (Writer error) new early = undamaged _ _ _ _ early.stopped.carried_out

  to_the_end : (streams : Streams) (old : World) (before : ℕ) (new : World) (after : ℕ) (refused : Bool) (status : ℕ) (is_told : Bool) → RunsWhole rules streams old before refused new after
      → status ≡ status_of (Ok refused) → is_told ≡ true → CarriesOutOver rules streams old before status is_told new after
  to_the_end streams old before new after refused status is_told ran is told = record {
    carried = CarriesOut.whole refused ran.all (undamaged _ _ _ _ ran.all.printed.played.carried_out) is told;
    device = ran.device;
  }

  -- by what the script answered
  pub carries_out : (old : World) (before : ℕ) (new : World) (after : ℕ) (given left held mid holds : Option (List ℕ)) (outcome : Result Bool ScriptFault) (status : ℕ) (is_told : Bool)
      → IfOk outcome (λ refused. RunsWhole rules (between given left held mid) old before refused new after)
      → IfErr outcome (λ fault. RunsInPart rules (between given left held mid) old before fault new after)
      → Says outcome is_told mid holds → status ≡ status_of outcome → CarriesOutOver rules (between given left held holds) old before status is_told new after
  carries_out old before new after given left held mid holds (Ok refused) status is_told all early says is =
      to_the_end (between given left held holds) old before new after refused status is_told
      (subst (λ (h : Option (List ℕ)). RunsWhole rules (between given left held h) old before refused new after) (sym says.0) all) is says.1
  carries_out old before new after given left held mid holds (Err fault) status is_told all early says is = record {
    carried = CarriesOut.early fault mid early.some (undamaged_before (between given left held mid) old fault new early.some) says is;
    device = early.device;
  }

-- a core that was opened
pub is_settled : {S L D : Type 0} (is_sound : S → Type 0) (shows : S → Stored) (reading : CheckReading) (core : Core S L D) (db : Database)
    → IsSound is_sound shows core → world_of shows core ≡ opened db → HasNoSession (world_of shows core) → IsGoodWorld reading (opened db) → IsSettled is_sound shows reading core
is_settled is_sound shows reading core db sound is none good = record { sound = sound; good = subst (IsGoodWorld reading) (sym is) good; ended = none }

-- ---- the count of refused calls

rises_from : (top a b c d : ℕ) → a ≤ b → b ≤ c → min (c + 1) top ≤ d → min (a + 1) top ≤ d
rises_from top a b c d one two more = omega (arith, one, two, more)

-- it was counted on since the store was opened, and rose when it was closed
pub risen_since : (device start end back : ℕ) → device ≤ start → start ≤ end → HasRisen end back → HasRisen device back
risen_since device start end back opened carried h = rises_from (2 ^ 64 - 1) device start end back opened carried h

-- each X0002 has a refused call of its own, counted from earlier on and to later
each_counted : (top told before start after back : ℕ) → before ≤ start → after ≤ back → min (told + start) top ≤ after → min (told + before) top ≤ back
each_counted top told before start after back least more h = omega (arith, least, more, h)

device_told : (replies : List (Option Reply)) (before start after back : ℕ) → before ≤ start → after ≤ back → TellDevice replies start after → TellDevice replies before back
device_told replies before start after back least more h = each_counted (2 ^ 64 - 1) (disk_count replies) before start after back least more h

-- ---- a run, by what it did

-- the store was closed: it counted what was refused since it was opened, and the device that it
-- gave back counts as many
module _ (rules : Rules) (old : World) (streams : Streams) (status : ℕ) (is_told : Bool) (left : Left → Type 0) (before start after back : ℕ) where
  pub closed_run : (end : World) → before ≤ start → after ≤ back → CarriesOutOver rules streams old start status is_told end after
      → ((told : ℕ) → min (told + before) (2 ^ 64 - 1) ≤ back → left (Left.committed end.last told)) → Runs rules old streams status is_told left
  closed_run end least more h kept = Runs.closed end h.carried (kept _ (each_counted (2 ^ 64 - 1) _ before start after back least more h.device))

-- the script was carried out in the world of the database that was opened
pub carried_from : (rules : Rules) (streams : Streams) (old start : World) (before status : ℕ) (is_told : Bool) (new : World) (after : ℕ) → old ≡ start
    → CarriesOutOver rules streams old before status is_told new after → CarriesOutOver rules streams start before status is_told new after
carried_from rules streams old start before status is_told new after is h = subst (λ (w : World). CarriesOutOver rules streams w before status is_told new after) is h

-- ---- over any store

-- what a script shows, counted from earlier on and to later
module _ (streams : Streams) (before start after back : ℕ) (least : before ≤ start) (more : after ≤ back) where
  pieces_shown : (cuts : List ℕ → List (List ℕ) → Type 0) → ShowsPieces cuts streams start after → ShowsPieces cuts streams before back
  pieces_shown cuts h = record {
    input = h.input;
    read = h.read;
    pieces = h.pieces;
    cut = h.cut;
    replies = h.replies;
    replied = h.replied;
    written = h.written;
    device = device_told h.replies before start after back least more h.device;
    limits = h.limits;
  }

  some_shown : ShowsSome streams start after → ShowsSome streams before back
  some_shown h = record {
    input = h.input;
    read = h.read;
    done = h.done;
    later = h.later;
    cut = h.cut;
    replies = h.replies;
    replied = h.replied;
    written = h.written;
    unwritten = h.unwritten;
    beginning = h.beginning;
    taken = h.taken;
    at_last = h.at_last;
    device = device_told h.replies before start after back least more h.device;
    limits = h.limits;
  }

  whole_shown : (refused : Bool) → ShowsWhole streams start refused after → ShowsWhole streams before refused back
  unfolding pieces_shown
  whole_shown refused h = record { all = h.all; shown = pieces_shown _ h.shown; answer = h.answer }

  early_shown : (fault : ScriptFault) → ShowsEarly streams start fault after → ShowsEarly streams before fault back
  early_shown Memory h = h
  early_shown (Reader error) h = pieces_shown _ h
  early_shown (Writer error) h = some_shown h

pub script_counted : (streams : Streams) (before start status : ℕ) (is_told : Bool) (after back : ℕ) → before ≤ start → after ≤ back → ScriptEnds streams start status is_told after
    → ScriptEnds streams before status is_told back
script_counted streams before start status is_told after back least more (ScriptEnds.whole refused h is told) =
    ScriptEnds.whole refused (whole_shown streams before start after back least more refused h) is told
script_counted streams before start status is_told after back least more (ScriptEnds.early fault mid h told is) =
    ScriptEnds.early fault mid (early_shown (between streams.given streams.left streams.held mid) before start after back least more fault h) told is

-- by what the script answered
pub script_ends : (before after : ℕ) (given left held mid holds : Option (List ℕ)) (outcome : Result Bool ScriptFault) (status : ℕ) (is_told : Bool)
    → MatchResult outcome (λ refused. ShowsWhole (between given left held mid) before refused after) (λ fault. ShowsEarly (between given left held mid) before fault after)
    → Says outcome is_told mid holds → status ≡ status_of outcome → ScriptEnds (between given left held holds) before status is_told after
script_ends before after given left held mid holds (Ok refused) status is_told shows says is =
    ScriptEnds.whole refused (subst (λ (h : Option (List ℕ)). ShowsWhole (between given left held h) before refused after) (sym says.0) shows) is says.1
script_ends before after given left held mid holds (Err fault) status is_told shows says is = ScriptEnds.early fault mid shows says is

-- the status of whatever the script answered
pub status_among : (outcome : Result Bool ScriptFault) (status : ℕ) → status ≡ status_of outcome → IsStatus status
status_among (Ok false) status is = inl is
status_among (Ok true) status is = inr (inl is)
status_among (Err fault) status is = inr (inr is)
