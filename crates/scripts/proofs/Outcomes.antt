-- What a run has shown and done, once the sessions of its script have ended.
use Rattle.std.proofs.Common.{◌≡◌, refl, sym, subst, ◌∙◌, ℕ, ◌≤◌, List, [], ◌++◌, append-nil, Option, Some, None}
use Rattle.std.proofs.lemmas.Option.{none-some, same_Some}
use Rattle.std.proofs.KnownBytes.{Keeps-refl}
use Rattle.std.specs.Io.KnownBytes.{Appends}
use Rattle.session_definitions.specs.Rules.{Rules, AreRules}
use Rattle.session_definitions.specs.Script.{EndsSessions, IsPlayed, IsStopped}
use Rattle.session_definitions.specs.World.{World}
use Rattle.store.specs.Stored.{Stored}
use Rattle.script_pieces.specs.Pieces.{ArePieces, AreEnded}
use Rattle.sessions.specs.declared.core_of.Core.{Core}
use Rattle.scripts.specs.declared.script.ScriptFault.{ScriptFault}
use Rattle.scripts.specs.declared.script.ScriptFault.TheVariants.{Memory, Reader, Writer}
use Rattle.scripts.specs.declared.script.Sessions.{Sessions}
use Rattle.scripts.specs.Settled.{IsKept, IsKeptBy}
use Rattle.scripts.specs.Played.{between, IsPrinted, IsWhole, IsCutShort, EndsEarly, RunsInPart, RunsWhole}
use Rattle.scripts.specs.Shown.{ShowsPieces, ShowsWhole, ShowsSome, ShowsNothing, ShowsEarly}
use Rattle.scripts.specs.Playing.{Start, scene_of, numbers_of, AreLive, HasPlayed, HasPrinted, HasBroken, HasEnded, HasFailed}
use Rattle.scripts.proofs.Standing.{values_standing}
use Rattle.scripts.proofs.Counting.{told_first, told_on}
use Rattle.scripts.proofs.Commits.{ends_grows}
use Rattle.scripts.proofs.Limits.{limits_later}

-- ---- what is known of the rules

module _ {S L D : Type 0} (is_sound : S → Type 0) (shows : S → Stored) where
  pub kept_by_none : (core : Core S L D) → IsKeptBy is_sound shows None core
  kept_by_none core = λ rules is. absurd (none-some rules is)

  pub kept_by : (rules : Rules) (core : Core S L D) → AreRules rules → IsKept is_sound shows rules.check core → IsKeptBy is_sound shows (Some rules) core
  kept_by rules core are kept = λ others is.
      let same : rules ≡ others = same_Some rules others is in
      subst (λ (r : Rules). AreRules r × IsKept is_sound shows r.check core) same (are, kept)

  -- what keeps the core by any rules keeps it by those that are known
  pub kept_on : (known : Option Rules) (old new : Core S L D) → ((rules : Rules) → AreRules rules → IsKept is_sound shows rules.check old → IsKept is_sound shows rules.check new)
      → IsKeptBy is_sound shows known old → IsKeptBy is_sound shows known new
  kept_on known old new keeps kept = λ rules is. ((kept rules is).0, keeps rules (kept rules is).0 (kept rules is).1)

-- ---- what was shown; the count of refused calls was m when the script ended, and is n when its
-- sessions have

module _ (start : Start) (left : Option (List ℕ)) (w : World) (sessions : Sessions) (holds : Option (List ℕ)) (m n : ℕ) where
  unfoldable pub shows_pieces : (cuts : List ℕ → List (List ℕ) → Type 0) → HasPrinted start cuts left w sessions holds m → m ≤ n
      → ShowsPieces cuts (between start.given left start.held holds) start.refused n
  shows_pieces cuts h more = record {
    input = h.input;
    read = h.read;
    pieces = h.pieces;
    cut = h.cut;
    replies = h.played.replies;
    replied = h.played.replied;
    written = subst (Appends start.held holds) (sym (h.played.text ∙ append-nil h.played.written)) h.played.taken;
    device = told_on h.played.replies start.refused m n h.played.device more;
    limits = h.played.limits;
  }

  pub shows_whole : HasEnded start left w sessions holds m → m ≤ n → ShowsWhole (between start.given left start.held holds) start.refused sessions.refused n
  unfolding shows_pieces
  shows_whole h more = record { all = h.all; shown = shows_pieces ArePieces h.printed more; answer = h.printed.played.answer }

  shows_some : HasBroken start left w sessions holds m → m ≤ n → ShowsSome (between start.given left start.held holds) start.refused n
  shows_some h more = record {
    input = h.input;
    read = h.read;
    done = h.stopped.done;
    later = h.stopped.later;
    cut = h.stopped.cut;
    replies = h.stopped.played.replies;
    replied = h.stopped.played.replied;
    written = h.stopped.played.written;
    unwritten = h.stopped.unwritten;
    beginning = h.stopped.played.text;
    taken = h.stopped.played.taken;
    at_last = h.stopped.played.at_last;
    device = told_on h.stopped.played.replies start.refused m n h.stopped.played.device more;
    limits = h.stopped.played.limits;
  }

  pub shows_early : (fault : ScriptFault) → HasFailed start fault left w sessions holds m → m ≤ n → ShowsEarly (between start.given left start.held holds) start.refused fault n
  shows_early Memory h more = absurd h
  shows_early (Reader error) h more = shows_pieces AreEnded h more
  shows_early (Writer error) h more = shows_some h more

  -- no script ends for want of memory once it has begun
  pub failed_otherwise : (fault : ScriptFault) → HasFailed start fault left w sessions holds m → fault ≡ Memory → ⊥
  failed_otherwise fault h is = subst (λ (f : ScriptFault). HasFailed start f left w sessions holds m) is h

-- ---- what was done, where rules are known

module _ (start : Start) (rules : Rules) (known : start.known ≡ Some rules) where
  unfoldable pub ends_played : (pieces : List (List ℕ)) (w new : World) (sessions : Sessions) (has : Option (List ℕ)) (m : ℕ) (h : HasPlayed start pieces [] w sessions has m)
      → EndsSessions w (numbers_of sessions.standing) new → IsPlayed rules start.world pieces h.written new
  ends_played pieces w new sessions has m h ends = record {
    scene = scene_of w sessions;
    replies = h.replies;
    carried_out = h.carried_out rules known;
    text = sym (h.text ∙ append-nil h.written);
    ended = subst (λ ss. EndsSessions w ss new) (sym (values_standing sessions.standing 1)) ends;
  }

  unfoldable pub ends_stopped : (done later pieces : List (List ℕ)) (unwritten : List ℕ) (w new : World) (sessions : Sessions) (has : Option (List ℕ)) (m : ℕ)
      (h : HasPlayed start done unwritten w sessions has m) → pieces ≡ done ++ later → EndsSessions w (numbers_of sessions.standing) new → IsStopped rules start.world pieces h.written new
  ends_stopped done later pieces unwritten w new sessions has m h order ends = record {
    done = done;
    later = later;
    in_order = order;
    scene = scene_of w sessions;
    replies = h.replies;
    carried_out = h.carried_out rules known;
    unwritten = unwritten;
    beginning = h.text;
    ended = subst (λ ss. EndsSessions w ss new) (sym (values_standing sessions.standing 1)) ends;
  }

  -- the sessions that were made still stand
  pub ended_live : (left : Option (List ℕ)) (w : World) (sessions : Sessions) (holds : Option (List ℕ)) (m : ℕ) → HasEnded start left w sessions holds m → AreLive w (numbers_of sessions.standing)
  ended_live left w sessions holds m h = (h.printed.played.ready rules known).live

  pub failed_live : (fault : ScriptFault) (left : Option (List ℕ)) (w : World) (sessions : Sessions) (holds : Option (List ℕ)) (m : ℕ) → HasFailed start fault left w sessions holds m
      → AreLive w (numbers_of sessions.standing)
  failed_live Memory left w sessions holds m h = absurd h
  failed_live (Reader error) left w sessions holds m h = (h.played.ready rules known).live
  failed_live (Writer error) left w sessions holds m h = (h.stopped.played.ready rules known).live

-- by these rules, from this world to the one in which the sessions have ended
module _ (start : Start) (rules : Rules) (known : start.known ≡ Some rules) (left : Option (List ℕ)) (w new : World) (sessions : Sessions) (holds : Option (List ℕ)) (m : ℕ) where
  unfoldable pub ends_printed : (cuts : List ℕ → List (List ℕ) → Type 0) (h : HasPrinted start cuts left w sessions holds m)
      → EndsSessions w (numbers_of sessions.standing) new → IsPrinted rules cuts (between start.given left start.held holds) start.world new
  ends_printed cuts h ends = record {
    input = h.input;
    read = h.read;
    pieces = h.pieces;
    cut = h.cut;
    printed = h.played.written;
    played = ends_played start rules known h.pieces w new sessions holds m h.played ends;
    written = h.played.taken;
  }

  unfoldable pub ends_whole : HasEnded start left w sessions holds m → EndsSessions w (numbers_of sessions.standing) new
      → IsWhole rules (between start.given left start.held holds) start.world sessions.refused new
  unfolding ends_printed ends_played
  ends_whole h ends = record { all = h.all; printed = ends_printed ArePieces h.printed ends; answer = h.printed.played.answer }

  unfoldable pub ends_broken : HasBroken start left w sessions holds m → EndsSessions w (numbers_of sessions.standing) new
      → IsCutShort rules (between start.given left start.held holds) start.world new
  unfolding ends_stopped
  ends_broken h ends = record {
    input = h.input;
    read = h.read;
    pieces = h.stopped.done ++ h.stopped.later;
    cut = h.stopped.cut;
    written = h.stopped.played.written;
    stopped = ends_stopped start rules known h.stopped.done h.stopped.later (h.stopped.done ++ h.stopped.later) h.stopped.unwritten w new sessions holds m h.stopped.played refl ends;
    taken = h.stopped.played.taken;
    at_last = h.stopped.played.at_last;
  }

  unfoldable pub ends_failed : (fault : ScriptFault) → HasFailed start fault left w sessions holds m → EndsSessions w (numbers_of sessions.standing) new
      → EndsEarly rules (between start.given left start.held holds) start.world fault new
  ends_failed Memory h ends = absurd h
  ends_failed (Reader error) h ends = ends_printed AreEnded h ends
  ends_failed (Writer error) h ends = ends_broken h ends

  pub runs_whole : (n : ℕ) → HasEnded start left w sessions holds m → EndsSessions w (numbers_of sessions.standing) new → m ≤ n
      → RunsWhole rules (between start.given left start.held holds) start.world start.refused sessions.refused new n
  unfolding ends_whole ends_printed ends_played
  runs_whole n h ends more = record {
    all = ends_whole h ends;
    device = told_on h.printed.played.replies start.refused m n h.printed.played.device more;
    limits = limits_later w.commits new.commits (ends_grows (numbers_of sessions.standing) w new ends) h.printed.pieces h.printed.played.replies (h.printed.played.within rules known);
  }

  pub runs_in_part : (n : ℕ) (fault : ScriptFault) → HasFailed start fault left w sessions holds m → EndsSessions w (numbers_of sessions.standing) new → m ≤ n
      → RunsInPart rules (between start.given left start.held holds) start.world start.refused fault new n
  unfolding ends_failed ends_broken ends_stopped ends_printed ends_played
  runs_in_part n Memory h ends more = absurd h
  runs_in_part n (Reader error) h ends more = record {
    some = ends_failed (Reader error) h ends;
    device = told_on h.played.replies start.refused m n h.played.device more;
    limits = limits_later w.commits new.commits (ends_grows (numbers_of sessions.standing) w new ends) h.pieces h.played.replies (h.played.within rules known);
  }
  runs_in_part n (Writer error) h ends more = record {
    some = ends_failed (Writer error) h ends;
    device = told_on h.stopped.played.replies start.refused m n h.stopped.played.device more;
    limits = limits_later w.commits new.commits (ends_grows (numbers_of sessions.standing) w new ends) h.stopped.done h.stopped.played.replies (h.stopped.played.within rules known);
  }

-- ---- there was no memory for the text of a statement

pub nothing_ran : (rules : Rules) (given held : Option (List ℕ)) (w : World) (count : ℕ) → RunsInPart rules (between given given held held) w count Memory w count
nothing_ran rules given held w count = record { some = record { reader = Keeps-refl given; writer = Keeps-refl held; world = refl }; device = told_first count; limits = tt }

pub nothing_shown : (given held : Option (List ℕ)) → ShowsNothing (between given given held held)
nothing_shown given held = record { reader = Keeps-refl given; writer = Keeps-refl held }
