-- The databases that a run commits are one list, each made from the one before; and what was done
-- since an open is serializable at each time in it.
use Rattle.std.proofs.Common.{◌≡◌, ◌∙◌, ◌+◌, ℕ, Bool, true, false, cond, List, [], ◌∷◌, ◌++◌, Result, Ok, Err, Some, refl, sym, ap, subst, inl, inr}
use Rattle.std.specs.Prelude.{filter}
use Rattle.std.proofs.lemmas.List.{append-nil}
use Rattle.refusals.specs.declared.refusal.Refusal.{Refusal}
use Rattle.denote.specs.Bag.{Permutes}
use Rattle.denote.specs.Database.{Database}
use Rattle.replies.specs.declared.reply.Reply.{Reply}
use Rattle.session_definitions.specs.Asked.{Asked}
use Rattle.session_definitions.specs.Effect.{Effect}
use Rattle.session_definitions.specs.Rules.{Rules}
use Rattle.session_definitions.specs.Run.{Event, Happens, Moment, Run, FlushesPages, MakesSession, history}
use Rattle.session_definitions.specs.Serial.{Committed, InSeries, IsSerializable, RunsAlone, Talk, committed_by, talk}
use Rattle.session_definitions.specs.Step.{Call}
use Rattle.session_definitions.specs.Transactions.{begun, obstacle}
use Rattle.session_definitions.specs.World.{Transaction, World, is_writer, opened}
use Rattle.session_laws.specs.Sound.{IsSoundSession, IsSoundTransaction}
use Rattle.session_laws.proofs.Series.{IsIn}
use Rattle.session_laws.proofs.Serializable.{serializable, stays_sound}
use Rattle.session_laws.proofs.Shapes.{runs_in, shape}
use Rattle.session_laws.proofs.SoundSteps.{committed_last}
use Rattle.lives.specs.Committed.{AreMade, IsMaker, committed_from, writers}

-- ---- at each time in a run

-- what was done before is a run
before : (rules : Rules) (start : World) (later earlier : List Moment) (end : World) → Run rules start (later ++ earlier) end → (mid : World) × Run rules start earlier mid
before rules start [] earlier end run = (end, run)
before rules start (moment ∷ later) earlier end run = before rules start later earlier moment.before run.0

pub serial_throughout : (rules : Rules) (db : Database) (moments : List Moment) (end : World) → Run rules (opened db) moments end
    → (later earlier : List Moment) → moments ≡ later ++ earlier → IsSerializable rules (opened db) earlier
serial_throughout rules db moments end run later earlier is =
    let first = before rules (opened db) later earlier end (subst (λ (ms : List Moment). Run rules (opened db) ms end) is run) in
    serializable rules db earlier first.0 first.1

-- ---- transactions in series

in_order : {A : Type 0} {xs ys : List A} (x : A) → Permutes xs ys → IsIn x xs → IsIn x ys
in_order x Permutes.nothing h = h
in_order x (Permutes.keeps y p) (inl e) = inl e
in_order x (Permutes.keeps y p) (inr h) = inr (in_order x p h)
in_order x (Permutes.exchanges y z zs) (inl e) = inr (inl e)
in_order x (Permutes.exchanges y z zs) (inr (inl e)) = inl e
in_order x (Permutes.exchanges y z zs) (inr (inr h)) = inr (inr h)
in_order x (Permutes.goes_on p q) h = in_order x q (in_order x p h)

each_alone : (rules : Rules) (n : ℕ) (db : Database) (cs : List Committed) (dbs : List Database) (c : Committed) → InSeries rules n db cs dbs → IsIn c cs → RunsAlone rules c
each_alone rules n db [] dbs c series h = absurd h
each_alone rules n db (d ∷ cs) dbs c (inl series) (inl e) = subst (RunsAlone rules) (sym e) series.0.runs
each_alone rules n db (d ∷ cs) dbs c (inl series) (inr h) = each_alone rules n db cs dbs c series.1 h
each_alone rules n db (d ∷ cs) dbs c (inr (others, writer, rest, is)) (inl e) = subst (RunsAlone rules) (sym e) writer.runs
each_alone rules n db (d ∷ cs) dbs c (inr (others, writer, rest, is)) (inr h) = each_alone rules (n + 1) d.made cs others c rest h

-- ---- databases, each made from the one before

one_more : (rules : Rules) (db : Database) (cs : List Committed) (dbs : List Database) (last : Database) (c : Committed) → AreMade rules db cs dbs last → IsMaker rules last c
    → AreMade rules db (cs ++ c ∷ []) (dbs ++ c.made ∷ []) c.made
one_more rules db [] dbs last c h maker = (
  record { writes = maker.writes; finds = maker.finds ∙ h.1; runs = maker.runs },
  c.made ∷ [],
  (refl, refl),
  ap (λ (ds : List Database). ds ++ c.made ∷ []) h.0,
)
one_more rules db (d ∷ cs) dbs last c (maker_before, others, rest, is) maker = (
  maker_before,
  others ++ c.made ∷ [],
  one_more rules d.made cs others last c rest maker,
  ap (λ (ds : List Database). ds ++ c.made ∷ []) is,
)

no_more : (rules : Rules) (db : Database) (cs : List Committed) (dbs : List Database) (old new : Database) → AreMade rules db cs dbs old → new ≡ old → AreMade rules db (cs ++ []) dbs new
no_more rules db cs dbs old new h same =
    subst (λ (all : List Committed). AreMade rules db all dbs new) (sym (append-nil cs)) (subst (λ (last : Database). AreMade rules db cs dbs last) (sym same) h)

-- a transaction ended by COMMIT, and wrote or did not
ended : (rules : Rules) (db : Database) (cs : List Committed) (dbs : List Database) (last : Database) (s : ℕ) (said : Talk) (t : Transaction) (wrote : Bool)
    → AreMade rules db cs dbs last → (wrote ≡ true → IsMaker rules last (committed_by s said t wrote))
    → AreMade rules db (cs ++ filter (λ (c : Committed). c.wrote) (committed_by s said t wrote ∷ [])) (cond wrote (dbs ++ t.working ∷ []) dbs) (cond wrote t.working last)
ended rules db cs dbs last s said t true h maker = one_more rules db cs dbs last (committed_by s said t true) h (maker refl)
ended rules db cs dbs last s said t false h maker = no_more rules db cs dbs last last h refl

-- ---- events

made_or_not : (w : World) (made : Result ℕ Refusal) (new : World) → MakesSession w made new → new.last ≡ w.last
made_or_not w (Ok s) new h = ap (λ (v : World). v.last) h.2
made_or_not w (Err refusal) new h = ap (λ (v : World). v.last) h.1

flushed_or_not : (w : World) (left : Result ℕ Refusal) (new : World) → FlushesPages w left new → new.last ≡ w.last
flushed_or_not w (Ok left) new h = ap (λ (v : World). v.last) h
flushed_or_not w (Err refusal) new h = ap (λ (v : World). v.last) h.1

module _ (rules : Rules) (db : Database) where
  abbrev at_moment : World → Event → Moment
  at_moment w event = record { before = w; event = event }

  -- the databases and the transactions of a run to this world
  abbrev Lists : List Moment → World → Type 0
  Lists moments end = AreMade rules db (writers moments) (committed_from db moments) end.last

  module _ (earlier : List Moment) (w : World) (run : Run rules (opened db) earlier w) (lists : Lists earlier w) where
    same : (new : World) → new.last ≡ w.last → AreMade rules db (writers earlier ++ []) (committed_from db earlier) new.last
    same new is = no_more rules db (writers earlier) (committed_from db earlier) w.last new.last lists is

    -- the writer's transaction began at the last commit, and is one of the series
    commits : (s : ℕ) (asked : Asked) (reply : Reply) (t : Transaction) (new : World) → Call rules w s asked reply (Effect.Commits t) new
        → Lists (at_moment w (Event.Calls s asked reply (Effect.Commits t)) ∷ earlier) new
    commits s asked reply t new call =
        let now = at_moment w (Event.Calls s asked reply (Effect.Commits t)) ∷ earlier in
        let all : IsSerializable rules (opened db) now = serializable rules db now new (run, call) in
        let own : call.session.transaction ≡ Some t =
        shape rules call.session (begun w call.session) (obstacle w s call.session) reply (Effect.Commits t) (runs_in w call.session) asked call.replies in
        let sound : IsSoundTransaction w.commits w.last (is_writer w s) t =
        subst (IsSoundSession w.commits w.last (is_writer w s)) own ((stays_sound rules db earlier w run).sessions s call.session call.stands) in
        let left : new.last ≡ cond (is_writer w s) t.working w.last = ap (λ (v : World). v.last) call.leaves ∙ committed_last w s call.session t in
        subst (λ (last : Database). AreMade rules db (writers now) (committed_from db now) last) (sym left)
        (ended rules db (writers earlier) (committed_from db earlier) w.last s (talk s now) t (is_writer w s) lists (λ writes. record {
          writes = writes;
          finds = sound.present (sound.written writes);
          runs = each_alone rules 0 all.first all.order (history (opened db) now) (committed_by s (talk s now) t (is_writer w s)) all.series
              (in_order (committed_by s (talk s now) t (is_writer w s)) all.all (inl refl));
        }))

    called : (s : ℕ) (asked : Asked) (reply : Reply) (effect : Effect) (new : World) → Call rules w s asked reply effect new
        → Lists (at_moment w (Event.Calls s asked reply effect) ∷ earlier) new
    called s asked reply Effect.Nothing new call = same new (ap (λ (v : World). v.last) call.leaves)
    called s asked reply (Effect.Becomes session) new call = same new (ap (λ (v : World). v.last) call.leaves)
    called s asked reply (Effect.Writes session) new call = same new (ap (λ (v : World). v.last) call.leaves)
    called s asked reply (Effect.Commits t) new call = commits s asked reply t new call
    called s asked reply Effect.RollsBack new call = same new (ap (λ (v : World). v.last) call.leaves)

    happened : (event : Event) (new : World) → Happens rules w event new → Lists (at_moment w event ∷ earlier) new
    happened (Event.Makes made) new h = same new (made_or_not w made new h)
    happened (Event.Calls s asked reply effect) new h = called s asked reply effect new h
    happened (Event.Drops s) new h = same new (ap (λ (v : World). v.last) h.leaves)
    happened (Event.Flushes left) new h = same new (flushed_or_not w left new h)
    happened (Event.SetsPieces pieces) new h = same new (ap (λ (v : World). v.last) h)
    happened (Event.FailsToClose refusal) new h = same new (ap (λ (v : World). v.last) h.1)
    happened Event.Reopens new h = same new (ap (λ (v : World). v.last) h)

  pub are_made : (moments : List Moment) (end : World) → Run rules (opened db) moments end → Lists moments end
  are_made [] end run = (refl, ap (λ (w : World). w.last) run)
  are_made (moment ∷ earlier) end run = happened earlier moment.before run.0 (are_made earlier moment.before run.0) moment.event end run.1
