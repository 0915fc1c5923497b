-- What an engine does by some rules of names and types, from a good world on, it does by all.
use Rattle.std.proofs.Common.{refl, sym, subst, ℕ, List, [], ◌∷◌, Option, Ok}
use Rattle.lexer.specs.Token.{Bytes}
use Rattle.typing.specs.Check.{IsCheckReading}
use Rattle.denote.specs.Database.{CheckReading}
use Rattle.replies.specs.declared.reply.Reply.{Reply}
use Rattle.script_pieces.specs.PieceMeaning.{Request}
use Rattle.session_definitions.specs.Asked.{Asked}
use Rattle.session_definitions.specs.Rules.{AreRules, Rules}
use Rattle.session_definitions.specs.Run.{Event, Happens, MakesSession, Moment, Run}
use Rattle.session_definitions.specs.Script.{ArePlayed, IsPlayed, Performs, Plays, Scene, choosing, first_scene}
use Rattle.session_definitions.specs.Step.{Step}
use Rattle.session_definitions.specs.World.{World}
use Rattle.session_laws.specs.Sound.{IsGoodWorld}
use Rattle.rule_laws.proofs.Good.{good_by_every}
use Rattle.rule_laws.proofs.ByRules.{call_by}

pub good_world_by : (reading other : CheckReading) → IsCheckReading reading → IsCheckReading other → (w : World) → IsGoodWorld reading w → IsGoodWorld other w
good_world_by reading other reads also w good = record {
  last = good_by_every reading other w.last reads also good.last;
  transactions = λ s session t stands is.
      let own = good.transactions s session t stands is in
      (good_by_every reading other t.found reads also own.0, good_by_every reading other t.working reads also own.1);
}

-- runs by these rules keep good worlds good
abbrev pub KeepsGood : Rules → Type 0
KeepsGood rules = (start end : World) (moments : List Moment) → IsGoodWorld rules.check start → Run rules start moments end → IsGoodWorld rules.check end

module _ (rules others : Rules) (are : AreRules rules) (also : AreRules others) (keeps : KeepsGood rules) where
  -- ---- runs

  happens_by : (old : World) (event : Event) (new : World) → IsGoodWorld rules.check old → Happens rules old event new → Happens others old event new
  happens_by old (Event.Makes made) new good h = h
  happens_by old (Event.Calls s asked reply effect) new good h = call_by rules others are also old s asked reply effect new good h
  happens_by old (Event.Drops s) new good h = h
  happens_by old (Event.Flushes left) new good h = h
  happens_by old (Event.SetsPieces pieces) new good h = h
  happens_by old (Event.FailsToClose refusal) new good h = h
  happens_by old Event.Reopens new good h = h

  pub run_by : (start end : World) (moments : List Moment) → IsGoodWorld rules.check start → Run rules start moments end → Run others start moments end
  run_by start end [] good run = run
  run_by start end (moment ∷ earlier) good run =
      (run_by start moment.before earlier good run.0, happens_by moment.before moment.event end (keeps start moment.before earlier good run.0) run.1)

  -- ---- steps

  pub step_by : (old new : World) (s : ℕ) (text : Bytes) (reply : Reply) → IsGoodWorld rules.check old → Step rules old s text reply new → Step others old s text reply new
  step_by old new s text reply good (effect, call) = (effect, call_by rules others are also old s (Asked.Text text) reply effect new good call)

  good_step : (old new : World) (s : ℕ) (text : Bytes) (reply : Reply) → IsGoodWorld rules.check old → Step rules old s text reply new → IsGoodWorld rules.check new
  good_step old new s text reply good (effect, call) = keeps old new (record { before = old; event = Event.Calls s (Asked.Text text) reply effect } ∷ []) good (refl, call)

  good_made : (old new : World) (s : ℕ) → IsGoodWorld rules.check old → MakesSession old (Ok s) new → IsGoodWorld rules.check new
  good_made old new s good made = keeps old new (record { before = old; event = Event.Makes (Ok s) } ∷ []) good (refl, made)

  -- ---- scripts

  abbrev IsGoodScene : Scene → Type 0
  IsGoodScene scene = IsGoodWorld rules.check scene.world

  plays_by : (old : Scene) (text : Bytes) (reply : Reply) (new : Scene) → IsGoodScene old → Plays rules old text reply new → Plays others old text reply new × IsGoodScene new
  plays_by old text reply new good (Plays.stands_already s w is step leaves) =
      (Plays.stands_already s w is (step_by old.world w s text reply good step) leaves, subst IsGoodScene (sym leaves) (good_step old.world w s text reply good step))
  plays_by old text reply new good (Plays.made_now s mid w is made step leaves) =
      let then = good_made old.world mid s good made in
      (Plays.made_now s mid w is made (step_by mid w s text reply then step) leaves, subst IsGoodScene (sym leaves) (good_step mid w s text reply then step))
  plays_by old text reply new good (Plays.not_made refusal w is made says leaves) =
      (Plays.not_made refusal w is made says leaves, subst IsGoodScene (sym leaves) (subst (IsGoodWorld rules.check) (sym made.1) good))

  performs_by : (old : Scene) (request : Request) (printed : Option Reply) (new : Scene) → IsGoodScene old → Performs rules old request printed new
      → Performs others old request printed new × IsGoodScene new
  performs_by old Request.Nothing printed new good h = (h, subst IsGoodScene (sym h.1) good)
  performs_by old (Request.Chooses k) printed new good h = (h, subst IsGoodScene (sym h.1) good)
  performs_by old (Request.Calls text) printed new good h = let p = plays_by old text h.0 new good h.1 in ((h.0, p.0, h.2), p.1)
  performs_by old (Request.ChoosesAndCalls k text) printed new good h = let p = plays_by (choosing old k) text h.0 new good h.1 in ((h.0, p.0, h.2), p.1)
  performs_by old Request.Flushes printed new good h = (h, subst IsGoodScene (sym h.3) good)
  performs_by old Request.Wrong printed new good h = (h, subst IsGoodScene (sym h.1) good)

  are_played_by : (old : Scene) (pieces : List (List ℕ)) (replies : List (Option Reply)) (new : Scene) → IsGoodScene old → ArePlayed rules old pieces replies new
      → ArePlayed others old pieces replies new
  are_played_by old [] replies new good h = h
  are_played_by old (piece ∷ pieces) replies new good (request, reply, mid, more, asks, performed, rest, whole) =
      let p = performs_by old request reply mid good performed in
      (request, reply, mid, more, asks, p.0, are_played_by mid pieces more new p.1 rest, whole)

  pub played_by : (old new : World) (pieces : List (List ℕ)) (printed : List ℕ) → IsGoodWorld rules.check old → IsPlayed rules old pieces printed new
      → IsPlayed others old pieces printed new
  played_by old new pieces printed good h = record {
    scene = h.scene;
    replies = h.replies;
    carried_out = are_played_by (first_scene old) pieces h.replies h.scene good h.carried_out;
    text = h.text;
    ended = h.ended;
  }
