-- What runs over a store do is a run of the definitions.
use Rattle.std.proofs.Common.{ℕ, Bool, List, [], ◌∷◌, ◌++◌, Option, refl, inl, inr}
use Rattle.denote.specs.Database.{Database}
use Rattle.session_definitions.specs.Rules.{Rules}
use Rattle.session_definitions.specs.Run.{Moment, Run, without_sessions}
use Rattle.session_definitions.specs.World.{World, opened}
use Rattle.session_laws.specs.Reopening.{reopening}
use Rattle.scripts.specs.declared.script.ScriptFault.TheVariants.{Memory, Reader, Writer}
use Rattle.scripts.specs.Device.{disk_count}
use Rattle.scripts.specs.Played.{Streams}
use Rattle.shell.specs.Runs.{CarriesOut, Left, Runs, replies_of}
use Rattle.lives.specs.Twice.{BothDo, Does, IsLeft, IsOneRun, Leads, RunDoes, RunsTwice, closing}
use Rattle.lives.proofs.Listed.{are_made, serial_throughout}
use Rattle.lives.proofs.Scripted.{Led, scripted}

-- a run to a world whose last database is left, or after which nothing is
record Goes (rules : Rules) (start : World) (left : Left → Type 0) (means : List Moment → Type 0) : Type 0 where
  pub moments : List Moment
  pub end : World
  pub run : Run rules start moments end
  pub meaning : means moments
  pub kept : IsLeft left end.last

module _ (rules : Rules)
    (reopened : (start mid end : World) (first second : List Moment) → Run rules start first mid → Run rules (opened mid.last) second end
    → Run rules start (second ++ reopening mid ∷ first) end) where
  carried_out : (streams : Streams) (old : World) (status : ℕ) (is_told : Bool) (new : World) (h : CarriesOut rules streams old status is_told new)
      → Led rules old new (Does rules streams old status is_told new h)
  carried_out streams old status is_told new (CarriesOut.whole refused all undamaged is told) =
      let p = all.printed.played in scripted rules old all.printed.pieces p.replies p.scene new p.carried_out p.ended
  carried_out streams old status is_told new (CarriesOut.early Memory mid some undamaged told is) = record { moments = []; run = some.world; meaning = refl }
  carried_out streams old status is_told new (CarriesOut.early (Reader error) mid some undamaged told is) =
      let p = some.played in scripted rules old some.pieces p.replies p.scene new p.carried_out p.ended
  carried_out streams old status is_told new (CarriesOut.early (Writer error) mid some undamaged told is) =
      let p = some.stopped in scripted rules old p.done p.replies p.scene new p.carried_out p.ended

  runs : (old : World) (streams : Streams) (status : ℕ) (is_told : Bool) (left : Left → Type 0) (h : Runs rules old streams status is_told left)
      → Goes rules old left (RunDoes rules old streams status is_told left h)
  runs old streams status is_told left (Runs.not_opened refusal stops unread told is kept) = record { moments = []; end = old; run = refl; meaning = refl; kept = inl (refusal, kept) }
  runs old streams status is_told left (Runs.closed end carried kept) =
      let script = carried_out streams old status is_told end carried in
      record { moments = script.moments; end = end; run = script.run; meaning = script.meaning; kept = inr (inl (disk_count (replies_of rules streams old status is_told end carried), kept)) }
  runs old streams status is_told left (Runs.not_closed before was_told mid end carried told is none) =
      let script = carried_out _ old before was_told end carried in record {
        moments = closing end ∷ script.moments;
        end = without_sessions end;
        run = (script.run, (refl, refl));
        meaning = (script.moments, script.meaning, refl);
        kept = inr (inr none);
      }

  -- its databases and their order follow from its being a run
  is_one_run : (db : Database) (left : Left → Type 0) (does : List Moment → Type 0) (moments : List Moment) (end : World) → Run rules (opened db) moments end → does moments
      → IsLeft left end.last → IsOneRun rules db left does
  is_one_run db left does moments end run done kept = record {
    moments = moments;
    end = end;
    run = run;
    does = done;
    made = are_made rules db moments end run;
    serial = serial_throughout rules db moments end run;
    kept = kept;
  }

  one_run : (db : Database) (first second : Streams) (one : ℕ) (one_told : Bool) (two : Option ℕ) (two_told : Bool) (middle left : Left → Type 0)
      (h : Runs rules (opened db) first one one_told (Leads rules second two two_told middle left)) → IsOneRun rules db left (BothDo rules db first second one one_told two two_told middle left h)
  one_run db first second one one_told two two_told middle left (Runs.not_opened refusal stops unread told is kept) =
      let later = runs (opened db) second kept.0.0 two_told left kept.0.2 in
      is_one_run db left _ (later.moments ++ reopening (opened db) ∷ []) later.end (reopened (opened db) (opened db) later.end [] later.moments refl later.run)
      (later.moments, later.meaning, refl) later.kept
  one_run db first second one one_told two two_told middle left (Runs.closed end carried kept) =
      let script = carried_out first (opened db) one one_told end carried in
      let later = runs (opened end.last) second kept.0.0 two_told left kept.0.2 in
      is_one_run db left _ (later.moments ++ reopening end ∷ script.moments) later.end (reopened (opened db) end later.end script.moments later.moments script.run later.run)
      (script.moments, later.moments, script.meaning, later.meaning, refl) later.kept
  one_run db first second one one_told two two_told middle left (Runs.not_closed before was_told mid end carried told is none) =
      let script = carried_out _ (opened db) before was_told end carried in
      is_one_run db left _ (closing end ∷ script.moments) (without_sessions end) (script.run, (refl, refl)) (script.moments, script.meaning, refl) (inr (inr none.0.3))

  pub together : (db : Database) (first second : Streams) (one : ℕ) (one_told : Bool) (two : Option ℕ) (two_told : Bool) (middle left : Left → Type 0)
      → Runs rules (opened db) first one one_told (Leads rules second two two_told middle left) → RunsTwice rules db first second one one_told two two_told middle left
  together db first second one one_told two two_told middle left h =
      record { both = h; together = one_run db first second one one_told two two_told middle left h }
