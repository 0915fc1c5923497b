-- The number of commits never falls, and ending sessions leaves it.
use Rattle.std.proofs.Common.{◌≡◌, ◌≤◌, ◌+◌, ℕ, Bool, true, false, cond, refl, sym, ap, subst, List, [], ◌∷◌, Option, arith}
use Rattle.std.proofs.Math.Nat.{le_trans}
use Rattle.lexer.specs.Token.{Bytes}
use Rattle.replies.specs.declared.reply.Reply.{Reply}
use Rattle.script_pieces.specs.PieceMeaning.{Request}
use Rattle.session_definitions.specs.Effect.{Effect, after}
use Rattle.session_definitions.specs.Rules.{Rules}
use Rattle.session_definitions.specs.Script.{EndsSessions, Performs, Plays, Scene}
use Rattle.session_definitions.specs.Step.{Step}
use Rattle.session_definitions.specs.World.{Session, World, is_writer}

pub same_number : (m n : ℕ) → m ≡ n → m ≤ n
same_number m n is = omega (arith, is)

one_number_more : (m : ℕ) → m ≤ m + 1
one_number_more m = omega arith

of_writer : (b : Bool) (old changed kept : World) → old.commits ≤ changed.commits → old.commits ≤ kept.commits → old.commits ≤ (cond b changed kept).commits
of_writer true old changed kept one other = one
of_writer false old changed kept one other = other

grows_after : (w : World) (s : ℕ) (session : Session) (e : Effect) → w.commits ≤ (after w s session e).commits
grows_after w s session Effect.Nothing = same_number w.commits w.commits refl
grows_after w s session (Effect.Becomes changed) = same_number w.commits w.commits refl
grows_after w s session (Effect.Writes changed) = same_number w.commits w.commits refl
grows_after w s session (Effect.Commits t) = of_writer (is_writer w s) w _ _ (one_number_more w.commits) (same_number w.commits w.commits refl)
grows_after w s session Effect.RollsBack = same_number w.commits w.commits refl

pub step_grows : (rules : Rules) (old : World) (s : ℕ) (text : Bytes) (reply : Reply) (new : World) → Step rules old s text reply new → old.commits ≤ new.commits
step_grows rules old s text reply new (effect, call) = subst (λ (w : World). old.commits ≤ w.commits) (sym call.leaves) (grows_after old s call.session effect)

plays_grows : (rules : Rules) (old : Scene) (text : Bytes) (reply : Reply) (new : Scene) → Plays rules old text reply new → old.world.commits ≤ new.world.commits
plays_grows rules old text reply new (Plays.stands_already s w is step same) =
    subst (λ (scene : Scene). old.world.commits ≤ scene.world.commits) (sym same) (step_grows rules old.world s text reply w step)
plays_grows rules old text reply new (Plays.made_now s mid w none makes step same) =
    subst (λ (scene : Scene). old.world.commits ≤ scene.world.commits) (sym same)
    (le_trans (same_number old.world.commits mid.commits (sym (ap (λ (w : World). w.commits) makes.2))) (step_grows rules mid s text reply w step))
plays_grows rules old text reply new (Plays.not_made refusal w none makes is same) =
    subst (λ (scene : Scene). old.world.commits ≤ scene.world.commits) (sym same) (same_number old.world.commits w.commits (sym (ap (λ (w : World). w.commits) makes.1)))

stays_there : (old new : Scene) → new ≡ old → old.world.commits ≤ new.world.commits
stays_there old new same = same_number old.world.commits new.world.commits (sym (ap (λ (scene : Scene). scene.world.commits) same))

pub performs_grows : (rules : Rules) (old : Scene) (request : Request) (reply : Option Reply) (new : Scene) → Performs rules old request reply new → old.world.commits ≤ new.world.commits
performs_grows rules old Request.Nothing reply new (none, same) = stays_there old new same
performs_grows rules old (Request.Chooses k) reply new (none, same) = same_number old.world.commits new.world.commits (sym (ap (λ (scene : Scene). scene.world.commits) same))
performs_grows rules old (Request.Calls text) reply new (told, plays, is) = plays_grows rules old text told new plays
performs_grows rules old (Request.ChoosesAndCalls k text) reply new (told, plays, is) = plays_grows rules _ text told new plays
performs_grows rules old Request.Flushes reply new (told, replies, is, same) = stays_there old new same
performs_grows rules old Request.Wrong reply new (is, same) = stays_there old new same

pub ends_grows : (ss : List ℕ) (old new : World) → EndsSessions old ss new → old.commits ≤ new.commits
ends_grows [] old new same = same_number old.commits new.commits (sym (ap (λ (w : World). w.commits) same))
ends_grows (s ∷ ss) old new (mid, drops, ends) =
    le_trans (same_number old.commits mid.commits (sym (ap (λ (w : World). w.commits) drops.leaves))) (ends_grows ss mid new ends)
