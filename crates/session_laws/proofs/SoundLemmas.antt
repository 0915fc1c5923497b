-- Every event leaves a sound world sound.
use Rattle.std.proofs.Common.{◌≡◌, ℕ, ◌+◌, ◌≤◌, Bool, true, false, not, cond, ◌&&◌, ◌||◌, Option, Some, None, refl, sym, ◌∙◌, subst, inl, inr, arith}
use Rattle.std.specs.Prelude.{◌==◌}
use Rattle.std.specs.Option.{unwrap_or}
use Rattle.std.proofs.lemmas.Bool.{eqb-true}
use Rattle.refusals.specs.declared.refusal.Refusal.TheVariants.{CursorState, TransactionState, SerializationFailure}
use Rattle.denote.specs.Database.{Database}
use Rattle.session_laws.specs.Sound.{IsSoundTransaction, IsSoundSession}
use Rattle.session_definitions.specs.Transactions.{begun, began_earlier, is_overtaken, obstacle, is_read_only, has_open}
use Rattle.session_definitions.specs.World.{Transaction, Session, World}
use Rattle.session_laws.proofs.Shapes.{BeganWith, Keeps}

-- ---- what stands in the way of nothing

pub unobstructed : {A : Type 0} (a b c : Bool) (x y z : A) → cond a (Some x) (cond b (Some y) (cond c (Some z) None)) ≡ None → c ≡ false
unobstructed true b c x y z e = cc
unobstructed false true c x y z e = cc
unobstructed false false true x y z e = cc
unobstructed false false false x y z e = refl

pub neither : (a b : Bool) → (a || b) ≡ false → (a ≡ false) × (b ≡ false)
neither true b e = cc
neither false b e = (refl, e)

pub not_overtaken : (w : World) (s : ℕ) (session : Session) → obstacle w s session ≡ None → is_overtaken w s session ≡ false
not_overtaken w s session e =
    unobstructed (is_read_only (begun w session).mode) (has_open (begun w session)) (is_overtaken w s session) TransactionState CursorState SerializationFailure e

same_number : (a b : ℕ) → not (a == b) ≡ false → a ≡ b
same_number a b e = elim (a == b) as (λ v. (a == b) ≡ v → not v ≡ false → a ≡ b) [
  | true ↦ λ is h. eqb-true a b is
  | false ↦ λ is h. cc
] refl e

-- ---- one session

module _ (commits : ℕ) (last : Database) (writes : Bool) where
  -- the transaction in which a statement of a sound session runs is sound
  pub sound_begun : (u : Option Transaction) (t : Transaction) → IsSoundSession commits last writes u
      → t.beginning ≡ commits → t.found ≡ last → t.working ≡ last → IsSoundTransaction commits last writes (unwrap_or u t)
  sound_begun None t fails b f k = record {
    past = omega arith;
    present = λ _. f;
    unwritten = λ _. k ∙ sym f;
    written = λ holds. b;
  }
  sound_begun (Some u) t sound b f k = sound

  pub sound_same : (u t : Transaction) → BeganWith u t → u.working ≡ t.working → IsSoundTransaction commits last writes t → IsSoundTransaction commits last writes u
  sound_same u t b k sound = record {
    past = let p : t.beginning ≤ commits = sound.past in let e : u.beginning ≡ t.beginning = b.beginning in omega arith;
    present = λ e. b.found ∙ sound.present (sym b.beginning ∙ e);
    unwritten = λ fails. k ∙ sound.unwritten fails ∙ sym b.found;
    written = λ holds. b.beginning ∙ sound.written holds;
  }

  pub sound_kept : (session : Session) (t : Transaction) (x : Session) → Keeps session t x → IsSoundSession commits last writes session.transaction
      → IsSoundTransaction commits last writes t → IsSoundSession commits last writes x.transaction
  sound_kept session t x (inl same) sound at = subst (IsSoundSession commits last writes) (sym same) sound
  sound_kept session t x (inr (u, is, b, k)) sound at = subst (IsSoundSession commits last writes) (sym is) (sound_same u t b k at)

-- a change is admitted only at the last commit
pub began_now : (commits : ℕ) (last : Database) (writes : Bool) (u : Option Transaction) (t : Transaction) → IsSoundSession commits last writes u
    → t.beginning ≡ commits → (not writes && began_earlier commits u) ≡ false → (unwrap_or u t).beginning ≡ commits
began_now commits last writes None t sound b e = b
began_now commits last true (Some u) t sound b e = sound.written refl
began_now commits last false (Some u) t sound b e = same_number u.beginning commits e

pub sound_wrote : (commits : ℕ) (last : Database) (writes : Bool) (x : Option Transaction) (u t : Transaction) → x ≡ Some u → BeganWith u t
    → t.beginning ≡ commits → IsSoundTransaction commits last writes t → IsSoundSession commits last true x
sound_wrote commits last writes x u t is b now sound = subst (IsSoundSession commits last true) (sym is) (record {
  past = let e : u.beginning ≡ t.beginning = b.beginning in omega arith;
  present = λ e. b.found ∙ sound.present now;
  unwritten = λ fails. cc;
  written = λ holds. b.beginning ∙ now;
})

-- a later commit leaves a session sound that has not written
pub later : (commits : ℕ) (last db : Database) (u : Option Transaction) → IsSoundSession commits last false u → IsSoundSession (commits + 1) db false u
later commits last db None sound = sound
later commits last db (Some t) sound = record {
  past = let p : t.beginning ≤ commits = sound.past in omega arith;
  present = λ e. let p : t.beginning ≤ commits = sound.past in absurd (omega arith);
  unwritten = sound.unwritten;
  written = λ holds. cc;
}
