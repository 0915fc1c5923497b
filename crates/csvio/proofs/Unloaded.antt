-- A text that is not loaded.
use Rattle.std.proofs.Common.{◌≡◌, ◌≢◌, ◌⊎◌, inl, inr, refl, ap, ℕ, List, Option}
use Rattle.refusals.specs.declared.refusal.Refusal.{Refusal}
use Rattle.refusals.specs.declared.refusal.Refusal.TheVariants.{Disk, Invalid, Memory}
use Rattle.refusals.specs.declared.reason.Reason.TheVariants as reason
use Rattle.lexer.specs.Token.{Bytes}
use Rattle.denote.specs.Database.{Name}
use Rattle.replies.specs.declared.reply.Reply.TheVariants as says
use Rattle.session_definitions.specs.Rules.{Rules}
use Rattle.session_definitions.specs.World.{World}
use Rattle.sessions.proofs.Unread.{is_memory}
use Rattle.csv_rows.specs.declared.error.ReadError.{ReadError}
use Rattle.csv_rows.specs.declared.error.ReadError.TheVariants as why
use Rattle.csvio.specs.Loading.{HasNoRows, Loads}
use Rattle.csvio.specs.TableName.{IsNameIn}

module _ (rules : Rules) (old : World) (s : ℕ) (table : Bytes) (input : Option (List ℕ)) where
  -- since it names no table
  pub unnamed : (refusal : Refusal) → (refusal ≢ Memory → (refusal ≡ Invalid reason.Name) × ((name : Name) → IsNameIn table name → ⊥))
      → Loads rules old s table input (says.Refused refusal) old
  unnamed refusal h = by (is_memory refusal)
    where
      by : (refusal ≡ Memory) ⊎ (refusal ≢ Memory) → Loads rules old s table input (says.Refused refusal) old
      by (inl e) = Loads.unread (inl (ap says.Refused e)) refl
      by (inr ne) = let wrong = h ne in Loads.no_name wrong.1 (ap says.Refused wrong.0) refl

  -- since it gives no rows
  pub without_rows : (error : ReadError) (refusal : Refusal) → (error ≡ why.Memory → refusal ≡ Memory) → (error ≡ why.Reader → refusal ≡ Disk) → (error ≡ why.Field → refusal ≡ Invalid reason.Field)
      → (error ≡ why.Field → HasNoRows input) → Loads rules old s table input (says.Refused refusal) old
  without_rows why.Memory refusal memory reader field none = Loads.unread (inl (ap says.Refused (memory refl))) refl
  without_rows why.Reader refusal memory reader field none = Loads.unread (inr (ap says.Refused (reader refl))) refl
  without_rows why.Field refusal memory reader field none = Loads.no_rows (none refl) (ap says.Refused (field refl)) refl
