-- Why no rows are found.
use Rattle.std.proofs.Common.{◌≡◌, ◌≢◌, ◌⊎◌, inl, inr, refl, sym, subst, ℕ, List, Option}
use Rattle.refusals.specs.declared.refusal.Refusal.{Refusal}
use Rattle.refusals.specs.declared.refusal.Refusal.TheVariants.{Disk, Invalid, Memory}
use Rattle.refusals.specs.declared.reason.Reason.TheVariants as reason
use Rattle.sqlval.specs.declared.schema.Column.{Column}
use Rattle.lexer.specs.Token.{Bytes}
use Rattle.denote.specs.Database.{Name}
use Rattle.session_definitions.specs.Refusals.{IsReserved}
use Rattle.session_definitions.specs.World.{World}
use Rattle.sessions.proofs.Unread.{is_memory}
use Rattle.csv_rows.specs.declared.error.ReadError.{ReadError}
use Rattle.csv_rows.specs.declared.error.ReadError.TheVariants as why
use Rattle.csvio.specs.declared.form.Form.{Form}
use Rattle.csvio.specs.Formed.{FindsNone, HasNoRecords, RefusesFor}
use Rattle.csvio.specs.TableName.{IsNameIn}

-- the records of a text were not read
pub unread_for : (columns : List Column) (form : Form) (input : Option (List ℕ)) (error : ReadError) (refusal : Refusal) → (error ≡ why.Memory → refusal ≡ Memory)
    → (error ≡ why.Reader → refusal ≡ Disk) → (error ≡ why.Field → refusal ≡ Invalid reason.Field) → (error ≡ why.Field → HasNoRecords input) → RefusesFor columns form input refusal
unread_for columns form input why.Memory refusal memory reader field none = RefusesFor.unread (subst IsReserved (sym (memory refl)) tt)
unread_for columns form input why.Reader refusal memory reader field none = RefusesFor.unread (subst IsReserved (sym (reader refl)) tt)
unread_for columns form input why.Field refusal memory reader field none = RefusesFor.no_records (none refl) (field refl)

-- a text names no table
pub unnamed_table : (old : World) (s : ℕ) (form : Form) (table : Bytes) (input : Option (List ℕ)) (refusal : Refusal)
    → (refusal ≢ Memory → (refusal ≡ Invalid reason.Name) × ((name : Name) → IsNameIn table name → ⊥)) → FindsNone old s form table input refusal
unnamed_table old s form table input refusal h = by (is_memory refusal)
  where
    by : (refusal ≡ Memory) ⊎ (refusal ≢ Memory) → FindsNone old s form table input refusal
    by (inl e) = FindsNone.unread (subst IsReserved (sym e) tt)
    by (inr ne) = let wrong = h ne in FindsNone.no_name wrong.1 wrong.0
