-- A table that is dumped in a form.
use Rattle.std.proofs.Common.{◌≡◌, ◌≢◌, ◌&&◌, ◌⊎◌, inl, inr, refl, sym, ap, ◌∙◌, subst, ℕ, Bool, false, List, Option}
use Rattle.std.proofs.KnownBytes.{Keeps-refl}
use Rattle.refusals.specs.declared.refusal.Refusal.{Refusal}
use Rattle.refusals.specs.declared.refusal.Refusal.TheVariants.{Invalid, Memory}
use Rattle.refusals.specs.declared.reason.Reason.TheVariants as reason
use Rattle.sqlval.specs.declared.schema.Column.{Column}
use Rattle.sqlval.specs.Value.{Row}
use Rattle.lexer.specs.Token.{Bytes}
use Rattle.denote.specs.Database.{Name}
use Rattle.replies.specs.declared.reply.Reply.{Reply}
use Rattle.replies.specs.declared.reply.Reply.TheVariants as says
use Rattle.replies.specs.Writes.{Writes}
use Rattle.session_definitions.specs.Rules.{Rules}
use Rattle.session_definitions.specs.World.{World}
use Rattle.sessions.proofs.Unread.{is_memory}
use Rattle.csvio.specs.declared.form.Form.{Form}
use Rattle.csvio.specs.Dumping.{AsksAll, is_rows, written_reply}
use Rattle.csvio.specs.Formed.{DumpsFormed, WritesFormed, WritesSeen, formed_text, has_empty_text}
use Rattle.csvio.specs.TableName.{IsNameIn}

-- the text of the rows was handed to the writer
pub written_formed : (form : Form) (columns : List Column) (rows : List Row) (held holds : Option (List ℕ)) (text : List ℕ) (whole made : Bool) (reply : Reply)
    → (form.plain && has_empty_text rows) ≡ false → Writes held holds made text → text ≡ formed_text form columns rows → made ≡ whole → reply ≡ written_reply whole rows
    → WritesFormed form columns rows held holds reply
written_formed form columns rows held holds text whole made reply fine taken is all says =
    WritesFormed.writes whole fine
    (subst (λ (b : Bool). Writes held holds b (formed_text form columns rows)) all (subst (λ (t : List ℕ). Writes held holds made t) is taken)) says

module _ (rules : Rules) (form : Form) (old : World) (s : ℕ) (table : Bytes) (held : Option (List ℕ)) where
  -- it names no table
  pub undumped_form : (refusal : Refusal) → (refusal ≢ Memory → (refusal ≡ Invalid reason.Name) × ((name : Name) → IsNameIn table name → ⊥))
      → DumpsFormed rules form old s table held held (says.Refused refusal) old
  undumped_form refusal h = by (is_memory refusal)
    where
      by : (refusal ≡ Memory) ⊎ (refusal ≢ Memory) → DumpsFormed rules form old s table held held (says.Refused refusal) old
      by (inl e) = DumpsFormed.unread (ap says.Refused e) refl (Keeps-refl held)
      by (inr ne) = let wrong = h ne in DumpsFormed.no_name wrong.1 (ap says.Refused wrong.0) refl (Keeps-refl held)

  module _ (name : Name) (named : IsNameIn table name) (found : Reply) (new : World) (asks : AsksAll rules old s name found new) where
    -- its query has no rows
    pub rowless_form : (reply : Reply) → reply ≡ found → is_rows found ≡ false → DumpsFormed rules form old s table held held reply new
    rowless_form reply is none =
        DumpsFormed.no_rows name named (subst (λ (r : Reply). AsksAll rules old s name r new) (sym is) asks) (ap is_rows is ∙ none) (Keeps-refl held)

    -- its rows are written
    pub dumped_form : (rows slice : List Row) (holds : Option (List ℕ)) (reply : Reply) → found ≡ says.Rows rows → slice ≡ rows → WritesSeen form new s name slice held holds reply
        → DumpsFormed rules form old s table held holds reply new
    dumped_form rows slice holds reply is same text =
        DumpsFormed.gives name rows named (subst (λ (r : Reply). AsksAll rules old s name r new) is asks)
        (subst (λ (xs : List Row). WritesSeen form new s name xs held holds reply) same text)
