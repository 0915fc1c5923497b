-- A table that is dumped.
use Rattle.std.proofs.Common.{◌≡◌, ◌≢◌, ◌⊎◌, inl, inr, refl, sym, ap, ◌∙◌, subst, ℕ, Bool, false, List, Option}
use Rattle.std.specs.Io.KnownBytes.{Keeps}
use Rattle.std.proofs.KnownBytes.{Keeps-refl}
use Rattle.refusals.specs.declared.refusal.Refusal.{Refusal}
use Rattle.refusals.specs.declared.refusal.Refusal.TheVariants.{Invalid, Memory}
use Rattle.refusals.specs.declared.reason.Reason.TheVariants as reason
use Rattle.sqlval.specs.Value.{Row}
use Rattle.lexer.specs.Token.{Bytes}
use Rattle.denote.specs.Database.{Name}
use Rattle.replies.specs.declared.reply.Reply.{Reply}
use Rattle.replies.specs.declared.reply.Reply.TheVariants as says
use Rattle.replies.specs.Writes.{Writes}
use Rattle.session_definitions.specs.Rules.{Rules}
use Rattle.session_definitions.specs.World.{World}
use Rattle.sessions.proofs.Unread.{is_memory}
use Rattle.csvio.specs.Dumping.{AsksAll, Dumps, WritesRows, is_rows, rows_text, written_reply}
use Rattle.csvio.specs.TableName.{IsNameIn}

-- the text of the rows was handed to the writer
pub written : (rows : List Row) (held holds : Option (List ℕ)) (text : List ℕ) (whole made : Bool) (reply : Reply) → Writes held holds made text → text ≡ rows_text rows → made ≡ whole
    → reply ≡ written_reply whole rows → WritesRows rows held holds reply
written rows held holds text whole made reply taken is all says =
    WritesRows.writes whole
    (subst (λ (b : Bool). Writes held holds b (rows_text rows)) all (subst (λ (t : List ℕ). Writes held holds made t) is taken)) says

module _ (rules : Rules) (old : World) (s : ℕ) (table : Bytes) (held : Option (List ℕ)) where
  -- it names no table
  pub undumped : (refusal : Refusal) → (refusal ≢ Memory → (refusal ≡ Invalid reason.Name) × ((name : Name) → IsNameIn table name → ⊥))
      → Dumps rules old s table held held (says.Refused refusal) old
  undumped refusal h = by (is_memory refusal)
    where
      by : (refusal ≡ Memory) ⊎ (refusal ≢ Memory) → Dumps rules old s table held held (says.Refused refusal) old
      by (inl e) = Dumps.unread (ap says.Refused e) refl (Keeps-refl held)
      by (inr ne) = let wrong = h ne in Dumps.no_name wrong.1 (ap says.Refused wrong.0) refl (Keeps-refl held)

  module _ (name : Name) (named : IsNameIn table name) (found : Reply) (new : World) (asks : AsksAll rules old s name found new) where
    -- its query has no rows
    pub rowless : (reply : Reply) → reply ≡ found → is_rows found ≡ false → Dumps rules old s table held held reply new
    rowless reply is none =
        Dumps.no_rows name named (subst (λ (r : Reply). AsksAll rules old s name r new) (sym is) asks) (ap is_rows is ∙ none) (Keeps-refl held)

    -- its rows are written
    pub dumped : (rows slice : List Row) (holds : Option (List ℕ)) (reply : Reply) → found ≡ says.Rows rows → slice ≡ rows → WritesRows slice held holds reply
        → Dumps rules old s table held holds reply new
    dumped rows slice holds reply is same text =
        Dumps.gives name rows named (subst (λ (r : Reply). AsksAll rules old s name r new) is asks) (subst (λ (xs : List Row). WritesRows xs held holds reply) same text)
