-- What a session sees in the world that is shown.
use Rattle.std.proofs.Common.{◌≡◌, refl, sym, subst, ◌∙◌, ℕ, true, Option, Some, None}
use Rattle.std.specs.Prelude.{is_some}
use Rattle.sqlval.specs.declared.schema.Schema.{Schema}
use Rattle.denote.specs.Database.{Database}
use Rattle.denote.specs.SchemaOf.{IsSchemaOf}
use Rattle.session_definitions.specs.World.{is_live}
use Rattle.store.specs.Stored.{Stored}
use Rattle.transactions.specs.Orderly.{IsOrderly}
use Rattle.transactions.specs.Shown.{Kept, Slots, slot_at, session_of, shown}
use Rattle.transactions.proofs.SlotLemmas.{stands}
use Rattle.sessions.specs.Seen.{seen_in}
use Rattle.sessions.proofs.Cores.{live_is}
use Rattle.sessions.proofs.QuerySteps.{sees}
use Rattle.csvio.specs.Formed.{Sees}

-- the schema of the database that a session sees
pub seen_so : (schema : Schema) (st : Stored) (writer : Option ℕ) (slots : Slots) (s : ℕ) → IsOrderly st writer → is_live (shown st writer slots) s ≡ true
    → IsSchemaOf schema (seen_in st writer s) → Sees (shown st writer slots) s schema
seen_so schema st writer slots s order live of = at_slot (slot_at slots s) refl (sym (live_is st writer slots s) ∙ live)
  where
    at_slot : (slot : Option Kept) → slot_at slots s ≡ slot → is_some slot ≡ true → Sees (shown st writer slots) s schema
    at_slot None is some = absurd (cc some)
    at_slot (Some kept) is some = record {
      session = session_of st writer s kept;
      stands = stands st writer slots s kept is;
      of_database = subst (λ (db : Database). IsSchemaOf schema db) (sees st writer s kept order) of;
    }
