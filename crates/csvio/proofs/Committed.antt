-- Batches that are put in one after another.
use Rattle.std.proofs.Common.{◌≡◌, ◌≢◌, ◌≤◌, ◌+◌, ◌-◌, ◌^◌, ◌⊎◌, inl, inr, refl, sym, ap, ◌∙◌, subst, ℕ, true, false, List, [], ◌∷◌, ◌++◌, length, append_assoc, append-nil, Option, Some, None, zero, suc, arith}
use Rattle.std.specs.Prelude.{min}
use Rattle.refusals.specs.declared.refusal.Refusal.{Refusal}
use Rattle.refusals.specs.declared.refusal.Refusal.TheVariants.{Disk, Invalid, Memory}
use Rattle.refusals.specs.declared.reason.Reason.TheVariants as reason
use Rattle.sqlval.specs.Value.{Row}
use Rattle.lexer.specs.Token.{Bytes}
use Rattle.denote.specs.Database.{Name}
use Rattle.replies.specs.declared.reply.Reply.{Reply}
use Rattle.replies.specs.declared.reply.Reply.TheVariants as says
use Rattle.replies.specs.Refused.{is_refusal}
use Rattle.session_definitions.specs.Rules.{Rules, AreRules}
use Rattle.session_definitions.specs.Statements.{counted}
use Rattle.session_definitions.specs.World.{World, is_live}
use Rattle.store.specs.Stored.{Stored}
use Rattle.transactions.specs.Refused.{Counts}
use Rattle.sessions.specs.declared.core_of.Core.{Core}
use Rattle.sessions.specs.OfCore.{StandAlike, world_of}
use Rattle.sessions.proofs.Unread.{is_memory}
use Rattle.scripts.specs.Settled.{IsKept}
use Rattle.csv_rows.specs.declared.error.ReadError.{ReadError}
use Rattle.csv_rows.specs.declared.error.ReadError.TheVariants as why
use Rattle.csvio.specs.Batches.{LoadsBatches, PutsAll, PutsBatches, rows_in}
use Rattle.csvio.specs.Loading.{HasNoRows, PutsIn}
use Rattle.csvio.specs.TableName.{IsNameIn}
use Rattle.csvio.proofs.Batched.{rows_in-more, rows_in-within}

-- Some batches are put in since the beginning, and these are left.
pub record HasPut {S L D : Type 0} (is_sound : S → Type 0) (shows : S → Stored) (s : ℕ) (table : Name) (batches : List (List Row)) (start core : Core S L D) (rest : List (List Row)) (committed : ℕ) : Type 0 where
  pub before : List (List Row)
  pub parts : before ++ rest ≡ batches
  pub count : committed ≡ rows_in before
  pub puts : (rules : Rules) → AreRules rules → IsKept is_sound shows rules.check start → is_live (world_of shows start) s ≡ true → PutsAll rules (world_of shows start) s table before (world_of shows core)
  pub kept : (rules : Rules) → AreRules rules → IsKept is_sound shows rules.check start → IsKept is_sound shows rules.check core
  pub live : StandAlike (world_of shows start) (world_of shows core)

module _ {S L D : Type 0} (is_sound : S → Type 0) (shows : S → Stored) (s : ℕ) (table : Name) (batches : List (List Row)) (start : Core S L D) where
  pub put_none : HasPut is_sound shows s table batches start start batches 0
  put_none = record {
    before = [];
    parts = refl;
    count = refl;
    puts = λ rules are kept live. PutsAll.none;
    kept = λ rules are kept. kept;
    live = λ q. refl;
  }

  -- of the batch that comes next
  abbrev pub PutsNext : Core S L D → Core S L D → List Row → Reply → Type 0
  PutsNext core after batch reply = (rules : Rules) → AreRules rules → IsKept is_sound shows rules.check core → is_live (world_of shows core) s ≡ true
      → PutsIn rules (world_of shows core) s table batch reply (world_of shows after)

  module _ (core after : Core S L D) (batch : List Row) (rest : List (List Row)) (committed : ℕ) (reply : Reply) (h : HasPut is_sound shows s table batches start core (batch ∷ rest) committed) where
    -- there is room for its rows in a count of all
    pub put_within : committed + length batch ≤ rows_in batches
    put_within = let e = rows_in-within h.before rest batch in let p = ap rows_in h.parts in let n = h.count in omega (arith, e, p, n)

    pub put_more : PutsNext core after batch reply → ((rules : Rules) → AreRules rules → IsKept is_sound shows rules.check core → IsKept is_sound shows rules.check after)
        → StandAlike (world_of shows core) (world_of shows after) → is_refusal reply ≡ false
        → HasPut is_sound shows s table batches start after rest (committed + length batch)
    put_more puts kept live accepted = record {
      before = h.before ++ batch ∷ [];
      parts = append_assoc h.before (batch ∷ []) rest ∙ h.parts;
      count = let e = rows_in-more h.before batch in let n = h.count in omega (arith, e, n);
      puts = λ rules are first stands.
          PutsAll.more h.before batch (world_of shows core) (world_of shows after) reply (h.puts rules are first stands) (puts rules are (h.kept rules are first) (h.live s ∙ stands)) accepted;
      kept = λ rules are first. kept rules are (h.kept rules are first);
      live = λ q. live q ∙ h.live q;
    }

    pub put_stopped : PutsNext core after batch reply → is_refusal reply ≡ true → (rules : Rules) → AreRules rules → IsKept is_sound shows rules.check start → is_live (world_of shows start) s ≡ true
        → PutsBatches rules (world_of shows start) s table batches reply committed (world_of shows after)
    put_stopped puts refused rules are first stands =
        PutsBatches.stopped h.before rest batch (world_of shows core) (sym h.parts) (h.puts rules are first stands) (puts rules are (h.kept rules are first) (h.live s ∙ stands)) refused h.count

  pub put_all : (core : Core S L D) (committed count : ℕ) (reply : Reply) → HasPut is_sound shows s table batches start core [] committed → reply ≡ counted (Some count) → rows_in batches ≡ count
      → (rules : Rules) → AreRules rules → IsKept is_sound shows rules.check start → is_live (world_of shows start) s ≡ true
      → PutsBatches rules (world_of shows start) s table batches reply committed (world_of shows core)
  put_all core committed count reply h says are_all rules are first stands =
      let whole : h.before ≡ batches = sym (append-nil h.before) ∙ h.parts in
      PutsBatches.all (subst (λ (xs : List (List Row)). PutsAll rules (world_of shows start) s table xs (world_of shows core)) whole (h.puts rules are first stands))
      (h.count ∙ ap rows_in whole) (says ∙ ap (λ (n : ℕ). counted (Some n)) (sym are_all))

-- ---- refused calls

rises_from : (top a b c : ℕ) → a ≤ b → min (b + 1) top ≤ c → min (a + 1) top ≤ c
rises_from top a b c less more = omega (arith, less, more)

pub counts_from : (reply : Reply) (old mid new : ℕ) → old ≤ mid → Counts reply mid new → Counts reply old new
counts_from (says.Refused refusal) old mid new less h = λ e. rises_from (2 ^ 64 - 1) old mid new less (h e)
counts_from _ old mid new less h = tt

pub counts_none : (reply : Reply) (n : Option ℕ) (old new : ℕ) → reply ≡ counted n → Counts reply old new
counts_none reply n old new is = subst (λ (r : Reply). Counts r old new) (sym is) (by n)
  where
    by : (n : Option ℕ) → Counts (counted n) old new
    by None = tt
    by (Some zero) = tt
    by (Some (suc n)) = tt

-- ---- what is not loaded

module _ (rules : Rules) (old : World) (s : ℕ) (table : Bytes) (most : ℕ) (input : Option (List ℕ)) (reply : Reply) (committed : ℕ) (none : committed ≡ 0) where
  -- since it names no table
  pub batches_unnamed : (refusal : Refusal) → reply ≡ says.Refused refusal → (refusal ≢ Memory → (refusal ≡ Invalid reason.Name) × ((name : Name) → IsNameIn table name → ⊥))
      → LoadsBatches rules old s table most input reply committed old
  batches_unnamed refusal is h = by (is_memory refusal)
    where
      by : (refusal ≡ Memory) ⊎ (refusal ≢ Memory) → LoadsBatches rules old s table most input reply committed old
      by (inl e) = LoadsBatches.unread (inl (is ∙ ap says.Refused e)) none refl
      by (inr ne) = let wrong = h ne in LoadsBatches.no_name wrong.1 (is ∙ ap says.Refused wrong.0) none refl

  -- since it gives no rows
  pub batches_without_rows : (error : ReadError) (refusal : Refusal) → reply ≡ says.Refused refusal → (error ≡ why.Memory → refusal ≡ Memory) → (error ≡ why.Reader → refusal ≡ Disk)
      → (error ≡ why.Field → refusal ≡ Invalid reason.Field) → (error ≡ why.Field → HasNoRows input) → LoadsBatches rules old s table most input reply committed old
  batches_without_rows why.Memory refusal is memory reader field without = LoadsBatches.unread (inl (is ∙ ap says.Refused (memory refl))) none refl
  batches_without_rows why.Reader refusal is memory reader field without = LoadsBatches.unread (inr (is ∙ ap says.Refused (reader refl))) none refl
  batches_without_rows why.Field refusal is memory reader field without = LoadsBatches.no_rows (without refl) (is ∙ ap says.Refused (field refl)) none refl
