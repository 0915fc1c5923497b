-- What a reading counts, and what a fault of a query is told as.
use Rattle.std.proofs.Common.{◌≡◌, ◌≢◌, ℕ, ◌+◌, ◌-◌, ◌^◌, ◌≤◌, arith, true, false, List, [], Contains, Result, Ok, Err, IfOk, sym, subst, ◌∙◌, inl, inr}
use Rattle.std.proofs.lemmas.Bool.{false≢true}
use Rattle.std.specs.Prelude.{min}
use Rattle.refusals.specs.declared.refusal.Refusal.{Refusal}
use Rattle.refusals.specs.declared.refusal.Refusal.TheVariants.{Disk, Memory}
use Rattle.algebra.specs.declared.tree.Tree.{Tree}
use Rattle.denote.specs.declared.fault.Fault.{Fault}
use Rattle.denote.specs.declared.fault.Fault.TheVariants as fault
use Rattle.denote.specs.Meaning.{Tables}
use Rattle.places.specs.declared.place.Place.{Place}
use Rattle.places.specs.Indexes.{HasIndexes}
use Rattle.places.specs.Views.{is_whole}
use Rattle.session_definitions.specs.Refusals.{refusal_of}
use Rattle.store.specs.declared.error.StoreError.{StoreError}
use Rattle.store.specs.declared.error.StoreError.TheVariants as error
use Rattle.store.specs.declared.error.StoreLimit.{StoreLimit}
use Rattle.store.specs.declared.error.StoreLimit.TheVariants as limit
use Rattle.store.specs.Contents.{Contents}
use Rattle.store.specs.Errors.{HasRisen, MayFail}
use Rattle.store.specs.View.{Shown}
use Rattle.streams.specs.Parts.{CanRun, names_in_parts}
use Rattle.transactions.specs.Refused.{TellsNoLimit, refused_by}
use Rattle.tree_tables.specs.TablesRead.{Names}
use Rattle.cursors.specs.Opened.{CanGoOn}

rises_on : (top k m n : ℕ) → k ≤ m → min (m + 1) top ≤ n → min (k + 1) top ≤ n
rises_on top k m n less more = omega (arith, less, more)

-- a count that rose later rose
pub risen_later : (k m n : ℕ) → k ≤ m → HasRisen m n → HasRisen k n
risen_later k m n less h = rises_on (2 ^ 64 - 1) k m n less h

-- a store that refused for its device
pub of_store : (sound : Type 0) (k m : ℕ) (reached : StoreLimit → Type 0) (e : StoreError) → MayFail sound k m reached e → refused_by e ≡ Disk → HasRisen k m
of_store sound k m reached error.Memory h is = absurd (cc)
of_store sound k m reached error.Device h is = h
of_store sound k m reached error.Damaged h is = absurd (cc)
of_store sound k m reached (error.Exceeded limit.Pages) h is = absurd (cc)
of_store sound k m reached (error.Exceeded limit.Private) h is = absurd (cc)
of_store sound k m reached (error.Exceeded limit.Kept) h is = absurd (cc)
of_store sound k m reached (error.Exceeded limit.Record) h is = absurd (cc)
of_store sound k m reached (error.Exceeded limit.Key) h is = absurd (cc)

-- want of memory is not of the device
pub no_disk : {P : Type 0} (refusal : Refusal) → refusal ≡ Memory → refusal ≡ Disk → P
no_disk refusal is other = let bad : Memory ≡ Disk = sym is ∙ other in absurd (cc)

-- a fault of a query is no matter of the device, nor of what a store counts
pub no_device : (raised : Fault) → refusal_of raised ≢ Disk
no_device fault.ManyRows is = cc
no_device fault.TextTooLong is = cc
no_device fault.OutOfRange is = cc
no_device fault.DivisionByZero is = cc
no_device fault.Record is = cc
no_device fault.Key is = cc

pub no_limit : (raised : Fault) → TellsNoLimit (refusal_of raised)
no_limit fault.ManyRows = tt
no_limit fault.TextTooLong = tt
no_limit fault.OutOfRange = tt
no_limit fault.DivisionByZero = tt
no_limit fault.Record = tt
no_limit fault.Key = tt

-- a plan of which no subquery names a table can be run over any tables that are lent
pub can_run : (tables : Tables) (plan : Tree) (shown : Shown) → names_in_parts plan ≡ [] → HasIndexes shown.contents plan → CanRun tables shown plan
can_run tables plan shown alone indexed = record {
  lent = λ name among. absurd (none name (subst (λ (names : Names). Contains names name) alone among));
  indexed = indexed;
}
  where
    none : (name : List ℕ) → Contains [] name → ⊥
    none name h = absurd (omega (arith, h.1))

-- what holds whatever is given
pub all_ok : {A E : Type 0} {P : A → Type 0} (result : Result A E) → ((x : A) → P x) → IfOk result P
all_ok (Ok x) each = each x
all_ok (Err e) each = tt

-- what holds where a plan goes on by itself holds where it can go on and keeps no list
pub goes_by_itself : {A E : Type 0} (Sound : Type 0) (plan : Tree) (place : Place) (contents : Contents) (result : Result A E) (P : A → Type 0) → is_whole place ≡ false
    → (Sound → names_in_parts plan ≡ [] → HasIndexes contents plan → IfOk result P)
    → IfOk result (λ x. Sound → CanGoOn plan place contents → P x)
goes_by_itself Sound plan place contents (Ok x) P goes h = λ sound can. by sound can
  where
    by : Sound → CanGoOn plan place contents → P x
    by sound (inl kept) = absurd (false≢true (sym goes ∙ kept))
    by sound (inr alone) = h sound alone.0 alone.1
goes_by_itself Sound plan place contents (Err e) P goes h = tt
