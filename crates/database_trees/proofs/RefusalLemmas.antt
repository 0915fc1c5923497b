-- Refusals, handed on.
use Rattle.std.proofs.Common.{◌≡◌, ℕ, ◌≤◌, ◌+◌, ◌<◌, List, Result, Ok, Err, arith}
use Rattle.std.specs.Result.{IfErr, IsErrAnd}
use Rattle.std.proofs.lemmas.Result.{err_from_is_err_and}
use Rattle.sqlval.specs.CodedLength.{key_length}
use Rattle.sqlval.specs.Matching.{key_of}
use Rattle.sqlval.specs.Value.{Row}
use Rattle.page_space.specs.Space.{ReadRefused, ChangeRefused}
use Rattle.page_space.specs.declared.error.SpaceError.{SpaceError}
use Rattle.page_space.specs.declared.error.SpaceError.TheVariants as fault
use Rattle.btree.proofs.RefusalLemmas.{change_refused, read_as_change}
use Rattle.catalog.specs.declared.error.ChangeError.{ChangeError}
use Rattle.catalog.specs.declared.error.ChangeError.TheVariants as change
use Rattle.catalog.specs.Changed as schema
use Rattle.index_trees.specs.declared.error.IndexError.{IndexError}
use Rattle.index_trees.specs.declared.error.IndexError.TheVariants as index
use Rattle.index_trees.specs.Indexed as index_trees_changed
use Rattle.tablestore.specs.declared.error.AppendError.{AppendError}
use Rattle.tablestore.specs.declared.error.AppendError.TheVariants as put
use Rattle.tablestore.specs.Appended as rows_put
use Rattle.database_trees.specs.declared.error.DatabaseError.{DatabaseError}
use Rattle.database_trees.specs.declared.error.DatabaseError.TheVariants.{Space, Record, Key, Number, Schema}
use Rattle.database_trees.specs.Causes.{of_index, of_removal, of_append, of_change}
use Rattle.database_trees.specs.Changed.{SpaceRefused, Reaches, IsOfMemory}

-- ---- a refusal of the space, later and with another harm

pub later : (e : DatabaseError) (A : SpaceError → Type 0) (H G : Type 0) (k b m : ℕ) → (H → G) → k ≤ b → SpaceRefused A H b m e → SpaceRefused A G k m e
later (Space f) A H G k b m more rises h = change_refused A H G k b m f rises more h
later Record A H G k b m more rises h = tt
later Key A H G k b m more rises h = tt
later Number A H G k b m more rises h = tt
later Schema A H G k b m more rises h = tt

pub refused_later : {X : Type 0} (result : Result X DatabaseError) (A : SpaceError → Type 0) (H G : Type 0) (k b m : ℕ) → (H → G) → k ≤ b → IfErr result (SpaceRefused A H b m) → IfErr result (SpaceRefused A G k m)
refused_later (Ok x) A H G k b m more rises h = tt
refused_later (Err e) A H G k b m more rises h = later e A H G k b m more rises h

-- at the exit of a `?`
pub exit_later : {X : Type 0} (result : Result X DatabaseError) (e : DatabaseError) (A : SpaceError → Type 0) (H G : Type 0) (k b m : ℕ) → (H → G) → k ≤ b → IsErrAnd result (λ y. y ≡ e) → SpaceRefused A H b m e → IfErr result (SpaceRefused A G k m)
exit_later result e A H G k b m more rises is h = let p = err_from_is_err_and result is in rw (p.1, p.2) (later e A H G k b m more rises h)

pub index_refused : (e : IndexError) (r : DatabaseError) (A : SpaceError → Type 0) (H G : Type 0) (k m : ℕ) (columns : List ℕ) (row : Row) → r ≡ of_index e → (H → G) → index_trees_changed.MayRefuse A H k m columns row e → SpaceRefused A G k m r
index_refused (index.Space f) r A H G k m columns row is more h = rw is (change_refused A H G k k m f (omega arith) more h)
index_refused index.Key r A H G k m columns row is more h = rw is tt

-- a row taken out of an index
pub removal_refused : (e : IndexError) (r : DatabaseError) (A : SpaceError → Type 0) (H G : Type 0) (k m : ℕ) (columns : List ℕ) (row : Row) → r ≡ of_removal e → (H → G) → ((600 < key_length (key_of columns row) + 8) → G)
    → index_trees_changed.MayRefuse A H k m columns row e → SpaceRefused A G k m r
removal_refused (index.Space f) r A H G k m columns row is more long h = rw is (change_refused A H G k k m f (omega arith) more h)
removal_refused index.Key r A H G k m columns row is more long h = rw is (long h)

pub removal_reaches : (e : IndexError) (r : DatabaseError) → r ≡ of_removal e → Reaches ⊥ ⊥ ⊥ r
removal_reaches (index.Space f) r is = rw is tt
removal_reaches index.Key r is = rw is tt

pub change_refused_by : (e : ChangeError) (r : DatabaseError) (A : SpaceError → Type 0) (H G : Type 0) (k b m : ℕ) → r ≡ of_change e → (H → G) → k ≤ b → schema.MayRefuse A H b m e → SpaceRefused A G k m r
change_refused_by (change.Space f) r A H G k b m is more rises h = rw is (change_refused A H G k b m f rises more h)
change_refused_by change.Record r A H G k b m is more rises h = rw is tt
change_refused_by change.Key r A H G k b m is more rises h = rw is tt

-- ---- limits

pub reaches : (e : DatabaseError) (A B C X Y Z : Type 0) → (A → X) → (B → Y) → (C → Z) → Reaches A B C e → Reaches X Y Z e
reaches (Space x) A B C X Y Z f g h r = tt
reaches Record A B C X Y Z f g h r = f r
reaches Key A B C X Y Z f g h r = g r
reaches Number A B C X Y Z f g h r = h r
reaches Schema A B C X Y Z f g h r = tt

pub reaches_so : {W : Type 0} (result : Result W DatabaseError) (A B C X Y Z : Type 0) → (A → X) → (B → Y) → (C → Z) → IfErr result (Reaches A B C) → IfErr result (Reaches X Y Z)
reaches_so (Ok x) A B C X Y Z f g h r = tt
reaches_so (Err e) A B C X Y Z f g h r = reaches e A B C X Y Z f g h r

pub exit_reaches : {W : Type 0} (result : Result W DatabaseError) (e : DatabaseError) (A B C X Y Z : Type 0) → (A → X) → (B → Y) → (C → Z) → IsErrAnd result (λ y. y ≡ e) → Reaches A B C e → IfErr result (Reaches X Y Z)
exit_reaches result e A B C X Y Z f g h is r = let p = err_from_is_err_and result is in rw (p.1, p.2) (reaches e A B C X Y Z f g h r)

pub index_reaches : (e : IndexError) (r : DatabaseError) (A : SpaceError → Type 0) (H L : Type 0) (k m : ℕ) (columns : List ℕ) (row : Row) → r ≡ of_index e → ((600 < key_length (key_of columns row) + 8) → L)
    → index_trees_changed.MayRefuse A H k m columns row e → Reaches ⊥ L ⊥ r
index_reaches (index.Space f) r A H L k m columns row is long h = rw is tt
index_reaches index.Key r A H L k m columns row is long h = rw is (long h)

pub schema_reaches : (e : ChangeError) (r : DatabaseError) (A B C : Type 0) → r ≡ of_change e → Reaches A B C r
schema_reaches (change.Space f) r A B C is = rw is tt
schema_reaches change.Record r A B C is = rw is tt
schema_reaches change.Key r A B C is = rw is tt

-- ---- of the space alone

pub fault_refused : (f : SpaceError) (A : SpaceError → Type 0) (H G : Type 0) (k b m : ℕ) → (H → G) → k ≤ b → ChangeRefused A H b m f → SpaceRefused A G k m (Space f)
fault_refused f A H G k b m more rises h = change_refused A H G k b m f rises more h

pub read_refused : (f : SpaceError) (A : SpaceError → Type 0) (H G : Type 0) (k m : ℕ) → (H → G) → ReadRefused H k m f → SpaceRefused A G k m (Space f)
read_refused f A H G k m more h = read_as_change A H G k m f more h

memory_only : (f : SpaceError) (A : SpaceError → Type 0) (H : Type 0) (k m : ℕ) → f ≡ fault.Memory → ChangeRefused A H k m f
memory_only fault.Memory A H k m e = tt
memory_only fault.Disk A H k m e = absurd (cc)
memory_only fault.Damaged A H k m e = absurd (cc)
memory_only fault.Pages A H k m e = absurd (cc)
memory_only fault.Private A H k m e = absurd (cc)

pub memory_refused : (e : DatabaseError) (A : SpaceError → Type 0) (H : Type 0) (k m : ℕ) → IsOfMemory e → SpaceRefused A H k m e
memory_refused (Space f) A H k m h = memory_only f A H k m h
memory_refused Record A H k m h = tt
memory_refused Key A H k m h = tt
memory_refused Number A H k m h = tt
memory_refused Schema A H k m h = tt

-- want of memory, at the exit of a `?`
pub exit_memory : {X : Type 0} (result : Result X DatabaseError) (A : SpaceError → Type 0) (H : Type 0) (k m : ℕ) → IsErrAnd result (λ y. y ≡ Space fault.Memory) → IfErr result (SpaceRefused A H k m)
exit_memory result A H k m is = let p = err_from_is_err_and result is in rw (p.1, p.2) tt

pub exit_no_limit : {X : Type 0} (result : Result X DatabaseError) (A B C : Type 0) → IsErrAnd result (λ y. y ≡ Space fault.Memory) → IfErr result (Reaches A B C)
exit_no_limit result A B C is = let p = err_from_is_err_and result is in rw (p.1, p.2) tt
