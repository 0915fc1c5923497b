-- What a listing over lent tables says of the query that its tree is of.
use Rattle.std.proofs.Common.{◌≡◌, sym, ap, subst, ◌∙◌, List, [], Result, Ok, Err, IfOk, inl, inr}
use Rattle.refusals.specs.declared.refusal.Refusal.{Refusal}
use Rattle.sqlval.specs.Value.{Row}
use Rattle.algebra.specs.declared.tree.Tree.{Tree}
use Rattle.algebra.specs.Listing.{tree_listing}
use Rattle.denote.specs.declared.fault.Fault.{Fault}
use Rattle.denote.specs.declared.fault.Fault.TheVariants as raised
use Rattle.denote.specs.Answer.{Answers}
use Rattle.denote.specs.Meaning.{Tables}
use Rattle.denote.specs.Outcome.{OrderedOutcome}
use Rattle.session_definitions.specs.Refusals.{IsReserved, refusal_of}
use Rattle.store.specs.Contents.{Contents}
use Rattle.executor.specs.declared.listed.Listed.{Listed}
use Rattle.executor.specs.Reply.{outcome_of}
use Rattle.query_answers.specs.Refused.{MayRefuse}
use Rattle.transactions.specs.Refused.{TellsNoLimit}
use Rattle.tree_tables.specs.TablesRead.{Agree, tables_in_tree}
use Rattle.query_answers.specs.Answered.{rows_found, RefusesAs}

-- the law, as the call of it says
abbrev pub ListingsRead : Type 0
ListingsRead = (tables others : Tables) (tree : Tree) → Agree tables others (tables_in_tree tree) → tree_listing tables tree ≡ tree_listing others tree

-- rows, and a fault
pub rows_answer : (reply : Result (List Row) Fault) (rows : List Row) (o : OrderedOutcome) → reply ≡ Ok rows → Answers reply o → Answers (Ok rows) o
rows_answer reply rows o is answers = subst (λ (r : Result (List Row) Fault). Answers r o) is answers

pub fault_answers : (reply : Result (List Row) Fault) (refusal : Refusal) (o : OrderedOutcome) → RefusesAs reply refusal → Answers reply o → MayRefuse o.unordered.faults refusal
fault_answers reply refusal o (inl memory) answers = inl (subst IsReserved (sym memory) tt)
fault_answers reply refusal o (inr named) answers = inr (named.0, named.1, subst (λ (r : Result (List Row) Fault). Answers r o) named.2 answers)

-- no fault is a limit of what a store counts
fault_tells : (fault : Fault) → TellsNoLimit (refusal_of fault)
fault_tells raised.ManyRows = tt
fault_tells raised.TextTooLong = tt
fault_tells raised.OutOfRange = tt
fault_tells raised.DivisionByZero = tt
fault_tells raised.Record = tt
fault_tells raised.Key = tt

pub raised_tells : (fault : Fault) (refusal : Refusal) → refusal ≡ refusal_of fault → TellsNoLimit refusal
raised_tells fault refusal is = subst TellsNoLimit (sym is) (fault_tells fault)

-- ---- as clauses of a call

-- over the tables that were lent, and so over those of the reading
pub run_listed : ListingsRead → (c : Contents) (lent : Tables) (tree : Tree) (Sound : Type 0) → (Sound → Agree lent (rows_found c) (tables_in_tree tree)) → (result : Result Listed Refusal)
    → IfOk result (λ listed. outcome_of listed ≡ tree_listing lent tree []) → Sound → IfOk result (λ listed. outcome_of listed ≡ tree_listing (rows_found c) tree [])
run_listed read c lent tree Sound agree (Ok listed) is sound = is ∙ ap (λ (m : _). m []) (read lent (rows_found c) tree (agree sound))
run_listed read c lent tree Sound agree (Err refusal) is sound = tt
