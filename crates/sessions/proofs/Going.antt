-- What a call of a session may do to its store.
use Rattle.std.proofs.Common.{◌≡◌, ◌⊎◌, Bool, true, false, [], ◌∷◌, refl, subst, inl, inr}
use Rattle.lexer.specs.Token.{Bytes}
use Rattle.ast.specs.declared.statement.Statement.{Statement}
use Rattle.ast.specs.declared.statement.Statement.TheVariants as asks
use Rattle.statement_definitions.specs.Reading.{IsRead}
use Rattle.store.specs.Going.{Going}
use Rattle.store.specs.Stored.{Stored}
use Rattle.transactions.specs.Ended.{ended_by}
use Rattle.sessions.specs.Committing.{CommitsAsWriter, IsCommitOfWriter}

-- COMMIT gives the version of the writer to the store, if it gives any
pub commit_goes : (on : Going → Type 0) (s : Stored) (is_writer : Bool) → (on Going.keeps → on (Going.writes (s.working ∷ [])))
    → on (ended_by is_writer s) → on (Going.writes (s.working ∷ []))
commit_goes on s true wider h = h
commit_goes on s false wider h = wider h

pub commit_of_writer : (on : Going → Type 0) (s : Stored) (is_writer : Bool) (x : Statement) (work : Bool) → x ≡ asks.Commit work
    → (on Going.keeps → on Going.changes) → on (ended_by is_writer s) → on Going.changes ⊎ IsCommitOfWriter x is_writer
commit_of_writer on s true x work is wider h = inr (work, is, refl)
commit_of_writer on s false x work is wider h = inl (wider h)

-- the text of such a statement is such a text
pub commits_as_writer : (A : Type 0) (text : Bytes) (x : Statement) (is_writer : Bool) → IsRead text x
    → A ⊎ IsCommitOfWriter x is_writer → A ⊎ CommitsAsWriter text is_writer
commits_as_writer A text x is_writer read (inl a) = inl a
commits_as_writer A text x is_writer read (inr h) = inr (h.0, subst (IsRead text) h.1 read, h.2)
