-- What a writer took of a text that it was to take.
use Rattle.std.specs.Prelude.{◌≡◌, ◌≢◌, ℕ, Bool, true, List, [], ◌++◌, Option}
use Rattle.std.specs.Io.KnownBytes.{Appends}
use Rattle.std.specs.IoError.{error_kind}
use Rattle.std.specs.declared.io.Error.{Error}
use Rattle.std.specs.declared.io.ErrorKind.TheVariants.{Interrupted}

-- a beginning of the text, and all of it where the call succeeded
pub record Writes (old new : Option (List ℕ)) (is_done : Bool) (text : List ℕ) : Type 0 where
  pub front : List ℕ
  pub rest : List ℕ
  pub whole : text ≡ front ++ rest
  pub taken : Appends old new front
  pub complete : is_done ≡ true → rest ≡ []

-- what a write answers is not that it was interrupted: such a write is tried again
abbrev pub IsNoInterruption : Error → Type 0
IsNoInterruption error = error_kind error ≢ Interrupted
