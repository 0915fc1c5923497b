-- Why a text gives no rows, by why a reader of records refused.
use Rattle.csv.specs.declared.error.ErrorKind.{ErrorKind}
use Rattle.csv.specs.declared.error.ErrorKind.TheVariants as kind
use Rattle.csv_rows.specs.declared.error.ReadError.{ReadError}
use Rattle.csv_rows.specs.declared.error.ReadError.TheVariants as why

abbrev pub cause_of : ErrorKind → ReadError
cause_of (kind.Io error) = why.Reader
cause_of (kind.UnequalLengths place expected len) = why.Field
cause_of (kind.Utf8 place error) = why.Field
cause_of kind.OutOfMemory = why.Memory
cause_of (kind.Serialize text) = why.Field
cause_of (kind.Deserialize place error) = why.Field
