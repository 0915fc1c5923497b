-- The printed text of a reply. All of this is our own choice.
use Rattle.std.specs.Prelude.{ℕ, List, [], ◌∷◌, ◌++◌, length, codes, decimal, if◌then◌else◌, ◌==◌}
use Rattle.std.specs.Fmt.{signed_decimal}
use Rattle.sqlval.specs.declared.value.Value.{Value}
use Rattle.sqlval.specs.declared.value.Value.TheVariants.{Null, Int, Text}
use Rattle.refusals.specs.declared.refusal.Refusal.{Refusal}
use Rattle.refusals.specs.Refusal.{printed}
use Rattle.replies.specs.declared.reply.Reply.{Reply}
use Rattle.replies.specs.declared.reply.Reply.TheVariants as says

-- a character of a text, a quote twice
abbrev pub spelled_character : ℕ → List ℕ
spelled_character c = if c == 39 then 39 ∷ 39 ∷ [] else c ∷ []

-- a text with each quote written twice
abbrev pub quotes_doubled : List ℕ → List ℕ
quotes_doubled [] = []
quotes_doubled (c ∷ cs) = spelled_character c ++ quotes_doubled cs

-- a text in single quotes
abbrev pub printed_text : List ℕ → List ℕ
printed_text text = (39 ∷ quotes_doubled text) ++ 39 ∷ []

-- an integer in decimal, a text in single quotes, null as NULL
abbrev pub printed_value : Value → List ℕ
printed_value Null = codes "NULL"
printed_value (Int number) = signed_decimal number
printed_value (Text text) = printed_text text

-- a field that is not the first
abbrev pub other_field : Value → List ℕ
other_field value = 124 ∷ printed_value value

abbrev pub other_fields : List Value → List ℕ
other_fields [] = []
other_fields (value ∷ values) = other_field value ++ other_fields values

-- the fields of a row, with a bar before each but the first
abbrev pub printed_fields : List Value → List ℕ
printed_fields [] = []
printed_fields (value ∷ values) = printed_value value ++ other_fields values

-- a row on a line of its own
abbrev pub printed_row : List Value → List ℕ
printed_row row = printed_fields row ++ 10 ∷ []

-- rows on lines of their own, one after another
abbrev pub printed_rows : List (List Value) → List ℕ
printed_rows [] = []
printed_rows (row ∷ rows) = printed_row row ++ printed_rows rows

-- a line of text
abbrev pub printed_line : List ℕ → List ℕ
printed_line line = line ++ 10 ∷ []

-- lines of text, one after another
abbrev pub printed_lines : List (List ℕ) → List ℕ
printed_lines [] = []
printed_lines (line ∷ lines) = printed_line line ++ printed_lines lines

-- how many there are of what the noun says
abbrev pub printed_count : ℕ → List ℕ → List ℕ
printed_count count noun = codes "(" ++ (decimal count ++ noun)

-- how many rows a change touched
abbrev pub printed_changed : ℕ → List ℕ
printed_changed count = codes "00000 " ++ (decimal count ++ codes "\n")

-- a refusal: its code, and its reason, limit or constraint where it has one
abbrev pub printed_refusal : Refusal → List ℕ
printed_refusal refusal = codes "ERROR " ++ (printed refusal ++ codes "\n")

-- the text of a reply
abbrev pub printed_reply : Reply → List ℕ
printed_reply (says.Rows rows) = printed_rows rows ++ printed_count (length rows) (codes " rows)\n")
printed_reply (says.Row row) = printed_row row
printed_reply says.EndOfRows = codes "02000\n"
printed_reply (says.Changed count) = printed_changed count
printed_reply says.Unchanged = codes "02000 0\n"
printed_reply (says.Lines lines) = printed_lines lines ++ printed_count (length lines) (codes " lines)\n")
printed_reply says.Done = codes "00000\n"
printed_reply (says.Refused refusal) = printed_refusal refusal
