-- What the words of `sqlsh load` and `sqlsh dump` ask for. All of this is our own choice.
use Rattle.std.specs.Prelude.{◌≡◌, ◌≢◌, ◌≤◌, ◌<◌, ◌^◌, ◌⊎◌, ℕ, Bool, true, false, List, [], ◌∷◌, ◌++◌, codes}
use Rattle.std.specs.Str.Parse.{IsNumeral, digits_value, without_leading_plus}
use Rattle.endings.specs.Words.{is_option}
use Rattle.csvio.specs.declared.form.Form.{Form}
use Rattle.transfers.specs.declared.words.Way.{Way}
use Rattle.transfers.specs.declared.words.Way.TheVariants.{Dump, Load, LoadBatches}

-- a word that is no option names a CSV; behind a table that is loaded `-` does too
abbrev pub IsCsv : Way → List ℕ → Type 0
IsCsv Load word = (is_option word ≡ false) ⊎ (word ≡ codes "-")
IsCsv (LoadBatches most) word = (is_option word ≡ false) ⊎ (word ≡ codes "-")
IsCsv Dump word = is_option word ≡ false

-- CSV, and no more words
abbrev pub NamesCsv : Way → List (List ℕ) → List ℕ → Type 0
NamesCsv way [] csv = ⊥
NamesCsv way (word ∷ []) csv = IsCsv way word × (csv ≡ word)
NamesCsv way (word ∷ next ∷ words) csv = ⊥

-- TABLE, which is no option, and CSV
abbrev pub NamesTable : Way → List (List ℕ) → List ℕ → List ℕ → Type 0
NamesTable way [] table csv = ⊥
NamesTable way (word ∷ words) table csv = (is_option word ≡ false) × (table ≡ word) × NamesCsv way words csv

-- FILE, which is no option, TABLE and CSV
abbrev pub NamesFile : Way → List (List ℕ) → List ℕ → List ℕ → List ℕ → Type 0
NamesFile way [] file table csv = ⊥
NamesFile way (word ∷ words) file table csv = (is_option word ≡ false) × (file ≡ word) × NamesTable way words table csv

-- decimal digits, perhaps behind a plus, from 1 to 4,294,967,295
pub record WritesMost (text : List ℕ) (most : ℕ) : Type 0 where
  pub numeral : IsNumeral 10 (without_leading_plus text)
  pub value : digits_value 10 (without_leading_plus text) ≡ most
  pub enough : 1 ≤ most
  pub bounded : most < 2 ^ 32

-- a text that writes the number of records of a batch, and then FILE, TABLE and CSV
abbrev pub AsksBatches : Way → List ℕ → List (List ℕ) → List ℕ → List ℕ → List ℕ → Type 0
AsksBatches (LoadBatches most) text words file table csv = WritesMost text most
    × NamesFile (LoadBatches most) words file table csv
AsksBatches Load text words file table csv = ⊥
AsksBatches Dump text words file table csv = ⊥

-- `--batch=N`, and then FILE, TABLE and CSV
pub record AsksInOne (way : Way) (word : List ℕ) (words : List (List ℕ)) (file table csv : List ℕ) : Type 0 where
  pub text : List ℕ
  pub whole : word ≡ codes "--batch=" ++ text
  pub batches : AsksBatches way text words file table csv

-- `--batch N`, and then FILE, TABLE and CSV
abbrev pub AsksInTwo : Way → List ℕ → List (List ℕ) → List ℕ → List ℕ → List ℕ → Type 0
AsksInTwo way option [] file table csv = ⊥
AsksInTwo way option (text ∷ words) file table csv = (option ≡ codes "--batch")
    × AsksBatches way text words file table csv

-- what stands behind `load`
abbrev pub AsksLoad : Way → List (List ℕ) → List ℕ → List ℕ → List ℕ → Type 0
AsksLoad way [] file table csv = ⊥
AsksLoad way (word ∷ words) file table csv = ((way ≡ Load) × NamesFile Load (word ∷ words) file table csv)
    ⊎ AsksInOne way word words file table csv ⊎ AsksInTwo way word words file table csv

-- This option stands first, and these words behind it; or it does not, and they are all words.
pub data StandsFirst (option : List ℕ) (words : List (List ℕ)) (is_there : Bool) (rest : List (List ℕ)) : Type 0 where
  first : is_there ≡ true → words ≡ option ∷ rest → StandsFirst option words is_there rest
  absent : is_there ≡ false → rest ≡ words → ((more : List (List ℕ)) → words ≢ option ∷ more)
      → StandsFirst option words is_there rest

-- `--header` and then `--plain`, or one of them, or none, and what stands behind them
pub record AsksForm (words : List (List ℕ)) (form : Form) (rest : List (List ℕ)) : Type 0 where
  pub mid : List (List ℕ)
  pub header : StandsFirst (codes "--header") words form.header mid
  pub plain : StandsFirst (codes "--plain") mid form.plain rest

-- what stands behind `load` and `dump`, and their options of a form
abbrev pub AsksCommand : List ℕ → List (List ℕ) → Way → List ℕ → List ℕ → List ℕ → Type 0
AsksCommand command words way file table csv = ((command ≡ codes "load") × AsksLoad way words file table csv)
    ⊎ ((command ≡ codes "dump") × (way ≡ Dump) × NamesFile Dump words file table csv)

-- The words, of which the first is the program's name, ask for rows of this table from or to this
-- CSV, in this form.
abbrev pub AsksTransfer : List (List ℕ) → Form → Way → List ℕ → List ℕ → List ℕ → Type 0
AsksTransfer [] form way file table csv = ⊥
AsksTransfer (name ∷ []) form way file table csv = ⊥
AsksTransfer (name ∷ command ∷ words) form way file table csv = (rest : List (List ℕ)) × AsksForm words form rest
    × AsksCommand command rest way file table csv
