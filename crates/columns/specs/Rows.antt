-- Lines of six-byte columns. Assumes nothing.
use Rattle.std.specs.Prelude.{ℕ, List, [], ◌∷◌, ◌++◌}
use Rattle.std.specs.List.{flat_map}
use Rattle.limits.specs.Limits.{column_bytes}
use Rattle.columns.specs.declared.words.Word.{Word}
use Rattle.columns.specs.Numbers.{number_text}
use Rattle.columns.specs.Words.{word_text}

-- the column of a page that holds a number
unfoldable pub number_column : ℕ → List ℕ
number_column v = number_text column_bytes v

-- the column of a page that holds a word
unfoldable pub word_column : Word → List ℕ
word_column word = word_text column_bytes word

-- numbers, each in its column, and a line feed
abbrev pub row : List ℕ → List ℕ
row numbers = flat_map number_column numbers ++ 10 ∷ []

-- a word, numbers, and a line feed
abbrev pub line : Word → List ℕ → List ℕ
line word numbers = word_column word ++ row numbers
