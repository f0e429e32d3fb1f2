-- A word in a column. Assumes nothing.
use Rattle.std.specs.Prelude.{ℕ, ◌-◌, List, ◌++◌, length, replicate, codes}
use Rattle.columns.specs.declared.words.Word.{Word}
use Rattle.columns.specs.declared.words.Word.TheVariants.{Turns, Legs, Nests, Carry, Cap, Most, Least, Share, End}

-- the letters of a word
abbrev pub name_of : Word → List ℕ
name_of Turns = codes "TURNS"
name_of Legs = codes "LEGS"
name_of Nests = codes "NESTS"
name_of Carry = codes "CARRY"
name_of Cap = codes "CAP"
name_of Most = codes "MOST"
name_of Least = codes "LEAST"
name_of Share = codes "SHARE"
name_of End = codes "END"

-- the column of w bytes that holds a word: its letters, and then spaces
abbrev pub word_text : ℕ → Word → List ℕ
word_text w word = name_of word ++ replicate (w - length (name_of word)) 32
