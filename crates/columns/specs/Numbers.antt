-- A number in a column. Assumes nothing.
use Rattle.std.specs.Prelude.{◌≡◌, ℕ, zero, suc, ◌+◌, ◌-◌, ◌*◌, ◌/◌, ◌%◌, ◌^◌, ◌<◌, ◌≤◌, cond, List, [], ◌∷◌, ◌++◌, length, replicate, Some, None, Option, ◌==◌, nat_le, nat_lt}
use Rattle.std.specs.Char.{is_ascii_digit}
use Rattle.std.specs.Option.{option_and_then}

-- the column of w bytes that holds the number v: its last digit stands last, and before that stand the digits of v / 10, or spaces where v has one digit
abbrev pub number_text : ℕ → ℕ → List ℕ
number_text zero v = []
number_text (suc w) v = cond (nat_lt v 10) (replicate w 32) (number_text w (v / 10)) ++ (48 + v % 10) ∷ []

-- a column of w bytes has room for the number v; columns have 1 to 18 bytes
abbrev pub Fits : ℕ → ℕ → Type 0
Fits w v = (0 < w) × (w ≤ 18) × (v < 10 ^ w)

-- the column holds the number v
abbrev pub Holds : List ℕ → ℕ → Type 0
Holds column v = Fits (length column) v × (column ≡ number_text (length column) v)

-- the number that the column holds, or none where it holds none
abbrev pub NumberSays : List ℕ → Option ℕ → Type 0
NumberSays column (Some v) = Holds column v
NumberSays column None = (v : ℕ) → Holds column v → ⊥

-- What stands before the next byte of a number: only spaces (None), or digits that write n (Some n).
-- With one more byte: the same with that byte, or no number (None).
abbrev pub grown : Option ℕ → ℕ → Option (Option ℕ)
grown None c = cond (c == 32) (Some None) (cond (is_ascii_digit c) (Some (Some (c - 48))) None)
grown (Some n) c = cond (n == 0) None (cond (is_ascii_digit c) (Some (Some (n * 10 + (c - 48)))) None)

-- the number that the bytes say after what stands before them
abbrev pub number_after : Option ℕ → List ℕ → Option ℕ
number_after before [] = before
number_after before (c ∷ cs) = option_and_then (λ after. number_after after cs) (grown before c)

-- the number that a column of at most 18 bytes says, read from left to right
abbrev pub number_of : List ℕ → Option ℕ
number_of column = cond (nat_le (length column) 18) (number_after None column) None
