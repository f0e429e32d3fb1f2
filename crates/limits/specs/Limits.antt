-- The limits, each given once. The code has the same numbers, as constants.
use Rattle.std.specs.Prelude.{ℕ}

-- the most seats that a system may have
abbrev pub most_seats : ℕ
most_seats = 64

-- the most turns of one table
abbrev pub most_turns : ℕ
most_turns = 512

-- the most legs of one table
abbrev pub most_legs : ℕ
most_legs = 256

-- the most groups of a system of nests
abbrev pub most_groups : ℕ
most_groups = 32

-- the most seats that one turn may need
abbrev pub most_need : ℕ
most_need = 64

-- the most passages of one leg
abbrev pub most_passages : ℕ
most_passages = 1000

-- the largest number that the limits lo and hi of a nest may be
abbrev pub most_in_nest : ℕ
most_in_nest = 100000

-- the largest number that may be carried for a seat
abbrev pub most_carried : ℕ
most_carried = 900000

-- the largest weight of a seat
abbrev pub most_weight : ℕ
most_weight = 100

-- the largest budget of steps
abbrev pub most_steps : ℕ
most_steps = 999999

-- the highest load that a seat may have; no ceiling and no limit of a cap is above it
abbrev pub highest_load : ℕ
highest_load = 999999

-- the most bytes of a page
abbrev pub most_bytes : ℕ
most_bytes = 32768

-- the bytes of one column of a page
abbrev pub column_bytes : ℕ
column_bytes = 6
