-- Reading from left to right: a step takes a spot in a page, and answers what it found and the next spot, or a fault. Assumes nothing.
use Rattle.std.specs.Prelude.{ℕ, ◌+◌, Bool, false, cond, ◌&&◌, ltb, List, length, take, drop, Some, None, Ok, Err, Option, Result, ◌==◌, nat_le, nat_lt, slice_index}
use Rattle.std.specs.Option.{option_map, option_and_then, unwrap_or, ok_or}
use Rattle.std.specs.Ordering.{nat_cmp, as_partial_cmp}
use Rattle.std.specs.Range.Bound.{bounds_contain}
use Rattle.std.specs.Str.{bytes_eq}
use Rattle.std.specs.declared.ops.Bound.{Bound}
use Rattle.limits.specs.Limits.{column_bytes}
use Rattle.faults.specs.declared.Fault.{Fault}
use Rattle.faults.specs.declared.Reason.{Reason}
use Rattle.faults.specs.declared.Reason.TheVariants.{Layout, NumberBeyondLimits, ListNotRising}
use Rattle.faults.specs.Places.{fault_on_page}
use Rattle.columns.specs.declared.words.Word.{Word}
use Rattle.columns.specs.Numbers.{number_of}
use Rattle.columns.specs.Rows.{word_column}

-- what is left of a page, and the line and the column that come next
pub record Spot : Type 0 where
  pub rest : List ℕ
  pub line : ℕ
  pub column : ℕ

-- what a step found, and the spot behind it; or the fault with which it refuses
pub data Outcome (A : Type 0) : Type 0 where
  got : A → Spot → Outcome A
  refused : Fault → Outcome A

abbrev pub Step : Type 0 → Type 0
Step A = Spot → Outcome A

-- goes on with what was found, or stays refused
abbrev pub go_on : {A B : Type 0} → Outcome A → (A → Step B) → Outcome B
go_on (got x p) f = f x p
go_on (refused e) f = refused e

infixr 4 ◌▸◌
-- one step, and then the next with what it found
abbrev pub ◌▸◌ : {A B : Type 0} → Step A → (A → Step B) → Step B
(s ▸ f) p = go_on (s p) f

-- nothing is read, and x is found
abbrev pub done : {A : Type 0} → A → Step A
done x p = got x p

-- the one step where the test is met, and else the other
abbrev pub either : {A : Type 0} → (Spot → Bool) → Step A → Step A → Step A
either test s t p = cond (test p) (s p) (t p)

-- the next column of w bytes, where so many are left
unfoldable pub block : ℕ → Spot → Option (List ℕ)
block w p = cond (nat_le w (length p.rest)) (Some (take w p.rest)) None

-- the spot behind the next column of w bytes
unfoldable pub past : ℕ → Spot → Spot
past w p = record { rest = drop w p.rest; line = p.line; column = p.column + 1 }

-- the spot behind the end of a line
unfoldable pub below : Spot → Spot
below p = record { rest = drop 1 p.rest; line = p.line + 1; column = 1 }

-- a fault at the next column
abbrev pub here : Reason → Spot → Fault
here reason p = fault_on_page reason p.line p.column

-- the number in the next column; no number, or no whole column, is a fault of layout
abbrev pub shown : Spot → Result ℕ Fault
shown p = ok_or (option_and_then number_of (block column_bytes p)) (here Layout p)

-- a number that passes a test, or else this fault
abbrev pub tested : (ℕ → Bool) → Reason → Spot → Result ℕ Fault → Outcome ℕ
tested good otherwise p (Err e) = refused e
tested good otherwise p (Ok v) = cond (good v) (got v (past column_bytes p)) (refused (here otherwise p))

abbrev pub field : (ℕ → Bool) → Reason → Step ℕ
field good otherwise p = tested good otherwise p (shown p)

-- whether a number lies between the ends of a range
abbrev pub lies : Bound ℕ → Bound ℕ → ℕ → Bool
lies start end = bounds_contain (as_partial_cmp nat_cmp) start end

-- a number from low to high
abbrev pub number : ℕ → ℕ → Step ℕ
number low high = field (λ v. nat_le low v && nat_le v high) NumberBeyondLimits

-- a number below an end
abbrev pub number_below : ℕ → Step ℕ
number_below end = field (λ v. ltb v end) NumberBeyondLimits

-- a seat from low on, of the n that there are
abbrev pub seat : ℕ → ℕ → Step ℕ
seat low n = field (λ v. nat_le low v && nat_lt v n) ListNotRising

-- whether the next column holds the word
abbrev pub at_word : Word → Spot → Bool
at_word w p = unwrap_or (option_map (λ bs. bytes_eq bs (word_column w)) (block column_bytes p)) false

-- a word that has to stand here
abbrev pub word : Word → Step (Unit {0})
word w = either (at_word w) (λ p. got tt (past column_bytes p)) (λ p. refused (here Layout p))

-- the end of a line
abbrev pub line_end : Step (Unit {0})
line_end p = cond (slice_index p.rest 0 == 10) (got tt (below p)) (refused (here Layout p))

-- the end of a line whose columns have to fit together; where they do not, this fault at its column 0
abbrev pub closed : Bool → Reason → Step (Unit {0})
closed sound otherwise p = go_on (line_end p) (λ _ q. cond sound (got tt q) (refused (fault_on_page otherwise p.line 0)))

-- the same, by what is wrong with the columns, if anything is
abbrev pub flawed : Option Reason → Step (Unit {0})
flawed None = line_end
flawed (Some reason) = closed false reason

-- the end of a page
abbrev pub page_end : Step (Unit {0})
page_end p = cond (length p.rest == 0) (got tt p) (refused (here Layout p))

-- a page from its first byte
abbrev pub start : List ℕ → Spot
start page = record { rest = page; line = 1; column = 1 }

-- what a call answered, seen by what it says, together with where the cursor then stands
abbrev pub outcome_by : {A B : Type 0} → (A → B) → Result A Fault → Spot → Outcome B
outcome_by view (Ok x) p = got (view x) p
outcome_by view (Err e) p = refused e

-- the same, seen as it is
abbrev pub outcome : {A : Type 0} → Result A Fault → Spot → Outcome A
outcome = outcome_by (λ x. x)
