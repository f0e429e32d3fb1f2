-- Rows: how a bottom divides its work, one row for each turn or leg.
use Rattle.std.specs.Prelude.{◌≡◌, ℕ, ◌<◌, List, length, take, drop, Ok, Err, sum_by, Result, slice_index}
use Rattle.faults.specs.declared.Fault.{Fault}
use Rattle.faults.specs.declared.Kind.{Kind}
use Rattle.faults.specs.declared.Reason.TheVariants.{TooFewRows}
use Rattle.faults.specs.Places.{fault_nowhere}

-- the load of each seat is the sum of what the rows give it
abbrev pub RowsAdd : {R : Type 0} → (R → ℕ → ℕ) → List R → List ℕ → Type 0
RowsAdd share rows x = (i : ℕ) → i < length x → slice_index x i ≡ sum_by (λ row. share row i) rows

-- All rows are written to the front of a lent table, and their number is answered; what lies beyond them stays.
-- A table that is too short is refused, and nothing is written.
abbrev pub WriteSays : {R : Type 0} → List R → Kind → List R → List R → Result ℕ Fault → Type 0
WriteSays rows kind before after (Ok count) = (count ≡ length rows) × (take count after ≡ rows) × (drop count after ≡ drop count before)
WriteSays rows kind before after (Err fault) = (length before < length rows) × (fault ≡ fault_nowhere TooFewRows kind) × (after ≡ before)
