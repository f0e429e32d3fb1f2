-- Certificates: tables of rows which show that a base is level by whole loads.
-- A row has a load v as its value, and a set of seats that holds all seats with load v or more.
use Rattle.std.specs.Prelude.{◌≡◌, ℕ, ◌+◌, ◌<◌, ◌≤◌, ◌⊎◌, List, length, take, drop, Ok, Err, Result, slice_index, slice_index_or}
use Rattle.faults.specs.declared.Fault.{Fault}
use Rattle.faults.specs.declared.Kind.{Kind}
use Rattle.faults.specs.declared.Reason.TheVariants.{NotLevel, TooFewRows}
use Rattle.faults.specs.Places.{fault_nowhere}
use Rattle.seats.specs.Sets.{In, Exactly}
use Rattle.bases.specs.Exchange.{Reaches}
use Rattle.grades.specs.Grades.{whole}
use Rattle.optima.specs.Steps.{LevelBy}
use Rattle.certificates.specs.declared.row.CertRow.{CertRow}
use Rattle.certificates.specs.Loads.{different_loads}

-- row k; past the last one, a row of zeros
abbrev pub row_at : List CertRow → ℕ → CertRow
row_at rows k = slice_index_or rows k (record { value = 0; set = 0 })

-- the set holds every seat with load v or more, and only seats with load v - 1 or more
pub record Fits (x : List ℕ) (v set : ℕ) : Type 0 where
  pub holds : (j : ℕ) → j < length x → v ≤ slice_index x j → In j set
  pub only : (j : ℕ) → j < length x → In j set → v ≤ slice_index x j + 1

-- no seat of the set can give a unit to a seat outside
abbrev pub Closed : (List ℕ → Type 0) → List ℕ → ℕ → Type 0
Closed B x set = (i j : ℕ) → In i set → Reaches B x i j → In j set

-- a row passes: its value is 1 to 999,999, its set holds seats alone, fits the value and is closed
pub record Passes (B : List ℕ → Type 0) (x : List ℕ) (v set : ℕ) : Type 0 where
  pub low : 1 ≤ v
  pub high : v ≤ 999999
  pub seated : (j : ℕ) → In j set → j < length x
  pub fits : Fits x v set
  pub closed : Closed B x set

-- some row has the value v
abbrev pub HasValue : List CertRow → ℕ → Type 0
HasValue rows v = (k : ℕ) × (k < length rows) × ((row_at rows k).value ≡ v)

-- each positive load has a row
abbrev pub Covered : List ℕ → List CertRow → Type 0
Covered x rows = (i : ℕ) → i < length x → 0 < slice_index x i → HasValue rows (slice_index x i)

-- each row passes
abbrev pub AllPass : (List ℕ → Type 0) → List ℕ → List CertRow → Type 0
AllPass B x rows = (k : ℕ) → k < length rows → Passes B x (row_at rows k).value (row_at rows k).set

-- a table is accepted: each positive load has a row, and each row passes
pub record Accepts (B : List ℕ → Type 0) (x : List ℕ) (rows : List CertRow) : Type 0 where
  pub covers : Covered x rows
  pub passes : AllPass B x rows

-- the set holds exactly the seats with load v or more, and all seats in their reach
abbrev pub RowFor : (List ℕ → Type 0) → List ℕ → ℕ → ℕ → Type 0
RowFor B x v set = (j : ℕ) → Exactly (In j set) (((j < length x) × (v ≤ slice_index x j)) ⊎ ((i : ℕ) × (v ≤ slice_index x i) × Reaches B x i j))

-- The certificate of the loads x: one row for each different positive load, the highest first, each with the set of exactly the seats
-- with that load or more and of all seats in their reach.
pub record Certifies (B : List ℕ → Type 0) (x : List ℕ) (rows : List CertRow) : Type 0 where
  pub falls : (k l : ℕ) → k < l → l < length rows → (row_at rows l).value < (row_at rows k).value
  pub covers : Covered x rows
  pub loads : (k : ℕ) → k < length rows → (0 < (row_at rows k).value) × ((i : ℕ) × (slice_index x i ≡ (row_at rows k).value))
  pub sets : (k : ℕ) → k < length rows → RowFor B x (row_at rows k).value (row_at rows k).set

-- the certificate stands in the first rows of the table, `count` in number, and all rows beyond are as before
pub record Filled (B : List ℕ → Type 0) (x : List ℕ) (before after : List CertRow) (count : ℕ) : Type 0 where
  pub many : count ≡ different_loads x
  pub room : count ≤ length after
  pub made : Certifies B x (take count after)
  pub beyond : drop count after ≡ drop count before

-- What making a certificate answers. The base is level by whole loads, the certificate is made and is accepted. Or nothing is written:
-- the base is not level, or it is, and the table has fewer rows than there are different positive loads.
abbrev pub CertifySays : (List ℕ → Type 0) → List ℕ → Kind → List CertRow → List CertRow → Result ℕ Fault → Type 0
CertifySays B x kind before after (Ok count) = Filled B x before after count × LevelBy B whole x × Accepts B x (take count after)
CertifySays B x kind before after (Err fault) =
    (after ≡ before)
    × (((LevelBy B whole x → ⊥) × (fault ≡ fault_nowhere NotLevel kind))
    ⊎ (LevelBy B whole x × (length before < different_loads x) × (fault ≡ fault_nowhere TooFewRows kind)))
