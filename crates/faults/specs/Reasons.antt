-- The number of each reason, as refusals are tabled.
use Rattle.std.specs.Prelude.{ℕ}
use Rattle.faults.specs.declared.Reason.{Reason}
use Rattle.faults.specs.declared.Reason.TheVariants.{NoSuchSeat, SeatsEqual, NoSuchBase, CapForbids, CrossesFavoured, BeyondLimits, BudgetSpent, NoBaseWithinCap, TooManyEntries, CeilingPassed, NotLevel, TooFewRows, Layout, NumberBeyondLimits, ListNotRising, FewerLicensed, EndsEqual, ParentNotLower, NestsHaveNoBase, OutputTooShort}

abbrev pub number_of : Reason → ℕ
number_of NoSuchSeat = 1
number_of SeatsEqual = 2
number_of NoSuchBase = 3
number_of CapForbids = 4
number_of CrossesFavoured = 5
number_of BeyondLimits = 6
number_of BudgetSpent = 7
number_of NoBaseWithinCap = 8
number_of TooManyEntries = 9
number_of CeilingPassed = 10
number_of NotLevel = 11
number_of TooFewRows = 12
number_of Layout = 13
number_of NumberBeyondLimits = 14
number_of ListNotRising = 15
number_of FewerLicensed = 16
number_of EndsEqual = 17
number_of ParentNotLower = 18
number_of NestsHaveNoBase = 19
number_of OutputTooShort = 20
