-- What a call answered, seen by what it says. Assumes nothing.
use Rattle.std.specs.Prelude.{Ok, Err, Result}
use Rattle.faults.specs.declared.Fault.{Fault}
use Rattle.cursors.specs.Steps.{Outcome, got, refused}

-- what a call answered
abbrev pub answer_by : {A B : Type 0} → (A → B) → Result A Fault → Result B Fault
answer_by view (Ok x) = Ok (view x)
answer_by view (Err e) = Err e

-- what a step found, or its fault
abbrev pub answered : {A : Type 0} → Outcome A → Result A Fault
answered (got x p) = Ok x
answered (refused e) = Err e
