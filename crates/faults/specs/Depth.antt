-- The depth of a fault that a layer passes up.
use Rattle.std.specs.Prelude.{ℕ, ◌+◌, cond, Ok, Err, Result, nat_lt}
use Rattle.faults.specs.declared.Fault.{Fault}

-- one more, and 999,999 stays
abbrev pub deepened : ℕ → ℕ
deepened depth = cond (nat_lt depth 999999) (depth + 1) depth

-- the same fault, seen from one layer higher
abbrev pub raised : Fault → Fault
raised fault = record { reason = fault.reason; place = fault.place; kind = fault.kind; depth = deepened fault.depth }

-- an answer of the system below, its fault seen from one layer higher
abbrev pub passed_up : {X : Type 0} → Result X Fault → Result X Fault
passed_up (Ok value) = Ok value
passed_up (Err fault) = Err (raised fault)
