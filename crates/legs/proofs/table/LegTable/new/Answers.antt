use Rattle.std.proofs.Common.{refl, arith}
use Rattle.legs.proofs.Reasons.{no_fault}
use Rattle.legs.proofs.table.LegTable.new.Goals as goal

pub invariant_of-result : goal.invariant_of-result
invariant_of-result c =
    let lawful = rw c.deref.ensures.value at (no_fault c.args.seats c.deref.result.now c.in_ok-lawful_legs.ensures) in
    let all = rw c.deref-2.ensures.value at c.all_passages-first.ensures in
    record { few = lawful.0; lawful = lawful.1; within = λ t h. omega (arith, all t h) }

pub returns : goal.returns
returns c =
    (rw c.deref.ensures.value at c.in_ok-lawful_legs.ensures, refl, refl, rw c.deref-2.ensures.value at c.all_passages-first.ensures)
