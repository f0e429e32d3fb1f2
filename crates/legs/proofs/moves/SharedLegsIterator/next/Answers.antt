-- Each leg that is left keeps to its passages.
use Rattle.std.proofs.Common.{suc, arith}
use Rattle.legs.proofs.moves.SharedLegsIterator.next.Goals as goal

pub invariant_of-self : goal.invariant_of-self
invariant_of-self c =
    let within = rw (c.in_ok-leg.ensures.cases.0, c.in_ok-first.ensures.cases.0) at c.args.self.now.within in
    record { within = λ t h. within (suc t) (omega arith) }
