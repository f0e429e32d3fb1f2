-- The number replaced is within its limit and the ceiling after it is a load.
use Rattle.std.proofs.Common.{◌+◌, ◌≤◌, set, sym, refl, arith}
use Rattle.carry.specs.Carried.{largest}
use Rattle.carry.specs.Added.{largest_set}
use Rattle.carry.proofs.Calls.{carry_allowed}
use Rattle.carry.proofs.Carry.carry.Goals as goal

pub overflow_add-ceiling : goal.overflow_add-ceiling
overflow_add-ceiling g c =
    let most = largest_set c.args.self.now.table.carried c.args.i c.args.c in
    omega (arith, c.args.self.now.low, c.ceiling.ensures, c.largest.ensures)

pub returns : goal.returns
returns g c =
    let b = g.S.BaseSystem in
    let s = c.args.self.now.below in
    let carried = c.args.self.now.table.carried in
    let new = set carried c.args.i c.args.c in
    let low : b.top s + largest new ≤ 999999 = omega (arith, c.ceiling.ensures, c.largest.ensures) in
    record {
      answers = sym (carry_allowed (b.seats s) (b.top s) carried c.args.i c.args.c (omega (arith, c.count.ensures, c.in_ok-seat_given.ensures)) (omega arith) low);
      then = (refl, refl);
    }
