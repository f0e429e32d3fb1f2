use Rattle.std.proofs.Common.{◌^◌, ◌<◌, arith, rules}
use Rattle.seats.proofs.Members.{in_small}
use Rattle.seats.proofs.has.Goals as goal

pub returns-then-seat-ge64 : goal.returns-then-seat-ge64
returns-then-seat-ge64 c =
    let fits : c.args.set < 2 ^ 64 = search rules in
    λ m. omega (arith, in_small 64 c.args.seat c.args.set fits m)
