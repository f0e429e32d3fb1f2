use Rattle.std.proofs.Common.{◌≡◌, max, arith, rules}
use Rattle.std.specs.List.{fold}
use Rattle.carry.proofs.Maximum.{max_largest}
use Rattle.carry.proofs.largest.Goals as goal

pub returns : goal.returns
returns c =
    let folded : c.fold.result ≡ fold max 0 c.args.numbers.now = search rules in
    let largest = max_largest 0 c.args.numbers.now in
    omega arith
