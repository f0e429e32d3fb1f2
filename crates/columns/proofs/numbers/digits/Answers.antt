use Rattle.std.proofs.Common.{arith}
use Rattle.std.proofs.Math.Nat.{pow-le-pow_right}
use Rattle.columns.proofs.numbers.digits.Goals as goal

-- at most 17 digits stand before the next byte
pub digit_after-requires : goal.digit_after-requires
digit_after-requires c = omega (arith, pow-le-pow_right {n = 10} (omega arith) {i = c.loop-byte.byte-index} {j = 18} (omega arith))
