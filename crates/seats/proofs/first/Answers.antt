use Rattle.std.proofs.Common.{◌<◌, arith}
use Rattle.std.proofs.lemmas.Nat.{one_shl}
use Rattle.seats.proofs.Members.{below_power}
use Rattle.seats.proofs.first.Goals as goal

pub returns-then-n-ge64 : goal.returns-then-n-ge64
returns-then-n-ge64 c j =
    let all = below_power 64 j in
    (λ m. (omega (arith, all.0 m), all.0 m), λ h. all.1 h.1)

pub returns : goal.returns
returns c j =
    let low = below_power c.args.n j in
    let few : c.args.n < 64 = omega arith in
    rw (one_shl c.args.n 64 few) (λ m. (low.0 m, omega (arith, low.0 m)), λ h. low.1 h.0)
