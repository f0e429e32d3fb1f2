use Rattle.std.proofs.lemmas.Nat.{one_shl}
use Rattle.std.proofs.Common.{arith}
use Rattle.seats.proofs.Members.{inserted}
use Rattle.seats.proofs.with.Goals as goal

pub returns : goal.returns
returns c = record {
  members = λ h j. rw (one_shl c.args.seat 64 h) (inserted c.args.set c.args.seat j);
  beyond = λ h. absurd (omega arith);
}
