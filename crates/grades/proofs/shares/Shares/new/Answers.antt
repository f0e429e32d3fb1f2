use Rattle.std.proofs.Common.{rules}
use Rattle.grades.proofs.Weighing.{weights_same}
use Rattle.grades.proofs.shares.Shares.new.Goals as goal

pub invariant_of-result : goal.invariant_of-result
invariant_of-result c = search (rules, weights_same)
