use Rattle.std.proofs.Common.{rules}
use Rattle.grades.proofs.Weighing.{weights_set}
use Rattle.grades.proofs.shares.Shares.weigh.Goals as goal

pub invariant_of-self : goal.invariant_of-self
invariant_of-self c = search (rules, weights_set)
