use Rattle.std.proofs.Common.{ℕ, Bool, ◌<◌}
use Rattle.std.specs.Prelude.{IfSome}
use Rattle.steps.specs.Choices.{Decides, Compares, Orders, Among}
use Rattle.steps.proofs.Walks.{Walk}
use Rattle.steps.proofs.foremost.foremost.Given as goal

-- the best so far is a seat, and the foremost of those walked that may be chosen
abbrev pub invariant-loop-i : goal.invariant-loop-i
invariant-loop-i g l =
    goal.M-IsAlwaysCallable g l.may × goal.B-IsAlwaysCallable g l.better × IfSome l.best (λ b. b < 64)
    × ((test : ℕ → Bool) (before : ℕ → ℕ → Bool) → Decides (goal.M-post g l.may) test → Compares (goal.B-post g l.better) before
    → Orders before (Among l.seats test) → Walk before (Among l.seats test) l.seats l.i-iterator.left l.best)
