-- Numbers that pass a test. Assumes nothing.
use Rattle.std.proofs.Common.{◌≡◌, ℕ, Bool, cond, Ok, Err, Result, refl, ap}
use Rattle.limits.specs.Limits.{column_bytes}
use Rattle.faults.specs.declared.Fault.{Fault}
use Rattle.faults.specs.declared.Reason.{Reason}
use Rattle.cursors.specs.Steps.{Spot, got, refused, past, here, shown, tested, field}

-- tests that answer the same of each number let the same numbers pass
pub same_test : (f g : ℕ → Bool) → ((v : ℕ) → f v ≡ g v) → (otherwise : Reason) (p : Spot) → field f otherwise p ≡ field g otherwise p
same_test f g same otherwise p = of (shown p)
  where
    of : (r : Result ℕ Fault) → tested f otherwise p r ≡ tested g otherwise p r
    of (Ok v) = ap (λ b. cond b (got v (past column_bytes p)) (refused (here otherwise p))) (same v)
    of (Err e) = refl
