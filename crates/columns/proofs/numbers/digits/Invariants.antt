use Rattle.std.proofs.Common.{◌≡◌, ◌^◌, ◌<◌, drop, None, unwrap_or}
use Rattle.columns.specs.Numbers.{number_after}
use Rattle.columns.proofs.numbers.digits.Given as goal

abbrev pub invariant-loop-byte : goal.invariant-loop-byte
invariant-loop-byte l = (unwrap_or l.value 0 < 10 ^ l.byte-index) × (number_after l.value (drop l.byte-index l.column) ≡ number_after None l.column)
