use Rattle.std.proofs.Common.{◌≡◌, drop}
use Rattle.legs.specs.Refusals.{first_fault}
use Rattle.legs.proofs.making.lawful_legs.Given as goal

abbrev pub invariant-loop-leg : goal.invariant-loop-leg
invariant-loop-leg l = first_fault l.seats (drop l.leg-index l.legs) ≡ first_fault l.seats l.legs
