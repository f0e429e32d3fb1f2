use Rattle.soundings.proofs.ByShares.{leg_by_shares}
use Rattle.soundings.proofs.WithCarried.{leg_with_three_carried}
use Rattle.soundings.proofs.worked_examples.Goals as goal

pub returns : goal.returns
returns c = (leg_by_shares, leg_with_three_carried)
