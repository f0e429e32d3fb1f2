use Rattle.seats.proofs.Listing.{runs_in_order}
use Rattle.seats.proofs.members_of.Goals as goal

pub returns-clause-runs : goal.returns-clause-runs
returns-clause-runs c = runs_in_order
